use Rattle.std.proofs.Common.{◌≡◌, drop}
use Rattle.status_tally.specs.Codes.{refused_after}
use Rattle.status_tally.proofs.codes.Codes.note_refused.Given as goal

abbrev pub invariant-loop-output : goal.invariant-loop-output
invariant-loop-output l = refused_after (drop l.output-index l.outputs) l.self ≡ refused_after l.outputs l.fn.self
