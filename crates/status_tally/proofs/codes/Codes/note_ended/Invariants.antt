use Rattle.std.proofs.Common.{◌≡◌, drop}
use Rattle.status_tally.specs.Codes.{ended_after}
use Rattle.status_tally.proofs.codes.Codes.note_ended.Given as goal

abbrev pub invariant-loop-output : goal.invariant-loop-output
invariant-loop-output l = ended_after (drop l.output-index l.outputs) l.self ≡ ended_after l.outputs l.fn.self
