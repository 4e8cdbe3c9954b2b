use Rattle.std.proofs.Common.{◌≡◌, drop}
use Rattle.door_log.specs.Noting.{after}
use Rattle.door_log.proofs.notes.Notes.note.Given as goal

abbrev pub invariant-loop-output : goal.invariant-loop-output
invariant-loop-output l = after l.at (drop l.output-index l.outputs) l.self ≡ after l.at l.outputs l.initial.self
