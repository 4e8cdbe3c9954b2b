use Rattle.door_bounds.specs.Mending.{IsPutMended}
use Rattle.door_bounds.proofs.sending.put_each.Given as goal

abbrev pub invariant-loop-output : goal.invariant-loop-output
invariant-loop-output l = IsPutMended l.connection l.mend l.yielded l.fn.outputs.items l.outputs.items
