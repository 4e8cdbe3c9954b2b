use Rattle.std.proofs.Common.{◌≡◌, length}
use Rattle.broker_turns.specs.Lines.{Framed}
use Rattle.broker_turns.proofs.lines.give.Given as goal

abbrev pub invariant-loop-frame : goal.invariant-loop-frame
invariant-loop-frame g l = Framed l.yielded l.initial.links l.links × (length l.links ≡ length l.initial.links)
