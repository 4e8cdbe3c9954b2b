use Rattle.std.proofs.Common.{◌≡◌, replicate}
use Rattle.door_log.specs.Telling.{nothing_noted}
use Rattle.door_log.proofs.losses.nothing.Given as goal

abbrev pub invariant-loop : goal.invariant-loop
invariant-loop l = l.noted.items ≡ replicate l.counter nothing_noted
