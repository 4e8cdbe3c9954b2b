use Rattle.std.proofs.Common.{◌≡◌, length}
use Rattle.mqtt_message.specs.Order.{properties_cmp}
use Rattle.mqtt_message.proofs.order.compare_lists.Given as goal

abbrev pub invariant-loop-rest : goal.invariant-loop-rest
invariant-loop-rest l = properties_cmp l.rest l.others ≡ properties_cmp l.a l.b

abbrev pub decreases-loop-rest : goal.decreases-loop-rest
decreases-loop-rest l = length l.rest
