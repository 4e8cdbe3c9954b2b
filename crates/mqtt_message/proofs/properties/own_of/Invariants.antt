use Rattle.std.proofs.Common.{◌≡◌, take}
use Rattle.mqtt_message.specs.OwnProperties.{own}
use Rattle.mqtt_message.proofs.properties.own_of.Given as goal

abbrev pub invariant-loop-p : goal.invariant-loop-p
invariant-loop-p l = l.kept ≡ own (take l.p-index l.p-items)
