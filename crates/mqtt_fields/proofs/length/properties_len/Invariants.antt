use Rattle.std.proofs.Common.{◌≡◌, ◌<◌, ◌^◌, [], take, length}
use Rattle.mqtt_fields.specs.Block.{MayStand, properties_bytes}
use Rattle.mqtt_fields.proofs.length.properties_len.Given as goal

abbrev pub invariant-loop-i : goal.invariant-loop-i
invariant-loop-i l = record { stand : MayStand l.place [] (take l.i l.ps); sum : l.total ≡ length (properties_bytes (take l.i l.ps)); small : l.total < 2 ^ 28 }
