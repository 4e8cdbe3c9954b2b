use Rattle.std.proofs.Common.{◌≡◌, ◌++◌, take}
use Rattle.mqtt_sessions.specs.Reaction.{pubrels_of}
use Rattle.mqtt_sessions.proofs.sending.release.Given as goal

abbrev pub invariant-loop-id : goal.invariant-loop-id
invariant-loop-id l = l.packets.items ≡ l.fn.packets.items ++ pubrels_of (take l.id-index l.ids)
