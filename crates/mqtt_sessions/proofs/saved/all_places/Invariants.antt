use Rattle.std.proofs.Common.{◌≡◌, ◌++◌, take}
use Rattle.std.specs.Map.{keys_of}
use Rattle.mqtt_sessions.specs.Removed.{gone_of}
use Rattle.mqtt_sessions.proofs.saved.all_places.Given as goal

abbrev pub invariant-loop-place : goal.invariant-loop-place
invariant-loop-place l = l.all.items ≡ keys_of l.outgoing.box.copies ++ gone_of l.outgoing.box.copies (take l.place-index l.touched)
