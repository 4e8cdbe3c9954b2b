use Rattle.std.proofs.Common.{◌≡◌, ◌++◌, take, length}
use Rattle.mqtt_packets.proofs.framer.front_of.Given as goal

abbrev pub invariant-loop-place : goal.invariant-loop-place
invariant-loop-place l = record { long : length l.front ≡ 5; same : take l.place l.front ≡ take l.place (l.held ++ l.piece) }
