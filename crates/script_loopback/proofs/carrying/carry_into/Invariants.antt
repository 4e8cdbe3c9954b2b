use Rattle.std.proofs.Common.{◌≡◌, ◌≤◌, length, take, []}
use Rattle.script_loopback.specs.Carrying.{IsTurns, way}
use Rattle.script_loopback.proofs.carrying.carry_into.Given as goal

abbrev pub invariant-loop : goal.invariant-loop
invariant-loop g l = record {
  turns : IsTurns g.S.Sockets.reads g.S.Sockets.writes (length l.bytes) l.counter
      (way (l.initial.sockets, l.initial.near, l.initial.far) l.bytes [])
      (way (l.sockets, l.near, l.far) l.left (take l.filled l.came));
  whole : length l.came ≡ length l.bytes;
  within : l.filled ≤ length l.bytes;
}
