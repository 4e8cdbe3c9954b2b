use Rattle.std.proofs.Common.{◌≡◌, length}
use Rattle.script_loopback.specs.Hosts.{Listen}
use Rattle.script_loopback.proofs.host.listen_all.Given as goal

abbrev pub invariant-loop : goal.invariant-loop
invariant-loop g l = Listen g.S.Sockets.listens l.hosts.items l.initial.sockets l.sockets × (length l.hosts.items ≡ l.counter)
