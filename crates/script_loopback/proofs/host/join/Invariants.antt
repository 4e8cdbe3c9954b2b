use Rattle.script_loopback.specs.Hosts.{Waits}
use Rattle.script_loopback.proofs.host.join.Given as goal

abbrev pub invariant-loop : goal.invariant-loop
invariant-loop g l = Waits g.S.Sockets.connects g.S.Sockets.accepts l.host.listener l.counter l.initial.sockets l.sockets
