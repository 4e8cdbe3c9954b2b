use Rattle.std.proofs.Common.{◌≡◌, map, flat_map}
use Rattle.node_server.specs.Outputs.{seen, to_client}
use Rattle.node_server.proofs.convert.for_clients.Given as goal

abbrev pub invariant-loop-output : goal.invariant-loop-output
invariant-loop-output l = map seen l.handed.items ≡ flat_map to_client l.yielded
