use Rattle.std.proofs.Common.{◌≡◌, map, flat_map}
use Rattle.node_server.specs.Outputs.{seen, seen_frame, to_client, to_peer}
use Rattle.node_server.proofs.convert.for_all.Given as goal

abbrev pub invariant-loop-output : goal.invariant-loop-output
invariant-loop-output l =
    (map seen l.given.outputs.items ≡ flat_map to_client l.yielded) × (map seen_frame l.given.frames.items ≡ flat_map to_peer l.yielded)
