use Rattle.std.proofs.Common.{◌≡◌, ◌≤◌, ◌*◌, ◌^◌, length, take}
use Rattle.std.specs.Prelude.{flat_map}
use Rattle.bridge_frames.specs.Forwards.{pick}
use Rattle.bridge_routes.proofs.length.picks_length.Given as goal

abbrev pub invariant-loop-pick : goal.invariant-loop-pick
invariant-loop-pick l = (l.total ≡ length (flat_map pick.bytes (take l.pick-index l.picks))) × (l.total ≤ 2 ^ 18 * l.pick-index)
