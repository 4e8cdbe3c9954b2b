use Rattle.std.proofs.Common.{◌≡◌, ◌≤◌, ◌-◌, ◌++◌, length, map, drop}
use Rattle.bridge_routes.specs.Copies.{plain_copy}
use Rattle.bridge_routes.specs.Gathered.{by_client}
use Rattle.bridge_routes.specs.Tables.{referents}
use Rattle.bridge_routes.proofs.plain.copies_in_order.Given as goal

abbrev pub decreases-loop-place : goal.decreases-loop-place
decreases-loop-place l = length l.counted - l.place

abbrev pub invariant-loop-place : goal.invariant-loop-place
invariant-loop-place l = record {
  within : l.place ≤ length l.counted;
  left : l.out.items ++ map (plain_copy l.message) (by_client (referents (drop l.place l.counted))) ≡ map (plain_copy l.message) (by_client (referents l.counted));
}
