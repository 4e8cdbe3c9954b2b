use Rattle.std.proofs.Common.{◌≡◌, ◌≤◌, ◌-◌, ◌++◌, length, drop}
use Rattle.bridge_routes.specs.Gathered.{by_client}
use Rattle.bridge_routes.specs.Tables.{referents, referred}
use Rattle.bridge_routes.proofs.gathered.by_client.Given as goal

abbrev pub decreases-loop-place : goal.decreases-loop-place
decreases-loop-place l = length l.entries - l.place

abbrev pub invariant-loop-place : goal.invariant-loop-place
invariant-loop-place l = record {
  within : l.place ≤ length l.entries;
  left : referred l.members.items ++ by_client (referents (drop l.place l.entries)) ≡ by_client (referents l.entries);
}
