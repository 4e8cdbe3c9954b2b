use Rattle.std.proofs.Common.{◌≡◌, ◌≤◌, ◌^◌, ◌++◌, length, map, ap, subst, ◌∙◌, arith}
use Rattle.bridge_lanes.specs.Rows.{each}
use Rattle.bridge_lanes.specs.ChangeSteps.{changes_of, message_changes, numbers_changes}
use Rattle.bridge_lanes.specs.Changes.{AreLaneChanges, left_of, now_of, told_of}
use Rattle.bridge_lanes.proofs.Named.{changes_made}
use Rattle.bridge_deltas.specs.Links.{LinksView}
use Rattle.bridge_deltas.proofs.links.Links.changes.Goals as goal

pub returns-clause-changes : goal.returns-clause-changes
returns-clause-changes c =
    let ks = c.self.inside.lanes.items in
    let out = c.add_numbers_changes.new.out.items in
    let first = c.in_ok-add_message_changes.ensures.ok ∙ ap (λ xs. map left_of xs ++ each message_changes 0 ks) c.new-out.ensures.items in
    let made : map left_of out ≡ changes_of ks = c.in_ok-add_numbers_changes.ensures.ok ∙ ap (λ xs. xs ++ each numbers_changes 0 ks) first in
    let count = c.self.invariant.0.lanes in
    let few : length ks ≤ 2 ^ 16 = omega (arith, count) in
    subst (λ (v : LinksView). AreLaneChanges (told_of v.lanes) (now_of v.lanes) out) c.self.view_is (changes_made ks out few c.are_sound.ensures made)
