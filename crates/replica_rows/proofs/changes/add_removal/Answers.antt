use Rattle.std.proofs.Common.{rules, ◌≡◌, sym, ap, ◌∙◌}
use Rattle.std.specs.Option.{option_copied}
use Rattle.std.specs.FinMap as map
use Rattle.row_store.specs.declared.row.Change.TheVariants.{Remove}
use Rattle.subscription_set.specs.Standing.{find_entry, standing, entry_of}
use Rattle.subscription_set.proofs.Standings.{find-standing}
use Rattle.replica_rows.proofs.Gathered.{stands_of}
use Rattle.replica_rows.proofs.Merged.{none_some, removal_none, removal_put}
use Rattle.replica_rows.proofs.changes.add_removal.Goals as goal

pub returns-in_default : goal.returns-in_default
returns-in_default c =
    let found = c.entry.ensures ∙ ap (λ m. find_entry c.args.at (standing m)) c.subscriptions.ensures ∙ find-standing c.args.store.now.subscriptions c.args.at in
    removal_none c.args.store.now c.args.delta.now c.args.at c.args.out.now.items (λ e is. none_some e (sym (ap option_copied c.in_default.is) ∙ found ∙ ap entry_of is))

pub returns : goal.returns
returns c =
    let found = c.entry.ensures ∙ ap (λ m. find_entry c.args.at (standing m)) c.subscriptions.ensures ∙ find-standing c.args.store.now.subscriptions c.args.at in
    let stands = stands_of (map.get c.args.store.now.subscriptions c.args.at) c.in-Some.entry.now (sym (ap option_copied c.in-Some.is) ∙ found) in
    let owner : c.in_ok-owner.owner.items ≡ c.in-Some.entry.now.client = search rules in
    removal_put c.args.store.now c.args.delta.now c.args.at c.in-Some.entry.now (Remove 4 c.in_ok-owner.owner c.in_ok-place.place) c.args.out.now.items c.push.new.self.items c.in_ok-place.ensures.fits stands c.requires
    (λ i. (4, (owner i, c.in_ok-place.ensures.place i))) (λ h. h) c.in_ok-push.ensures.items
