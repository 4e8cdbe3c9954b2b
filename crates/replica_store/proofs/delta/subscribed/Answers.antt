use Rattle.std.proofs.Common.{◌≡◌, sym, ap, ◌∙◌, subst, IfSome}
use Rattle.std.specs.FinSet as set
use Rattle.subscription_set.specs.Standing.{statuses}
use Rattle.subscription_set.specs.Merging.{IsSet}
use Rattle.replica_store.specs.StateOf.{uncovered_entry}
use Rattle.replica_store.proofs.Making.{is_set, subscribed_is}
use Rattle.replica_store.proofs.delta.subscribed.Goals as goal

pub unwrap-requires : goal.unwrap-requires
unwrap-requires c =
    let seen = c.in_ok-insert.ensures.ok ∙ ap (λ s. set.insert s c.args.dot) c.in_ok-seen.ensures.same in
    c.in_ok-set.ensures.when.1 (subst (λ es. IsSet c.insert.new.self es) (sym c.in_ok-entries.ensures.entries) (subst (λ s. IsSet s (uncovered_entry c.args.dot c.args.entry.now c.args.cover.now)) (sym seen) (is_set c.args.dot c.args.entry.now c.args.cover.now)))

pub returns : goal.returns
returns c =
    let seen = c.in_ok-insert.ensures.ok ∙ ap (λ s. set.insert s c.args.dot) c.in_ok-seen.ensures.same in
    subst (λ o. IfSome o (λ s. s ≡ statuses c.insert.new.self c.in_ok-entries.entries.items)) c.unwrap.ensures c.in_ok-set.ensures.some
    ∙ (λ i. statuses (seen i) (c.in_ok-entries.ensures.entries i)) ∙ subscribed_is c.args.dot c.args.entry.now c.args.cover.now
