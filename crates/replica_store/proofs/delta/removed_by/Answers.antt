use Rattle.std.proofs.Common.{◌≡◌, ◌∙◌, subst, IfSome}
use Rattle.subscription_set.specs.Standing.{statuses}
use Rattle.replica_store.proofs.Making.{removed_is}
use Rattle.replica_store.proofs.delta.removed_by.Goals as goal

pub returns : goal.returns
returns c =
    subst (λ o. IfSome o (λ s. s ≡ statuses c.args.seen c.new.result.items)) c.unwrap.ensures c.in_ok-set.ensures.some
    ∙ (λ i. statuses c.args.seen (c.new.ensures.items i)) ∙ removed_is c.args.seen
