use Rattle.std.proofs.Common.{sym, subst, ◌∙◌}
use Rattle.std.specs.FinMap as map
use Rattle.subscription_set.specs.Standing.{AreSeen, statuses}
use Rattle.subscription_set.proofs.Plans.{none_seen}
use Rattle.subscription_set.proofs.Order.{none_to_see}
use Rattle.subscription_set.proofs.Merges.{no_entries}
use Rattle.subscription_set.proofs.set.SubscriptionSet.empty.Goals as goal

pub invariant_of-result : goal.invariant_of-result
invariant_of-result c = record {
  seen = subst (AreSeen c.new.result) (sym (no_entries c.new-2.result c.new-2.ensures)) (none_to_see c.new.result);
  rises = map.entries_sorted c.new-2.result;
}

pub returns : goal.returns
returns c = (λ i. statuses (c.new.ensures i) (no_entries c.new-2.result c.new-2.ensures i)) ∙ none_seen
