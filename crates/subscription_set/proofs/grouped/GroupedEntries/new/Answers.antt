use Rattle.subscription_set.proofs.Membership.{seated_new}
use Rattle.subscription_set.proofs.grouped.GroupedEntries.new.Goals as goal

pub invariant_of-result : goal.invariant_of-result
invariant_of-result c = seated_new c.new.result c.new-2.result c.new.ensures c.new-2.ensures
