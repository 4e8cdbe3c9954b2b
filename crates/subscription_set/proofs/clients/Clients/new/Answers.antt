use Rattle.std.proofs.Common.{sym, subst}
use Rattle.std.specs.List.Sorted.{IsStrictlySortedBy}
use Rattle.subscription_set.specs.Filing.{text_cmp}
use Rattle.subscription_set.proofs.Seating.{none_rises}
use Rattle.subscription_set.proofs.Spreading.{text_total, text_anti}
use Rattle.subscription_set.proofs.clients.Clients.new.Goals as goal

pub invariant_of-result : goal.invariant_of-result
invariant_of-result c = subst (IsStrictlySortedBy text_cmp) (sym c.new.ensures.items) (none_rises text_total text_anti)
