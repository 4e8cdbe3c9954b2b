use Rattle.std.proofs.Common.{not, sym, ap, subst, ◌∙◌}
use Rattle.std.specs.FinMap as map
use Rattle.subscription_set.specs.Statuses.{StatusesBelow}
use Rattle.subscription_set.specs.Standing.{statuses}
use Rattle.subscription_set.proofs.Order.{below_from, subset_from, same_from}
use Rattle.subscription_set.proofs.Merges.{same_if_none, none_if_same, not_true}
use Rattle.subscription_set.proofs.set.SubscriptionSetLattice.is_below.Goals as goal

pub returns-then-is_below : goal.returns-then-is_below
returns-then-is_below c = (
  λ t. subst (λ s. StatusesBelow s c.args.other.now) c.self.view_is (subst (StatusesBelow (statuses c.self.inside.seen (map.entries c.self.inside.entries))) c.other.view_is
      (below_from c.self.inside.seen c.other.inside.seen (map.entries c.self.inside.entries) (map.entries c.other.inside.entries) c.self.invariant c.other.invariant (c.is_below.ensures.0 c.if-is_below.true)
      (same_if_none c.self.inside.seen c.self.inside.entries c.other.inside.entries (sym c.any_leaving.ensures ∙ not_true c.any_leaving.result t)))),
  λ b. ap not (c.any_leaving.ensures ∙ none_if_same c.self.inside.seen c.self.inside.entries c.other.inside.entries (same_from c.self.inside.seen c.other.inside.seen (map.entries c.self.inside.entries) (map.entries c.other.inside.entries) c.self.invariant c.other.invariant
      (subst (λ s. StatusesBelow s (statuses c.other.inside.seen (map.entries c.other.inside.entries))) (sym c.self.view_is) (subst (StatusesBelow c.args.self.now) (sym c.other.view_is) b)))),
)

pub returns-else-is_below : goal.returns-else-is_below
returns-else-is_below c = (
  λ t. (let no = sym c.if-is_below.false ∙ t in cc),
  λ b. c.is_below.ensures.1 (subset_from c.self.inside.seen c.other.inside.seen (map.entries c.self.inside.entries) (map.entries c.other.inside.entries) c.self.invariant c.other.invariant
      (subst (λ s. StatusesBelow s (statuses c.other.inside.seen (map.entries c.other.inside.entries))) (sym c.self.view_is) (subst (StatusesBelow c.args.self.now) (sym c.other.view_is) b))),
)
