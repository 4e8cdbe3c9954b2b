use Rattle.std.proofs.Common.{◌≡◌, sym, ◌∙◌, subst}
use Rattle.replica_store.specs.States.{State, StateBelow}
use Rattle.replica_store.proofs.store.ReplicaStoreLattice.is_below.Goals as goal

seen_as : {s t u v : State} → s ≡ u → t ≡ v → StateBelow s t → StateBelow u v
seen_as {s = s} {v = v} a b h = subst (λ x. StateBelow x v) a (subst (StateBelow s) b h)

pub returns-then-is_below-2 : goal.returns-then-is_below-2
returns-then-is_below-2 c = (
  λ t. seen_as c.self.view_is c.other.view_is (record {
    taken = c.is_below.ensures.0 c.if-is_below.true;
    subscriptions = c.is_below-then-is_below.ensures.0 c.if-is_below-2.true;
    retained = c.is_below-then-is_below-2.ensures.0 t;
  }),
  λ b. c.is_below-then-is_below-2.ensures.1 (seen_as (sym c.self.view_is) (sym c.other.view_is) b).retained,
)

pub returns-else-is_below-2 : goal.returns-else-is_below-2
returns-else-is_below-2 c = (
  λ t. (let contrary = sym c.if-is_below-2.false ∙ t in cc),
  λ b. c.is_below-then-is_below.ensures.1 (seen_as (sym c.self.view_is) (sym c.other.view_is) b).subscriptions,
)

pub returns-else-is_below : goal.returns-else-is_below
returns-else-is_below c = (
  λ t. (let contrary = sym c.if-is_below.false ∙ t in cc),
  λ b. c.is_below.ensures.1 (seen_as (sym c.self.view_is) (sym c.other.view_is) b).taken,
)
