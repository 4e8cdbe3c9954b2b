-- States are a lattice, part by part.
use Rattle.std.specs.Prelude.{◌≡◌}
use Rattle.std.proofs.Common.{ap}
use Rattle.causal_context.specs.Dots.{dot_cmp_total, dot_cmp_antisym}
use Rattle.causal_context.specs.Lattices.{JoinLaws}
use Rattle.causal_context.specs.SetLattice.{set_lattice}
use Rattle.subscription_set.specs.StatusLattice.{statuses_lattice}
use Rattle.replica_store.specs.RetainedLattice.{retained_lattice}
use Rattle.replica_store.specs.States.{State, state_join, StateBelow}

same : (s t : State) → s.taken ≡ t.taken → s.subscriptions ≡ t.subscriptions → s.retained ≡ t.retained → s ≡ t
same s t a b c = λ i. record { taken = a i; subscriptions = b i; retained = c i }

pub state_lattice : JoinLaws state_join StateBelow
state_lattice =
    let a = set_lattice dot_cmp_total dot_cmp_antisym in
    record {
      idempotent = λ s. same _ _ (a.idempotent s.taken) (statuses_lattice.idempotent s.subscriptions) (retained_lattice.idempotent s.retained);
      commutative = λ s t. same _ _ (a.commutative s.taken t.taken) (statuses_lattice.commutative s.subscriptions t.subscriptions) (retained_lattice.commutative s.retained t.retained);
      associative = λ s t u. same _ _ (a.associative s.taken t.taken u.taken) (statuses_lattice.associative s.subscriptions t.subscriptions u.subscriptions) (retained_lattice.associative s.retained t.retained u.retained);
      to_order = λ s t e. record { taken = a.to_order s.taken t.taken (ap (λ x. x.taken) e); subscriptions = statuses_lattice.to_order s.subscriptions t.subscriptions (ap (λ x. x.subscriptions) e); retained = retained_lattice.to_order s.retained t.retained (ap (λ x. x.retained) e) };
      from_order = λ s t b. same _ _ (a.from_order s.taken t.taken b.taken) (statuses_lattice.from_order s.subscriptions t.subscriptions b.subscriptions) (retained_lattice.from_order s.retained t.retained b.retained);
    }
