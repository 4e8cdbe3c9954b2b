use Rattle.std.proofs.Common.{◌≡◌, true, ap, subst, sym, ◌∙◌}
use Rattle.std.specs.FinSet as set
use Rattle.subscription_set.specs.Standing.{seen_of}
use Rattle.subscription_set.specs.Statuses.{statuses_join}
use Rattle.replica_store.specs.StateLattice.{state_lattice}
use Rattle.replica_store.specs.States.{State}
use Rattle.replica_store.proofs.Seeing.{joined_seen}
use Rattle.replica_store.proofs.store.ReplicaStoreLattice.join.Goals as goal

pub returns-then-is_below-clause-ok : goal.returns-then-is_below-clause-ok
returns-then-is_below-clause-ok c = sym (state_lattice.commutative c.args.self.now c.args.other.now ∙ state_lattice.from_order c.args.other.now c.args.self.now (c.is_below.ensures.0 c.if-is_below.true))

pub invariant_of-self-in-Ok-join : goal.invariant_of-self-in-Ok-join
invariant_of-self-in-Ok-join c =
    let own : State = record { taken = c.self.inside.taken; subscriptions = c.self.inside.subscriptions; retained = c.self.inside.retained } in
    let others : State = record { taken = c.other.inside.taken; subscriptions = c.other.inside.subscriptions; retained = c.other.inside.retained } in
    let taken : c.commit.result ≡ set.union own.taken others.taken = c.commit.ensures ∙ c.in-Ok.ensures.ok.1 ∙ ap (λ d. set.union d others.taken) c.replace.ensures.value in
    let subscriptions : c.commit-in-Ok-join.result ≡ statuses_join own.subscriptions others.subscriptions =
    c.commit-in-Ok-join.ensures ∙ c.in-Ok-prepare.ensures.ok.1 ∙ ap (λ m. statuses_join m others.subscriptions) c.replace-subscriptions.ensures.value
    in
    λ q there. subst (λ m. set.contains (seen_of m) q ≡ true) (sym subscriptions) (joined_seen own others c.self.invariant c.other.invariant q (subst (λ d. set.contains d q ≡ true) taken there))
