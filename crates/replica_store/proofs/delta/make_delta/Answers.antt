use Rattle.std.proofs.Common.{◌≡◌, sym, ap, subst, ◌∙◌}
use Rattle.std.specs.FinSet as set
use Rattle.causal_context.specs.Dots.{Dots}
use Rattle.subscription_set.specs.Statuses.{Statuses}
use Rattle.replica_store.specs.Retained.{Retained}
use Rattle.replica_store.specs.States.{State, TakenIsSeen}
use Rattle.replica_store.specs.StateOf.{delta_of, removed}
use Rattle.replica_store.proofs.Seeing.{delta_seen}
use Rattle.replica_store.proofs.delta.make_delta.Goals as goal

parts : (a b : Dots) (s t : Statuses) (r q : Retained) → a ≡ b → s ≡ t → r ≡ q → ◌≡◌ {A = State} (record { taken = a; subscriptions = s; retained = r }) (record { taken = b; subscriptions = t; retained = q })
parts a b s t r q x y z = λ i. record { taken = x i; subscriptions = y i; retained = z i }

pub invariant_of-result : goal.invariant_of-result
unfolding delta_of
invariant_of-result c =
    let is = parts _ _ _ _ _ _ c.in_ok-taken-in-Subscribe.ensures c.in_ok-subscriptions-in-Subscribe.ensures c.new-retained.ensures ∙ ap delta_of (sym c.in-Subscribe.is) in
    subst TakenIsSeen (sym is) (delta_seen c.args.operation.now)

pub returns-in_ok-subscriptions-in-Subscribe : goal.returns-in_ok-subscriptions-in-Subscribe
unfolding delta_of
returns-in_ok-subscriptions-in-Subscribe c = parts _ _ _ _ _ _ c.in_ok-taken-in-Subscribe.ensures c.in_ok-subscriptions-in-Subscribe.ensures c.new-retained.ensures ∙ ap delta_of (sym c.in-Subscribe.is)

pub invariant_of-result-in-Remove : goal.invariant_of-result-in-Remove
unfolding delta_of
invariant_of-result-in-Remove c =
    let seen = c.in_ok-insert-in-Remove.ensures.ok ∙ ap (λ s. set.insert s c.in-Remove.dot) c.in_ok-seen-in-Remove.ensures.same in
    let is = parts _ _ _ _ _ _ c.in_ok-taken-in-Remove.ensures (c.in_ok-subscriptions-in-Remove.ensures ∙ ap removed seen) c.new-retained-in-Remove.ensures ∙ ap delta_of (sym c.in-Remove.is) in
    subst TakenIsSeen (sym is) (delta_seen c.args.operation.now)

pub returns-in_ok-subscriptions-in-Remove : goal.returns-in_ok-subscriptions-in-Remove
unfolding delta_of
returns-in_ok-subscriptions-in-Remove c =
    let seen = c.in_ok-insert-in-Remove.ensures.ok ∙ ap (λ s. set.insert s c.in-Remove.dot) c.in_ok-seen-in-Remove.ensures.same in
    parts _ _ _ _ _ _ c.in_ok-taken-in-Remove.ensures (c.in_ok-subscriptions-in-Remove.ensures ∙ ap removed seen) c.new-retained-in-Remove.ensures ∙ ap delta_of (sym c.in-Remove.is)

pub invariant_of-result-in-Put : goal.invariant_of-result-in-Put
unfolding delta_of
invariant_of-result-in-Put c =
    let is = parts _ _ _ _ _ _ c.in_ok-taken-in-Put.ensures (c.in_ok-subscriptions-in-Put.ensures ∙ ap removed c.in_ok-seen-in-Put.ensures) c.in_ok-retained-in-Put.ensures ∙ ap delta_of (sym c.in-Put.is) in
    subst TakenIsSeen (sym is) (delta_seen c.args.operation.now)

pub returns-in_ok-retained-in-Put : goal.returns-in_ok-retained-in-Put
unfolding delta_of
returns-in_ok-retained-in-Put c =
    parts _ _ _ _ _ _ c.in_ok-taken-in-Put.ensures (c.in_ok-subscriptions-in-Put.ensures ∙ ap removed c.in_ok-seen-in-Put.ensures) c.in_ok-retained-in-Put.ensures ∙ ap delta_of (sym c.in-Put.is)
