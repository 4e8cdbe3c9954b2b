-- What a state has seen.
use Rattle.std.proofs.Common.{◌≡◌, ◌↔◌, Bool, true, false, ◌||◌, List, [], ◌∷◌, Option, Some, None, is_some, refl, sym, ap, ◌∙◌, inl}
use Rattle.std.specs.FinSet as set
use Rattle.std.specs.FinMap as map
use Rattle.causal_context.specs.Dots.{Dot, dot_cmp, dot_cmp_total}
use Rattle.causal_context.specs.MapLattice.{option_join, get-merge}
use Rattle.subscription_set.specs.Statuses.{Status, status_join, statuses_join}
use Rattle.subscription_set.specs.Standing.{seen_of}
use Rattle.subscription_set.proofs.Seen.{contains-seen_of}
use Rattle.replica_store.specs.declared.operation.Operation.{Operation}
use Rattle.replica_store.specs.Operations.{Sees, HasStatus}
use Rattle.replica_store.specs.States.{State, TakenIsSeen, nothing, state_join}
use Rattle.replica_store.specs.StateOf.{IsStateOf, delta_of}
use Rattle.replica_store.proofs.Deltas.{delta_is}

-- ---- of operations
status_seen : (O : List Operation) (dot : Dot) (x : Option Status) → HasStatus O dot x → (is_some x ≡ true) ↔ Sees O dot
status_seen O dot None h = (λ e. cc, λ s. absurd (h s))
status_seen O dot (Some None) h = (λ e. h.seen, λ s. refl)
status_seen O dot (Some (Some entry)) h = (λ e. inl (_, h.subscribed.1, refl), λ s. refl)

pub seen_is : (O : List Operation) (s : State) → IsStateOf O s → (dot : Dot) → (set.contains (seen_of s.subscriptions) dot ≡ true) ↔ Sees O dot
seen_is O s is dot =
    let status = status_seen O dot (map.get s.subscriptions dot) (is.subscriptions dot) in
    let same = contains-seen_of s.subscriptions dot in
    (λ e. status.0 (sym same ∙ e), λ sees. same ∙ status.1 sees)

pub state_seen : (O : List Operation) (s : State) → IsStateOf O s → TakenIsSeen s
state_seen O s is dot e = (seen_is O s is dot).1 (inl ((is.taken dot).0 e))

pub delta_seen : (o : Operation) → TakenIsSeen (delta_of o)
delta_seen o = state_seen (o ∷ []) (delta_of o) (delta_is o)

-- ---- of states
pub nothing_seen : TakenIsSeen nothing
nothing_seen dot e = (let none = set.contains-empty dot_cmp dot in cc)

some_joined : (x y : Option Status) → (is_some x || is_some y) ≡ is_some (option_join status_join x y)
some_joined None None = refl
some_joined None (Some y) = refl
some_joined (Some x) None = refl
some_joined (Some x) (Some y) = refl

either_seen : (a b c d : Bool) → (a ≡ true → c ≡ true) → (b ≡ true → d ≡ true) → (a || b) ≡ true → (c || d) ≡ true
either_seen true b true d f g e = refl
either_seen true b false d f g e = (let no = f refl in cc)
either_seen false true true d f g e = refl
either_seen false true false d f g e = g refl
either_seen false false c d f g e = cc

pub joined_seen : (s t : State) → TakenIsSeen s → TakenIsSeen t → TakenIsSeen (state_join s t)
unfolding statuses_join
joined_seen s t h k dot e =
    let both = λ (c d : Bool) (x : c ≡ is_some (map.get s.subscriptions dot)) (y : d ≡ is_some (map.get t.subscriptions dot)) (z : (c || d) ≡ true).
    contains-seen_of (statuses_join s.subscriptions t.subscriptions) dot ∙ ap is_some (get-merge dot_cmp_total status_join s.subscriptions t.subscriptions dot)
    ∙ sym (some_joined (map.get s.subscriptions dot) (map.get t.subscriptions dot)) ∙ (λ i. sym x i || sym y i) ∙ z
    in
    both (set.contains (seen_of s.subscriptions) dot) (set.contains (seen_of t.subscriptions) dot) (contains-seen_of s.subscriptions dot) (contains-seen_of t.subscriptions dot)
    (either_seen (set.contains s.taken dot) (set.contains t.taken dot) _ _ (h dot) (k dot) (sym (set.contains-union dot_cmp_total s.taken t.taken dot) ∙ e))
