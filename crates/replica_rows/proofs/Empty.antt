-- The state of no operation has no rows.
use Rattle.std.proofs.Common.{◌≡◌, ℕ, Bool, true, false, ◌||◌, if◌then◌else◌, List, [], ◌∷◌, Option, Some, None, Result, Ok, Err, inl, refl, sym, ap, subst, ◌∙◌}
use Rattle.std.specs.Prelude.{◌==◌, IfOk, Vec}
use Rattle.std.specs.declared.alloc.Global.{Global}
use Rattle.mqtt_fields.specs.declared.fault.NoMemory.{NoMemory}
use Rattle.std.specs.Str.{bytes_eq}
use Rattle.std.specs.FinSet as set
use Rattle.std.specs.FinMap as map
use Rattle.causal_context.specs.Dots.{Dot, Dots, dot_cmp, dot_cmp_total, dot_cmp_antisym}
use Rattle.causal_context.specs.MapLattice.{option_join, get-merge}
use Rattle.causal_context.specs.Spelling.{context}
use Rattle.subscription_set.specs.Standing.{seen_of}
use Rattle.subscription_set.proofs.Seen.{contains-seen_of}
use Rattle.subscription_set.specs.Statuses.{Status, Statuses, status_join, statuses_join}
use Rattle.replica_store.specs.declared.kept.Kept.{Kept}
use Rattle.replica_store.specs.Retained.{topic_cmp}
use Rattle.replica_store.specs.States.{State, StateBelow, nothing, state_join}
use Rattle.replica_store.specs.StateLattice.{state_lattice}
use Rattle.replica_store.proofs.Keeping.{empty-join}
use Rattle.row_store.specs.declared.row.Change.{Change}
use Rattle.row_store.specs.declared.row.Row.{Row}
use Rattle.row_store.specs.Rows.{Key, key_cmp, after_all}
use Rattle.replica_bytes.specs.Values.{dot}
use Rattle.replica_rows.specs.Rows.{AreRowsOf, spelled, subscription_of, subscription_at, kept_of, retained_at, context_at, dots_value, row_at}
use Rattle.replica_rows.specs.Changes.{AreChanges, LeadBetween}
use Rattle.replica_rows.specs.Reading.{AreAllRowsOf}

no_seen : seen_of nothing.subscriptions ≡ set.empty
no_seen = set.same_set dot_cmp_total dot_cmp_antisym _ _ (λ q. contains-seen_of nothing.subscriptions q ∙ ap is_there (map.get-empty {X = Status} dot_cmp q) ∙ sym (set.contains-empty dot_cmp q))
  where
    is_there : Option Status → Bool
    is_there None = false
    is_there (Some x) = true

no_value : (dots : Dots) → dots ≡ set.empty → dots_value dots ≡ None
no_value dots none = ap dots_value none ∙ ap (λ n. if n == 0 then None else Some (context.bytes set.empty)) (set.len-empty dot_cmp)

no_subscription : (client : List ℕ) (o : Option Dot) → subscription_at nothing client o ≡ None
no_subscription client None = refl
no_subscription client (Some q) = ap (subscription_of client) (map.get-empty {X = Status} dot_cmp q)

no_topic : (topic place : List ℕ) → retained_at nothing topic place ≡ None
no_topic topic [] = ap (kept_of topic) (map.get-empty {X = Kept} topic_cmp topic)
no_topic topic (b ∷ place) = refl

none_of : (a b : Bool) (x y : Option (List ℕ)) → x ≡ None → y ≡ None → (if a then x else if b then y else None) ≡ None
none_of true b x y p q = p
none_of false true x y p q = q
none_of false false x y p q = refl

no_context : (owner place : List ℕ) → context_at nothing owner place ≡ None
no_context (b ∷ owner) place = refl
no_context [] place = none_of (bytes_eq place (1 ∷ [])) (bytes_eq place (2 ∷ [])) _ _ (no_value set.empty refl) (no_value (seen_of nothing.subscriptions) no_seen)

none_at : (a b c : Bool) (x y z : Option (List ℕ)) → x ≡ None → y ≡ None → z ≡ None → (if a then x else if b then y else if c then z else None) ≡ None
none_at true b c x y z p q r = p
none_at false true c x y z p q r = q
none_at false false true x y z p q r = r
none_at false false false x y z p q r = refl

no_row : (key : Key) → row_at nothing key ≡ None
no_row key = none_at (key.0 == 4) (key.0 == 5) (key.0 == 6) _ _ _ (no_subscription key.1.0 (spelled dot key.1.1)) (no_topic key.1.0 key.1.1) (no_context key.1.0 key.1.1)

pub no_rows : AreRowsOf map.empty nothing
no_rows key = map.get-empty key_cmp key ∙ sym (no_row key)

-- ---- what is joined into the state of no operation

none_union : (dots : Dots) → set.union set.empty dots ≡ dots
none_union dots = set.same_set dot_cmp_total dot_cmp_antisym _ _ (λ q. set.contains-union dot_cmp_total set.empty dots q ∙ ap (λ b. b || set.contains dots q) (set.contains-empty dot_cmp q))

none_join : (m : Statuses) → statuses_join map.empty m ≡ m
unfolding statuses_join
none_join m = map.same_map dot_cmp_total dot_cmp_antisym _ _ (λ q. get-merge dot_cmp_total status_join map.empty m q ∙ ap (λ x. option_join status_join x (map.get m q)) (map.get-empty {X = Status} dot_cmp q))

pub joined_nothing : (s : State) → state_join nothing s ≡ s
joined_nothing s = (let taken = none_union s.taken in let subs = none_join s.subscriptions in let kept = empty-join s.retained in λ i. record { taken = taken i; subscriptions = subs i; retained = kept i })

pub puts_lead : (none s : State) (r : Result (Vec Change Global) NoMemory) → none ≡ nothing → IfOk r (λ out. LeadBetween none (state_join none s) out.items) → IfOk r (λ out. AreRowsOf (after_all map.empty out.items) s)
puts_lead none s (Ok out) is lead = subst (AreRowsOf (after_all map.empty out.items)) (joined_nothing s) (subst (λ u. LeadBetween u (state_join u s) out.items) is lead map.empty no_rows)
puts_lead none s (Err e) is lead = tt

-- ---- what is below the state of no operation, and what brings nothing

pub nothing_listed : (rows : List Row) (s : State) → rows ≡ [] → s ≡ nothing → AreAllRowsOf rows s
nothing_listed rows s none is = subst (λ xs. AreAllRowsOf xs s) (sym none) (subst (AreAllRowsOf []) (sym is) (record { rise = tt; are = no_rows }))

pub below_nothing : (s none : State) → none ≡ nothing → s ≡ nothing → StateBelow s none
below_nothing s none is same = state_lattice.to_order s none (ap (state_join s) (is ∙ sym same) ∙ state_lattice.idempotent s ∙ same ∙ sym is)

pub nothing_below : (s none : State) → none ≡ nothing → StateBelow s none → s ≡ nothing
nothing_below s none is below = sym (joined_nothing s) ∙ ap (λ x. state_join x s) (sym is) ∙ state_lattice.commutative none s ∙ state_lattice.from_order s none below ∙ is

pub nothing_changes : (s d : State) (out : List Change) → out ≡ [] → StateBelow d s → AreChanges s (state_join s d) out
nothing_changes s d out none below =
    let same = state_lattice.commutative s d ∙ state_lattice.from_order d s below in
    subst (AreChanges s (state_join s d)) (sym none) (subst (λ t. AreChanges s t []) (sym same) (record { needed = tt; complete = λ key. inl refl }))
