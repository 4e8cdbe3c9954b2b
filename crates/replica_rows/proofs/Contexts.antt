-- The rows of the dots that were taken, and of those that were seen.
use Rattle.std.proofs.Common.{◌≡◌, ◌≢◌, ◌⊎◌, inl, inr, ℕ, Bool, true, false, ◌||◌, if◌then◌else◌, List, [], ◌∷◌, Option, Some, None, is_some, refl, sym, ap, subst, ◌∙◌, true≢false}
use Rattle.std.specs.Prelude.{◌==◌}
use Rattle.std.specs.Cmp.{unsigned_Decides}
use Rattle.std.specs.FinSet as set
use Rattle.std.specs.FinMap as map
use Rattle.causal_context.specs.Dots.{Dots, dot_cmp, dot_cmp_total, dot_cmp_antisym}
use Rattle.causal_context.specs.MapLattice.{option_join}
use Rattle.causal_context.specs.SetLattice.{IsSubset, set_lattice}
use Rattle.causal_context.specs.Spelling.{context, HasSpelling}
use Rattle.causal_context.proofs.SpellingLaws.{context_is}
use Rattle.subscription_set.specs.Standing.{seen_of}
use Rattle.subscription_set.proofs.Seen.{contains-seen_of}
use Rattle.subscription_set.specs.Statuses.{Status, status_join}
use Rattle.replica_store.specs.States.{State, state_join}
use Rattle.row_store.specs.declared.row.Change.{Change}
use Rattle.row_store.specs.declared.row.Change.TheVariants.{Put}
use Rattle.replica_rows.specs.Rows.{dots_value, row_at}
use Rattle.replica_rows.specs.Changes.{names}
use Rattle.replica_rows.specs.Steps.{Adds, AddsContext}
use Rattle.replica_rows.proofs.Naming.{adds_none}
use Rattle.replica_rows.proofs.Keyed.{one_value}
use Rattle.replica_rows.proofs.Merged.{adds_named, put_needed, status_at, none_some}

some_is : {A : Type 0} (a b : A) → Some a ≡ Some b → a ≡ b
some_is a b e = cc

by_bool : (b : Bool) {P : Type 0} → (b ≡ true → P) → (b ≡ false → P) → P
by_bool true f g = f refl
by_bool false f g = g refl

pub nothing_more : (own other : Dots) → IsSubset other own → set.union own other ≡ own
nothing_more own other below = (let laws = set_lattice dot_cmp_total dot_cmp_antisym in laws.commutative own other ∙ laws.from_order other own below)

pub something_more : (own other : Dots) → (IsSubset other own → ⊥) → set.union own other ≢ own
something_more own other above same = (let laws = set_lattice dot_cmp_total dot_cmp_antisym in above (laws.to_order other own (laws.commutative other own ∙ same)))

in_union : (a b : Bool) → a ≡ true → (a || b) ≡ true
in_union true b e = refl
in_union false b e = absurd (true≢false (sym e))

-- where the union has no dots, neither has one of its parts
none_in : (own other : Dots) → set.union own other ≡ set.empty → set.union own other ≡ own
none_in own other none = set.same_set dot_cmp_total dot_cmp_antisym _ _ (λ q. by_bool (set.contains own q)
    (λ has. absurd (true≢false (sym (in_union (set.contains own q) (set.contains other q) has) ∙ sym (set.contains-union dot_cmp_total own other q) ∙ ap (λ x. set.contains x q) none ∙ set.contains-empty dot_cmp q)))
    (λ lacks. ap (λ x. set.contains x q) none ∙ set.contains-empty dot_cmp q ∙ sym lacks))

pub value_some : (dots : Dots) → (dots ≡ set.empty → ⊥) → dots_value dots ≡ Some (context.bytes dots)
value_some dots some = by_bool (set.len dots == 0)
    (λ none. absurd (some (set.empty_of_len dots ((unsigned_Decides (set.len dots) 0).0 none))))
    (λ more. ap (λ b. if b then None else Some (context.bytes dots)) more)

apart : (own union : Dots) → own ≢ union → HasSpelling own → HasSpelling union → dots_value union ≡ Some (context.bytes union) → dots_value own ≢ dots_value union
unfolding context
apart own union other a b after same = by_bool (set.len own == 0)
    (λ none. none_some (context.bytes union) (sym (ap (λ t. if t then None else Some (context.bytes own)) none) ∙ same ∙ after))
    (λ more. other (one_value context context_is own union a b (some_is _ _ (sym (ap (λ t. if t then None else Some (context.bytes own)) more) ∙ same ∙ after))))

-- what a context adds under its key
pub record Kept (s t : State) (place : ℕ) (old new : List Change) : Type 0 where
  pub adds : Adds s t old new
  pub complete : (row_at s (6, ([], place ∷ [])) ≡ row_at t (6, ([], place ∷ []))) ⊎ (names (6, ([], place ∷ [])) new ≡ true)

module _ (s d : State) (place : ℕ) (own other : Dots) (before : row_at s (6, ([], place ∷ [])) ≡ dots_value own) (after : row_at (state_join s d) (6, ([], place ∷ [])) ≡ dots_value (set.union own other)) where
  pub context_added : (old new : List Change) → AddsContext place own other old new → Kept s (state_join s d) place old new
  context_added old new (inl h) = record { adds = subst (Adds s (state_join s d) old) (sym h.1) (adds_none s (state_join s d) old); complete = inl (before ∙ sym (ap dots_value h.0) ∙ sym after) }
  context_added old new (inr p) =
      let some = value_some (set.union own other) (λ none. p.more (none_in own other none)) in
      let differs = apart own (set.union own other) (λ same. p.more (sym same)) p.spelled p.joined some in
      let needed = put_needed s d p.row (6, ([], place ∷ [])) (context.bytes (set.union own other)) p.is (after ∙ some) (λ same. differs (sym before ∙ same ∙ after)) in
      let one = adds_named s d (Unit {0}) (6, ([], place ∷ [])) (Put p.row) old new p.pushed (ap (λ x. x.0) p.is) needed in
      record { adds = one.adds; complete = inr (one.named tt) }

either : (x y : Option Status) → is_some (option_join status_join x y) ≡ (is_some x || is_some y)
either None y = refl
either (Some x) None = refl
either (Some x) (Some y) = refl

pub seen_both : (s d : State) → seen_of (state_join s d).subscriptions ≡ set.union (seen_of s.subscriptions) (seen_of d.subscriptions)
seen_both s d = set.same_set dot_cmp_total dot_cmp_antisym _ _ (λ q.
    contains-seen_of (state_join s d).subscriptions q ∙ ap is_some (status_at s d q) ∙ either (map.get s.subscriptions q) (map.get d.subscriptions q)
    ∙ (λ i. sym (contains-seen_of s.subscriptions q) i || sym (contains-seen_of d.subscriptions q) i) ∙ sym (set.contains-union dot_cmp_total (seen_of s.subscriptions) (seen_of d.subscriptions) q))
