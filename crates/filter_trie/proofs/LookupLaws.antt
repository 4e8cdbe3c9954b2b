-- What is found in a map at the keys of another one.
use Rattle.std.proofs.Common.{◌≡◌, ◌⊎◌, ℕ, cond, List, [], ◌∷◌, Option, Some, None, inl, inr, refl, sym, ap, subst, ◌∙◌, Ordering, Less, Equal, Greater}
use Rattle.std.specs.Prelude.{codes}
use Rattle.std.specs.Ordering.{is_eq, ordering_reverse}
use Rattle.std.specs.Map.{lookup, keys_of}
use Rattle.std.specs.BTreeMap.{is_at}
use Rattle.std.specs.Cmp.Lexicographic.{nat_list_cmp_total}
use Rattle.mqtt_topics.specs.Levels.{levels}
use Rattle.mqtt_topics.specs.Matching.{LevelsMatch, Matches}
use Rattle.filter_trie.specs.declared.beginnings.Beginnings.{Beginnings}
use Rattle.filter_trie.specs.Selected.{IsSelected}
use Rattle.filter_trie.specs.Search.Counting.{hash_on}
use Rattle.filter_trie.specs.Search.Filing.{counted, IsFiled, AreFiled}
use Rattle.filter_trie.specs.Search.Branching.{Holds}
use Rattle.filter_trie.specs.Search.Seeking.{IsBefore}
use Rattle.law_maps.proofs.Texts.{text_cmp}
use Rattle.filter_trie.proofs.Order.{order_is, asymmetric, transitive}
use Rattle.filter_trie.proofs.Selecting.{none_here, none_later}
use Rattle.filter_trie.proofs.Jumping.{After, Rises, At}
use Rattle.filter_trie.proofs.CountLaws.{alike, filed, not_begun}
use Rattle.filter_trie.proofs.BranchLaws.{after_holds}
use Rattle.filter_trie.proofs.ShareLaws.{plain_or_shared}

abbrev pub value_at : {X : Type 0} → List ℕ → List (List ℕ × X) → Option X
value_at k es = lookup (is_at (text_cmp k)) es

abbrev pub with_value : {X : Type 0} → List ℕ → Option X → List (List ℕ × X) → List (List ℕ × X)
with_value k None rest = rest
with_value k (Some v) rest = (k, v) ∷ rest

-- the entries at the keys, in the order of the keys
abbrev pub found_at : {X Y : Type 0} → List (List ℕ × X) → List (List ℕ × Y) → List (List ℕ × X)
found_at es [] = []
found_at es (k ∷ ks) = with_value k.0 (value_at k.0 es) (found_at es ks)

same_is_not_before : (a b : List ℕ) → a ≡ b → IsBefore a b → ⊥
same_is_not_before a b e h = let B : List ℕ → Type 0 = IsBefore a in let s : IsBefore a a = subst B (sym e) h in asymmetric a a s s

module _ {X : Type 0} where
  after_later : (j k : List ℕ) (es : List (List ℕ × X)) → IsBefore j k → After k es → After j es
  after_later j k [] b h = tt
  after_later j k (e ∷ es) b h = (transitive j k e.0 b h.0, after_later j k es b h.1)

  -- nothing is at a key that is before all others
  none_at : (k : List ℕ) (es : List (List ℕ × X)) → After k es → value_at k es ≡ None
  none_at k [] h = refl
  none_at k (e ∷ es) h = ap (λ o. cond (is_eq o) (Some e.1) (value_at k es)) ((order_is k e.0).1 h.0) ∙ none_at k es h.1

  module _ {Y : Type 0} (e : List ℕ × X) (es : List (List ℕ × X)) where
    -- the first entry is found first, if it is at one of the keys
    abbrev Parts : List (List ℕ × Y) → Type 0
    Parts ks = (Holds ks e.0 × (found_at (e ∷ es) ks ≡ e ∷ found_at es ks)) ⊎ ((Holds ks e.0 → ⊥) × (found_at (e ∷ es) ks ≡ found_at es ks))

    -- the same where the first key compares so
    abbrev PartsIf : List ℕ → List (List ℕ × Y) → Ordering → Type 0
    PartsIf k ks o =
        let first : List (List ℕ × X) = with_value k (cond (is_eq o) (Some e.1) (value_at k es)) (found_at (e ∷ es) ks) in
        let later : List (List ℕ × X) = with_value k (value_at k es) (found_at es ks) in
        (((k ≡ e.0) ⊎ Holds ks e.0) × (first ≡ e ∷ later)) ⊎ (((k ≡ e.0) ⊎ Holds ks e.0 → ⊥) × (first ≡ later))

    parts_if : (k : List ℕ) (ks : List (List ℕ × Y)) → After e.0 es → After k ks → (o : Ordering) → text_cmp k e.0 ≡ o → Parts ks → PartsIf k ks o
    parts_if k ks after rise Less p (inl s) =
        let n = none_at k es (after_later k e.0 es ((order_is k e.0).0 p) after) in
        inl (inr s.0, ap (λ o. with_value k o (found_at (e ∷ es) ks)) n ∙ s.1 ∙ ap (λ o. e ∷ with_value k o (found_at es ks)) (sym n))
    parts_if k ks after rise Less p (inr s) =
        let before = (order_is k e.0).0 p in
        let n = none_at k es (after_later k e.0 es before after) in
        inr (
          (λ h. elim h [ inl q ↦ same_is_not_before k e.0 q before | inr q ↦ s.0 q ]),
          ap (λ o. with_value k o (found_at (e ∷ es) ks)) n ∙ s.1 ∙ ap (λ o. with_value k o (found_at es ks)) (sym n),
        )
    parts_if k ks after rise Equal p (inl s) = absurd (let f : Equal ≡ Less = sym p ∙ (order_is k e.0).1 (after_holds k ks e.0 rise s.0) in cc)
    parts_if k ks after rise Equal p (inr s) =
        let same = alike k e.0 p in
        let A : List ℕ → Type 0 = λ t. After t es in
        let n = none_at k es (subst A (sym same) after) in
        inl (inl same, ap (λ t. (t, e.1) ∷ found_at (e ∷ es) ks) same ∙ ap (λ l. e ∷ l) (s.1 ∙ ap (λ o. with_value k o (found_at es ks)) (sym n)))
    parts_if k ks after rise Greater p (inl s) = absurd (asymmetric k e.0 (after_holds k ks e.0 rise s.0) ((order_is e.0 k).0 (nat_list_cmp_total.antisymm e.0 k ∙ ap ordering_reverse p)))
    parts_if k ks after rise Greater p (inr s) =
        let before = (order_is e.0 k).0 (nat_list_cmp_total.antisymm e.0 k ∙ ap ordering_reverse p) in
        inr ((λ h. elim h [ inl q ↦ same_is_not_before e.0 k (sym q) before | inr q ↦ s.0 q ]), ap (with_value k (value_at k es)) s.1)

    parts : (ks : List (List ℕ × Y)) → After e.0 es → Rises ks → Parts ks
    unfolding Rises
    parts [] after rise = inr ((λ h. h), refl)
    parts (k ∷ ks) after rise = parts_if k.0 ks after rise.0 (text_cmp k.0 e.0) refl (parts ks after rise.1)

  nothing_found : {Y : Type 0} (ks : List (List ℕ × Y)) → found_at {X = X} [] ks ≡ []
  nothing_found [] = refl
  nothing_found (k ∷ ks) = nothing_found ks

  module _ (Q : List ℕ → Type 0) where
    -- where the keys of all entries with Q are among the keys, what is selected of those found is what is selected of all
    pub all_found : {Y : Type 0} (ks : List (List ℕ × Y)) (es out : List (List ℕ × X)) → Rises es → Rises ks → ((f : List ℕ) → Holds es f → Q f → Holds ks f)
        → IsSelected (At Q) (found_at es ks) out → IsSelected (At Q) es out
    unfolding Rises
    all_found ks [] out rise keys covers s = let S : List (List ℕ × X) → Type 0 = λ l. IsSelected (At Q) l out in subst S (nothing_found ks) s
    all_found ks (e ∷ es) out rise keys covers s =
        let S : List (List ℕ × X) → Type 0 = λ l. IsSelected (At Q) l out in
        elim (parts e es ks rise.0 keys) [
          | inl there ↦ elim (subst S there.1 s) [
            | inl has ↦ inl (has.0, (has.1.0, has.1.1, all_found ks es has.1.0 rise.1 keys (λ f h q. covers f (inr h) q) has.1.2))
            | inr lacks ↦ inr (lacks.0, all_found ks es out rise.1 keys (λ f h q. covers f (inr h) q) lacks.1)
          ]
          | inr absent ↦ inr ((λ q. absent.0 (covers e.0 (inl refl) q)), all_found ks es out rise.1 keys (λ f h q. covers f (inr h) q) (subst S absent.1 s))
        ]

    -- where nothing is selected at all, nothing that is found is
    pub none_found : (k : List ℕ) (v : X) (es : List (List ℕ × X)) → value_at k es ≡ Some v → IsSelected (At Q) es [] → ¬ (Q k)
    none_found k v [] is s = absurd (let f : None ≡ Some v = is in cc)
    none_found k v (e ∷ es) is s = by (text_cmp k e.0) refl is (λ i. none_found k v es i (none_later (At Q) [] e es s))
      where
        by : (o : Ordering) → text_cmp k e.0 ≡ o → cond (is_eq o) (Some e.1) (value_at k es) ≡ Some v → (value_at k es ≡ Some v → ¬ (Q k)) → ¬ (Q k)
        by Less p i r = r i
        by Equal p i r = λ q. none_here (At Q) [] e es s (subst Q (alike k e.0 p) q)
        by Greater p i r = r i

-- one step over the keys
module _ {X Y : Type 0} (es : List (List ℕ × X)) (s t : List (List ℕ × Y)) (k : List ℕ × Y) (step : s ≡ k ∷ t) where
  pub found_here : (f : List ℕ) (v : X) → Some v ≡ value_at k.0 es → text_cmp k.0 f ≡ Equal → found_at es s ≡ (f, v) ∷ found_at es t
  found_here f v is same = ap (found_at es) step ∙ ap (λ o. with_value k.0 o (found_at es t)) (sym is) ∙ ap (λ u. (u, v) ∷ found_at es t) (alike k.0 f same)

  pub missed_here : None ≡ value_at k.0 es → found_at es s ≡ found_at es t
  missed_here is = ap (found_at es) step ∙ ap (λ o. with_value k.0 o (found_at es t)) (sym is)

-- where no shared filter is counted, each filter that matches is among the ends
pub covered : {X Y : Type 0} (b : Beginnings) (es : List (List ℕ × X)) (ks : List (List ℕ × Y)) (name : List ℕ) (c : ℕ) → c ≡ hash_on 0 (codes "$share/") → counted b c ≡ 0
    → AreFiled b (keys_of es) → ((f : List ℕ) → IsFiled b f → LevelsMatch (levels f) (levels name) → Holds ks f)
    → (f : List ℕ) → Holds es f → Matches f name → Holds ks f
covered b es ks name c is zero all held f here m =
    let there : IsFiled b f = filed (counted b) es all f here in
    elim (plain_or_shared f name m) [
      | inl p ↦ held f there p
      | inr s ↦ absurd (not_begun (counted b) 0 (hash_on 0 (codes "$share")) c [] (codes "$share") f s.0 refl refl is zero there s.1)
    ]
