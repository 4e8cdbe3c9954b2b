-- A walk over the entries of a map that goes on at the first key from a bound on.
use Rattle.std.proofs.Common.{◌≡◌, ◌⊎◌, ◌&&◌, ◌<◌, ◌≤◌, ℕ, Bool, true, false, cond, not, length, map, suc, List, [], ◌∷◌, ◌++◌, Some, None, inl, inr, refl, sym, ap, subst, ◌∙◌, arith, append_assoc, Ordering, Less, Equal, Greater}
use Rattle.std.proofs.lemmas.List.{append-nil}
use Rattle.std.specs.Ordering.{is_le, ordering_reverse}
use Rattle.std.specs.List.{AllByRecursion}
use Rattle.std.specs.List.Sorted.{IsStrictlySortedBy}
use Rattle.std.specs.Map.{keys_of}
use Rattle.std.specs.declared.ops.Bound.TheVariants.{Included, Unbounded}
use Rattle.std.specs.BTreeMap.Range.{entries_between, range_contains}
use Rattle.std.specs.Cmp.Lexicographic.{nat_list_cmp_total}
use Rattle.filter_trie.specs.Selected.{IsSelected}
use Rattle.filter_trie.specs.Search.Seeking.{IsBefore, IsNext}
use Rattle.law_maps.proofs.Texts.{text_cmp}
use Rattle.filter_trie.proofs.Order.{order_is, transitive}
use Rattle.filter_trie.proofs.Selecting.{Follows, none_here, none_later, begins as begins_list, goes_with, goes_without, silent_here, silent_later, ends}

is_from : List ℕ → List ℕ → Bool
is_from b k = range_contains text_cmp (Included b) Unbounded k

-- a key is before the bound or from it on
sides : (b k : List ℕ) → (IsBefore k b × (is_from b k ≡ false)) ⊎ ((IsBefore k b → ⊥) × (is_from b k ≡ true))
unfolding is_from
sides b k = by (text_cmp b k) (nat_list_cmp_total.antisymm k b)
  where
    by : (o : Ordering) → text_cmp k b ≡ ordering_reverse o → (IsBefore k b × ((is_le o && not false) ≡ false)) ⊎ ((IsBefore k b → ⊥) × ((is_le o && not false) ≡ true))
    by Less e = inr ((λ h. let f : Less ≡ Greater = sym ((order_is k b).1 h) ∙ e in cc), refl)
    by Equal e = inr ((λ h. let f : Less ≡ Equal = sym ((order_is k b).1 h) ∙ e in cc), refl)
    by Greater e = inl ((order_is k b).0 e, refl)

module _ {X : Type 0} where
  -- the entries from the bound on
  abbrev pub from_bound : List ℕ → List (List ℕ × X) → List (List ℕ × X)
  from_bound b es = entries_between text_cmp (Included b) Unbounded es

  drops : (b : List ℕ) (e : List ℕ × X) (es : List (List ℕ × X)) → is_from b e.0 ≡ false → from_bound b (e ∷ es) ≡ from_bound b es
  unfolding is_from
  drops b e es h = ap (λ t. cond t (e ∷ from_bound b es) (from_bound b es)) h

  keeps : (b : List ℕ) (e : List ℕ × X) (es : List (List ℕ × X)) → is_from b e.0 ≡ true → from_bound b (e ∷ es) ≡ e ∷ from_bound b es
  unfolding is_from
  keeps b e es h = ap (λ t. cond t (e ∷ from_bound b es) (from_bound b es)) h

  -- the keys are after k
  abbrev pub After : List ℕ → List (List ℕ × X) → Type 0
  After k es = AllByRecursion (λ y. IsBefore k y) (keys_of es)

  unfoldable pub Rises : List (List ℕ × X) → Type 0
  Rises [] = Unit {0}
  Rises (e ∷ es) = After e.0 es × Rises es

  after_each : (k : List ℕ) (es : List (List ℕ × X)) → AllByRecursion (λ y. text_cmp k y ≡ Less) (keys_of es) → After k es
  after_each k [] h = tt
  after_each k (e ∷ es) h = ((order_is k e.0).0 h.0, after_each k es h.1)

  pub rises : (es : List (List ℕ × X)) → IsStrictlySortedBy text_cmp (keys_of es) → Rises es
  unfolding Rises IsStrictlySortedBy
  rises [] h = tt
  rises (e ∷ es) h = (after_each e.0 es h.0, rises es h.1)

  after_in : (k : List ℕ) (front : List (List ℕ × X)) (e : List ℕ × X) (es : List (List ℕ × X)) → After k (front ++ e ∷ es) → IsBefore k e.0
  after_in k [] e es h = h.0
  after_in k (x ∷ front) e es h = after_in k front e es h.1

  rest_after : (front : List (List ℕ × X)) (e : List ℕ × X) (es : List (List ℕ × X)) → Rises (front ++ e ∷ es) → After e.0 es
  unfolding Rises
  rest_after [] e es h = h.0
  rest_after (x ∷ front) e es h = rest_after front e es h.1

  -- nothing up to a key before the bound is from the bound on
  from_rest : (b : List ℕ) (front : List (List ℕ × X)) (e : List ℕ × X) (es : List (List ℕ × X)) → Rises (front ++ e ∷ es) → IsBefore e.0 b → from_bound b (front ++ e ∷ es) ≡ from_bound b es
  unfolding Rises
  from_rest b [] e es h low = elim (sides b e.0) [ inl s ↦ drops b e es s.1 | inr s ↦ absurd (s.0 low) ]
  from_rest b (x ∷ front) e es h low =
      elim (sides b x.0) [
        | inl s ↦ drops b x (front ++ e ∷ es) s.1 ∙ from_rest b front e es h.1 low
        | inr s ↦ absurd (s.0 (transitive x.0 e.0 b (after_in x.0 front e es h.0) low))
      ]

  all_from : (b k : List ℕ) (es : List (List ℕ × X)) → After k es → (IsBefore k b → ⊥) → from_bound b es ≡ es
  all_from b k [] h high = refl
  all_from b k (e ∷ es) h high = elim (sides b e.0) [
    | inl s ↦ absurd (high (transitive k e.0 b h.0 s.0))
    | inr s ↦ keeps b e es s.1 ∙ ap (λ r. e ∷ r) (all_from b k es h.1 high)
  ]

  -- those from the bound on end the list
  from_is_end : (b : List ℕ) (es : List (List ℕ × X)) → Rises es → (front : List (List ℕ × X)) × (es ≡ front ++ from_bound b es)
  unfolding Rises
  from_is_end b [] h = ([], refl)
  from_is_end b (e ∷ es) h = elim (sides b e.0) [
    | inl s ↦ let r = from_is_end b es h.1 in (e ∷ r.0, ap (λ l. e ∷ l) r.1 ∙ ap (λ l. e ∷ (r.0 ++ l)) (sym (drops b e es s.1)))
    | inr s ↦ ([], ap (λ l. e ∷ l) (sym (all_from b e.0 es h.0 s.0)) ∙ sym (keeps b e es s.1))
  ]

  from_shorter : (b : List ℕ) (es : List (List ℕ × X)) → length (from_bound b es) ≤ length es
  from_shorter b [] = omega arith
  from_shorter b (e ∷ es) = elim (sides b e.0) [
    | inl s ↦ let f = ap length (drops b e es s.1) in let r = from_shorter b es in omega arith
    | inr s ↦ let f = ap length (keeps b e es s.1) in let r = from_shorter b es in omega arith
  ]

  module _ (Q : List ℕ → Type 0) where
    abbrev pub At : List ℕ × X → Type 0
    At e = Q e.0

    -- what is selected from the bound on is selected past the key
    skips : (b k : List ℕ) (es rest : List (List ℕ × X)) → After k es → ((q : List ℕ) → Q q → IsBefore k q → IsBefore q b → ⊥)
        → IsSelected At (from_bound b es) rest → IsSelected At es rest
    skips b k [] rest h none s = s
    skips b k (e ∷ es) rest h none s = elim (sides b e.0) [
      | inl low ↦
          let S : List (List ℕ × X) → Type 0 = λ l. IsSelected At l rest in
          inr ((λ q. none e.0 q h.0 low.0), skips b k es rest h.1 none (subst S (drops b e es low.1) s))
      | inr high ↦
          let S : List (List ℕ × X) → Type 0 = λ l. IsSelected At l rest in
          elim (subst S (keeps b e es high.1) s) [
            | inl has ↦ inl (has.0, (has.1.0, has.1.1, skips b k es has.1.0 h.1 none has.1.2))
            | inr lacks ↦ inr (lacks.0, skips b k es rest h.1 none lacks.1)
          ]
    ]

    none_from : (b : List ℕ) (es : List (List ℕ × X)) → IsSelected At es [] → IsSelected At (from_bound b es) []
    none_from b [] h = h
    none_from b (e ∷ es) h =
        let S : List (List ℕ × X) → Type 0 = λ l. IsSelected At l [] in
        let r : IsSelected At (from_bound b es) [] = none_from b es (none_later At [] e es h) in
        elim (sides b e.0) [ inl s ↦ subst S (sym (drops b e es s.1)) r | inr s ↦ subst S (sym (keeps b e es s.1)) (inr (none_here At [] e es h, r)) ]

    none_after : (k : List ℕ) (es : List (List ℕ × X)) → After k es → ((q : List ℕ) → Q q → IsBefore k q → ⊥) → IsSelected At es []
    none_after k [] h none = refl
    none_after k (e ∷ es) h none = inr ((λ q. none e.0 q h.0), none_after k es h.1 none)

-- how far a walk over all entries has come: what is selected of those that are left follows what was taken
pub record Walked {X : Type 0} (P : List ℕ × X → Type 0) (all left done : List (List ℕ × X)) : Type 0 where
  pub front : List (List ℕ × X)
  pub parts : all ≡ front ++ left
  pub so : Follows P all done left
  pub silent : IsSelected P all [] → IsSelected P left []

module _ {X : Type 0} (Q : List ℕ → Type 0) (all : List (List ℕ × X)) where
  pub walked_none : (left done : List (List ℕ × X)) → left ≡ all → done ≡ [] → Walked (At Q) all left done
  walked_none left done same none = record {
    front = [];
    parts = sym same;
    so = begins_list (At Q) all left done (sym same) none;
    silent = λ h. let S : List (List ℕ × X) → Type 0 = λ l. IsSelected (At Q) l [] in subst S (sym same) h;
  }

  module _ (s t done : List (List ℕ × X)) (e : List ℕ × X) (step : s ≡ e ∷ t) (w : Walked (At Q) all s done) where
    further : all ≡ (w.front ++ e ∷ []) ++ t
    further = w.parts ∙ ap (λ l. w.front ++ l) step ∙ sym (append_assoc w.front (e ∷ []) t)

    silent_on : IsSelected (At Q) all [] → IsSelected (At Q) t []
    silent_on h = silent_later (At Q) s t e step (w.silent h)

    pub walked_with : {B : Type 0} (f : B → List ℕ × X) (r : B) (out new : List B) → done ≡ map f out → f r ≡ e → new ≡ out ++ r ∷ [] → Q e.0 → Walked (At Q) all t (map f new)
    walked_with f r out new was shown added has =
        let F : List (List ℕ × X) → Type 0 = λ d. Follows (At Q) all d s in
        record {
          front = w.front ++ e ∷ [];
          parts = further;
          so = goes_with (At Q) f all s t e r out new step shown added has (subst F was w.so);
          silent = silent_on;
        }

    pub walked_without : ¬ (Q e.0) → Walked (At Q) all t done
    walked_without lacks = record {
      front = w.front ++ e ∷ [];
      parts = further;
      so = goes_without (At Q) all s t done e step lacks w.so;
      silent = silent_on;
    }

    module _ (sorted : IsStrictlySortedBy text_cmp (keys_of all)) (lacks : ¬ (Q e.0)) where
      whole : all ≡ w.front ++ e ∷ t
      whole = w.parts ∙ ap (λ l. w.front ++ l) step

      rising_on : Rises (w.front ++ e ∷ t)
      rising_on = let R : List (List ℕ × X) → Type 0 = Rises in subst R whole (rises all sorted)

      -- to the bound
      pub walked_to : (b : List ℕ) (left : List (List ℕ × X)) → left ≡ from_bound b all → IsNext Q e.0 (Some b) → Walked (At Q) all left done
      walked_to b left is next =
          let same : left ≡ from_bound b t = is ∙ ap (from_bound b) whole ∙ from_rest b w.front e t rising_on next.0 in
          let end = from_is_end b all (rises all sorted) in
          record {
            front = end.0;
            parts = end.1 ∙ ap (λ l. end.0 ++ l) (sym is);
            so = λ rest h.
                let S : List (List ℕ × X) → Type 0 = λ l. IsSelected (At Q) l rest in
                (goes_without (At Q) all s t done e step lacks w.so) rest (skips Q b e.0 t rest (rest_after w.front e t rising_on) next.1 (subst S same h));
            silent = λ h.
                let S : List (List ℕ × X) → Type 0 = λ l. IsSelected (At Q) l [] in
                subst S (sym same) (none_from Q b t (silent_on h));
          }

      pub shorter_to : (b : List ℕ) (left : List (List ℕ × X)) → left ≡ from_bound b all → IsNext Q e.0 (Some b) → length left < length s
      shorter_to b left is next =
          let same : left ≡ from_bound b t = is ∙ ap (from_bound b) whole ∙ from_rest b w.front e t rising_on next.0 in
          let f : length left ≡ length (from_bound b t) = ap length same in
          let g : length s ≡ suc (length t) = ap length step in
          let r = from_shorter b t in
          omega arith

      -- nothing after the key is selected
      pub walked_over : IsNext Q e.0 None → IsSelected (At Q) all done
      walked_over next =
          let D : List (List ℕ × X) → Type 0 = IsSelected (At Q) all in
          let none : IsSelected (At Q) t [] = none_after Q e.0 t (rest_after w.front e t rising_on) next.1 in
          subst D (append-nil done) ((goes_without (At Q) all s t done e step lacks w.so) [] none)

  pub walked_all : (s done : List (List ℕ × X)) → s ≡ [] → Walked (At Q) all s done → IsSelected (At Q) all done
  walked_all s done over w = ends (At Q) all s done over w.so

  -- where nothing is selected at all, the next one isn't
  pub walked_silent : (s t done : List (List ℕ × X)) (e : List ℕ × X) → s ≡ e ∷ t → Walked (At Q) all s done → IsSelected (At Q) all [] → ¬ (Q e.0)
  walked_silent s t done e step w h = silent_here (At Q) s t e step (w.silent h)

-- all entries lie between no bounds
pub all_between : {X : Type 0} (es : List (List ℕ × X)) → entries_between text_cmp Unbounded Unbounded es ≡ es
all_between [] = refl
all_between (e ∷ es) = ap (λ l. e ∷ l) (all_between es)
