-- Ranges in which one takes the place of some.
use Rattle.std.proofs.Common.{◌≡◌, ℕ, suc, ◌+◌, ◌-◌, ◌<◌, ◌≤◌, true, false, ◌||◌, List, [], ◌∷◌, ◌++◌, length, get_or, take, drop, refl, sym, ap, subst, ◌∙◌, inl, inr, ◌⊎◌, arith}
use Rattle.std.specs.Cmp.{both_ways}
use Rattle.std.proofs.lemmas.Bool.{cases_order}
use Rattle.std.proofs.lemmas.List.{get_or-take, get_or-drop, get_or_append_left, get_or_at, get_or-append_right, length-append, length-take, length-drop}
use Rattle.std.proofs.lemmas.List.Folds.{list_any_at}
use Rattle.causal_context.specs.Dots.{Dot}
use Rattle.causal_context.specs.declared.ranges.Range.{Range}
use Rattle.causal_context.specs.Ranges.{covers, covered, IsFine, IsSound, IsApart}
use Rattle.causal_context.specs.RangeSteps.{IsUnion}
use Rattle.causal_context.proofs.RangeLemmas.{or_cases, or_left, or_right, or_false}

-- a covered dot is in a range
pub find_range : (q : Dot) (rs : List Range) → covered q rs ≡ true → (k : ℕ) × ((k < length rs) × ((d : Range) → covers q (get_or rs k d) ≡ true))
find_range q [] e = cc
find_range q (r ∷ rs) e = elim (or_cases (covers q r) (covered q rs) e) [
  | inl a ↦ (0, (omega arith, λ d. a))
  | inr b ↦ (let later = find_range q rs b in (suc later.0, (omega (arith, later.1.0), later.1.1)))
]

module _ (rs : List Range) (i j : ℕ) (x : Range) (i_j : i ≤ j) (j_in : j ≤ length rs) where
  -- x in place of the ranges from i to j
  abbrev pub spliced : List Range
  spliced = take i rs ++ x ∷ drop j rs

  front : length (take i rs) ≡ i
  front = omega (arith, length-take i rs)

  pub length-spliced : length spliced ≡ i + 1 + (length rs - j)
  length-spliced = omega (arith, length-append (take i rs) (x ∷ drop j rs), length-drop j rs, front)

  at_below : (k : ℕ) (d : Range) → k < i → get_or spliced k d ≡ get_or rs k d
  at_below k d lt = get_or_append_left (take i rs) (x ∷ drop j rs) d k (omega (arith, front)) ∙ get_or-take i rs k d lt

  at_place : (d : Range) → get_or spliced i d ≡ x
  at_place d = get_or_at (take i rs) x (drop j rs) d i front

  at_above : (k m : ℕ) (d : Range) → k ≡ i + 1 + m → get_or spliced k d ≡ get_or rs (j + m) d
  at_above k m d e = ap (λ n. get_or spliced n d) e ∙ get_or-append_right (take i rs) (x ∷ drop j rs) i (i + 1 + m) d front (omega arith)
      ∙ ap (λ n. get_or (x ∷ drop j rs) n d) {x = i + 1 + m - i} {y = suc m} (omega arith) ∙ get_or-drop j rs m d

  pub spliced_sound : IsSound rs → IsFine x → ((k : ℕ) (d : Range) → k < i → IsApart (get_or rs k d) x) → ((k : ℕ) (d : Range) → j ≤ k → k < length rs → IsApart x (get_or rs k d)) → IsSound spliced
  spliced_sound sound fine before after = record {
    fine = λ k d lt. elim (cases_order k i) [
      | inl same ↦ subst IsFine (sym (ap (λ n. get_or spliced n d) same ∙ at_place d)) fine
      | inr (inl less) ↦ subst IsFine (sym (at_below k d less)) (sound.fine k d (omega arith))
      | inr (inr more) ↦ subst IsFine (sym (at_above k (k - i - 1) d (omega arith))) (sound.fine (j + (k - i - 1)) d (omega (arith, length-spliced)))
    ];
    apart = λ k m d lt in_range.
        let moved : (a b : Range) → get_or spliced k d ≡ a → get_or spliced m d ≡ b → IsApart a b → IsApart (get_or spliced k d) (get_or spliced m d) = λ a b p q h. subst (λ y. IsApart y (get_or spliced m d)) (sym p) (subst (IsApart a) (sym q) h) in
        elim (cases_order k i) [
          | inl same ↦ moved x (get_or rs (j + (m - i - 1)) d) (ap (λ n. get_or spliced n d) same ∙ at_place d) (at_above m (m - i - 1) d (omega arith)) (after (j + (m - i - 1)) d (omega arith) (omega (arith, length-spliced)))
          | inr (inl less) ↦ elim (cases_order m i) [
            | inl same ↦ moved (get_or rs k d) x (at_below k d less) (ap (λ n. get_or spliced n d) same ∙ at_place d) (before k d less)
            | inr (inl low) ↦ moved (get_or rs k d) (get_or rs m d) (at_below k d less) (at_below m d low) (sound.apart k m d lt (omega arith))
            | inr (inr high) ↦ moved (get_or rs k d) (get_or rs (j + (m - i - 1)) d) (at_below k d less) (at_above m (m - i - 1) d (omega arith)) (sound.apart k (j + (m - i - 1)) d (omega arith) (omega (arith, length-spliced)))
          ]
          | inr (inr more) ↦ moved (get_or rs (j + (k - i - 1)) d) (get_or rs (j + (m - i - 1)) d) (at_above k (k - i - 1) d (omega arith)) (at_above m (m - i - 1) d (omega arith)) (sound.apart (j + (k - i - 1)) (j + (m - i - 1)) d (omega arith) (omega (arith, length-spliced)))
        ];
  }

  place_in : i < length spliced
  place_in = omega (arith, length-spliced)

  pub spliced_has : (q : Dot) → covered q spliced ≡ true → (covered q rs ≡ true) ⊎ (covers q x ≡ true)
  spliced_has q e =
      let found = find_range q spliced e in
      let k = found.0 in
      elim (cases_order k i) [
        | inl same ↦ inr (sym (ap (covers q) (ap (λ n. get_or spliced n x) same ∙ at_place x)) ∙ found.1.1 x)
        | inr (inl less) ↦ inl (list_any_at (covers q) rs k x (omega arith) (sym (ap (covers q) (at_below k x less)) ∙ found.1.1 x))
        | inr (inr more) ↦ inl (list_any_at (covers q) rs (j + (k - i - 1)) x (omega (arith, length-spliced, found.1.0)) (sym (ap (covers q) (at_above k (k - i - 1) x (omega arith))) ∙ found.1.1 x))
      ]

  pub has_place : (q : Dot) → covers q x ≡ true → covered q spliced ≡ true
  has_place q e = list_any_at (covers q) spliced i x place_in (ap (covers q) (at_place x) ∙ e)

  pub has_kept : (q : Dot) → covered q rs ≡ true → ((k : ℕ) (d : Range) → i ≤ k → k < j → covers q (get_or rs k d) ≡ true → covers q x ≡ true) → covered q spliced ≡ true
  has_kept q e taken =
      let found = find_range q rs e in
      let k = found.0 in
      elim (cases_order k i) [
        | inr (inl less) ↦ list_any_at (covers q) spliced k x (omega (arith, length-spliced)) (ap (covers q) (at_below k x less) ∙ found.1.1 x)
        | inl same ↦ later k (omega arith) found.1.0 (found.1.1 x)
        | inr (inr more) ↦ later k (omega arith) found.1.0 (found.1.1 x)
      ]
    where
      later : (k : ℕ) → i ≤ k → k < length rs → covers q (get_or rs k x) ≡ true → covered q spliced ≡ true
      later k le lt c = elim (cases_order k j) [
        | inl same ↦ list_any_at (covers q) spliced (i + 1 + (k - j)) x (omega (arith, length-spliced)) (ap (covers q) (at_above (i + 1 + (k - j)) (k - j) x refl ∙ ap (λ n. get_or rs n x) {x = j + (k - j)} {y = k} (omega arith)) ∙ c)
        | inr (inl less) ↦ has_place q (taken k x le less c)
        | inr (inr more) ↦ list_any_at (covers q) spliced (i + 1 + (k - j)) x (omega (arith, length-spliced)) (ap (covers q) (at_above (i + 1 + (k - j)) (k - j) x refl ∙ ap (λ n. get_or rs n x) {x = j + (k - j)} {y = k} (omega arith)) ∙ c)
      ]

  -- where x has what stood there and one range more
  pub spliced_union : (one : Range) → IsSound rs → IsFine x → ((k : ℕ) (d : Range) → k < i → IsApart (get_or rs k d) x) → ((k : ℕ) (d : Range) → j ≤ k → k < length rs → IsApart x (get_or rs k d))
      → ((q : Dot) → covers q one ≡ true → covers q x ≡ true) → ((q : Dot) → covers q x ≡ true → (covered q rs ≡ true) ⊎ (covers q one ≡ true))
      → ((q : Dot) (k : ℕ) (d : Range) → i ≤ k → k < j → covers q (get_or rs k d) ≡ true → covers q x ≡ true) → IsUnion rs (one ∷ []) spliced
  spliced_union one sound fine before after has only taken = record {
    sound = spliced_sound sound fine before after;
    members = λ q. both_ways (covered q spliced) (covered q rs || covered q (one ∷ []))
        (λ e. elim (spliced_has q e) [
          | inl a ↦ or_left (covered q rs) (covered q (one ∷ [])) a
          | inr b ↦ elim (only q b) [
            | inl a ↦ or_left (covered q rs) (covered q (one ∷ [])) a
            | inr c ↦ or_right (covered q rs) (covered q (one ∷ [])) (or_left (covers q one) false c)
          ]
        ])
        (λ e. elim (or_cases (covered q rs) (covered q (one ∷ [])) e) [
          | inl a ↦ has_kept q a (taken q)
          | inr b ↦ has_place q (has q (sym (or_false (covers q one)) ∙ b))
        ]);
  }
