-- A rule that covers a filter matches what the filter matches; a rule that matches some of it meets it.
use Rattle.std.proofs.Common.{◌≡◌, inl, inr, ℕ, Bool, true, false, not, ◌||◌, List, [], ◌∷◌, refl, sym, ◌∙◌, ap}
use Rattle.std.specs.Str.{bytes_eq}
use Rattle.mqtt_topics.specs.Levels.{multi_level, single_level}
use Rattle.mqtt_topics.specs.Matching.{LevelsMatch}
use Rattle.mqtt_access.specs.Comparing.{cover, is_multi, is_single, meet, name_matches, opened}
use Rattle.mqtt_access.proofs.Tests.{and_both, and_first, and_second, by_test, never, not_true, or_either, or_left, or_right, same, tests_same}

-- the test passes what the relation has
pub matched : (ls ns : List (List ℕ)) → LevelsMatch ls ns → name_matches ls ns ≡ true
matched [] [] m = refl
matched [] (n ∷ ns) m = absurd m
matched (l ∷ ls) [] m = tests_same l multi_level m.0
matched (l ∷ ls) (n ∷ ns) (inl m) = or_left (is_multi l) _ (tests_same l multi_level m.0)
matched (l ∷ ls) (n ∷ ns) (inr (inl e, rest)) =
    or_right (is_multi l) _ (and_both (is_single l || bytes_eq l n) _ (or_left (is_single l) _ (tests_same l single_level e)) (matched ls ns rest))
matched (l ∷ ls) (n ∷ ns) (inr (inr e, rest)) =
    or_right (is_multi l) _ (and_both (is_single l || bytes_eq l n) _ (or_right (is_single l) _ (tests_same l n e)) (matched ls ns rest))

-- what `r` fits of the level `a`, it fits of what `a` fits
fits : (r a n : List ℕ) → (is_single r || bytes_eq r a) ≡ true → (is_single a || bytes_eq a n) ≡ true → (is_single r || bytes_eq r n) ≡ true
fits r a n first second =
    elim (or_either (is_single r) (bytes_eq r a) first) [
      | inl e ↦ or_left (is_single r) (bytes_eq r n) e
      | inr e ↦ ap (λ x. is_single x || bytes_eq x n) (same r a e) ∙ second
    ]

pub covered : (rule asked ns : List (List ℕ)) → name_matches asked ns ≡ true → cover rule asked ≡ true → name_matches rule ns ≡ true
covered [] [] ns m c = m
covered [] (a ∷ later) ns m c = never c
covered (r ∷ rs) [] [] m c = c
covered (r ∷ rs) [] (n ∷ ns) m c = never m
covered (r ∷ rs) (a ∷ later) [] m c =
    elim (or_either (is_multi r) _ c) [
      | inl e ↦ e
      | inr e ↦ absurd (not_true _ (and_first _ (cover rs later) e) (or_left (is_multi a) _ m))
    ]
covered (r ∷ rs) (a ∷ later) (n ∷ ns) m c =
    elim (or_either (is_multi r) _ c) [
      | inl e ↦ or_left (is_multi r) _ e
      | inr e ↦ elim (or_either (is_multi a) _ m) [
        | inl f ↦ absurd (not_true _ (and_first _ (cover rs later) e) (or_left (is_multi a) _ f))
        | inr f ↦ or_right (is_multi r) _ (and_both (is_single r || bytes_eq r n) (name_matches rs ns)
            (fits r a n (passed (is_multi a) (is_single r || bytes_eq r a) (and_first _ (cover rs later) e)) (and_first (is_single a || bytes_eq a n) (name_matches later ns) f))
            (covered rs later ns (and_second (is_single a || bytes_eq a n) (name_matches later ns) f) (and_second _ (cover rs later) e)))
      ]
    ]
  where
    passed : (x y : Bool) → not (x || not y) ≡ true → y ≡ true
    passed true true h = refl
    passed true false h = never h
    passed false true h = refl
    passed false false h = never h

pub both_meet : (rule asked ns : List (List ℕ)) → name_matches rule ns ≡ true → name_matches asked ns ≡ true → meet rule asked ≡ true
both_meet [] [] ns m k = refl
both_meet [] (a ∷ later) [] m k = k
both_meet [] (a ∷ later) (n ∷ ns) m k = never m
both_meet (r ∷ rs) [] [] m k = m
both_meet (r ∷ rs) [] (n ∷ ns) m k = never k
both_meet (r ∷ rs) (a ∷ later) [] m k = or_left (is_multi r) _ m
both_meet (r ∷ rs) (a ∷ later) (n ∷ ns) m k =
    elim (or_either (is_multi r) _ m) [
      | inl e ↦ or_left (is_multi r) _ e
      | inr e ↦ or_right (is_multi r) _ (elim (or_either (is_multi a) _ k) [
        | inl f ↦ or_left (is_multi a) _ f
        | inr f ↦ or_right (is_multi a) _ (and_both ((is_single r || is_single a) || bytes_eq r a) (meet rs later)
            (one r a n (and_first (is_single r || bytes_eq r n) (name_matches rs ns) e) (and_first (is_single a || bytes_eq a n) (name_matches later ns) f))
            (both_meet rs later ns (and_second (is_single r || bytes_eq r n) (name_matches rs ns) e) (and_second (is_single a || bytes_eq a n) (name_matches later ns) f)))
      ])
    ]
  where
    one : (r a n : List ℕ) → (is_single r || bytes_eq r n) ≡ true → (is_single a || bytes_eq a n) ≡ true → ((is_single r || is_single a) || bytes_eq r a) ≡ true
    one r a n first second =
        elim (or_either (is_single r) (bytes_eq r n) first) [
          | inl e ↦ or_left (is_single r || is_single a) (bytes_eq r a) (or_left (is_single r) (is_single a) e)
          | inr e ↦ elim (or_either (is_single a) (bytes_eq a n) second) [
            | inl f ↦ or_left (is_single r || is_single a) (bytes_eq r a) (or_right (is_single r) (is_single a) f)
            | inr f ↦ or_right (is_single r || is_single a) (bytes_eq r a) (tests_same r a (same r n e ∙ sym (same a n f)))
          ]
        ]

any_levels : (ns : List (List ℕ)) → name_matches (multi_level ∷ []) ns ≡ true
any_levels [] = refl
any_levels (n ∷ ns) = refl

-- `+/#` matches what `#` matches, of one level or more
pub opened_matches : (asked : List (List ℕ)) (n : List ℕ) (ns : List (List ℕ)) → name_matches asked (n ∷ ns) ≡ true → name_matches (opened asked) (n ∷ ns) ≡ true
opened_matches [] n ns m = m
opened_matches (a ∷ b ∷ later) n ns m = m
opened_matches (a ∷ []) n ns m = by_test (is_multi a) _ (λ e. rw e (any_levels ns)) (λ e. rw e m)
