-- The first level of a text.
use Rattle.std.proofs.Common.{◌≡◌, inl, inr, ℕ, true, false, List, [], ◌∷◌, refl, sym, ◌∙◌, ap, IsTrue, arith}
use Rattle.std.specs.Prelude.{nat_eq}
use Rattle.std.specs.Str.{bytes_eq}
use Rattle.std.specs.List.{join_with_byte, onto_first, slice_split, starts_with}
use Rattle.std.proofs.lemmas.Bool.{eqb-true}
use Rattle.std.proofs.lemmas.List.Splits.{join_with_byte-slice_split, slice_split-cons_no, slice_split-cons_yes}
use Rattle.mqtt_topics.specs.Levels.{is_separator, levels, multi_level, single_level}
use Rattle.mqtt_topics.specs.Matching.{BeginsWithWildcard}
use Rattle.mqtt_access.specs.Comparing.{begins_with_dollar, is_multi, is_single, is_wild, opened}
use Rattle.mqtt_access.specs.Filled.{first_level}
use Rattle.mqtt_access.proofs.Tests.{by_test, false_of, false_or_true, never, or_either, same, tests_same}

-- a text has a first level
pub record HasFirst (text : List ℕ) : Type 0 where
  pub first : List ℕ
  pub rest : List (List ℕ)
  pub is : levels text ≡ first ∷ rest

pub has_first : (text : List ℕ) → HasFirst text
has_first [] = record { first = []; rest = []; is = refl }
has_first (x ∷ xs) = by_test (is_separator x) (HasFirst (x ∷ xs))
    (λ holds. record { first = []; rest = slice_split is_separator xs; is = slice_split-cons_yes is_separator x xs holds })
    (λ fails. let h = has_first xs in record { first = x ∷ h.first; rest = h.rest; is = slice_split-cons_no is_separator x xs fails ∙ ap (onto_first x) h.is })

pub record IsAfter (x : ℕ) (xs : List ℕ) : Type 0 where
  pub first : List ℕ
  pub rest : List (List ℕ)
  pub is : levels (x ∷ xs) ≡ (x ∷ first) ∷ rest
  pub of : levels xs ≡ first ∷ rest

-- a text that begins with another byte than the separator has a first level that does
pub after : (x : ℕ) (xs : List ℕ) → is_separator x ≡ false → IsAfter x xs
after x xs fails =
    let h = has_first xs in
    record { first = h.first; rest = h.rest; is = slice_split-cons_no is_separator x xs fails ∙ ap (onto_first x) h.is; of = h.is }

-- the text and its first level begin with `$` alike
pub dollar_alike : (text : List ℕ) → begins_with_dollar text ≡ begins_with_dollar (first_level (levels text))
dollar_alike [] = refl
dollar_alike (x ∷ xs) = by_test (is_separator x) _
    (λ holds. rw (slice_split-cons_yes is_separator x xs holds) (rw (eqb-true x 47 holds) refl))
    (λ fails. let a = after x xs fails in rw a.is refl)

-- a text whose first level is a wildcard begins with one
pub wild_text : (text : List ℕ) → is_wild (first_level (levels text)) ≡ true → BeginsWithWildcard text
wild_text [] e = never e
wild_text (x ∷ xs) e = by_test (is_separator x) _
    (λ holds. never (sym (ap (λ ls. is_wild (first_level ls)) (slice_split-cons_yes is_separator x xs holds)) ∙ e))
    (λ fails. let a = after x xs fails in begins x a.first xs (sym (ap (λ ls. is_wild (first_level ls)) a.is) ∙ e))
  where
    begins : (x : ℕ) (first xs : List ℕ) → is_wild (x ∷ first) ≡ true → BeginsWithWildcard (x ∷ xs)
    begins x first xs e =
        elim (or_either (is_multi (x ∷ first)) (is_single (x ∷ first)) e) [
          | inl f ↦ inl (starts x 35 first xs (same (x ∷ first) multi_level f))
          | inr f ↦ inr (starts x 43 first xs (same (x ∷ first) single_level f))
        ]
      where
        starts : (x y : ℕ) (first xs : List ℕ) → x ∷ first ≡ y ∷ [] → IsTrue (starts_with nat_eq (x ∷ xs) (y ∷ []))
        starts x y first xs e = let h : x ≡ y = cc in rw h (alike y)
          where
            alike : (y : ℕ) → IsTrue (starts_with nat_eq (y ∷ xs) (y ∷ []))
            alike y = grind arith

-- the levels of another filter than `#` stay
pub opened_others : (text : List ℕ) → bytes_eq text multi_level ≡ false → levels text ≡ opened (levels text)
opened_others text unlike =
    let h = has_first text in
    let alone : h.rest ≡ [] → is_multi h.first ≡ false = λ none. false_of (is_multi h.first) (λ multi.
    let all : levels text ≡ multi_level ∷ [] = h.is ∙ ap (λ rest. h.first ∷ rest) none ∙ ap (λ first. first ∷ []) (same h.first multi_level multi) in
    false_or_true (bytes_eq text multi_level) unlike (tests_same text multi_level (sym (join_with_byte-slice_split 47 text) ∙ ap (join_with_byte 47) all))) in
    h.is ∙ stays h.first h.rest alone ∙ sym (ap opened h.is)
  where
    stays : (first : List ℕ) (rest : List (List ℕ)) → (rest ≡ [] → is_multi first ≡ false) → first ∷ rest ≡ opened (first ∷ rest)
    stays first (r ∷ rest) alone = refl
    stays first [] alone = rw (alone refl) refl
