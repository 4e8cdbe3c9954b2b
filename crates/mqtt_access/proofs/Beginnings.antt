-- A filter that matches a topic begins as it does.
use Rattle.std.proofs.Common.{◌≡◌, inl, inr, ℕ, true, false, ◌||◌, List, [], ◌∷◌, refl, sym, ◌∙◌, ap, None, eq-eqb}
use Rattle.std.specs.Prelude.{◌==◌}
use Rattle.std.specs.Str.{bytes_eq}
use Rattle.std.proofs.lemmas.Bool.{eqb-true}
use Rattle.std.proofs.lemmas.List.Splits.{slice_split-cons_yes}
use Rattle.mqtt_topics.specs.Levels.{is_separator, is_wildcard, levels, multi_level, single_level}
use Rattle.mqtt_access.specs.Comparing.{begins_alike, begins_wild, is_multi, is_single, matches_topic, name_matches}
use Rattle.mqtt_access.specs.Filled.{filled_places, filter_levels}
use Rattle.mqtt_access.specs.declared.filled.RuleFilter.{RuleFilter}
use Rattle.mqtt_access.proofs.FirstLevels.{after, has_first}
use Rattle.mqtt_access.proofs.Tests.{and_both, and_first, and_second, by_test, false_of, never, or_either, or_left, or_right, same, tests_same, false_or_true}

-- a level that begins with no wildcard is none
no_multi : (f : ℕ) (level : List ℕ) → is_wildcard f ≡ false → is_multi (f ∷ level) ≡ true → ⊥
no_multi f level plain e = let first : f ≡ 35 = starts f level (same (f ∷ level) multi_level e) in false_or_true (is_wildcard f) plain (ap is_wildcard first)
  where
    starts : (f : ℕ) (level : List ℕ) → f ∷ level ≡ 35 ∷ [] → f ≡ 35
    starts f level e = cc

no_single : (f : ℕ) (level : List ℕ) → is_wildcard f ≡ false → is_single (f ∷ level) ≡ true → ⊥
no_single f level plain e = let first : f ≡ 43 = starts f level (same (f ∷ level) single_level e) in false_or_true (is_wildcard f) plain (ap is_wildcard first)
  where
    starts : (f : ℕ) (level : List ℕ) → f ∷ level ≡ 43 ∷ [] → f ≡ 43
    starts f level e = cc

record Same (f t : ℕ) (fs ts : List (List ℕ)) (level own : List ℕ) : Type 0 where
  byte : f ≡ t
  rest : name_matches (level ∷ fs) (own ∷ ts) ≡ true

-- levels that begin with bytes of which the first is no wildcard
both : (f t : ℕ) (level own : List ℕ) (fs ts : List (List ℕ)) → is_wildcard f ≡ false → name_matches ((f ∷ level) ∷ fs) ((t ∷ own) ∷ ts) ≡ true → Same f t fs ts level own
both f t level own fs ts plain e =
    elim (or_either (is_multi (f ∷ level)) _ e) [
      | inl m ↦ absurd (no_multi f level plain m)
      | inr m ↦ elim (or_either (is_single (f ∷ level)) (bytes_eq (f ∷ level) (t ∷ own)) (and_first (is_single (f ∷ level) || bytes_eq (f ∷ level) (t ∷ own)) (name_matches fs ts) m)) [
        | inl s ↦ absurd (no_single f level plain s)
        | inr s ↦ record {
          byte = first f t level own (same (f ∷ level) (t ∷ own) s);
          rest = or_right (is_multi level) _ (and_both (is_single level || bytes_eq level own) (name_matches fs ts)
              (or_right (is_single level) (bytes_eq level own) (tests_same level own (later f t level own (same (f ∷ level) (t ∷ own) s))))
              (and_second (is_single (f ∷ level) || bytes_eq (f ∷ level) (t ∷ own)) (name_matches fs ts) m));
        }
      ]
    ]
  where
    first : (f t : ℕ) (level own : List ℕ) → f ∷ level ≡ t ∷ own → f ≡ t
    first f t level own e = cc

    later : (f t : ℕ) (level own : List ℕ) → f ∷ level ≡ t ∷ own → level ≡ own
    later f t level own e = cc

-- a level that begins with a byte that is no wildcard doesn't match an empty one
apart : (f : ℕ) (level : List ℕ) (fs ts : List (List ℕ)) → is_wildcard f ≡ false → name_matches ((f ∷ level) ∷ fs) ([] ∷ ts) ≡ true → ⊥
apart f level fs ts plain e =
    elim (or_either (is_multi (f ∷ level)) _ e) [
      | inl m ↦ no_multi f level plain m
      | inr m ↦ elim (or_either (is_single (f ∷ level)) (bytes_eq (f ∷ level) []) (and_first (is_single (f ∷ level) || bytes_eq (f ∷ level) []) (name_matches fs ts) m)) [
        | inl s ↦ no_single f level plain s
        | inr s ↦ unequal f level (same (f ∷ level) [] s)
      ]
    ]
  where
    unequal : (f : ℕ) (level : List ℕ) → f ∷ level ≡ [] → ⊥
    unequal f level e = cc

-- and an empty level matches no other one
empty_apart : (t : ℕ) (own : List ℕ) (fs ts : List (List ℕ)) → name_matches ([] ∷ fs) ((t ∷ own) ∷ ts) ≡ true → ⊥
empty_apart t own fs ts e =
    elim (or_either (is_multi []) _ e) [
      | inl m ↦ never m
      | inr m ↦ elim (or_either (is_single []) (bytes_eq [] (t ∷ own)) (and_first (is_single [] || bytes_eq [] (t ∷ own)) (name_matches fs ts) m)) [
        | inl s ↦ never s
        | inr s ↦ unequal t own (same [] (t ∷ own) s)
      ]
    ]
  where
    unequal : (t : ℕ) (own : List ℕ) → [] ≡ t ∷ own → ⊥
    unequal t own e = cc

-- a filter that is left where a topic ends begins with a wildcard
ends_wild : (fs : List ℕ) → name_matches (levels fs) [] ≡ true → begins_wild fs ≡ true
ends_wild [] e = never e
ends_wild (g ∷ gs) e = by_test (is_separator g) _
    (λ at. never (sym (ap (λ ls. name_matches ls []) (slice_split-cons_yes is_separator g gs at)) ∙ e))
    (λ on.
    let a = after g gs on in
    by_test (is_wildcard g) _ (λ wild. wild) (λ plain. absurd (no_multi g a.first plain (sym (ap (λ ls. name_matches ls []) a.is) ∙ e))))

pub alike : (filter topic : List ℕ) → name_matches (levels filter) (levels topic) ≡ true → begins_alike filter topic ≡ true
alike [] [] e = refl
alike [] (t ∷ ts) e = by_test (is_separator t) _
    (λ holds.
    let h = has_first ts in
    never (sym (ap (λ ls. name_matches ([] ∷ []) ls) (slice_split-cons_yes is_separator t ts holds ∙ ap (λ (ls : List (List ℕ)). [] ∷ ls) h.is)) ∙ e))
    (λ fails.
    let a = after t ts fails in
    absurd (empty_apart t a.first [] a.rest (sym (ap (λ ls. name_matches ([] ∷ []) ls) a.is) ∙ e)))
alike (f ∷ fs) [] e = by_test (is_wildcard f) _ (λ wild. or_left (is_wildcard f) _ wild)
    (λ plain. by_test (is_separator f) _
    (λ holds. or_right (is_wildcard f) _ (and_both (is_separator f) (begins_wild fs) holds (ends_wild fs (sym (ap (λ ls. name_matches ls ([] ∷ [])) (slice_split-cons_yes is_separator f fs holds)) ∙ e))))
    (λ fails.
    let a = after f fs fails in
    absurd (apart f a.first a.rest [] plain (sym (ap (λ ls. name_matches ls ([] ∷ [])) a.is) ∙ e))))
alike (f ∷ fs) (t ∷ ts) e = by_test (is_wildcard f) _ (λ wild. or_left (is_wildcard f) _ wild)
    (λ plain. or_right (is_wildcard f) _ (by_test (is_separator f) _
    (λ at. by_test (is_separator t) _
    (λ ends.
    let step : name_matches (levels fs) (levels ts) ≡ true = sym (split_both f t fs ts at ends) ∙ e in
    and_both (f == t) (begins_alike fs ts) (eq-eqb f t (eqb-true f 47 at ∙ sym (eqb-true t 47 ends))) (alike fs ts step))
    (λ goes.
    let b = after t ts goes in
    absurd (empty_apart t b.first (levels fs) b.rest (sym (ap (λ ls. name_matches ls (levels (t ∷ ts))) (slice_split-cons_yes is_separator f fs at) ∙ ap (λ ls. name_matches ([] ∷ levels fs) ls) b.is) ∙ e))))
    (λ on.
    let a = after f fs on in
    by_test (is_separator t) _
    (λ ends. absurd (apart f a.first a.rest (levels ts) plain (sym (ap (λ ls. name_matches ls (levels (t ∷ ts))) a.is ∙ ap (λ ls. name_matches ((f ∷ a.first) ∷ a.rest) ls) (slice_split-cons_yes is_separator t ts ends)) ∙ e)))
    (λ goes.
    let b = after t ts goes in
    let s = both f t a.first b.first a.rest b.rest plain (sym (ap (λ ls. name_matches ls (levels (t ∷ ts))) a.is ∙ ap (λ ls. name_matches ((f ∷ a.first) ∷ a.rest) ls) b.is) ∙ e) in
    let step : name_matches (levels fs) (levels ts) ≡ true = ap (λ ls. name_matches ls (levels ts)) a.of ∙ ap (λ ls. name_matches (a.first ∷ a.rest) ls) b.of ∙ s.rest in
    and_both (f == t) (begins_alike fs ts) (eq-eqb f t s.byte) (alike fs ts step)))))
  where
    split_both : (f t : ℕ) (fs ts : List ℕ) → is_separator f ≡ true → is_separator t ≡ true → name_matches (levels (f ∷ fs)) (levels (t ∷ ts)) ≡ name_matches (levels fs) (levels ts)
    split_both f t fs ts at ends = ap (λ ls. name_matches ls (levels (t ∷ ts))) (slice_split-cons_yes is_separator f fs at) ∙ ap (λ ls. name_matches ([] ∷ levels fs) ls) (slice_split-cons_yes is_separator t ts ends)

pub unlike_levels : (filter topic : List ℕ) → begins_alike filter topic ≡ false → matches_topic (levels filter) topic ≡ false
unlike_levels filter topic e = false_of (matches_topic (levels filter) topic) (λ m. false_or_true (begins_alike filter topic) e (alike filter topic (and_first (name_matches (levels filter) (levels topic)) _ m)))

-- a filter without names in it that doesn't begin as a topic doesn't match it
pub unlike : (rule : RuleFilter) (topic : List ℕ) → rule.names ≡ None → begins_alike rule.filter.now topic ≡ false → matches_topic (filter_levels rule) topic ≡ false
unlike rule topic plain e = ap (λ names. matches_topic (filled_places names (levels rule.filter.now)) topic) plain ∙ unlike_levels rule.filter.now topic e
