-- A topic that lacks a byte isn't matched.
use Rattle.std.proofs.Common.{◌≡◌, ℕ, zero, suc, ◌+◌, ◌<◌, Bool, true, false, not, ◌&&◌, ◌||◌, cond, List, [], ◌∷◌, get_or, length, Option, Some, None, refl, sym, ◌∙◌, ap, subst, add-one, arith}
use Rattle.std.specs.Prelude.{◌==◌}
use Rattle.std.proofs.lemmas.Bool.{eqb-false, eqb-true}
use Rattle.mqtt_topics.specs.Levels.{is_separator, is_wildcard, levels}
use Rattle.mqtt_access.specs.Comparing.{begins_alike, begins_wild, matches_topic}
use Rattle.mqtt_access.specs.Probing.{is_plain_up_to, is_probe, is_probe_if, lacks, later_probe}
use Rattle.mqtt_access.specs.declared.probing.Probe.{Probe}
use Rattle.mqtt_access.proofs.Beginnings.{unlike_levels}
use Rattle.mqtt_access.proofs.Tests.{and_both, and_first, and_second, by_test, false_of, first_false, neither, never, not_true, second_false}

not_so : (b : Bool) → not b ≡ true → b ≡ false
not_so b e = false_of b (not_true b e)

so_not : (b : Bool) → b ≡ false → not b ≡ true
so_not b e = ap not e

and_apart : (a b : Bool) → b ≡ false → (a && b) ≡ false
and_apart true b e = e
and_apart false b e = refl

-- ---- how it is found

plain_suc : (fs : List ℕ) (i : ℕ) → i < length fs → is_plain_up_to i fs ≡ true → is_wildcard (get_or fs i 0) ≡ false → is_plain_up_to (suc i) fs ≡ true
plain_suc [] i lt plain own = refl
plain_suc (f ∷ fs) zero lt plain own = and_both (not (is_wildcard f)) true (so_not (is_wildcard f) own) refl
plain_suc (f ∷ fs) (suc i) lt plain own =
    and_both (not (is_wildcard f)) (is_plain_up_to (suc i) fs) (and_first (not (is_wildcard f)) (is_plain_up_to i fs) plain)
    (plain_suc fs i (omega (arith, lt)) (and_second (not (is_wildcard f)) (is_plain_up_to i fs) plain) own)

pub still_plain : (fs : List ℕ) (i : ℕ) → i < length fs → is_plain_up_to i fs ≡ true → is_wildcard (get_or fs i 0) ≡ false → is_plain_up_to (i + 1) fs ≡ true
still_plain fs i lt plain own = subst (λ (n : ℕ). is_plain_up_to n fs ≡ true) (sym (add-one i)) (plain_suc fs i lt plain own)

here : (fs : List ℕ) (i : ℕ) → i < length fs → is_plain_up_to i fs ≡ true → is_wildcard (get_or fs i 0) ≡ false → is_separator (get_or fs i 0) ≡ false → is_probe fs i (get_or fs i 0) ≡ true
here [] i lt plain own apart = absurd (omega (arith, lt))
here (f ∷ fs) zero lt plain own apart = and_both (f == f) _ (itself f) (so_not (is_wildcard f || is_separator f) (neither (is_wildcard f) (is_separator f) own apart))
  where
    itself : (n : ℕ) → (n == n) ≡ true
    itself n = grind arith
here (f ∷ fs) (suc i) lt plain own apart =
    and_both (not (is_wildcard f)) (is_probe fs i (get_or fs i 0)) (and_first (not (is_wildcard f)) (is_plain_up_to i fs) plain)
    (here fs i (omega (arith, lt)) (and_second (not (is_wildcard f)) (is_plain_up_to i fs) plain) own apart)

pub found : (fs : List ℕ) (o : Option Probe) (i : ℕ) → i < length fs → is_plain_up_to i fs ≡ true → is_probe_if fs o ≡ true → is_wildcard (get_or fs i 0) ≡ false → is_probe_if fs (later_probe o i (get_or fs i 0)) ≡ true
found fs o i lt plain before own = by_test (is_separator (get_or fs i 0)) _
    (λ at. ap (λ (b : Bool). is_probe_if fs (cond b o (Some (record { at = i; byte = get_or fs i 0 })))) at ∙ before)
    (λ apart. ap (λ (b : Bool). is_probe_if fs (cond b o (Some (record { at = i; byte = get_or fs i 0 })))) apart ∙ here fs i lt plain own apart)

-- ---- what it tells

begins_plain : (fs : List ℕ) (at byte : ℕ) → is_probe fs at byte ≡ true → begins_wild fs ≡ false
begins_plain [] at byte p = never p
begins_plain (f ∷ fs) zero byte p = first_false (is_wildcard f) (is_separator f) (not_so (is_wildcard f || is_separator f) (and_second (f == byte) _ p))
begins_plain (f ∷ fs) (suc at) byte p = not_so (is_wildcard f) (and_first (not (is_wildcard f)) (is_probe fs at byte) p)

other : (f t byte : ℕ) → (f == byte) ≡ true → (t == byte) ≡ false → (f == t) ≡ false
other f t byte is apart = false_of (f == t) (λ e. eqb-false t byte apart (sym (eqb-true f t e) ∙ eqb-true f byte is))

refused : (fs ts : List ℕ) (at byte : ℕ) → is_probe fs at byte ≡ true → (get_or ts at 0 == byte) ≡ false → begins_alike fs ts ≡ false
refused [] ts at byte p e = never p
refused (f ∷ fs) [] zero byte p e =
    let none : (is_wildcard f || is_separator f) ≡ false = not_so (is_wildcard f || is_separator f) (and_second (f == byte) _ p) in
    neither (is_wildcard f) _ (first_false (is_wildcard f) (is_separator f) none) (ap (λ (b : Bool). b && begins_wild fs) (second_false (is_wildcard f) (is_separator f) none))
refused (f ∷ fs) [] (suc at) byte p e =
    neither (is_wildcard f) _ (not_so (is_wildcard f) (and_first (not (is_wildcard f)) (is_probe fs at byte) p))
    (and_apart (is_separator f) (begins_wild fs) (begins_plain fs at byte (and_second (not (is_wildcard f)) (is_probe fs at byte) p)))
refused (f ∷ fs) (t ∷ ts) zero byte p e =
    let none : (is_wildcard f || is_separator f) ≡ false = not_so (is_wildcard f || is_separator f) (and_second (f == byte) _ p) in
    neither (is_wildcard f) _ (first_false (is_wildcard f) (is_separator f) none) (ap (λ (b : Bool). b && begins_alike fs ts) (other f t byte (and_first (f == byte) _ p) e))
refused (f ∷ fs) (t ∷ ts) (suc at) byte p e =
    neither (is_wildcard f) _ (not_so (is_wildcard f) (and_first (not (is_wildcard f)) (is_probe fs at byte) p))
    (and_apart (f == t) (begins_alike fs ts) (refused fs ts at byte (and_second (not (is_wildcard f)) (is_probe fs at byte) p) e))

pub missed : (filter topic : List ℕ) (o : Option Probe) → is_probe_if filter o ≡ true → lacks topic o ≡ true → matches_topic (levels filter) topic ≡ false
missed filter topic None p e = never e
missed filter topic (Some q) p e = unlike_levels filter topic (refused filter topic q.at q.byte p (not_so (get_or topic q.at 0 == q.byte) e))
