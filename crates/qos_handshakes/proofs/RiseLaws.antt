-- Identifiers in the order of a map.
use Rattle.std.proofs.Common.{◌≡◌, ℕ, ◌<◌, true, List, [], ◌∷◌, ◌++◌, refl, sym, ap, ◌∙◌, append-nil, arith}
use Rattle.std.proofs.lemmas.Bool.{and_from, and_parts, lt-ltb, ltb-true}
use Rattle.std.proofs.lemmas.Cmp.{ranked}
use Rattle.std.proofs.lemmas.Map.Keys.{sorted_head, sorted_tail}
use Rattle.std.specs.declared.cmp.Ordering.TheVariants.{Less}
use Rattle.std.specs.Prelude.{nat_lt, ◌&&◌}
use Rattle.std.specs.List.{AllByRecursion, list_all}
use Rattle.std.specs.List.Sorted.{IsStrictlySortedBy}
use Rattle.std.specs.Map.{keys_of}
use Rattle.std.specs.Ordering.{nat_cmp}
use Rattle.qos_handshakes.specs.Incoming.{Received, identifiers_of, rise}

abbrev pub AreSmall : List ℕ → Type 0
AreSmall ids = AllByRecursion (λ i. i < 65536) ids

pub small-last : (ids : List ℕ) (i : ℕ) → AreSmall ids → i < 65536 → AreSmall (ids ++ i ∷ [])
small-last [] i h last = (last, tt)
small-last (x ∷ ids) i h last = (h.0, small-last ids i h.1 last)

-- below one that is below them all
all-lower : (k i : ℕ) (ids : List ℕ) → k < i → list_all (nat_lt i) ids ≡ true → list_all (nat_lt k) ids ≡ true
all-lower k i [] lt h = refl
all-lower k i (x ∷ ids) lt h =
    let parts = and_parts (nat_lt i x) (list_all (nat_lt i) ids) h in
    let more = ltb-true i x parts.0 in
    and_from (nat_lt k x) (list_all (nat_lt k) ids) (lt-ltb k x (omega (arith, lt, more))) (all-lower k i ids lt parts.1)

all-above : (i : ℕ) (ids : List ℕ) → AllByRecursion (λ k. nat_cmp i k ≡ Less) ids → list_all (nat_lt i) ids ≡ true
all-above i [] h = refl
all-above i (k ∷ ids) h = and_from (nat_lt i k) (list_all (nat_lt i) ids) (lt-ltb i k (ranked i k Less (sym h.0))) (all-above i ids h.1)

-- ---- what a list says that rises
pub rise-parts : (i : ℕ) (ids : List ℕ) → rise (i ∷ ids) ≡ true → (i < 65536) × (list_all (nat_lt i) ids ≡ true) × (rise ids ≡ true)
rise-parts i ids r =
    let whole = and_parts (nat_lt i 65536 && list_all (nat_lt i) ids) (rise ids) r in
    let first = and_parts (nat_lt i 65536) (list_all (nat_lt i) ids) whole.0 in
    (ltb-true i 65536 first.0, first.1, whole.1)

pub rise-from : (i : ℕ) (ids : List ℕ) → i < 65536 → list_all (nat_lt i) ids ≡ true → rise ids ≡ true → rise (i ∷ ids) ≡ true
rise-from i ids small above r = and_from (nat_lt i 65536 && list_all (nat_lt i) ids) (rise ids) (and_from (nat_lt i 65536) (list_all (nat_lt i) ids) (lt-ltb i 65536 small) above) r

-- one below the first is below them all
pub rise-before : (k i : ℕ) (ids : List ℕ) → k < i → rise (i ∷ ids) ≡ true → list_all (nat_lt k) (i ∷ ids) ≡ true
rise-before k i ids lt r = and_from (nat_lt k i) (list_all (nat_lt k) ids) (lt-ltb k i lt) (all-lower k i ids lt (rise-parts i ids r).1)

pub sorted-rise : (ids : List ℕ) → IsStrictlySortedBy nat_cmp ids → AreSmall ids → rise ids ≡ true
sorted-rise [] sorted small = refl
sorted-rise (i ∷ ids) sorted small = rise-from i ids small.0 (all-above i ids (sorted_head nat_cmp i ids sorted)) (sorted-rise ids (sorted_tail nat_cmp i ids sorted) small.1)

-- ---- the first of them, or the end of all identifiers
abbrev pub first_of : List ℕ → ℕ
first_of [] = 65536
first_of (i ∷ ids) = i

pub rise-first : (i : ℕ) (ids : List ℕ) → rise (i ∷ ids) ≡ true → i < first_of ids
rise-first i [] r = (rise-parts i [] r).0
rise-first i (k ∷ ids) r = ltb-true i k (and_parts (nat_lt i k) (list_all (nat_lt i) ids) (rise-parts i (k ∷ ids) r).1).0

pub rise-more : (i : ℕ) (ids : List ℕ) → i < first_of ids → rise ids ≡ true → rise (i ∷ ids) ≡ true
rise-more i [] lt r = rise-from i [] lt refl refl
rise-more i (k ∷ ids) lt r = let small = (rise-parts k ids r).0 in rise-from i (k ∷ ids) (omega (arith, lt, small)) (rise-before i k ids lt r) r

pub keys-identifiers : (r : Received) → keys_of r ≡ identifiers_of r
keys-identifiers [] = refl
keys-identifiers (e ∷ es) = ap (λ (is : List ℕ). e.0 ∷ is) (keys-identifiers es)

pub ended : (ids rest all : List ℕ) → ids ++ rest ≡ all → rest ≡ [] → ids ≡ all
ended ids rest all e none = (let f = rw none at e in sym (append-nil ids) ∙ f)
