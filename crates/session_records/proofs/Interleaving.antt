-- Changes of different keys may be made in any order.
use Rattle.std.proofs.Common.{◌≡◌, ◌≢◌, ◌+◌, ◌<◌, ◌≤◌, ℕ, zero, suc, List, [], ◌∷◌, length, take, drop, get_or, Bool, true, false, cond, Option, Some, None, true≢false, add-one, arith, refl, sym, ap, ◌∙◌}
use Rattle.std.specs.List.{AllByRecursion, list_all, list_any, slice_get}
use Rattle.std.specs.Ordering.{is_lt}
use Rattle.std.specs.FinMap.{get, get-insert, get-remove, same_map}
use Rattle.std.proofs.lemmas.Bool.{and_parts, or_parts}
use Rattle.std.proofs.lemmas.Option.{none-some}
use Rattle.std.proofs.lemmas.List.{take-take, drop-take, length-take-le}
use Rattle.row_store.specs.declared.row.Change.{Change}
use Rattle.row_store.specs.declared.row.Change.TheVariants.{Put, Remove}
use Rattle.row_store.specs.Rows.{Key, Content, key_cmp, after, after_all}
use Rattle.row_store.proofs.Keys.{keys_total, exact_keys}
use Rattle.row_store.proofs.CellLemmas.{same_key, ties}
use Rattle.session_records.specs.Apart.{AreApart, named, after_at}
use Rattle.session_records.proofs.Effects.{all_after}

-- ---- on both sides of a key

apart_from : (key : Key) (a : Change) (those : List Change) → is_lt (key_cmp (named a) key) ≡ true → list_any (λ c. is_lt (key_cmp (named c) key)) those ≡ false → AllByRecursion (λ b. named a ≢ named b) those
apart_from key a [] low high = tt
apart_from key a (b ∷ those) low high =
    let parts = or_parts _ _ high in
    (λ same. true≢false (sym low ∙ ap (λ k. is_lt (key_cmp k key)) same ∙ parts.0), apart_from key a those low parts.1)

pub parted : (key : Key) (these those : List Change) → list_all (λ c. is_lt (key_cmp (named c) key)) these ≡ true → list_any (λ c. is_lt (key_cmp (named c) key)) those ≡ false → AreApart these those
parted key [] those low high = tt
parted key (a ∷ these) those low high = let parts = and_parts _ _ low in (apart_from key a those parts.0 high, parted key these those parts.1 high)

pub from_none : (these : List Change) → AreApart these []
from_none [] = tt
from_none (a ∷ these) = (tt, from_none these)

pub from_empty : (these those : List Change) → None ≡ slice_get those 0 → AreApart these those
from_empty these [] none = from_none these
from_empty these (b ∷ those) none = absurd (none-some b none)

front_passes : (P : Change → Type 0) (xs : List Change) (n : ℕ) → AllByRecursion P xs → AllByRecursion P (take n xs)
front_passes P xs zero all = tt
front_passes P [] (suc n) all = tt
front_passes P (x ∷ xs) (suc n) all = (all.0, front_passes P xs n all.1)

from_front : (these those : List Change) (n : ℕ) → AreApart these those → AreApart these (take n those)
from_front [] those n apart = tt
from_front (a ∷ these) those n apart = (front_passes _ those n apart.0, from_front these those n apart.1)

back_passes : (P : Change → Type 0) (xs : List Change) (n : ℕ) → AllByRecursion P xs → AllByRecursion P (drop n xs)
back_passes P xs zero all = all
back_passes P [] (suc n) all = tt
back_passes P (x ∷ xs) (suc n) all = back_passes P xs n all.1

pub from_back : (these those : List Change) (n : ℕ) → AreApart these those → AreApart these (drop n those)
from_back [] those n apart = tt
from_back (a ∷ these) those n apart = (back_passes _ those n apart.0, from_back these those n apart.1)

-- ---- one change past another, and past many

abbrev left : Change → Option (List ℕ)
left (Put row) = Some row.value.items
left (Remove kind owner place) = None

got : (c : Content) (change : Change) (q : Key) → get (after c change) q ≡ cond (same_key q (named change)) (left change) (get c q)
got c (Put row) q = get-insert keys_total c (named (Put row)) row.value.items q
got c (Remove kind owner place) q = get-remove keys_total c (named (Remove kind owner place)) q

either_first : (x y : Bool) (u v o : Option (List ℕ)) → (x ≡ true → y ≡ true → ⊥) → cond y v (cond x u o) ≡ cond x u (cond y v o)
either_first true true u v o not = absurd (not refl refl)
either_first true false u v o not = refl
either_first false y u v o not = refl

swapped : (c : Content) (a b : Change) → named a ≢ named b → after (after c a) b ≡ after (after c b) a
swapped c a b apart = same_map keys_total exact_keys _ _ (λ q.
    got (after c a) b q ∙ ap (cond (same_key q (named b)) (left b)) (got c a q)
    ∙ either_first (same_key q (named a)) (same_key q (named b)) (left a) (left b) (get c q) (λ x y. apart (sym (ties q (named a) x) ∙ ties q (named b) y))
    ∙ sym (got (after c b) a q ∙ ap (cond (same_key q (named a)) (left a)) (got c b q)))

past : (c : Content) (a : Change) (bs : List Change) → AllByRecursion (λ b. named a ≢ named b) bs → after (after_all c bs) a ≡ after_all (after c a) bs
past c a [] apart = refl
past c a (b ∷ bs) apart = past (after c b) a bs apart.1 ∙ ap (λ d. after_all d bs) (sym (swapped c a b apart.0))

past_all : (c : Content) (first bs : List Change) → AreApart first bs → after_all (after_all c bs) first ≡ after_all (after_all c first) bs
past_all c [] bs apart = refl
past_all c (a ∷ first) bs apart = ap (λ d. after_all d first) (past c a bs apart.0) ∙ past_all (after c a) first bs apart.1

past_at : (c : Content) (first : List Change) (i : ℕ) (bs : List Change) → AreApart first bs → after_at (after_all c bs) first i ≡ after_all (after_at c first i) bs
past_at c [] i bs apart = refl
past_at c (a ∷ first) zero bs apart = past c a bs apart.0
past_at c (a ∷ first) (suc i) bs apart = past_at c first i bs apart.1

-- ---- the changes at a place

one_suc : (c : Content) (xs : List Change) (i : ℕ) → after_at (after_all c (take i xs)) xs i ≡ after_all c (take (suc i) xs)
one_suc c [] zero = refl
one_suc c [] (suc i) = refl
one_suc c (x ∷ xs) zero = refl
one_suc c (x ∷ xs) (suc i) = one_suc (after c x) xs i

one_more : (c : Content) (xs : List Change) (i : ℕ) → after_at (after_all c (take i xs)) xs i ≡ after_all c (take (i + 1) xs)
one_more c xs i = rw add-one (one_suc c xs i)

pub interleaved : (c : Content) (first second : List Change) (i : ℕ) → AreApart first second
    → after_at (after_at (after_all (after_all c (take i first)) (take i second)) first i) second i ≡ after_all (after_all c (take (i + 1) first)) (take (i + 1) second)
interleaved c first second i apart =
    ap (λ d. after_at d second i) (past_at (after_all c (take i first)) first i (take i second) (from_front first second i apart) ∙ ap (λ d. after_all d (take i second)) (one_more c first i))
    ∙ one_more (after_all c (take (i + 1) first)) second i

at_place : (c : Content) (xs : List Change) (i : ℕ) (x : Change) → i < length xs → x ≡ get_or xs i x → after c x ≡ after_at c xs i
at_place c [] i x lt is = absurd (omega (arith, lt))
at_place c (y ∷ xs) zero x lt is = ap (after c) is
at_place c (y ∷ xs) (suc i) x lt is = at_place c xs i x (omega (arith, lt)) is

at_end : (c : Content) (xs : List Change) (i : ℕ) → length xs ≤ i → c ≡ after_at c xs i
at_end c [] i end = refl
at_end c (y ∷ xs) zero end = absurd (omega (arith, end))
at_end c (y ∷ xs) (suc i) end = at_end c xs i (omega (arith, end))

pub at_both : (c : Content) (first second : List Change) (i : ℕ) (x y : Change) → i < length first → x ≡ get_or first i x → i < length second → y ≡ get_or second i y → after (after c x) y ≡ after_at (after_at c first i) second i
at_both c first second i x y within is also_within also_is = ap (λ d. after d y) (at_place c first i x within is) ∙ at_place (after_at c first i) second i y also_within also_is

pub at_first : (c : Content) (first second : List Change) (i : ℕ) (x : Change) → i < length first → x ≡ get_or first i x → length second ≤ i → after c x ≡ after_at (after_at c first i) second i
at_first c first second i x within is end = at_place c first i x within is ∙ at_end (after_at c first i) second i end

-- ---- the changes in front, and more of them

pub all_taken : (c : Content) (m n : ℕ) (xs : List Change) → after_all (after_all c (take m xs)) (take n (drop m xs)) ≡ after_all c (take (m + n) xs)
all_taken c m n xs =
    let le : m ≤ m + n = omega arith in
    ap (λ ys. after_all (after_all c ys) (take n (drop m xs))) (sym (take-take m (m + n) xs le))
    ∙ ap (after_all (after_all c (take m (take (m + n) xs)))) (sym (drop-take m n xs))
    ∙ all_after c m (take (m + n) xs)

pub split_made : (c : Content) (changes gone rest : List Change) (n : ℕ) → gone ≡ take (length gone) changes → rest ≡ drop (length gone) changes → n ≤ length rest
    → after_all (after_all c gone) (take n rest) ≡ after_all c (take (length gone + length (take n rest)) changes)
split_made c changes gone rest n front back within =
    ap (λ xs. after_all (after_all c xs) (take n rest)) front ∙ ap (λ ys. after_all (after_all c (take (length gone) changes)) (take n ys)) back ∙ all_taken c (length gone) n changes
    ∙ ap (λ k. after_all c (take (length gone + k) changes)) (sym (length-take-le n rest within))

-- those in front of the second list before the first one
pub some_before : (c : Content) (first second alone paired : List Change) (n : ℕ) → AreApart first second → alone ≡ take n second → paired ≡ drop n second
    → after_all (after_all (after_all c alone) first) paired ≡ after_all (after_all c first) second
some_before c first second alone paired n apart front back =
    ap (λ xs. after_all (after_all (after_all c xs) first) paired) front ∙ ap (λ d. after_all d paired) (past_all c first (take n second) (from_front first second n apart))
    ∙ ap (after_all (after_all (after_all c first) (take n second))) back ∙ all_after (after_all c first) n second
