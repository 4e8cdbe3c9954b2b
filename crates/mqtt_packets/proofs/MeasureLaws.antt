-- Lengths of what is written.
use Rattle.std.proofs.Common.{◌≡◌, ℕ, zero, suc, ◌+◌, ◌<◌, ◌≤◌, ◌^◌, List, [], ◌∷◌, ◌++◌, length, take, drop, get_or, Option, Some, None, Result, Ok, Err, refl, sym, ap, subst, ◌∙◌, append_assoc, add-one, drop-cons, arith}
use Rattle.std.specs.Prelude.{flat_map, OnErr}
use Rattle.std.specs.List.{AllByRecursion}
use Rattle.std.proofs.lemmas.List.{append-nil, length-append, take-append-drop}
use Rattle.std.proofs.lemmas.List.Concat.{flat_map-cons, flat_map-append}
use Rattle.std.proofs.Math.Seq.{take-suc}
use Rattle.mqtt_fields.specs.declared.value.Property.{Property}
use Rattle.mqtt_fields.specs.declared.table.Place.{Place}
use Rattle.mqtt_fields.specs.Field.{Field}
use Rattle.mqtt_fields.specs.Numbers.{vbi}
use Rattle.mqtt_fields.specs.Block.{properties, properties_bytes}
use Rattle.mqtt_packets.specs.Body.{many}
use Rattle.mqtt_packets.specs.Measure.{MeasuresField, Measures}

pub block_length : (place : Place) (ps : List Property) (n : ℕ) → n ≡ length (properties_bytes ps) → length ((properties place).bytes ps) ≡ length (vbi.bytes n) + n
unfolding properties
block_length place ps n e = rw e (length-append (vbi.bytes (length (properties_bytes ps))) (properties_bytes ps))

pub block_short : (place : Place) (ps : List Property) → (properties place).Fits ps → length (properties_bytes ps) < 2 ^ 28
unfolding properties
block_short place ps h = h.0

all_snoc : {A : Type 0} (P : A → Type 0) (xs : List A) (y : A) → AllByRecursion P xs → P y → AllByRecursion P (xs ++ y ∷ [])
all_snoc P [] y h p = (p, tt)
all_snoc P (x ∷ xs) y h p = (h.0, all_snoc P xs y h.1 p)

all_front : {A : Type 0} (P : A → Type 0) (xs ys : List A) → AllByRecursion P (xs ++ ys) → AllByRecursion P xs
all_front P [] ys h = tt
all_front P (x ∷ xs) ys h = (h.0, all_front P xs ys h.1)

all_at : {A : Type 0} (P : A → Type 0) (xs : List A) (i : ℕ) (d : A) → i < length xs → AllByRecursion P xs → P (get_or xs i d)
all_at P [] i d lt h = absurd (omega arith)
all_at P (x ∷ xs) zero d lt h = h.0
all_at P (x ∷ xs) (suc i) d lt h = all_at P xs i d (omega arith) h.1

-- the fields up to one more
pub front_more : {A : Type 0} (xs : List A) (i : ℕ) (x : A) → i < length xs → x ≡ get_or xs i x → take (i + 1) xs ≡ take i xs ++ x ∷ []
front_more xs i x lt e = ap (λ (n : ℕ). take n xs) (add-one i) ∙ take-suc xs i x lt ∙ ap (λ (y : _). take i xs ++ y ∷ []) (sym e)

pub fits_more : {A : Type 0} (f : Field A) (xs : List A) (i : ℕ) (x : A) → i < length xs → x ≡ get_or xs i x → AllByRecursion f.Fits (take i xs) → f.Fits x → AllByRecursion f.Fits (take (i + 1) xs)
fits_more f xs i x lt e h p = subst (AllByRecursion f.Fits) (sym (front_more xs i x lt e)) (all_snoc f.Fits (take i xs) x h p)

pub bytes_more : {A : Type 0} (f : A → List ℕ) (xs : List A) (i : ℕ) (x : A) → i < length xs → x ≡ get_or xs i x → flat_map f (take (i + 1) xs) ≡ flat_map f (take i xs) ++ f x
bytes_more f xs i x lt e = ap (flat_map f) (front_more xs i x lt e) ∙ flat_map-append f (take i xs) (x ∷ []) ∙ ap (λ (ys : List ℕ). flat_map f (take i xs) ++ ys) (append-nil (f x))

pub length_more : {A : Type 0} (f : A → List ℕ) (xs : List A) (i : ℕ) (x : A) → i < length xs → x ≡ get_or xs i x → length (flat_map f (take (i + 1) xs)) ≡ length (flat_map f (take i xs)) + length (f x)
length_more f xs i x lt e = ap length (bytes_more f xs i x lt e) ∙ length-append (flat_map f (take i xs)) (f x)

-- the front of a list takes no more bytes than the list
pub length_front : {A : Type 0} (f : A → List ℕ) (xs : List A) (i : ℕ) → length (flat_map f (take i xs)) ≤ length (flat_map f xs)
length_front f xs i =
    let whole : flat_map f xs ≡ flat_map f (take i xs) ++ flat_map f (drop i xs) = ap (flat_map f) (sym (take-append-drop i xs)) ∙ flat_map-append f (take i xs) (drop i xs) in
    omega (arith, ap length whole, length-append (flat_map f (take i xs)) (flat_map f (drop i xs)))

pub on_err : {T E : Type 0} (r : Result T E) (P : Type 0) → P → OnErr r P
on_err (Ok x) P p = tt
on_err (Err e) P p = p

-- the fields before one, and this
pub length_least : {A : Type 0} (f : A → List ℕ) (xs : List A) (i : ℕ) (x : A) → i < length xs → x ≡ get_or xs i x → length (flat_map f (take i xs)) + length (f x) ≤ length (flat_map f xs)
length_least f xs i x lt e = omega (arith, length_more f xs i x lt e, length_front f xs (i + 1))

-- one that doesn't fit, or no room for it
pub not_one : {A : Type 0} (f : Field A) (xs : List A) (i : ℕ) (x : A) → i < length xs → x ≡ get_or xs i x → (f.Fits x → ⊥) → Measures (many f) xs None
not_one f xs i x lt e h m = h (subst f.Fits (sym e) (all_at f.Fits xs i x lt m.0))

pub no_room : {A : Type 0} (f : Field A) (xs : List A) (i : ℕ) (x : A) → i < length xs → x ≡ get_or xs i x → 2 ^ 28 ≤ length (flat_map f.bytes (take i xs)) + length (f.bytes x) → Measures (many f) xs None
no_room f xs i x lt e h m = let short = m.1 in absurd (omega (arith, length_more f.bytes xs i x lt e, length_front f.bytes xs (i + 1)))

pub ruleset many_lengths = (fits_more, length_more, not_one, no_room)
