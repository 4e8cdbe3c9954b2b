-- How long spellings are, and which blocks have one.
use Rattle.std.proofs.Common.{◌≡◌, ℕ, suc, ◌+◌, ◌/◌, ◌<◌, ◌≤◌, ltb, true, false, List, [], ◌∷◌, ◌++◌, length, take, drop, get_or, drop-cons, refl, sym, ap, subst, ◌∙◌, append_assoc, arith}
use Rattle.std.proofs.lemmas.Bool.{lt-ltb, le-ltb}
use Rattle.std.proofs.lemmas.List.{append-nil, length-append, take-append-drop, take_more}
use Rattle.std.proofs.lemmas.List.Concat.{flat_map-cons}
use Rattle.mqtt_fields.specs.declared.table.ValueKind.{ValueKind}
use Rattle.mqtt_fields.specs.declared.table.Place.{Place}
use Rattle.mqtt_fields.specs.declared.value.Property.{Property}
use Rattle.mqtt_fields.specs.declared.value.Value.{Value}
use Rattle.mqtt_fields.specs.declared.value.Value.TheVariants.{Byte, Two, Four, Vbi, Text, Blob, Pair}
use Rattle.mqtt_fields.specs.declared.table.ValueKind.TheVariants as kinds
use Rattle.mqtt_fields.specs.Numbers.{vbi, text}
use Rattle.mqtt_fields.specs.Value.{value, value_bytes, kind_of}
use Rattle.mqtt_fields.specs.Block.{property, MayStand, property_bytes, properties_bytes}

pub vbi_one : (n : ℕ) → n < 128 → length (vbi.bytes n) ≡ 1
vbi_one n a = let p : ltb n 128 ≡ true = lt-ltb n 128 a in rw p refl

pub vbi_two : (n : ℕ) → 128 ≤ n → n / 128 < 128 → length (vbi.bytes n) ≡ 2
vbi_two n a b = let p : ltb n 128 ≡ false = le-ltb n 128 a in let q : ltb (n / 128) 128 ≡ true = lt-ltb (n / 128) 128 b in rw (p, q) refl

pub vbi_three : (n : ℕ) → 128 ≤ n → 128 ≤ n / 128 → n / 128 / 128 < 128 → length (vbi.bytes n) ≡ 3
vbi_three n a b c = let p : ltb n 128 ≡ false = le-ltb n 128 a in let q : ltb (n / 128) 128 ≡ false = le-ltb (n / 128) 128 b in let r : ltb (n / 128 / 128) 128 ≡ true = lt-ltb (n / 128 / 128) 128 c in rw (p, q, r) refl

pub vbi_four : (n : ℕ) → 128 ≤ n → 128 ≤ n / 128 → 128 ≤ n / 128 / 128 → length (vbi.bytes n) ≡ 4
vbi_four n a b c = let p : ltb n 128 ≡ false = le-ltb n 128 a in let q : ltb (n / 128) 128 ≡ false = le-ltb (n / 128) 128 b in let r : ltb (n / 128 / 128) 128 ≡ false = le-ltb (n / 128 / 128) 128 c in rw (p, q, r) refl

pub ruleset vbi_lengths = (vbi_one, vbi_two, vbi_three, vbi_four)

pub text_len : (t : List ℕ) → length (value_bytes (Text t)) ≡ 2 + length t
text_len t = omega arith

pub blob_len : (t : List ℕ) → length (value_bytes (Blob t)) ≡ 2 + length t
blob_len t = omega arith

pub pair_len : (a b : List ℕ) → length (value_bytes (Pair a b)) ≡ 4 + length a + length b
pair_len a b = omega (arith, length-append (text.bytes a) (text.bytes b))

pub ruleset lengths = (text_len, blob_len, pair_len)

-- a value fits a kind only if that is its own
pub own_kind : (k : ValueKind) (v : Value) → (value k).Fits v → k ≡ kind_of v
own_kind kinds.Byte (Byte n) fits = refl
own_kind kinds.Two (Two n) fits = refl
own_kind kinds.Four (Four n) fits = refl
own_kind kinds.Vbi (Vbi n) fits = refl
own_kind kinds.Text (Text t) fits = refl
own_kind kinds.Blob (Blob b) fits = refl
own_kind kinds.Pair (Pair a b) fits = refl
own_kind _ _ fits = absurd fits

pub stand_snoc : (place : Place) (before ps : List Property) (p : Property) → MayStand place before ps → (property place (before ++ ps)).Fits p → MayStand place before (ps ++ p ∷ [])
stand_snoc place before [] p h f = (subst (λ (b : List Property). (property place b).Fits p) (append-nil before) f, tt)
stand_snoc place before (q ∷ qs) p h f = (h.0, stand_snoc place (before ++ q ∷ []) qs p h.1 (subst (λ (b : List Property). (property place b).Fits p) (sym (append_assoc before (q ∷ []) qs)) f))

pub stand_at : (place : Place) (before xs ys : List Property) (p : Property) → MayStand place before (xs ++ p ∷ ys) → (property place (before ++ xs)).Fits p
stand_at place before [] ys p h = subst (λ (b : List Property). (property place b).Fits p) (sym (append-nil before)) h.0
stand_at place before (x ∷ xs) ys p h = subst (λ (b : List Property). (property place b).Fits p) (append_assoc before (x ∷ []) xs) (stand_at place (before ++ x ∷ []) xs ys p h.1)

pub length_snoc : (ps : List Property) (p : Property) → length (properties_bytes (ps ++ p ∷ [])) ≡ length (properties_bytes ps) + length (property_bytes p)
length_snoc [] p = let a : length (properties_bytes (p ∷ [])) ≡ length (property_bytes p) + 0 = ap length (flat_map-cons property_bytes p []) ∙ length-append (property_bytes p) (properties_bytes []) in omega arith
length_snoc (q ∷ qs) p =
    let a : length (properties_bytes (q ∷ (qs ++ p ∷ []))) ≡ length (property_bytes q) + length (properties_bytes (qs ++ p ∷ [])) = ap length (flat_map-cons property_bytes q (qs ++ p ∷ [])) ∙ length-append (property_bytes q) (properties_bytes (qs ++ p ∷ [])) in
    let b : length (properties_bytes (q ∷ qs)) ≡ length (property_bytes q) + length (properties_bytes qs) = ap length (flat_map-cons property_bytes q qs) ∙ length-append (property_bytes q) (properties_bytes qs) in
    let c = length_snoc qs p in
    omega arith

pub length_front : (xs ys : List Property) → length (properties_bytes xs) ≤ length (properties_bytes (xs ++ ys))
length_front [] ys = omega arith
length_front (x ∷ xs) ys =
    let a : length (properties_bytes (x ∷ (xs ++ ys))) ≡ length (property_bytes x) + length (properties_bytes (xs ++ ys)) = ap length (flat_map-cons property_bytes x (xs ++ ys)) ∙ length-append (property_bytes x) (properties_bytes (xs ++ ys)) in
    let b : length (properties_bytes (x ∷ xs)) ≡ length (property_bytes x) + length (properties_bytes xs) = ap length (flat_map-cons property_bytes x xs) ∙ length-append (property_bytes x) (properties_bytes xs) in
    let c = length_front xs ys in
    omega arith

-- at one property of a block
pub parted : (ps : List Property) (i : ℕ) (d : Property) → i < length ps → ps ≡ take i ps ++ get_or ps i d ∷ drop (suc i) ps
parted ps i d lt = sym (take-append-drop i ps) ∙ ap (λ (r : List Property). take i ps ++ r) (drop-cons ps i d lt)

pub no_stand : (place : Place) (ps : List Property) (i : ℕ) (p : Property) → i < length ps → p ≡ get_or ps i p → ((property place (take i ps)).Fits p → ⊥) → MayStand place [] ps → ⊥
no_stand place ps i p lt e never h =
    let same : ps ≡ take i ps ++ p ∷ drop (suc i) ps = parted ps i p lt ∙ ap (λ (q : Property). take i ps ++ q ∷ drop (suc i) ps) (sym e) in
    never (stand_at place [] (take i ps) (drop (suc i) ps) p (subst (MayStand place []) same h))

pub stand_more : (place : Place) (ps : List Property) (i : ℕ) (p : Property) → i < length ps → p ≡ get_or ps i p → MayStand place [] (take i ps) → (property place (take i ps)).Fits p → MayStand place [] (take (i + 1) ps)
stand_more place ps i p lt e h f =
    subst (MayStand place []) (ap (λ (q : Property). take i ps ++ q ∷ []) e ∙ sym (take_more ps i p lt)) (stand_snoc place [] (take i ps) p h f)

pub length_more : (ps : List Property) (i : ℕ) (p : Property) → i < length ps → p ≡ get_or ps i p → length (properties_bytes (take (i + 1) ps)) ≡ length (properties_bytes (take i ps)) + length (property_bytes p)
length_more ps i p lt e = ap (λ (qs : List Property). length (properties_bytes qs)) (take_more ps i p lt ∙ ap (λ (q : Property). take i ps ++ q ∷ []) (sym e)) ∙ length_snoc (take i ps) p

pub length_least : (ps : List Property) (i : ℕ) (p : Property) → i < length ps → p ≡ get_or ps i p → length (properties_bytes (take i ps)) + length (property_bytes p) ≤ length (properties_bytes ps)
length_least ps i p lt e =
    let a = length_more ps i p lt e in
    let b = length_front (take (i + 1) ps) (drop (i + 1) ps) in
    let c : length (properties_bytes (take (i + 1) ps ++ drop (i + 1) ps)) ≡ length (properties_bytes ps) = ap (λ (qs : List Property). length (properties_bytes qs)) (take-append-drop (i + 1) ps) in
    omega arith
