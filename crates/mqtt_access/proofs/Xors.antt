-- Bytes that are XORed.
use Rattle.std.proofs.Common.{◌≡◌, ◌↔◌, ◌⊎◌, inl, inr, ℕ, zero, suc, ◌+◌, ◌-◌, ◌<◌, ◌≤◌, List, [], ◌∷◌, ◌++◌, length, get_or, refl, sym, ap, ◌∙◌, subst, arith, length-append}
use Rattle.std.specs.Prelude.{bit_or, bit_xor, replicate}
use Rattle.std.specs.Int.Bits.{xor_add_and, xor_self}
use Rattle.std.proofs.lemmas.Grind.{same_number_lists}
use Rattle.std.proofs.lemmas.List.{append-nil, get_or_append_left, get_or-replicate, length-replicate}
use Rattle.std.proofs.Math.Seq.{get_or-append_right}
use Rattle.std.proofs.lemmas.Nat.{le_or_l, le_or_r, and_le_l, and_le_r}
use Rattle.mqtt_access.specs.Hmac.{filled, hmac, xor}
use Rattle.mqtt_access.specs.Pbkdf2.{derived_key, u, xor_of}

-- two numbers are one where their XOR is 0
pub xor_zero : (a b : ℕ) → bit_xor a b ≡ 0 → a ≡ b
xor_zero a b none = omega (arith, none, xor_add_and a b, and_le_l a b, and_le_r a b)

pub xor_same : (a b : ℕ) → a ≡ b → bit_xor a b ≡ 0
xor_same a b same = ap (λ x. bit_xor x b) same ∙ xor_self b

pub or_none : (a b : ℕ) → bit_or a b ≡ 0 → (a ≡ 0) × (b ≡ 0)
or_none a b none = (omega (arith, none, le_or_l a b), omega (arith, none, le_or_r a b))

pub none_or : (a b : ℕ) → a ≡ 0 → b ≡ 0 → bit_or a b ≡ 0
none_or a b first second = rw (first, second) refl

-- each byte so far is the same, and the next one too
pub same_more : (d x y i : ℕ) (P : ℕ → Type 0) → (d ≡ 0) ↔ ((k : ℕ) → k < i → P k) → ((x ≡ y → P i) × (P i → x ≡ y)) → (bit_or d (bit_xor x y) ≡ 0) ↔ ((k : ℕ) → k < i + 1 → P k)
same_more d x y i P before here = (
  λ none k below. elim (split k i below) [ inl less ↦ before.0 (or_none d (bit_xor x y) none).0 k less | inr last ↦ subst P (sym last) (here.0 (xor_zero x y (or_none d (bit_xor x y) none).1)) ],
  λ all. none_or d (bit_xor x y) (before.1 (λ k less. all k (omega (arith, less)))) (xor_same x y (here.1 (all i (omega arith)))),
)
  where
    split : (k i : ℕ) → k < i + 1 → (k < i) ⊎ (k ≡ i)
    split k i below = grind (arith, below)

pub length-xor : (xs ys : List ℕ) → length xs ≡ length ys → length (xor xs ys) ≡ length xs
length-xor [] ys same = refl
length-xor (x ∷ xs) [] same = absurd (omega (arith, same))
length-xor (x ∷ xs) (y ∷ ys) same = ap suc (length-xor xs ys (omega (arith, same)))

pub get_or-xor : (xs ys : List ℕ) (k d : ℕ) → length xs ≡ length ys → k < length xs → get_or (xor xs ys) k d ≡ bit_xor (get_or xs k d) (get_or ys k d)
get_or-xor [] ys k d same inside = absurd (omega (arith, inside))
get_or-xor (x ∷ xs) [] k d same inside = absurd (omega (arith, same))
get_or-xor (x ∷ xs) (y ∷ ys) zero d same inside = refl
get_or-xor (x ∷ xs) (y ∷ ys) (suc k) d same inside = get_or-xor xs ys k d (omega (arith, same)) (omega (arith, inside))

-- a block that has the bytes and then zeros
pub filled_is : (block bytes : List ℕ) → length block ≡ 128 → length bytes ≤ 128 → ((k : ℕ) → k < length bytes → get_or block k 0 ≡ get_or bytes k 0) → ((k : ℕ) → length bytes ≤ k → k < 128 → get_or block k 0 ≡ 0) → block ≡ filled bytes
filled_is block bytes size fits done left = same_number_lists block (filled bytes) (omega (arith, size, long)) (λ k inside. at k (split k (length bytes)) (omega (arith, inside, size)))
  where
    long : length (filled bytes) ≡ 128
    long = omega (arith, length-append bytes (replicate (128 - length bytes) 0), length-replicate {A = ℕ} (128 - length bytes) 0, fits)

    split : (a b : ℕ) → (a < b) ⊎ (b ≤ a)
    split a b = grind arith

    at : (k : ℕ) → (k < length bytes) ⊎ (length bytes ≤ k) → k < 128 → get_or block k 0 ≡ get_or (filled bytes) k 0
    at k (inl low) inside = done k low ∙ sym (get_or_append_left bytes (replicate (128 - length bytes) 0) 0 k low)
    at k (inr high) inside = left k high inside ∙ sym (get_or-append_right bytes (replicate (128 - length bytes) 0) k 0 high ∙ get_or-replicate {A = ℕ} (128 - length bytes) (k - length bytes) 0 0 (omega (arith, inside, high)))

-- bytes that are XORed, each by its place
pub xor_is : (new old others : List ℕ) → length new ≡ length old → length old ≡ length others → ((k : ℕ) → k < length old → get_or new k 0 ≡ bit_xor (get_or old k 0) (get_or others k 0)) → new ≡ xor old others
xor_is new old others size same done = same_number_lists new (xor old others) (omega (arith, size, length-xor old others same)) (λ k inside. let low : k < length old = omega (arith, inside, size) in done k low ∙ sym (get_or-xor old others k 0 same low))

-- the next U, and the XOR with it
pub next_u : (password salt last text : List ℕ) (i : ℕ) → 1 ≤ i → last ≡ u password salt (i - 1) → text ≡ hmac password (last ++ []) → text ≡ u password salt (i + 1 - 1)
next_u password salt last text zero one was is = absurd (omega (arith, one))
next_u password salt last text (suc i) one was is =
    let before : suc i - 1 ≡ i = omega arith in
    let after : suc i + 1 - 1 ≡ suc i = omega arith in
    rw (after, sym (append-nil last ∙ was ∙ ap (u password salt) before)) is

pub next_xor : (password salt so text new : List ℕ) (i : ℕ) → 1 ≤ i → so ≡ xor_of password salt (i - 1) → text ≡ u password salt (i + 1 - 1) → new ≡ xor so text → new ≡ xor_of password salt (i + 1 - 1)
next_xor password salt so text new zero one was last is = absurd (omega (arith, one))
next_xor password salt so text new (suc i) one was last is =
    let before : suc i - 1 ≡ i = omega arith in
    let after : suc i + 1 - 1 ≡ suc i = omega arith in
    is ∙ ap (λ x. xor x text) (was ∙ ap (xor_of password salt) before) ∙ ap (xor (xor_of password salt i)) (last ∙ ap (u password salt) after) ∙ ap (xor_of password salt) (sym after)

pub whole : (password salt derived : List ℕ) (count i : ℕ) → 1 ≤ count → i ≡ count → derived ≡ xor_of password salt (i - 1) → derived ≡ derived_key password salt count
whole password salt derived zero i one last is = absurd (omega (arith, one))
whole password salt derived (suc n) i one last is =
    let before : i - 1 ≡ n = omega (arith, last) in
    is ∙ ap (xor_of password salt) before

-- a block of zeros
pub zeros : (k : ℕ) → k < 128 → get_or (replicate {A = ℕ} 128 0) k 0 ≡ 0
zeros k inside = get_or-replicate {A = ℕ} 128 k 0 0 inside

pub zeros_long : length (replicate {A = ℕ} 128 0) ≡ 128
zeros_long = length-replicate {A = ℕ} 128 0
