-- Bits of words, and what the table notes in them.
use Rattle.std.proofs.Common.{◌≡◌, ◌≢◌, ℕ, zero, suc, ◌+◌, ◌-◌, ◌*◌, ◌/◌, ◌%◌, ◌<◌, ◌≤◌, List, [], ◌∷◌, ◌++◌, length, refl, sym, ◌∙◌, ap, arith, get_or, set, get_or-set_other, inl, inr, length-append}
use Rattle.std.specs.Prelude.{◌==◌}
use Rattle.std.proofs.Math.ListN.{length-set}
use Rattle.std.proofs.lemmas.Bool.{cases_eq, cases_lt}
use Rattle.std.proofs.lemmas.Grind.{common_steps}
use Rattle.std.specs.Int.{w64, bit_at, trailing_ones}
use Rattle.std.proofs.lemmas.Nat.Bits.{bit_at-trailing_ones, bit_at_ones}
use Rattle.qos_handshakes.specs.Noted.{bit, number, is_used, IsNoted}

pub bit-here : (words : List ℕ) (w u i : ℕ) → w < length words → i / 64 ≡ w → bit (set words w u) i ≡ bit_at u (i % 64)
bit-here words w u i within here = let e : get_or (set words w u) (i / 64) 0 ≡ u = grind (arith, common_steps) in ap (λ (x : ℕ). bit_at x (i % 64)) e

pub bit-apart : (words : List ℕ) (w u i : ℕ) → i / 64 ≢ w → bit (set words w u) i ≡ bit words i
bit-apart words w u i apart = let e : get_or (set words w u) (i / 64) 0 ≡ get_or words (i / 64) 0 = grind (arith, common_steps) in ap (λ (x : ℕ). bit_at x (i % 64)) e

-- a word with all bits set
pub bit-full : (words : List ℕ) (i : ℕ) → get_or words (i / 64) 0 ≡ 18446744073709551615 → bit words i ≡ 1
bit-full words i full = ap (λ (x : ℕ). bit_at x (i % 64)) full ∙ bit_at_ones 64 (i % 64) (omega arith)

pub full-more : (words : List ℕ) (i : ℕ) → ((k : ℕ) → k < 64 * i → bit words k ≡ 1) → get_or words i 0 ≡ 18446744073709551615 → (k : ℕ) → k < 64 * (i + 1) → bit words k ≡ 1
full-more words i before full k below = elim (cases_lt k (64 * i)) [
  | inl lt ↦ before k lt
  | inr past ↦ let e : k / 64 ≡ i = omega arith in bit-full words k (ap (λ (w : ℕ). get_or words w 0) e ∙ full)
]

pub same-bit : (words : List ℕ) (i w k : ℕ) → w ≡ i / 64 → k ≡ i % 64 → bit words i ≡ bit_at (get_or words w 0) k
same-bit words i w k a b = rw (a, b) refl

-- the first clear bit of a word
pub first-zero : (words : List ℕ) (i n t : ℕ) → n ≡ get_or words i 0 → n < 18446744073709551616 → n ≢ 18446744073709551615 → t ≡ trailing_ones w64 n
    → (t < 64) × (bit words (64 * i + t) ≡ 0) × ((k : ℕ) → 64 * i ≤ k → k < 64 * i + t → bit words k ≡ 1)
first-zero words i n t is fits some first =
    let h = bit_at-trailing_ones w64 n (omega arith) in
    let low : t < 64 = omega (arith, h.0, first) in
    let at : bit_at n t ≡ 0 = ap (bit_at n) first ∙ h.1 in (
      low,
      same-bit words (64 * i + t) i t (omega arith) (omega arith) ∙ ap (λ (x : ℕ). bit_at x t) (sym is) ∙ at,
      λ k past below.
          let lower : k - 64 * i < trailing_ones w64 n = omega (arith, first) in
          same-bit words k i (k - 64 * i) (omega (arith, low)) (omega (arith, low)) ∙ ap (λ (x : ℕ). bit_at x (k - 64 * i)) (sym is) ∙ h.2 (k - 64 * i) lower,
    )

pub zeros-from : (words : List ℕ) (i n : ℕ) → ((k : ℕ) → k < 64 * i → bit words k ≡ 1) → ((k : ℕ) → 64 * i ≤ k → k < n → bit words k ≡ 1) → (k : ℕ) → k < n → bit words k ≡ 1
zeros-from words i n before from k below = elim (cases_lt k (64 * i)) [ inl lt ↦ before k lt | inr past ↦ from k past below ]

one≢zero : (n : ℕ) → n ≡ 1 → n ≡ 0 → ⊥
one≢zero n a b = omega arith

-- ---- the table
-- a bit that is set is of a slot that isn't free
pub used-slot : (values used full : List ℕ) (i : ℕ) → IsNoted values used full → bit used i ≡ 1 → get_or values i 0 ≢ 0
used-slot values used full i h set' free = one≢zero (number (is_used (get_or values i 0))) (sym (h.slots i) ∙ set') (ap (λ (v : ℕ). number (is_used v)) free)

number-free : (v : ℕ) → number (is_used v) ≡ 0 → v ≡ 0
number-free v h = grind (arith, common_steps)

pub free-slot : (values used full : List ℕ) (i : ℕ) → IsNoted values used full → bit used i ≡ 0 → get_or values i 0 ≡ 0
free-slot values used full i h clear = number-free (get_or values i 0) (sym (h.slots i) ∙ clear)

number-full : (n m : ℕ) → number (n == m) ≡ 1 → n ≡ m
number-full n m h = grind (arith, common_steps)

-- all bits below a word are set, where those of the words below it are
pub words-below : (values used full : List ℕ) (word : ℕ) → IsNoted values used full → ((k : ℕ) → k < word → bit full k ≡ 1) → (i : ℕ) → i < 64 * word → bit used i ≡ 1
words-below values used full word h all i below = bit-full used i (number-full (get_or used (i / 64) 0) 18446744073709551615 (sym (h.words (i / 64)) ∙ all (i / 64) (omega arith)))

-- the word where the first clear bit is has a clear bit
pub not-full : (values used full : List ℕ) (word : ℕ) → IsNoted values used full → bit full word ≡ 0 → get_or used word 0 ≢ 18446744073709551615
not-full values used full word h clear is = one≢zero (number (get_or used word 0 == 18446744073709551615)) (ap (λ (n : ℕ). number (n == 18446744073709551615)) is) (sym (h.words word) ∙ clear)

-- a slot that is added is free
more : (values : List ℕ) (i : ℕ) → get_or (values ++ 0 ∷ []) i 0 ≡ get_or values i 0
more [] zero = refl
more [] (suc i) = refl
more (v ∷ vs) zero = refl
more (v ∷ vs) (suc i) = more vs i

-- longer rows of words, in which the further ones are clear, note the same
pub noted-longer : (values used us full fs : List ℕ) → IsNoted values used full → ((w : ℕ) → get_or us w 0 ≡ get_or used w 0) → ((w : ℕ) → get_or fs w 0 ≡ get_or full w 0)
    → length used ≤ length us → length us ≤ 64 * length fs → length us ≤ 1024 → length fs ≤ 1024 → IsNoted values us fs
noted-longer values used us full fs h same wider longer wide words narrow = record {
  slots = λ i. ap (λ (x : ℕ). bit_at x (i % 64)) (same (i / 64)) ∙ h.slots i;
  words = λ w. ap (λ (x : ℕ). bit_at x (w % 64)) (wider (w / 64)) ∙ h.words w ∙ ap (λ (n : ℕ). number (n == 18446744073709551615)) (sym (same w));
  wide = wide;
  narrow = narrow;
  room = omega (arith, h.room, longer);
  small = words;
  most = h.most;
}

pub noted-added : (values vs used full : List ℕ) → IsNoted values used full → vs ≡ values ++ 0 ∷ [] → length values < 64 * length used → length values < 65536 → IsNoted vs used full
noted-added values vs used full h is room most = record {
  slots = λ i. h.slots i ∙ ap (λ (v : ℕ). number (is_used v)) (sym (rw is (more values i)));
  words = h.words;
  wide = h.wide;
  narrow = h.narrow;
  room = rw (is, length-append {A = ℕ}) (omega (arith, room));
  small = h.small;
  most = rw (is, length-append {A = ℕ}) (omega (arith, most));
}

-- what `set` leaves
noted-set : (values used full : List ℕ) (slot value u f : ℕ) → IsNoted values used full → slot < length values
    → bit_at u (slot % 64) ≡ number (is_used value) → ((k : ℕ) → k < 64 → k ≢ slot % 64 → bit_at u k ≡ bit_at (get_or used (slot / 64) 0) k)
    → bit_at f (slot / 64 % 64) ≡ number (u == 18446744073709551615) → ((k : ℕ) → k < 64 → k ≢ slot / 64 % 64 → bit_at f k ≡ bit_at (get_or full (slot / 64 / 64) 0) k)
    → IsNoted (set values slot value) (set used (slot / 64) u) (set full (slot / 64 / 64) f)
noted-set values used full slot value u f h within mine others all rest =
    let word : slot / 64 < length used = omega (arith, h.room) in
    let row : slot / 64 / 64 < length full = omega (arith, h.wide, word) in
    record {
      slots = λ i. elim (cases_eq i slot) [
        | inl same ↦ let e : get_or (set values slot value) i 0 ≡ value = grind (arith, common_steps) in
            bit-here used (slot / 64) u i word (ap (λ (n : ℕ). n / 64) same) ∙ ap (λ (n : ℕ). bit_at u (n % 64)) same ∙ mine ∙ ap (λ (v : ℕ). number (is_used v)) (sym e)
        | inr ne ↦ let e : get_or (set values slot value) i 0 ≡ get_or values i 0 = get_or-set_other values slot i value 0 ne in
            elim (cases_eq (i / 64) (slot / 64)) [
              | inl here ↦
                  bit-here used (slot / 64) u i word here ∙ others (i % 64) (omega arith) (omega (arith, here, ne)) ∙ ap (λ (w : ℕ). bit_at (get_or used w 0) (i % 64)) (sym here) ∙ h.slots i ∙ ap (λ (v : ℕ). number (is_used v)) (sym e)
              | inr apart ↦ bit-apart used (slot / 64) u i apart ∙ h.slots i ∙ ap (λ (v : ℕ). number (is_used v)) (sym e)
            ]
      ];
      words = λ w. elim (cases_eq w (slot / 64)) [
        | inl same ↦ let e : get_or (set used (slot / 64) u) w 0 ≡ u = grind (arith, common_steps) in
            bit-here full (slot / 64 / 64) f w row (ap (λ (n : ℕ). n / 64) same) ∙ ap (λ (n : ℕ). bit_at f (n % 64)) same ∙ all ∙ ap (λ (n : ℕ). number (n == 18446744073709551615)) (sym e)
        | inr ne ↦ let e : get_or (set used (slot / 64) u) w 0 ≡ get_or used w 0 = get_or-set_other used (slot / 64) w u 0 ne in
            elim (cases_eq (w / 64) (slot / 64 / 64)) [
              | inl here ↦
                  bit-here full (slot / 64 / 64) f w row here ∙ rest (w % 64) (omega arith) (omega (arith, here, ne)) ∙ ap (λ (r : ℕ). bit_at (get_or full r 0) (w % 64)) (sym here) ∙ h.words w ∙ ap (λ (n : ℕ). number (n == 18446744073709551615)) (sym e)
              | inr apart ↦ bit-apart full (slot / 64 / 64) f w apart ∙ h.words w ∙ ap (λ (n : ℕ). number (n == 18446744073709551615)) (sym e)
            ]
      ];
      wide = rw (length-set, length-set) h.wide;
      narrow = rw length-set h.narrow;
      room = rw (length-set, length-set) h.room;
      small = rw length-set h.small;
      most = rw length-set h.most;
    }

-- no slot below the first clear bit is free
pub first-free : (values used full : List ℕ) (word z n : ℕ) → IsNoted values used full → ((k : ℕ) → k < word → bit full k ≡ 1) → ((k : ℕ) → 64 * word ≤ k → k < z → bit used k ≡ 1) → n ≤ z → (k : ℕ) → k < n → get_or values k 0 ≢ 0
first-free values used full word z n h all from is = λ k below. used-slot values used full k h (zeros-from used word z (words-below values used full word h all) from k (omega (arith, is, below)))

pub noted-added_at : (now values vs used us full fs : List ℕ) → now ≡ values → IsNoted values used full → vs ≡ values ++ 0 ∷ [] → ((w : ℕ) → get_or us w 0 ≡ get_or used w 0) → ((w : ℕ) → get_or fs w 0 ≡ get_or full w 0)
    → length used ≤ length us → length us ≤ 64 * length fs → length us ≤ 1024 → length fs ≤ 1024 → length values < 64 * length us → length now < 65536 → IsNoted vs us fs
noted-added_at now values vs used us full fs same h is same' wider longer wide words narrow room most = noted-added values vs us fs (noted-longer values used us full fs h same' wider longer wide words narrow) is room (rw same at most)

pub noted-set_at : (values used full : List ℕ) (slot value n m u f : ℕ) → IsNoted values used full → slot < length values → n ≡ get_or used (slot / 64) n → m ≡ get_or full (slot / 64 / 64) m
    → bit_at u (slot % 64) ≡ number (is_used value) → ((k : ℕ) → k < 64 → k ≢ slot % 64 → bit_at u k ≡ bit_at n k)
    → bit_at f (slot / 64 % 64) ≡ number (u == 18446744073709551615) → ((k : ℕ) → k < 64 → k ≢ slot / 64 % 64 → bit_at f k ≡ bit_at m k)
    → IsNoted (set values slot value) (set used (slot / 64) u) (set full (slot / 64 / 64) f)
noted-set_at values used full slot value n m u f h within at row_at mine others all rest =
    let word : slot / 64 < length used = omega (arith, h.room) in
    let row : slot / 64 / 64 < length full = omega (arith, h.wide, word) in
    let e : n ≡ get_or used (slot / 64) 0 = grind (arith, common_steps) in
    let d : m ≡ get_or full (slot / 64 / 64) 0 = grind (arith, common_steps) in
    noted-set values used full slot value u f h within mine (λ k low apart. others k low apart ∙ ap (λ (x : ℕ). bit_at x k) e) all (λ k low apart. rest k low apart ∙ ap (λ (x : ℕ). bit_at x k) d)
