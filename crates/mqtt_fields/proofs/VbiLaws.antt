-- The written Variable Byte Integer is the only spelling of its number.
use Rattle.std.proofs.Common.{◌≡◌, ℕ, zero, suc, ◌+◌, ◌*◌, ◌/◌, ◌%◌, ◌^◌, ◌<◌, ◌≤◌, true, false, ltb, List, [], ◌∷◌, length, inl, inr, sym, ap, subst, ◌∙◌, arith}
use Rattle.std.proofs.Math.Nat.{pow-succ'}
use Rattle.std.proofs.lemmas.Bool.{cases_lt, lt-ltb, le-ltb}
use Rattle.mqtt_fields.specs.Numbers.{groups, vbi}
use Rattle.mqtt_fields.specs.Vbi.{sevens, IsContinued, Encodes, IsVbi, OneSpelling}

continued_more : (b : ℕ) (bs : List ℕ) → 128 ≤ b → b < 256 → IsContinued bs → IsContinued (b ∷ bs)
continued_more b [] lo hi h = absurd h
continued_more b (c ∷ cs) lo hi h = (lo, hi, h)

-- what is written encodes the number
record Written (k n : ℕ) : Type 0 where
  continued : IsContinued (groups k n)
  short : length (groups k n) ≤ suc k
  value : sevens (groups k n) ≡ n

written : (k n : ℕ) → n < 128 ^ suc k → Written k n
written zero n lt = record { continued = omega arith; short = omega arith; value = omega arith }
written (suc k) n lt =
    elim (cases_lt n 128) [
      | inl less ↦
          let t : ltb n 128 ≡ true = lt-ltb n 128 less in
          record { continued = rw t less; short = rw t (omega arith); value = rw t (omega arith) }
      | inr more ↦
          let f : ltb n 128 ≡ false = le-ltb n 128 more in
          let p : 128 ^ suc (suc k) ≡ 128 * 128 ^ suc k = pow-succ' 128 (suc k) in
          let up : n / 128 < 128 ^ suc k = omega arith in
          let high = written k (n / 128) up in
          record {
            continued = rw f (continued_more (n % 128 + 128) (groups k (n / 128)) (omega arith) (omega arith) high.continued);
            short = rw f (omega (arith, high.short));
            value = rw f (omega (arith, high.value));
          }
    ]

-- in the fewest bytes
fewest : (k n : ℕ) (others : List ℕ) → IsContinued others → sevens others ≡ n → length (groups k n) ≤ length others
fewest k n [] h e = absurd h
fewest zero n (b ∷ bs) h e = omega arith
fewest (suc k) n (b ∷ []) h e =
    let t : ltb n 128 ≡ true = lt-ltb n 128 (omega (arith, h)) in
    rw t (omega arith)
fewest (suc k) n (b ∷ c ∷ cs) h e =
    elim (cases_lt n 128) [
      | inl less ↦ let t : ltb n 128 ≡ true = lt-ltb n 128 less in rw t (omega arith)
      | inr more ↦
          let f : ltb n 128 ≡ false = le-ltb n 128 more in
          let up : sevens (c ∷ cs) ≡ n / 128 = omega arith in
          rw f (omega (arith, fewest k (n / 128) (c ∷ cs) h.2 up))
    ]

-- a number's encodings of one length are one
same_encoding : (xs ys : List ℕ) → IsContinued xs → IsContinued ys → length xs ≡ length ys → sevens xs ≡ sevens ys → xs ≡ ys
same_encoding [] ys h g l e = absurd h
same_encoding (x ∷ xs) [] h g l e = absurd g
same_encoding (x ∷ []) (y ∷ []) h g l e = let one : x ≡ y = omega arith in ap (λ (z : ℕ). z ∷ []) one
same_encoding (x ∷ []) (y ∷ z ∷ ys) h g l e = absurd (omega arith)
same_encoding (x ∷ w ∷ xs) (y ∷ []) h g l e = absurd (omega arith)
same_encoding (x ∷ w ∷ xs) (y ∷ z ∷ ys) h g l e =
    let one : x ≡ y = omega (arith, h.0, h.1, g.0, g.1) in
    let rest : w ∷ xs ≡ z ∷ ys = same_encoding (w ∷ xs) (z ∷ ys) h.2 g.2 (omega arith) (omega arith) in
    ap (λ (b : ℕ). b ∷ w ∷ xs) one ∙ ap (λ (r : List ℕ). y ∷ r) rest

-- no number of 2^28 or more is encoded
below : (k : ℕ) (bs : List ℕ) → length bs ≤ k → sevens bs < 128 ^ k
below zero [] le = omega arith
below zero (b ∷ bs) le = absurd (omega arith)
below (suc k) [] le = let p : 128 ^ suc k ≡ 128 * 128 ^ k = pow-succ' 128 k in omega (arith, below k [] (omega arith))
below (suc k) (b ∷ bs) le = let p : 128 ^ suc k ≡ 128 * 128 ^ k = pow-succ' 128 k in omega (arith, below k bs (omega arith))

encoded : (n : ℕ) → n < 2 ^ 28 → Encodes (vbi.bytes n) n
encoded n lt = let w = written 3 n lt in record { continued = w.continued; short = w.short; value = w.value }

pub one_spelling : OneSpelling
one_spelling bs n = record {
  0 = λ h.
      let small : n < 2 ^ 28 = subst (λ (m : ℕ). m < 2 ^ 28) h.encodes.value (below 4 bs h.encodes.short) in
      let own = encoded n small in
      let le = h.fewest (vbi.bytes n) own in
      let ge = fewest 3 n bs h.encodes.continued h.encodes.value in
      (small, same_encoding bs (vbi.bytes n) h.encodes.continued own.continued (omega (arith, le, ge)) (h.encodes.value ∙ sym own.value));
  1 = λ h. subst (λ (xs : List ℕ). IsVbi xs n) (sym h.1) (record { encodes = encoded n h.0; fewest = λ others e. fewest 3 n others e.continued e.value });
}
