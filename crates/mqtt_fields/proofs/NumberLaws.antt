-- Numbers, texts and bytes are read as they are spelled.
use Rattle.std.proofs.Common.{◌≡◌, ℕ, zero, suc, ◌+◌, ◌-◌, ◌*◌, ◌/◌, ◌%◌, ◌^◌, ◌<◌, ◌≤◌, ◌≢◌, ◌⊎◌, Bool, true, false, cond, ltb, eqb, List, [], ◌∷◌, ◌++◌, length, get_or, take, drop, Ok, Err, refl, sym, ap, subst, ◌∙◌, append_assoc, arith, inl, inr}
use Rattle.std.specs.Int.{Width, w8, w16, w32, w64, byte_len, from_be_bytes, to_be_bytes}
use Rattle.std.proofs.lemmas.Bool.{cases_lt, ltb-false, ltb-true, le-ltb, lt-ltb, eqb-false, ne_eqb}
use Rattle.std.proofs.lemmas.List.{take_at, drop_at, take-append-drop, length-append, length-take, get_or-take, get_or_past}
use Rattle.std.proofs.lemmas.Nat.{be_bytes_2, be_bytes_4, be_bytes_8, from_be_bytes-to_be_bytes_2, from_be_bytes-to_be_bytes_4, from_be_bytes-to_be_bytes_8}
use Rattle.std.proofs.Math.Nat.{pow-succ'}
use Rattle.mqtt_fields.specs.declared.fault.FieldFault.TheVariants.{Short, Malformed}
use Rattle.mqtt_fields.specs.Reading.{◌>>=◌}
use Rattle.mqtt_fields.specs.Numbers.{run_of, number, groups, group_at, vbi, counted, blob, long, is_text, text, pair}
use Rattle.mqtt_fields.proofs.Laws.{IsBytes, IsField, bind_ok, guard_ok, guard_passed, ok_is, after_is, tested_is}

pub IsBytes-take : (n : ℕ) (bytes : List ℕ) → IsBytes bytes → IsBytes (take n bytes)
IsBytes-take n bytes h i =
    elim (cases_lt i n) [
      | inl lt ↦ rw (get_or-take n bytes i 0 lt) (h i)
      | inr le ↦ rw (get_or_past (take n bytes) i 0 (omega (arith, length-take n bytes))) (omega arith)
    ]

pub record IsWide (w : Width) : Type 0 where
  pub len : (n : ℕ) → length (to_be_bytes w n) ≡ byte_len w
  pub back : (bytes : List ℕ) → length bytes ≡ byte_len w → IsBytes bytes → to_be_bytes w (from_be_bytes w bytes) ≡ bytes
  pub again : (n : ℕ) → n < 256 ^ byte_len w → from_be_bytes w (to_be_bytes w n) ≡ n
  pub below : (bytes : List ℕ) → IsBytes bytes → from_be_bytes w bytes < 256 ^ byte_len w

pub mod_below : (n : ℕ) → n < 256 → n % 256 ≡ n
mod_below n lt = omega arith

one_byte : (bytes : List ℕ) → length bytes ≡ 1 → IsBytes bytes → get_or bytes 0 0 % 256 ∷ [] ≡ bytes
one_byte [] len fits = absurd (omega (arith, len))
one_byte (b ∷ []) len fits = ap (λ (x : ℕ). x ∷ []) (mod_below b (fits 0))
one_byte (b ∷ c ∷ bs) len fits = absurd (omega (arith, len))

pub wide8 : IsWide w8
wide8 = record {
  len = λ n. refl;
  back = λ bytes len fits. one_byte bytes len fits;
  again = λ n lt. mod_below n lt;
  below = λ bytes fits. omega (arith, fits 0);
}

pub wide16 : IsWide w16
wide16 = record {
  len = λ n. refl;
  back = λ bytes len fits. be_bytes_2 bytes _ len fits refl;
  again = λ n lt. from_be_bytes-to_be_bytes_2 n lt;
  below = λ bytes fits. omega (arith, fits 0, fits 1);
}

pub wide32 : IsWide w32
wide32 = record {
  len = λ n. refl;
  back = λ bytes len fits. be_bytes_4 bytes _ len fits refl;
  again = λ n lt. from_be_bytes-to_be_bytes_4 n lt;
  below = λ bytes fits. omega (arith, fits 0, fits 1, fits 2, fits 3);
}

pub wide64 : IsWide w64
wide64 = record {
  len = λ n. refl;
  back = λ bytes len fits. be_bytes_8 bytes _ len fits refl;
  again = λ n lt. from_be_bytes-to_be_bytes_8 n lt;
  below = λ bytes fits. omega (arith, fits 0, fits 1, fits 2, fits 3, fits 4, fits 5, fits 6, fits 7);
}

pub number_is : (w : Width) → IsWide w → IsField (number w)
number_is w wide = record {
  takes = λ bytes x fits e.
      let g = guard_ok (ltb (length bytes) (byte_len w)) Short (from_be_bytes w (take (byte_len w) bytes), drop (byte_len w) bytes) x e in
      let long : byte_len w ≤ length bytes = ltb-false _ _ g.0 in
      let front : to_be_bytes w (from_be_bytes w (take (byte_len w) bytes)) ≡ take (byte_len w) bytes = wide.back (take (byte_len w) bytes) (omega (arith, length-take (byte_len w) bytes)) (IsBytes-take (byte_len w) bytes fits) in
      subst (λ (y : ℕ × List ℕ). (bytes ≡ to_be_bytes w y.0 ++ y.1) × (y.0 < 256 ^ byte_len w)) g.1
      (rw front (sym (take-append-drop (byte_len w) bytes)), wide.below (take (byte_len w) bytes) (IsBytes-take (byte_len w) bytes fits));
  again = λ n rest lt.
      let len = wide.len n in
      let long : ltb (length (to_be_bytes w n ++ rest)) (byte_len w) ≡ false = le-ltb _ _ (omega (arith, length-append (to_be_bytes w n) rest)) in
      rw (long, take_at (to_be_bytes w n) rest (byte_len w) len, drop_at (to_be_bytes w n) rest (byte_len w) len, wide.again n lt) refl;
}

pub counted_is : (w : Width) → IsWide w → IsField (counted w)
counted_is w W = record {
  takes = λ bytes x fits e.
      let b = bind_ok ((number w).at bytes) (λ n. cond (ltb (length n.1) n.0) (Err Short) (Ok (take n.0 n.1, drop n.0 n.1))) x e in
      let n = b.0 in
      let t = (number_is w W).takes bytes n fits b.1 in
      let g = guard_ok (ltb (length n.1) n.0) Short (take n.0 n.1, drop n.0 n.1) x b.2 in
      let enough : n.0 ≤ length n.1 = ltb-false _ _ g.0 in
      let len : length (take n.0 n.1) ≡ n.0 = omega (arith, length-take n.0 n.1) in
      let whole : bytes ≡ (to_be_bytes w n.0 ++ take n.0 n.1) ++ drop n.0 n.1 = t.0 ∙ ap (λ (r : List ℕ). to_be_bytes w n.0 ++ r) (sym (take-append-drop n.0 n.1)) ∙ sym (append_assoc (to_be_bytes w n.0) (take n.0 n.1) (drop n.0 n.1)) in
      subst (λ (y : List ℕ × List ℕ). (bytes ≡ (to_be_bytes w (length y.0) ++ y.0) ++ y.1) × (length y.0 < 256 ^ byte_len w)) g.1 (rw len whole, rw len t.1);
  again = λ xs rest lt.
      let enough : ltb (length (xs ++ rest)) (length xs) ≡ false = le-ltb _ _ (omega (arith, length-append xs rest)) in
      ap (counted w).at (append_assoc (to_be_bytes w (length xs)) xs rest) ∙ rw ((number_is w W).again (length xs) (xs ++ rest) lt, enough, take_at xs rest (length xs) refl, drop_at xs rest (length xs) refl) refl;
}

pub blob_is : IsField blob
blob_is = counted_is w16 wide16

pub long_is : IsField long
long_is = counted_is w32 wide32

pub text_is : IsField text
text_is = tested_is is_text Malformed blob blob_is

pub pair_is : IsField pair
pair_is = after_is text (λ _. text) text_is (λ _. text_is)

chosen : {A : Type 0} (b : Bool) (x y z : A) → cond b x y ≡ z → ((b ≡ true) × (x ≡ z)) ⊎ ((b ≡ false) × (y ≡ z))
chosen true x y z e = inl (refl, e)
chosen false x y z e = inr (refl, e)

small_below : (b k : ℕ) → b < 128 → b < 128 ^ suc k
small_below b zero lt = lt
small_below b (suc k) lt = let h = small_below b k lt in let p : 128 ^ suc (suc k) ≡ 128 * 128 ^ suc k = pow-succ' 128 (suc k) in omega arith

step_below : (b high k : ℕ) → b < 256 → high < 128 ^ k → b - 128 + 128 * high < 128 ^ suc k
step_below b high k lt h = let p : 128 ^ suc k ≡ 128 * 128 ^ k = pow-succ' 128 k in omega arith

step_back : (n k : ℕ) → n < 128 ^ suc k → n / 128 < 128 ^ k
step_back n k h = let p : 128 ^ suc k ≡ 128 * 128 ^ k = pow-succ' 128 k in omega arith

groups_take : (k : ℕ) (bs : List ℕ) (x : ℕ × List ℕ) → IsBytes bs → group_at k bs ≡ Ok x → (bs ≡ groups k x.0 ++ x.1) × (x.0 < 128 ^ suc k)
groups_take zero [] x fits e = absurd cc
groups_take zero (b ∷ rest) x fits e =
    let g = guard_passed (ltb b 128) Malformed (b, rest) x e in
    subst (λ (y : ℕ × List ℕ). (b ∷ rest ≡ groups 0 y.0 ++ y.1) × (y.0 < 128 ^ 1)) g.1 (refl, ltb-true b 128 g.0)
groups_take (suc k) [] x fits e = absurd cc
groups_take (suc k) (b ∷ rest) x fits e =
    elim (chosen (ltb b 128) (Ok (b, rest)) (group_at k rest >>= λ high. cond (eqb high.0 0) (Err Malformed) (Ok (b - 128 + 128 * high.0, high.1))) (Ok x) e) [
      | inl h ↦ let lt : b < 128 = ltb-true b 128 h.0 in
          subst (λ (y : ℕ × List ℕ). (b ∷ rest ≡ groups (suc k) y.0 ++ y.1) × (y.0 < 128 ^ suc (suc k))) (ok_is (b, rest) x h.1) (rw h.0 refl, small_below b (suc k) lt)
      | inr h ↦ let a = bind_ok (group_at k rest) (λ high. cond (eqb high.0 0) (Err Malformed) (Ok (b - 128 + 128 * high.0, high.1))) x h.1 in
          let high = a.0.0 in
          let g = guard_ok (eqb high 0) Malformed (b - 128 + 128 * high, a.0.1) x a.2 in
          let s = groups_take k rest a.0 (λ i. fits (suc i)) a.1 in
          let ge : 128 ≤ b = ltb-false b 128 h.0 in
          let lt : b < 256 = fits 0 in
          let one : high ≢ 0 = eqb-false high 0 g.0 in
          let big : ltb (b - 128 + 128 * high) 128 ≡ false = le-ltb _ _ (omega arith) in
          let low : (b - 128 + 128 * high) % 128 ≡ b - 128 = omega arith in
          let top : (b - 128 + 128 * high) / 128 ≡ high = omega arith in
          let first : b - 128 + 128 ≡ b = omega arith in
          subst (λ (y : ℕ × List ℕ). (b ∷ rest ≡ groups (suc k) y.0 ++ y.1) × (y.0 < 128 ^ suc (suc k))) g.1 (rw (big, low, top, first) (ap (λ (r : List ℕ). b ∷ r) s.0), step_below b high (suc k) lt s.1)
    ]

groups_again : (k n : ℕ) (rest : List ℕ) → n < 128 ^ suc k → group_at k (groups k n ++ rest) ≡ Ok (n, rest)
groups_again zero n rest lt = let small : ltb n 128 ≡ true = lt-ltb n 128 lt in rw small refl
groups_again (suc k) n rest lt =
    elim (cases_lt n 128) [
      | inl h ↦ let small : ltb n 128 ≡ true = lt-ltb n 128 h in rw (small, small) refl
      | inr h ↦
          let big : ltb n 128 ≡ false = le-ltb n 128 h in
          let more : ltb (n % 128 + 128) 128 ≡ false = le-ltb _ _ (omega arith) in
          let some : eqb (n / 128) 0 ≡ false = ne_eqb (n / 128) 0 (λ z. absurd (omega arith)) in
          let back : n % 128 + 128 - 128 + 128 * (n / 128) ≡ n = omega arith in
          let below : n / 128 < 128 ^ suc k = step_back n (suc k) lt in
          rw (big, more, groups_again k (n / 128) rest below, some, back) refl
    ]

pub vbi_is : IsField vbi
vbi_is = record { takes = groups_take 3; again = groups_again 3 }

pub run_takes : (n : ℕ) (bs : List ℕ) (x : List ℕ × List ℕ) → IsBytes bs → (run_of n).at bs ≡ Ok x → (bs ≡ x.0 ++ x.1) × (length x.0 ≡ n) × IsBytes x.0
run_takes n bs x fits e =
    let g = guard_ok (ltb (length bs) n) Short (take n bs, drop n bs) x e in
    let long : n ≤ length bs = ltb-false _ _ g.0 in
    subst (λ (y : List ℕ × List ℕ). (bs ≡ y.0 ++ y.1) × (length y.0 ≡ n) × IsBytes y.0) g.1 (sym (take-append-drop n bs), omega (arith, length-take n bs), IsBytes-take n bs fits)

pub run_again : (xs rest : List ℕ) → (run_of (length xs)).at (xs ++ rest) ≡ Ok (xs, rest)
run_again xs rest =
    let long : ltb (length (xs ++ rest)) (length xs) ≡ false = le-ltb _ _ (omega (arith, length-append xs rest)) in
    rw (long, take_at xs rest (length xs) refl, drop_at xs rest (length xs) refl) refl
