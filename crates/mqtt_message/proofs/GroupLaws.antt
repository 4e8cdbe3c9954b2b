-- Variable Byte Integers, compared from their first bytes.
use Rattle.std.proofs.Common.{◌≡◌, ℕ, zero, suc, ◌+◌, ◌/◌, ◌%◌, ◌<◌, ◌≤◌, true, false, ltb, [], ◌∷◌, refl, sym, ap, arith}
use Rattle.std.proofs.lemmas.Bool.{lt-ltb, le-ltb}
use Rattle.std.specs.declared.cmp.Ordering.{Ordering}
use Rattle.std.specs.declared.cmp.Ordering.TheVariants.{Less, Equal, Greater}
use Rattle.std.specs.Ordering.{nat_cmp, ordering_then}
use Rattle.std.specs.Cmp.{nat_cmp_is}
use Rattle.std.specs.Cmp.Lexicographic.{slice_cmp}
use Rattle.mqtt_fields.specs.Numbers.{groups}

pub then_equal : (r : Ordering) → ordering_then r Equal ≡ r
then_equal Less = refl
then_equal Equal = refl
then_equal Greater = refl

-- one byte below 128
pub groups_small : (k n : ℕ) → n < 128 → groups k n ≡ n ∷ []
groups_small zero n less = refl
groups_small (suc k) n less = (let t : ltb n 128 ≡ true = lt-ltb n 128 less in rw t refl)

-- and else a byte and the rest
pub groups_large : (k n : ℕ) → 128 ≤ n → groups (suc k) n ≡ (n % 128 + 128) ∷ groups k (n / 128)
groups_large k n more = (let f : ltb n 128 ≡ false = le-ltb n 128 more in rw f refl)

module _ (k n m : ℕ) where
  pub small_first : n < 128 → 128 ≤ m → slice_cmp nat_cmp (groups (suc k) n) (groups (suc k) m) ≡ Less
  small_first a b = rw (groups_small (suc k) n a, groups_large k m b) (ap (λ r. ordering_then r (slice_cmp nat_cmp [] (groups k (m / 128)))) (sym (nat_cmp_is n (m % 128 + 128) Less (omega arith))))

  pub small_second : 128 ≤ n → m < 128 → slice_cmp nat_cmp (groups (suc k) n) (groups (suc k) m) ≡ Greater
  small_second a b = rw (groups_large k n a, groups_small (suc k) m b) (ap (λ r. ordering_then r (slice_cmp nat_cmp (groups k (n / 128)) [])) (sym (nat_cmp_is (n % 128 + 128) m Greater (omega arith))))
