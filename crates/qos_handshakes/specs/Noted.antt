-- Which slots are free, noted in bits.
use Rattle.std.specs.Prelude.{◌≡◌, ℕ, ◌*◌, ◌/◌, ◌%◌, ◌≤◌, ◌==◌, Bool, true, false, not, List, [], Option, length, slice_index, unwrap_or}
use Rattle.std.specs.Int.{bit_at}

-- a bit of words, from the lowest of the first on
abbrev pub bit : List ℕ → ℕ → ℕ
bit words i = bit_at (slice_index words (i / 64)) (i % 64)

abbrev pub number : Bool → ℕ
number false = 0
number true = 1

abbrev pub is_used : ℕ → Bool
is_used v = not (v == 0)

-- A bit for each slot: whether it isn't free. A bit for each word of these: whether all 64 are set.
pub record IsNoted (values used full : List ℕ) : Type 0 where
  pub slots : (i : ℕ) → bit used i ≡ number (is_used (slice_index values i))
  pub words : (w : ℕ) → bit full w ≡ number (slice_index used w == 18446744073709551615)
  pub wide : length used ≤ 64 * length full
  pub narrow : length full ≤ 1024
  pub room : length values ≤ 64 * length used
  pub small : length used ≤ 1024
  pub most : length values ≤ 65536

-- the slots of a table, which has none where it has no block
abbrev pub slots_in : Option (List ℕ) → List ℕ
slots_in block = unwrap_or block []
