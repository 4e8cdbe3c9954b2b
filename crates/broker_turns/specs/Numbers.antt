-- Numbers of connections, of links and of peers.
use Rattle.std.specs.Prelude.{◌≡◌, ℕ, List, Bool, eqb}
use Rattle.std.specs.List.{list_any}
use Rattle.std.specs.List.Sorted.{IsStrictlyIncreasing}

abbrev pub is_among : List ℕ → ℕ → Bool
is_among numbers number = list_any (eqb number) numbers

-- just those that pass a test, rising
pub record AreThose (test : ℕ → Bool) (numbers : List ℕ) : Type 0 where
  pub rise : IsStrictlyIncreasing numbers
  pub those : (number : ℕ) → is_among numbers number ≡ test number
