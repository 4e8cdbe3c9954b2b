-- The text in which the system tells what a process holds: numbers in decimal, with a space between two.
use Rattle.std.specs.Prelude.{ℕ, ◌+◌, ◌-◌, ◌*◌, ◌==◌, ◌&&◌, not, nat_lt, List, [], ◌∷◌, Bool, if◌then◌else◌}

abbrev pub behind_space : List ℕ → List ℕ
behind_space [] = []
behind_space (b ∷ bs) = if b == 32 then bs else behind_space bs

abbrev pub is_digit : ℕ → Bool
is_digit b = not (nat_lt b 48) && nat_lt b 58

-- the number that the digits at the front write, behind those that were read
abbrev pub number_at : ℕ → List ℕ → ℕ
number_at read [] = read
number_at read (b ∷ bs) = if is_digit b then number_at (read * 10 + (b - 48)) bs else read

-- the second number
abbrev pub second : List ℕ → ℕ
second text = number_at 0 (behind_space text)
