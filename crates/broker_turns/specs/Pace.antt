-- How much a turn reads from a client's socket, by how long the turns before it took.
use Rattle.std.specs.Prelude.{◌+◌, ◌-◌, ◌/◌, ℕ, Bool, true, false, ltb, min, max, Option, Some, None}

-- a turn is long that took more than 100 milliseconds
abbrev pub is_long : Option ℕ → ℕ → Bool
is_long None at = false
is_long (Some last) at = ltb 100 (at - last)

-- half as much after a long turn, but not less than 512 bytes; and 512 more after another one, but not more than 65,536
abbrev pub paced : Bool → ℕ → ℕ
paced true most = max (most / 2) 512
paced false most = min (most + 512) 65536
