-- Limits, and what they count.
use Rattle.std.specs.Prelude.{ℕ, ◌+◌, ◌==◌, List, Bool, false, Option, Some, None, count_by, nat_lt}

-- there are more than may be
abbrev pub is_above : Option ℕ → ℕ → Bool
is_above None count = false
is_above (Some most) count = nat_lt most count

-- the levels of a topic or a filter stand between its slashes (MQTT 5.0, 4.7.1.1); of a shared filter `$share` and its name are two more
abbrev pub levels : List ℕ → ℕ
levels text = count_by (λ b. b == 47) text + 1
