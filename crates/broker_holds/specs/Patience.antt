-- How long a client may be held back.
use Rattle.std.specs.Prelude.{◌*◌, ◌≤◌, ◌<◌, ◌||◌, ℕ, eqb, leb, if◌then◌else◌}

-- in milliseconds, with a Keep Alive in seconds: half of it, and a minute where there is none or it is two minutes or more
abbrev pub patience : ℕ → ℕ
patience keep_alive = if eqb keep_alive 0 || leb 120 keep_alive then 60000 else keep_alive * 500

-- it is a minute at most, and half the Keep Alive at most, if there is one
abbrev pub IsHalfAtMost : Type 0
IsHalfAtMost = (keep_alive : ℕ) → (patience keep_alive ≤ 60000) × (0 < keep_alive → patience keep_alive ≤ keep_alive * 500)
