-- How long turns take: each ends with a tick.
use Rattle.std.specs.Prelude.{ℕ, ◌-◌, ◌==◌, Bool, max, if◌then◌else◌}
use Rattle.status_tally.specs.declared.ticks.Ticks.{Ticks}

-- none has come
abbrev pub no_ticks : Ticks
no_ticks = record { last = 0; longest = 0 }

-- how long ago the last one was
abbrev pub pause_by : ℕ → Ticks → ℕ
pause_by at t = if t.last == 0 then 0 else at - t.last

-- the longest time between two, with one at this moment
abbrev pub longest_by : ℕ → Ticks → ℕ
longest_by at t = max t.longest (pause_by at t)

-- after it; where a total is noted the longest time is noted with it
abbrev pub ticked : ℕ → Bool → Ticks → Ticks
ticked at noted t = record { last = at; longest = if noted then 0 else longest_by at t }
