-- A clock between the system's and the turns: what it tells, and what holds over any calls of it.
use Rattle.std.specs.Prelude.{◌≡◌, ◌+◌, ◌-◌, ◌*◌, ◌/◌, ◌^◌, ◌≤◌, ◌<◌, ℕ, List, [], ◌∷◌, leb, min, max, if◌then◌else◌, Option, Some, None}
use Rattle.broker_sockets.specs.declared.steady.Kept.{Kept}
use Rattle.broker_sockets.specs.declared.steady.SteadyClock.{SteadyClock}
use Rattle.broker_sockets.specs.declared.steady.Times.{Times}

-- moments end at 2^62 - 1 milliseconds
abbrev pub bounded : ℕ → ℕ
bounded system = min system (2 ^ 62 - 1)

-- how many milliseconds count between two calls: those that the monotonic clock has gone on by, at most a second
abbrev pub counted : ℕ → ℕ → ℕ
counted before now = min (now - before) 1000

-- moments are kept in quarters of a millisecond: five for each millisecond that counts, as far as the system's clock; four where that
-- is behind
unfoldable pub quarters_after : ℕ → ℕ → ℕ → ℕ
quarters_after quarters system passed =
    if leb quarters (bounded system * 4 + 3) then min (quarters + passed * 5) (bounded system * 4 + 3) else min (quarters + passed * 4) (2 ^ 64 - 1)

abbrev pub quarters_by : Option Kept → Times → ℕ
quarters_by None times = bounded times.system * 4 + 3
quarters_by (Some kept) times = quarters_after kept.quarters times.system (counted kept.monotonic times.monotonic)

module _ {C : Type 0} (reads : C → Times → C → Type 0) where
  -- the clocks are read, and the moment follows
  pub record IsTold (c : SteadyClock C) (times : Times) (at : ℕ) (c' : SteadyClock C) : Type 0 where
    pub read : reads c.clocks times c'.clocks
    pub kept : c'.kept ≡ Some (record { quarters = quarters_by c.kept times; monotonic = times.monotonic })
    pub told : at ≡ quarters_by c.kept times / 4

  abbrev pub Tells : SteadyClock C → ℕ → SteadyClock C → Type 0
  Tells c at c' = (times : Times) × IsTold c times at c'

-- one call: what the clocks told, and the moment that came of it
pub record Call : Type 0 where
  pub times : Times
  pub at : ℕ

-- the last of some calls
abbrev pub last_of : Call → List Call → Call
last_of a [] = a
last_of a (b ∷ rest) = last_of b rest

-- how many milliseconds count from a call to the last one
abbrev pub counted_over : Call → List Call → ℕ
counted_over a [] = 0
counted_over a (b ∷ rest) = counted a.times.monotonic b.times.monotonic + counted_over b rest

-- the system's clock is never set back from one call to the next
abbrev pub NeverSetBack : Call → List Call → Type 0
NeverSetBack a [] = Unit {0}
NeverSetBack a (b ∷ rest) = (a.times.system ≤ b.times.system) × NeverSetBack b rest

-- each call finds the system's clock behind the moment of the call before
abbrev pub StaysBehind : Call → List Call → Type 0
StaysBehind a [] = Unit {0}
StaysBehind a (b ∷ rest) = (b.times.system < a.at) × StaysBehind b rest

-- the system's clock goes with the monotonic one, without a pause of more than a second
abbrev pub GoesAlong : Call → List Call → Type 0
GoesAlong a [] = Unit {0}
GoesAlong a (b ∷ rest) = (b.times.system ≡ a.times.system + counted a.times.monotonic b.times.monotonic) × GoesAlong b rest

-- the latest of a moment and of what the system's clock tells at each of these calls, each with what has counted since
abbrev pub latest : ℕ → Call → List Call → ℕ
latest moment a [] = moment
latest moment a (b ∷ rest) = latest (max (moment + counted a.times.monotonic b.times.monotonic) b.times.system) b rest

module _ {C : Type 0} (reads : C → Times → C → Type 0) where
  -- calls of a steady clock, one after another
  abbrev pub AreCalls : SteadyClock C → List Call → SteadyClock C → Type 0
  AreCalls c [] c' = c' ≡ c
  AreCalls c (call ∷ calls) c' = (m : SteadyClock C) × IsTold reads c call.times call.at m × AreCalls m calls c'

  -- the first moment of a new clock is the system's
  abbrev pub BeginsWithTheSystem : Type 0
  BeginsWithTheSystem = (c c' : SteadyClock C) (a : Call) → c.kept ≡ None → IsTold reads c a.times a.at c' → a.at ≡ bounded a.times.system

  module _ (law : Call → List Call → Type 0) where
    -- the law holds of a call and all that come after it, however many, at whatever clock
    abbrev pub HoldsOverCalls : Type 0
    HoldsOverCalls = (c c' : SteadyClock C) (a : Call) (rest : List Call) → AreCalls c (a ∷ rest) c' → law a rest

-- no moment is before an earlier one
abbrev pub Rises : Call → List Call → Type 0
Rises a rest = a.at ≤ (last_of a rest).at

-- moments go on by at most five quarters of what counts, and by less than a millisecond for what is left of a whole one
abbrev pub IsNotFast : Call → List Call → Type 0
IsNotFast a rest = (last_of a rest).at * 4 < a.at * 4 + counted_over a rest * 5 + 4

-- while the system's clock isn't set back no moment is ahead of it
abbrev pub IsNotAhead : Call → List Call → Type 0
IsNotAhead a rest = a.at ≤ a.times.system → NeverSetBack a rest → (last_of a rest).at ≤ (last_of a rest).times.system

-- one that was ahead of it isn't any more where the system's clock has come up to it
abbrev pub IsCaughtUpWith : Call → Call → Type 0
IsCaughtUpWith a b = a.at ≤ b.times.system → b.at ≤ b.times.system

abbrev pub ComesUp : {C : Type 0} → (C → Times → C → Type 0) → Type 0
ComesUp {C = C} reads = (c c' : SteadyClock C) (a b : Call) → AreCalls reads c (a ∷ b ∷ []) c' → IsCaughtUpWith a b

-- and no moment is later than one before it, or than the system's clock once was, with what has counted since
abbrev pub IsNotLater : Call → List Call → Type 0
IsNotLater a rest = (last_of a rest).at ≤ latest a.at a rest

-- how far a moment lags the system's clock
abbrev pub lag : Call → ℕ
lag a = a.times.system - a.at

-- while the system's clock goes along with the monotonic one, four times the lag shrinks by the milliseconds that pass, until the moment is
-- the system's
pub record CatchesUpOver (a : Call) (rest : List Call) : Type 0 where
  pub shrinks : lag (last_of a rest) * 4 ≤ lag a * 4 + 3 - ((last_of a rest).times.system - a.times.system)
  pub equal : lag a * 4 ≤ (last_of a rest).times.system - a.times.system → (last_of a rest).at ≡ (last_of a rest).times.system

abbrev pub CatchesUp : Call → List Call → Type 0
CatchesUp a rest = a.at ≤ a.times.system → GoesAlong a rest → (last_of a rest).times.system < 2 ^ 62 → CatchesUpOver a rest

-- while the system's clock is behind, moments go on by just what counts
abbrev pub GoesOn : Call → List Call → Type 0
GoesOn a rest = StaysBehind a rest → a.at + counted_over a rest < 2 ^ 62 - 1 → (last_of a rest).at ≡ a.at + counted_over a rest
