-- The connections of clients that are open, each with the moment of its opening, or with none once something was sent on it.
use Rattle.std.specs.Prelude.{◌≡◌, ◌+◌, ◌≤◌, ℕ, List, [], ◌∷◌, Bool, false, Option, Some, None}
use Rattle.std.specs.Coded.{Coded, coded_option, coded_ℕ}
use Rattle.std.specs.FinMap.{FinMap}
use Rattle.std.specs.FinMap as map
use Rattle.std.specs.List.{list_any}
use Rattle.std.specs.Map.{lookup}
use Rattle.std.specs.Ordering.{is_eq, nat_cmp, ordering_then}
use Rattle.std.specs.declared.cmp.Ordering.{Ordering}
use Rattle.broker_sockets.specs.declared.events.Output.{Output}
use Rattle.broker_sockets.specs.declared.events.Output.TheVariants.{Send, Close}

abbrev pub Connected : Type 0
Connected = FinMap nat_cmp (Option ℕ)

abbrev pub coded_connected : Coded Connected
coded_connected = map.code coded_ℕ (coded_option coded_ℕ)

-- ---- what is kept

-- nothing was sent on it since this moment
abbrev pub waits_since : ℕ → Option (Option ℕ) → Bool
waits_since at None = false
waits_since at (Some None) = false
waits_since at (Some (Some since)) = is_eq (nat_cmp since at)

-- a moment and a connection, by moment first
abbrev pub by_moment : ℕ × ℕ → ℕ × ℕ → Ordering
by_moment a b = ordering_then (nat_cmp a.0 b.0) (nat_cmp a.1 b.1)

-- just those on which nothing was sent, behind the moments of their openings
abbrev pub AreWaiting : List (ℕ × Option ℕ) → List (ℕ × ℕ) → Type 0
AreWaiting known waiting = (at connection : ℕ) → list_any (λ p. is_eq (by_moment (at, connection) p)) waiting ≡ waits_since at (lookup (λ q. is_eq (nat_cmp connection q)) known)

-- ---- what outputs make of it

abbrev pub answered_if : Option (Option ℕ) → ℕ → Connected → Connected
answered_if None connection known = known
answered_if (Some None) connection known = known
answered_if (Some (Some since)) connection known = map.insert known connection None

-- something was sent on it, if it is open
abbrev pub answered : ℕ → Connected → Connected
answered connection known = answered_if (map.get known connection) connection known

abbrev pub after_one : Output → Connected → Connected
after_one (Send connection bytes) known = answered connection known
after_one (Close connection) known = map.remove known connection

-- outputs, in order
abbrev pub after : List Output → Connected → Connected
after [] known = known
after (output ∷ more) known = after more (after_one output known)

-- ---- those that are late

-- nothing was sent on it since it was opened, so many milliseconds ago or more
abbrev pub IsLate : Option ℕ → ℕ → Connected → ℕ → Type 0
IsLate None at known connection = ⊥
IsLate (Some within) at known connection = (since : ℕ) × (map.get known connection ≡ Some (Some since)) × (since + within ≤ at)

abbrev pub NoneIsLate : Option ℕ → ℕ → Connected → Type 0
NoneIsLate within at known = (connection : ℕ) → IsLate within at known connection → ⊥
