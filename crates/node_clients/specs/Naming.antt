-- The identifiers that a node gives to clients that bring none (MQTT 5.0, 3.1.3.1).
use Rattle.std.specs.Prelude.{◌≡◌, ℕ, ◌<◌, ◌^◌, true, false, List, ◌++◌, Option, Some, None, codes, decimal}
use Rattle.node_work.specs.Held.Sessions.{has_session}
use Rattle.node_work.specs.View.{Place, HeldView}

-- `auto-{node}-{number}`
abbrev pub automatic : ℕ → ℕ → List ℕ
automatic id number = codes "auto-" ++ (decimal id ++ (codes "-" ++ decimal number))

-- the least number above the last one given that names no session here; none is left below 2^62
abbrev pub IsNextNumber : Place → HeldView → Option ℕ → Type 0
IsNextNumber p h (Some number) =
    (h.named < number) × (number < 2 ^ 62) × (has_session (automatic p.id number) h ≡ false)
    × ((k : ℕ) → h.named < k → k < number → has_session (automatic p.id k) h ≡ true)
IsNextNumber p h None = (k : ℕ) → h.named < k → k < 2 ^ 62 → has_session (automatic p.id k) h ≡ true
