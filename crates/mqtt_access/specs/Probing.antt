-- A byte that stands in each topic that a filter matches.
use Rattle.std.specs.Prelude.{ℕ, zero, suc, List, [], ◌∷◌, get_or, Bool, true, false, not, ◌&&◌, ◌||◌, ◌==◌, Option, Some, None, if◌then◌else◌}
use Rattle.mqtt_topics.specs.Levels.{is_separator, is_wildcard}
use Rattle.mqtt_access.specs.declared.probing.Probe.{Probe}

-- no wildcard stands among so many bytes
abbrev pub is_plain_up_to : ℕ → List ℕ → Bool
is_plain_up_to zero fs = true
is_plain_up_to (suc n) [] = true
is_plain_up_to (suc n) (f ∷ fs) = not (is_wildcard f) && is_plain_up_to n fs

-- this byte of a filter is there, before its first wildcard, and is no separator
abbrev pub is_probe : List ℕ → ℕ → ℕ → Bool
is_probe [] at byte = false
is_probe (f ∷ fs) zero byte = (f == byte) && not (is_wildcard f || is_separator f)
is_probe (f ∷ fs) (suc at) byte = not (is_wildcard f) && is_probe fs at byte

abbrev pub is_probe_if : List ℕ → Option Probe → Bool
is_probe_if filter None = true
is_probe_if filter (Some p) = is_probe filter p.at p.byte

-- a topic has another byte there
abbrev pub lacks : List ℕ → Option Probe → Bool
lacks topic None = false
lacks topic (Some p) = not (get_or topic p.at 0 == p.byte)

-- the same with one byte more that stands before the first wildcard
abbrev pub later_probe : Option Probe → ℕ → ℕ → Option Probe
later_probe o at byte = if is_separator byte then o else Some (record { at = at; byte = byte })
