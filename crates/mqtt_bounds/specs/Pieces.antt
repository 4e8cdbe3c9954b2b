-- How bytes are cut into packets (MQTT 5.0, 2.1): a first byte, Remaining Length, and that many bytes.
use Rattle.std.specs.Prelude.{◌≡◌, ◌≤◌, ◌+◌, ◌-◌, ℕ, zero, suc, List, [], ◌∷◌, ◌++◌, length, take, drop, Result, Ok, Err, nat_lt, if◌then◌else◌}
use Rattle.mqtt_fields.specs.declared.fault.FieldFault.{FieldFault}
use Rattle.mqtt_fields.specs.declared.fault.FieldFault.TheVariants as fields
use Rattle.mqtt_fields.specs.Numbers.{vbi}
use Rattle.mqtt_bounds.specs.declared.front.Front.{Front}
use Rattle.mqtt_bounds.specs.declared.front.Front.TheVariants as fronts
use Rattle.mqtt_bounds.specs.declared.cut.End.{End}
use Rattle.mqtt_bounds.specs.declared.cut.End.TheVariants as ends

-- whether a packet of this length is there
abbrev pub front_with : ℕ → ℕ → ℕ → Front
front_with limit there total = if nat_lt limit total then fronts.TooLong else if nat_lt there total then fronts.Waits else fronts.Whole total

-- the length in all: the first byte, the bytes of Remaining Length, and those that it counts
abbrev pub front_by : ℕ → ℕ → Result (ℕ × List ℕ) FieldFault → Front
front_by limit there (Ok n) = front_with limit there (there - length n.1 + n.0)
front_by limit there (Err fields.Short) = fronts.Waits
front_by limit there (Err f) = fronts.Broken

-- what stands in front of some bytes
unfoldable pub front_at : ℕ → List ℕ → Front
front_at limit [] = fronts.Waits
front_at limit (b ∷ bs) = front_by limit (suc (length bs)) (vbi.at bs)

-- a packet takes some of so many bytes
abbrev pub IsUpTo : Front → ℕ → Type 0
IsUpTo (fronts.Whole used) there = (1 ≤ used) × (used ≤ there)
IsUpTo front there = Unit {0}

-- ---- one packet after another

pub record Cut : Type 0 where
  pub packets : List (List ℕ)
  pub rest : List ℕ
  pub end : End

abbrev pub before : List (List ℕ) → Cut → Cut
before ps c = record { packets = ps ++ c.packets; rest = c.rest; end = c.end }

abbrev pub ends_at : End → List ℕ → Cut
ends_at end bs = record { packets = []; rest = bs; end = end }

abbrev pub cut_by : List ℕ → (List ℕ → Cut) → Front → Cut
cut_by bs next fronts.Waits = ends_at ends.Open bs
cut_by bs next (fronts.Whole used) = before (take used bs ∷ []) (next (drop used bs))
cut_by bs next fronts.TooLong = ends_at ends.TooLong bs
cut_by bs next fronts.Broken = ends_at ends.Broken bs

-- at most k packets
unfoldable pub cut_within : ℕ → ℕ → List ℕ → Cut
cut_within limit zero bs = ends_at ends.Open bs
cut_within limit (suc k) bs = cut_by bs (λ rest. cut_within limit k rest) (front_at limit bs)

abbrev pub cut : ℕ → List ℕ → Cut
cut limit bs = cut_within limit (suc (length bs)) bs
