-- The times of retained messages.
use Rattle.std.specs.Prelude.{◌&&◌, ◌^◌, ℕ, nat_le, nat_lt, Option, Some, None, if◌then◌else◌, refl}
use Rattle.std.specs.declared.cmp.Ordering.{Ordering}
use Rattle.std.specs.Ordering.{nat_cmp, then_cmp, on}
use Rattle.std.specs.Coded.{Coded, coded×, coded_ℕ, code_by}

-- a count, and the node that gave it
pub record Stamp : Type 0 where
  pub count : ℕ
  pub node : ℕ

-- the stamp of a count and a node, where stamps have that count: 1 to 2^62 - 1
abbrev pub stamp_of : ℕ → ℕ → Option Stamp
stamp_of count node = if nat_le 1 count && nat_lt count (2 ^ 62) then Some (record { count = count; node = node }) else None

-- by the count, and then by the node
abbrev pub stamp_cmp : Stamp → Stamp → Ordering
stamp_cmp = then_cmp (on (λ s. s.count) nat_cmp) (on (λ s. s.node) nat_cmp)

abbrev pub coded_stamp : Coded Stamp
coded_stamp = code_by (ℕ × ℕ) (coded× coded_ℕ coded_ℕ) (λ s. (s.count, s.node)) (λ p. record { count = p.0; node = p.1 }) (λ _. refl)
