-- Dots: a node and a number, in the order of the node and then the number.
use Rattle.std.specs.Prelude.{◌&&◌, ◌^◌, nat_le, nat_lt, Option, Some, None, ◌≡◌, ◌⊎◌, ◌==◌, ◌≤◌, ℕ, max, List, [], ◌∷◌, if◌then◌else◌, true, refl}
use Rattle.std.specs.declared.cmp.Ordering.{Ordering}
use Rattle.std.specs.declared.cmp.Ordering.TheVariants.{Less, Equal, Greater}
use Rattle.std.specs.Ordering.{nat_cmp, then_cmp, on, ordering_then}
use Rattle.std.specs.Cmp.{IsTotalOrder, nat_cmp_total, then_total, on_total}
use Rattle.std.specs.FinMap.{IsAntisymmetric, nat_cmp-IsAntisymmetric}
use Rattle.std.specs.FinSet as set
use Rattle.std.specs.Coded.{Coded, coded×, coded_ℕ, code_by}

-- who made a change, and its number there
pub record Dot : Type 0 where
  pub node : ℕ
  pub number : ℕ

-- the dot of a node and a number, where dots have that number: 1 to 2^62 - 1
abbrev pub dot_of : ℕ → ℕ → Option Dot
dot_of node number = if nat_le 1 number && nat_lt number (2 ^ 62) then Some (record { node = node; number = number }) else None

-- a dot is stored as the pair of its fields
abbrev pub coded_dot : Coded Dot
coded_dot = code_by (ℕ × ℕ) (coded× coded_ℕ coded_ℕ) (λ d. (d.node, d.number)) (λ p. record { node = p.0; number = p.1 }) (λ _. refl)

-- by node, and then by number
abbrev pub dot_cmp : Dot → Dot → Ordering
dot_cmp = then_cmp (on (λ d. d.node) nat_cmp) (on (λ d. d.number) nat_cmp)

pub dot_cmp_total : IsTotalOrder dot_cmp
dot_cmp_total = then_total (on_total (λ d. d.node) nat_cmp_total) (on_total (λ d. d.number) nat_cmp_total)

both_equal : (r s : Ordering) → ordering_then r s ≡ Equal → (r ≡ Equal) × (s ≡ Equal)
both_equal Less s e = cc
both_equal Equal s e = (refl, e)
both_equal Greater s e = cc

pub dot_cmp_antisym : IsAntisymmetric dot_cmp
dot_cmp_antisym x y e =
    let parts = both_equal (nat_cmp x.node y.node) (nat_cmp x.number y.number) e in
    let same_node = nat_cmp-IsAntisymmetric x.node y.node parts.0 in
    let same_number = nat_cmp-IsAntisymmetric x.number y.number parts.1 in
    λ i. record { node = same_node i; number = same_number i }

-- a set of dots: a causal context (Almeida, Shoker, Baquero, on causal contexts)
abbrev pub Dots : Type 0
Dots = set.FinSet dot_cmp

-- the greatest number of the node among the dots, 0 where there is none
abbrev pub greatest_among : ℕ → List Dot → ℕ
greatest_among node [] = 0
greatest_among node (d ∷ ds) = if d.node == node then max d.number (greatest_among node ds) else greatest_among node ds

unfoldable pub greatest_of : Dots → ℕ → ℕ
greatest_of s node = greatest_among node (set.items s)

-- n is the greatest number of the node in the set
pub record IsGreatest (s : Dots) (node n : ℕ) : Type 0 where
  pub reached : (n ≡ 0) ⊎ (set.contains s (record { node = node; number = n }) ≡ true)
  pub above : (k : ℕ) → set.contains s (record { node = node; number = k }) ≡ true → k ≤ n
