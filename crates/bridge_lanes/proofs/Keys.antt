-- The keys of the rows of lanes.
use Rattle.std.proofs.Common.{◌≡◌, ◌≢◌, ℕ, ◌<◌, ◌^◌, Less, refl, sym, ap, ◌∙◌, arith}
use Rattle.std.specs.Cmp.{nat_cmp_total, tied_itself}
use Rattle.std.specs.Cmp.Lexicographic.{nat_list_cmp_total, slice_cmp}
use Rattle.std.specs.Ordering.{nat_cmp, ordering_then}
use Rattle.std.specs.Int.{w16, w64}
use Rattle.mqtt_fields.specs.Numbers.{number}
use Rattle.mqtt_fields.proofs.NumberLaws.{number_is, wide16, wide64}
use Rattle.row_store.specs.Rows.{Key, key_cmp}
use Rattle.bridge_lanes.specs.Rows.{owner, message_key, numbers_key}
use Rattle.bridge_lanes.proofs.Numbers.{bytes_rise, short_rise}
use Rattle.mqtt_fields.proofs.Whole.{one_value}

pub one_owner : (p q : ℕ) → p < 2 ^ 16 → q < 2 ^ 16 → owner p ≡ owner q → p ≡ q
one_owner p q small few e = one_value (number w16) (number_is w16 wide16) p q (omega (arith, small)) (omega (arith, few)) e

pub one_place : (n m : ℕ) → n < 2 ^ 64 → m < 2 ^ 64 → (number w64).bytes n ≡ (number w64).bytes m → n ≡ m
one_place n m small few e = one_value (number w64) (number_is w64 wide64) n m (omega (arith, small)) (omega (arith, few)) e

-- ---- the order of keys
pub later_place : (peer n m : ℕ) → n < m → m < 2 ^ 64 → key_cmp (message_key peer n) (message_key peer m) ≡ Less
later_place peer n m low small = rw (tied_itself nat_list_cmp_total (owner peer)) (bytes_rise n m low small)

pub later_owner : (kind p q : ℕ) (a b : Key) → a.0 ≡ kind → b.0 ≡ kind → a.1.0 ≡ owner p → b.1.0 ≡ owner q → p < q → q < 2 ^ 16 → key_cmp a b ≡ Less
later_owner kind p q a b one other of_p of_q low small = rw (one, other, of_p, of_q, short_rise p q low small) kinds_tie
  where
    kinds_tie : ordering_then (nat_cmp kind kind) Less ≡ Less
    kinds_tie = ap (λ o. ordering_then o Less) (tied_itself nat_cmp_total kind)

pub later_kind : (a b : Key) → a.0 ≡ 7 → b.0 ≡ 8 → key_cmp a b ≡ Less
later_kind a b one other = rw (one, other) refl
