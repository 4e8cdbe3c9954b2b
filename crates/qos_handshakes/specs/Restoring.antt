-- What is held while entries are put back.
use Rattle.std.specs.Prelude.{◌≡◌, ℕ, ◌≤◌, ◌^◌, Bool, true, List, length, slice_index, is_some}
use Rattle.std.specs.BTreeMap.{is_at}
use Rattle.std.specs.Map.{lookup}
use Rattle.std.specs.Ordering.{nat_cmp}
use Rattle.qos_handshakes.specs.Entries.{Entries}
use Rattle.qos_handshakes.specs.Outbox.{IsQueued, order_above}
use Rattle.qos_handshakes.specs.Restored.{agree, all_wait, first_place, has_order}

-- the entries that have been put back, and the next place
pub record Putting : Type 0 where
  pub entries : Entries
  pub next : ℕ

pub record IsPutting (es : Entries) (orders : List (ℕ × ℕ)) (first : ℕ) (waiting : Bool) (first_waiting next next_order : ℕ) : Type 0 where
  pub agreed : agree next es ≡ true
  pub first_is : first ≡ first_place next es
  pub waiting_is : waiting ≡ all_wait es
  pub queued : IsQueued first_waiting next es
  pub head : all_wait es ≡ true → first_waiting ≡ first_place next es
  pub orders_are : (order : ℕ) → is_some (lookup (is_at (nat_cmp order)) orders) ≡ has_order order es
  pub above : next_order ≡ order_above es
  pub least : 1 ≤ next_order
  pub most : next_order ≤ 2 ^ 62

-- a table with more free slots
pub record IsPadded (old new : List ℕ) : Type 0 where
  pub same : (i : ℕ) → slice_index new i ≡ slice_index old i
  pub longer : length old ≤ length new
