-- Which rows lanes have, and which changes of them are told.
use Rattle.std.specs.Prelude.{◌≡◌, ◌≢◌, ◌⊎◌, ◌↔◌, ◌≤◌, ◌^◌, ℕ, List, Some, map}
use Rattle.bridge_lanes.specs.Lanes.{Lanes, Waits, lane_of}
use Rattle.bridge_frames.specs.declared.forward.Forward.{Forward}
use Rattle.bridge_frames.specs.Forwards.{forward}
use Rattle.row_store.specs.Gathered.{AreOnce}
use Rattle.row_store.specs.Leading.{AllDiffer, LeadWithin}
use Rattle.row_store.specs.declared.row.Change.{Change}
use Rattle.row_store.specs.Rows.{Key}
use Rattle.bridge_lanes.specs.Rows.{last_put, message_key, numbers_key, numbers_value, row_at}
use Rattle.bridge_lanes.specs.Changes.{AreLaneChanges, is_lane_kind, left_of}
use Rattle.bridge_lanes.specs.Reading.{AreLanes}

-- ---- rows

-- kind 7: a row for each message that waits for another node, at that node and the message's number
pub record IsWaitingRow (lanes : Lanes Forward) (key : Key) (value : List ℕ) : Type 0 where
  pub peer : ℕ
  pub number : ℕ
  pub message : Forward
  pub waits : Waits (lane_of lanes peer) number message
  pub at : key ≡ message_key peer number
  pub is : value ≡ forward.bytes message

-- kind 8: a row for the numbers of the lanes to and from another node, unless both are 0
pub record IsNumbersRow (lanes : Lanes Forward) (key : Key) (value : List ℕ) : Type 0 where
  pub peer : ℕ
  pub some : (last_put (lane_of lanes peer) ≢ 0) ⊎ ((lane_of lanes peer).took ≢ 0)
  pub at : key ≡ numbers_key peer
  pub is : value ≡ numbers_value (last_put (lane_of lanes peer)) (lane_of lanes peer).took

abbrev pub IsLaneRow : Lanes Forward → Key → List ℕ → Type 0
IsLaneRow lanes key value = IsWaitingRow lanes key value ⊎ IsNumbersRow lanes key value

-- lanes have these rows and no others
abbrev pub RowsAreOfLanes : Type 0
RowsAreOfLanes = (nodes : ℕ) (lanes : Lanes Forward) → nodes ≤ 2 ^ 16 → AreLanes nodes lanes → (key : Key) (value : List ℕ) → (row_at lanes key ≡ Some value) ↔ IsLaneRow lanes key value

-- ---- changes

-- they lead from the rows of the old lanes to those of the new, name each key once, in the order of the keys, and none at which the rows are the same
pub record LeadOnce (old new : Lanes Forward) (changes : List Change) : Type 0 where
  pub lead : LeadWithin is_lane_kind (row_at old) (row_at new) changes
  pub once : AreOnce changes
  pub differ : AllDiffer (row_at old) (row_at new) changes

-- this says just that they are those of the keys at which the rows differ
abbrev pub ChangesAreThose : Type 0
ChangesAreThose = (old new : Lanes Forward) (changes : List Change) → LeadOnce old new changes ↔ AreLaneChanges old new changes

-- and there is one list of these at most
abbrev pub ChangesAreOneList : Type 0
ChangesAreOneList = (old new : Lanes Forward) (these those : List Change) → AreLaneChanges old new these → AreLaneChanges old new those → map left_of these ≡ map left_of those
