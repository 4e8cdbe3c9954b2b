-- Rows of lanes as they are read.
use Rattle.std.specs.Prelude.{◌≡◌, ◌≢◌, ◌<◌, ◌≤◌, ◌^◌, ℕ, List, [], ◌∷◌, length, Result, Ok, Err}
use Rattle.std.specs.List.{AllByRecursion}
use Rattle.bridge_lanes.specs.Lanes.{Lanes}
use Rattle.bridge_frames.specs.declared.forward.Forward.{Forward}
use Rattle.bridge_frames.specs.Forwards.{forward}
use Rattle.bridge_lanes.specs.declared.reading.ReadLane.{ReadLane}
use Rattle.row_store.specs.Rows.{Plain}
use Rattle.bridge_lanes.specs.Rows.{Messages, last_put, message_row, message_rows, numbers_rows, waiting_of, numbers_of, owner, each, rows_of}

-- what can be: at most 65,536 messages wait, each has a spelling, and all numbers are below 2^62
pub record IsLane (l : Messages) : Type 0 where
  pub few : length l.waiting ≤ 65536
  pub below : last_put l < 2 ^ 62
  pub took : l.took < 2 ^ 62
  pub spelled : AllByRecursion forward.Fits l.waiting

-- the lanes of a node in a cluster of so many
pub record AreLanes (nodes : ℕ) (lanes : Lanes Forward) : Type 0 where
  pub count : length lanes ≡ nodes
  pub sound : AllByRecursion IsLane lanes

abbrev pub lane_in : ReadLane → Messages
lane_in r = record { gone = r.gone; waiting = r.messages.items; took = r.took }

-- the row is that of the message under the number
abbrev pub IsMessage : ℕ → ℕ → Plain → Forward → Type 0
IsMessage peer n row m = (row ≡ message_row peer n m) × forward.Fits m

-- and these are those of messages from the number on
abbrev pub AreMessages : ℕ → ℕ → List Plain → List Forward → Type 0
AreMessages peer n rows ms = (rows ≡ message_rows peer n ms) × AllByRecursion forward.Fits ms

abbrev pub AreNumbers : ℕ → List Plain → ℕ × ℕ → Type 0
AreNumbers peer rows x = (rows ≡ numbers_rows peer x.0 x.1) × (x.0 < 2 ^ 64) × (x.1 < 2 ^ 64)

-- the rows of the messages that wait for the node, and of its numbers
pub record IsLaneOf (peer : ℕ) (messages own : List Plain) (l : Messages) : Type 0 where
  pub sound : IsLane l
  pub waiting : messages ≡ waiting_of peer l
  pub numbers : own ≡ numbers_of peer l

-- the rows of the lanes of a node in a cluster of so many
pub record AreLanesOf (nodes : ℕ) (rows : List Plain) (lanes : Lanes Forward) : Type 0 where
  pub lanes_are : AreLanes nodes lanes
  pub is : rows ≡ rows_of lanes

-- ---- cuts
-- the first row, if there is one, is none of these
abbrev pub StartsApart : (Plain → Type 0) → List Plain → Type 0
StartsApart P [] = Unit {0}
StartsApart P (e ∷ es) = P e → ⊥

abbrev pub IsMessageRow : Plain → Type 0
IsMessageRow e = e.0.0 ≡ 7

abbrev pub IsPeers : ℕ → Plain → Type 0
IsPeers peer e = e.0.1.0 ≡ owner peer

-- the rows of messages, and those of numbers
pub record AreParts (nodes : ℕ) (messages numbers : List Plain) (lanes : Lanes Forward) : Type 0 where
  pub lanes_are : AreLanes nodes lanes
  pub waiting : messages ≡ each waiting_of 0 lanes
  pub last : numbers ≡ each numbers_of 0 lanes
