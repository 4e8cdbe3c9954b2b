-- The rows of a node: its mark, those of its sessions, those of its replicated state, and those of its lanes.
use Rattle.std.specs.Prelude.{◌==◌, ℕ, List, [], ◌∷◌, ◌++◌, Option, Some, None, if◌then◌else◌}
use Rattle.std.specs.FinMap as map
use Rattle.std.specs.Int.{w16, w64}
use Rattle.bridge_frames.specs.declared.forward.Forward.{Forward}
use Rattle.bridge_lanes.specs.Changes.{is_lane_kind}
use Rattle.bridge_lanes.specs.Rows as lane_rows
use Rattle.bridge_lanes.specs.Lanes.{Lanes, new_lanes}
use Rattle.mqtt_fields.specs.Field.{Field, after}
use Rattle.mqtt_fields.specs.Numbers.{number}
use Rattle.replica_store.specs.States.{State, nothing}
use Rattle.row_store.specs.Leading.{Rows}
use Rattle.row_store.specs.Rows.{Key, key_cmp}
use Rattle.session_rows.specs.Durable.{Durable}
use Rattle.session_rows.specs.Rows.{rows_of}
use Rattle.session_table.specs.Rows.{is_session_kind}
use Rattle.replica_rows.specs.Rows.{row_at}

-- what of a node outlives its run: the number of the last client identifier that it gave, what lasts of the session of each
-- client that has one, the replicated state, and the lanes to and from the other nodes
pub record Lasting : Type 0 where
  pub named : ℕ
  pub sessions : List ℕ → Option Durable
  pub store : State
  pub lanes : Lanes Forward

-- a node that has done nothing yet, in a cluster of so many
abbrev pub new_node : ℕ → Lasting
new_node nodes = record { named = 0; sessions = λ _. None; store = nothing; lanes = new_lanes nodes }

-- kind 1, without owner and place: the version of the rows, which is 3, the node, and the last identifier's number
abbrev pub mark : ℕ → ℕ → List ℕ
mark id named = (number w16).bytes 3 ++ (number w16).bytes id ++ (number w64).bytes named

-- the version, the node and the number in a mark
abbrev pub marked : Field (ℕ × (ℕ × ℕ))
marked = after (number w16) (λ _. after (number w16) (λ _. number w64))

abbrev pub mark_key : Key
mark_key = (1, ([], []))

abbrev pub mark_at : List ℕ → List ℕ → List ℕ → Option (List ℕ)
mark_at value [] [] = Some value
mark_at value [] (b ∷ place) = None
mark_at value (b ∷ owner) place = None

-- kinds 2 and 3: the session of the owner
abbrev pub session_row : Option Durable → Rows
session_row None key = None
session_row (Some d) key = map.get {R = key_cmp} (map.from_entries (rows_of d)) key

-- the row at a key, if there is one; kinds 4 to 6 are those of the state, and 7 and 8 those of the lanes
abbrev pub node_row : ℕ → Lasting → Rows
node_row id x key =
    if key.0 == 1 then mark_at (mark id x.named) key.1.0 key.1.1
    else if is_session_kind key.0 then session_row (x.sessions key.1.0) key
    else if is_lane_kind key.0 then lane_rows.row_at x.lanes key
    else row_at x.store key
