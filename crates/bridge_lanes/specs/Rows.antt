-- The rows of the lanes of a node: one for each message that waits for another node, and one for the numbers of its lanes.
use Rattle.std.specs.Prelude.{ℕ, suc, ◌+◌, ◌==◌, ◌&&◌, List, [], ◌∷◌, ◌++◌, length, if◌then◌else◌}
use Rattle.std.specs.FinMap.{find}
use Rattle.std.specs.Int.{w16, w64}
use Rattle.mqtt_fields.specs.Numbers.{number}
use Rattle.bridge_lanes.specs.Lanes.{LaneView, Lanes}
use Rattle.row_store.specs.Leading.{Rows}
use Rattle.row_store.specs.Rows.{Key, Plain, key_cmp}
use Rattle.bridge_frames.specs.declared.forward.Forward.{Forward}
use Rattle.bridge_frames.specs.Forwards.{forward}

-- the lanes to and from one other node
abbrev pub Messages : Type 0
Messages = LaneView Forward

-- the number of the last message that was put in
abbrev pub last_put : Messages → ℕ
last_put l = l.gone + length l.waiting

-- the owner of the rows is the other node, in two bytes
abbrev pub owner : ℕ → List ℕ
owner peer = (number w16).bytes peer

-- kind 7: at a message's number, in eight bytes, what a frame has of it after the number
abbrev pub message_key : ℕ → ℕ → Key
message_key peer n = (7, (owner peer, (number w64).bytes n))

abbrev pub message_row : ℕ → ℕ → Forward → Plain
message_row peer n m = (message_key peer n, forward.bytes m)

-- of messages under the numbers from one on
abbrev pub message_rows : ℕ → ℕ → List Forward → List Plain
message_rows peer n [] = []
message_rows peer n (m ∷ ms) = message_row peer n m ∷ message_rows peer (suc n) ms

-- kind 8: the number of the last message that was put in, and of the last that was taken, in eight bytes each
abbrev pub numbers_key : ℕ → Key
numbers_key peer = (8, (owner peer, []))

abbrev pub numbers_value : ℕ → ℕ → List ℕ
numbers_value put took = (number w64).bytes put ++ (number w64).bytes took

-- two zeros have no row
abbrev pub numbers_rows : ℕ → ℕ → ℕ → List Plain
numbers_rows peer put took = if (put == 0) && (took == 0) then [] else (numbers_key peer, numbers_value put took) ∷ []

-- ---- all lanes
-- the messages that wait for a node, and the numbers of its lanes
abbrev pub waiting_of : ℕ → Messages → List Plain
waiting_of peer l = message_rows peer (suc l.gone) l.waiting

abbrev pub numbers_of : ℕ → Messages → List Plain
numbers_of peer l = numbers_rows peer (last_put l) l.took

-- of each of some nodes, by their numbers from one on
abbrev pub each : {A B : Type 0} → (ℕ → A → List B) → ℕ → List A → List B
each f peer [] = []
each f peer (x ∷ xs) = f peer x ++ each f (suc peer) xs

-- in the order of their keys
abbrev pub rows_of : Lanes Forward → List Plain
rows_of lanes = each waiting_of 0 lanes ++ each numbers_of 0 lanes

-- the row at a key, if there is one
abbrev pub row_at : Lanes Forward → Rows
row_at lanes key = find key_cmp key (rows_of lanes)
