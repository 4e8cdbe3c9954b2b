-- What is done to a node's connections.
use Rattle.std.specs.Prelude.{◌≡◌, ℕ, true, false, Bool, is_some, List, [], ◌++◌, Option, Some, None, option_and_then, slice_get}
use Rattle.std.specs.Ordering.{nat_cmp}
use Rattle.std.specs.FinMap as map
use Rattle.mqtt_packets.specs.Stream.{Held, kept, cut}
use Rattle.node_work.specs.View.{ConnectionView, HeldView}

-- a connection is opened, takes a piece of its stream, is told before its CONNECT how many bytes of PUBLISHes it takes, is given its
-- client, or is closed
pub data ConnectionAct : Type 0 where
  Opened : (c : ℕ) → ConnectionAct
  Fed : (c : ℕ) (piece : List ℕ) → ConnectionAct
  Roomed : (c : ℕ) (bytes : ℕ) → ConnectionAct
  Accepted : (c : ℕ) (client : List ℕ) → ConnectionAct
  Closed : (c : ℕ) → ConnectionAct

abbrev pub ConnectionTable : Type 0
ConnectionTable = map.FinMap nat_cmp ConnectionView

-- the longest packet that a client may send, in bytes
abbrev pub longest_packet : ℕ
longest_packet = 1048576

-- a connection on which nothing has come
abbrev pub new_connection : ConnectionView
new_connection = record { stream = record { limit = longest_packet; rest = []; failed = false }; client = None; room = None }

-- the stream after a piece: what no packet took, of a packet at fault its first byte, and whether a fault came
-- (MQTT 5.0, 2.1)
abbrev pub fed : Held → List ℕ → Held
fed stream piece =
    let c = kept (cut stream.limit (stream.rest ++ piece)) in
    record { limit = stream.limit; rest = c.rest; failed = is_some c.fault }

-- a connection that is open becomes another
abbrev pub changed_at : (ConnectionView → ConnectionView) → ℕ → ConnectionTable → Option ConnectionView → ConnectionTable
changed_at f c m None = m
changed_at f c m (Some found) = map.insert m c (f found)

abbrev pub changed : (ConnectionView → ConnectionView) → ℕ → ConnectionTable → ConnectionTable
changed f c m = changed_at f c m (map.get m c)

-- with a piece taken in, with so much room, and with a client
abbrev pub with_piece : List ℕ → ConnectionView → ConnectionView
with_piece piece x = record x { stream = fed x.stream piece }

abbrev pub with_room : ℕ → ConnectionView → ConnectionView
with_room bytes x = record x { room = Some bytes }

abbrev pub with_client : List ℕ → ConnectionView → ConnectionView
with_client client x = record x { client = Some client }

-- ---- what is seen of a connection

abbrev pub is_open : ℕ → HeldView → Bool
is_open c h = is_some (map.get h.connections c)

-- its client, once that is accepted
abbrev pub client_at : ℕ → HeldView → Option (List ℕ)
client_at c h = option_and_then (λ x. x.client) (map.get h.connections c)

-- how many bytes of PUBLISHes it takes, where it was told before its CONNECT
abbrev pub room_at : ℕ → HeldView → Option ℕ
room_at c h = option_and_then (λ x. x.room) (map.get h.connections c)

-- the first byte of the packet that its stream is at
abbrev pub first_at : ℕ → HeldView → Option ℕ
first_at c h = option_and_then (λ x. slice_get x.stream.rest 0) (map.get h.connections c)

-- it is open, and waits for its CONNECT
abbrev pub IsWaiting : ℕ → HeldView → Type 0
IsWaiting c h = (is_open c h ≡ true) × (client_at c h ≡ None)

-- ---- where each may stand: a piece comes on an open connection, and room before its client
abbrev pub MayActOnConnection : HeldView → ConnectionAct → Type 0
MayActOnConnection h (Opened c) = Unit {0}
MayActOnConnection h (Fed c piece) = is_some (map.get h.connections c) ≡ true
MayActOnConnection h (Roomed c bytes) = IsWaiting c h
MayActOnConnection h (Accepted c client) = Unit {0}
MayActOnConnection h (Closed c) = Unit {0}

-- what it leaves
abbrev pub after_connection_act : HeldView → ConnectionAct → HeldView
after_connection_act h (Opened c) = record h { connections = map.insert h.connections c new_connection }
after_connection_act h (Fed c piece) = record h { connections = changed (with_piece piece) c h.connections }
after_connection_act h (Roomed c bytes) = record h { connections = changed (with_room bytes) c h.connections }
after_connection_act h (Accepted c client) = record h { connections = changed (with_client client) c h.connections }
after_connection_act h (Closed c) = record h { connections = map.remove h.connections c }
