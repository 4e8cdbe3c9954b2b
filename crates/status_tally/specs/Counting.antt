-- What is counted of events and of what is given out.
use Rattle.std.specs.Prelude.{ℕ, ◌+◌, ◌-◌, ◌^◌, min, List, [], ◌∷◌, length}
use Rattle.broker_sockets.specs.declared.bridge.PeerEventKind.{PeerEventKind}
use Rattle.broker_sockets.specs.declared.bridge.PeerEventKind.TheVariants.{Linked, Frame, More, Ship}
use Rattle.broker_sockets.specs.declared.bridge.PeerFrame.{PeerFrame}
use Rattle.broker_sockets.specs.declared.events.EventKind.{EventKind}
use Rattle.broker_sockets.specs.declared.events.EventKind.TheVariants.{Started, Opened, Piece, Room, Closed, Tick}
use Rattle.broker_sockets.specs.declared.events.Output.{Output}
use Rattle.broker_sockets.specs.declared.events.Output.TheVariants.{Send, Close}
use Rattle.status_figures.specs.declared.traffic.Traffic.{Traffic}

-- so many more, up to the greatest number that there is
abbrev pub more : ℕ → ℕ → ℕ
more by count = min (count + by) (2 ^ 64 - 1)

abbrev pub with_event : EventKind → Traffic → Traffic
with_event Started t = t
with_event (Opened connection) t = record t { opened = more 1 t.opened }
with_event (Piece connection bytes) t = record t { bytes_received = more (length bytes.items) t.bytes_received }
with_event (Room connection bytes) t = t
with_event (Closed connection) t = t
with_event Tick t = t

abbrev pub with_peer_event : PeerEventKind → Traffic → Traffic
with_peer_event (Linked peer) t = t
with_peer_event (Frame bytes) t = record t {
  frames_received = more 1 t.frames_received;
  frame_bytes_received = more (length bytes.items) t.frame_bytes_received;
}
with_peer_event (Ship peer) t = t
with_peer_event (More peer after) t = t

abbrev pub with_output : Output → Traffic → Traffic
with_output (Send connection bytes) t = record t {
  packets_sent = more 1 t.packets_sent;
  bytes_sent = more (length bytes.items) t.bytes_sent;
}
with_output (Close connection) t = t

abbrev pub with_outputs : List Output → Traffic → Traffic
with_outputs [] t = t
with_outputs (output ∷ outputs) t = with_outputs outputs (with_output output t)

abbrev pub with_frame : PeerFrame → Traffic → Traffic
with_frame frame t = record t {
  frames_sent = more 1 t.frames_sent;
  frame_bytes_sent = more (length frame.bytes.items) t.frame_bytes_sent;
}

abbrev pub with_frames : List PeerFrame → Traffic → Traffic
with_frames [] t = t
with_frames (frame ∷ frames) t = with_frames frames (with_frame frame t)

-- how many connections of clients are open after an event
abbrev pub open_after : EventKind → ℕ → ℕ
open_after Started count = count
open_after (Opened connection) count = more 1 count
open_after (Piece connection bytes) count = count
open_after (Room connection bytes) count = count
open_after (Closed connection) count = count - 1
open_after Tick count = count

-- and after outputs
abbrev pub open_with : List Output → ℕ → ℕ
open_with [] count = count
open_with (Send connection bytes ∷ outputs) count = open_with outputs count
open_with (Close connection ∷ outputs) count = open_with outputs (count - 1)
