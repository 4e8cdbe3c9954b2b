-- What sockets tell a node, as the node's events.
use Rattle.std.specs.Prelude.{ℕ}
use Rattle.home_table.specs.Table.{Table}
use Rattle.broker_node.specs.declared.event.Event.{Event}
use Rattle.broker_node.specs.declared.event.EventKind.{EventKind}
use Rattle.broker_node.specs.declared.event.EventKind.TheVariants as kinds
use Rattle.broker_sockets.specs.declared.bridge.PeerEvent.{PeerEvent}
use Rattle.broker_sockets.specs.declared.bridge.PeerEventKind.{PeerEventKind}
use Rattle.broker_sockets.specs.declared.bridge.PeerEventKind.TheVariants as peers
use Rattle.broker_sockets.specs.declared.events.Event.{Event as Told}
use Rattle.broker_sockets.specs.declared.events.EventKind.{EventKind as ToldKind}
use Rattle.broker_sockets.specs.declared.events.EventKind.TheVariants as told

abbrev pub kind_of : ToldKind → EventKind
kind_of told.Started = kinds.Started
kind_of (told.Opened connection) = kinds.Opened connection
kind_of (told.Piece connection bytes) = kinds.Piece connection bytes.items
kind_of (told.Room connection bytes) = kinds.Room connection bytes
kind_of (told.Closed connection) = kinds.Closed connection
kind_of told.Tick = kinds.Tick

-- the same thing, at the same moment
abbrev pub event_of : Told → Event
event_of e = record { at = e.at; kind = kind_of e.kind }

abbrev pub peer_kind_of : PeerEventKind → EventKind
peer_kind_of (peers.Linked peer) = kinds.Linked peer
peer_kind_of (peers.Frame bytes) = kinds.Frame bytes.items
peer_kind_of (peers.Ship peer) = kinds.Ship peer
peer_kind_of (peers.More peer after) = kinds.More peer after

abbrev pub peer_event_of : PeerEvent → Event
peer_event_of e = record { at = e.at; kind = peer_kind_of e.kind }

-- a table of homes that it is given at a moment
abbrev pub table_event : ℕ → Table → Event
table_event at homes = record { at = at; kind = kinds.Table homes }
