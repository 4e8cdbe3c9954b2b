-- Events that bring a node nothing to do. They take no memory.
use Rattle.std.specs.Prelude.{◌≡◌, ℕ, ◌<◌, ◌^◌, ◌⊎◌, max, Bool, true, false, [], Some, None, Result, Ok}
use Rattle.subscription_set.specs.Standing.{any_of}
use Rattle.session_table.specs.Seats.{run_outs, wills_due, ends_due, connected}
use Rattle.node_work.specs.declared.fault.NodeFault.{NodeFault}
use Rattle.node_work.specs.declared.outcome.Outcome.{Outcome}
use Rattle.node_work.specs.Frames.{is_other}
use Rattle.node_work.specs.Held.Connections.{client_at, is_open}
use Rattle.node_work.specs.View.{Place, HeldView, WorkView, NodeView}
use Rattle.broker_node.specs.declared.event.Event.{Event}
use Rattle.broker_node.specs.declared.event.EventKind.{EventKind}
use Rattle.broker_node.specs.declared.event.EventKind.TheVariants as kinds
use Rattle.broker_node.specs.Moving.{AreAway}

-- no Keep Alive has run out, and no will and no end is due
pub record NothingDue (h : HeldView) : Type 0 where
  pub connections : run_outs h.sessions h.at ≡ []
  pub wills : wills_due h.sessions h.at ≡ []
  pub ends : ends_due h.sessions h.at ≡ []

-- the event itself asks for nothing of a node that has started: a connection that is open already or isn't open, or has no client that
-- is told its room, a peer that is no other node of the cluster, a client of whom nothing stands
abbrev pub AsksNothing : Place → HeldView → EventKind → Type 0
AsksNothing p h kinds.Started = Unit {0}
AsksNothing p h (kinds.Opened connection) = is_open connection h ≡ true
AsksNothing p h (kinds.Piece connection bytes) = is_open connection h ≡ false
AsksNothing p h (kinds.Room connection bytes) = client_at connection h ≡ None
AsksNothing p h (kinds.Closed connection) = is_open connection h ≡ false
AsksNothing p h (kinds.Frame bytes) = ⊥
AsksNothing p h (kinds.Linked peer) = is_other p peer ≡ false
AsksNothing p h (kinds.Ship peer) = is_other p peer ≡ false
AsksNothing p h (kinds.More peer after) = is_other p peer ≡ false
AsksNothing p h kinds.Tick = Unit {0}
AsksNothing p h (kinds.Evict client) = any_of client None h.store.subscriptions ≡ false
AsksNothing p h (kinds.Table homes) = ⊥

-- before a node has started, Started where no stored session was connected, nothing is due and no client's home is elsewhere, and any
-- other event
abbrev pub WaitsFor : Place → HeldView → EventKind → Type 0
WaitsFor p h kinds.Started = (connected h.sessions ≡ []) × NothingDue h × AreAway p h []
WaitsFor p h kind = Unit {0}

-- afterwards a second Started, and where nothing is due what asks for nothing
abbrev pub GoesIdle : Place → HeldView → EventKind → Type 0
GoesIdle p h kinds.Started = Unit {0}
GoesIdle p h kind = NothingDue h × AsksNothing p h kind

abbrev pub IsIdleAt : Place → HeldView → EventKind → Type 0
IsIdleAt p h kind = ((h.started ≡ false) × WaitsFor p h kind) ⊎ ((h.started ≡ true) × GoesIdle p h kind)

-- at the node's moment, once it took the event's
abbrev pub IsIdle : Place → HeldView → Event → Type 0
IsIdle p h e = IsIdleAt p (record h { at = max h.at e.at }) e.kind

-- nothing is given out, no row changes, and nothing fails
abbrev pub Rests : Result Outcome NodeFault → Type 0
Rests result = (o : Outcome) × (result ≡ Ok o) × (o.outputs.items ≡ []) × (o.changes.items ≡ [])

-- at a moment below the end
abbrev pub RestsWhereIdle : NodeView → Event → Result Outcome NodeFault → Type 0
RestsWhereIdle n e result = (h : HeldView) → n.up ≡ Some h → e.at < 2 ^ 62 → IsIdle n.place h e → Rests result

-- the same of the work on an event
abbrev pub Keeps : Result (Unit {0}) NodeFault → WorkView → WorkView → Type 0
Keeps result w w' = (result ≡ Ok tt) × (w'.outputs ≡ w.outputs) × (w'.changes ≡ w.changes)
