-- Why the session of a client is over (MQTT 5.0, 3.1.2.4, 3.1.2.11.2 and 4.11).
use Rattle.std.specs.Prelude.{◌≡◌, ◌⊎◌, ℕ, true, false, List, [], ◌∷◌, ◌++◌, Some}
use Rattle.std.specs.FinMap as map
use Rattle.home_table.specs.Table.{Table}
use Rattle.mqtt_packets.specs.declared.connect.Connect.{Connect}
use Rattle.mqtt_packets.specs.declared.packet.Packet.TheVariants as packets
use Rattle.law_sessions.specs.Runs.{finishes, ticks}
use Rattle.session_table.specs.Seats.{IsElsewhere}
use Rattle.node_work.specs.Acts.{Act, Session, Runs}
use Rattle.node_work.specs.Held.Feeding.{cut_of}
use Rattle.node_work.specs.Held.Sessions.{SessionStep, Called, Over, end_is_due}
use Rattle.node_work.specs.View.{Place, HeldView, ConnectionView}
use Rattle.broker_node.specs.declared.event.Event.{Event}
use Rattle.broker_node.specs.declared.event.EventKind.TheVariants as kinds
use Rattle.broker_node.specs.Turns.{Decides}
use Rattle.law_runs.specs.StepSending.{IsIn}
use Rattle.law_steps.specs.Due.{DueFirst}

-- bytes have come on a connection that is open once what is due is done, and make whole a CONNECT of that client with Clean Start
pub record ComesClean (e : Event) (p : Place) (h : HeldView) (acts : List Act) (client : List ℕ) : Type 0 where
  pub connection : ℕ
  pub bytes : List ℕ
  pub kind : e.kind ≡ kinds.Piece connection bytes
  pub first : DueFirst p h e.at acts
  pub found : ConnectionView
  pub there : map.get first.held.connections connection ≡ Some found
  pub connect : Connect
  pub among : IsIn (packets.Connect connect) (cut_of found.stream bytes).packets
  pub clean : connect.clean_start ≡ true
  pub own : connect.client ≡ client

-- the client's home is at another node, by the table of homes with which the node starts, or by the one that it is handed
abbrev pub GoesElsewhere : Event → Place → HeldView → List ℕ → Type 0
GoesElsewhere e p h client =
    ((e.kind ≡ kinds.Started) × (h.started ≡ false) × IsElsewhere h.homes p.id client) ⊎ ((homes : Table) × (e.kind ≡ kinds.Table homes) × IsElsewhere homes p.id client)

abbrev pub MayEndNow : Event → Place → HeldView → List Act → List ℕ → Type 0
MayEndNow e p h acts client = ComesClean e p h acts client ⊎ GoesElsewhere e p h client

-- a call of the session before that, in the same step, by which it is over: its end has come at the node's moment; or it ends at once, for one of
-- these reasons
pub record EndsForReason (e : Event) (p : Place) (h : HeldView) (acts before : List Act) (client : List ℕ) : Type 0 where
  pub earlier : List Act
  pub call : SessionStep
  pub later : List Act
  pub is : before ≡ earlier ++ Session (Called call) ∷ later
  pub of : call.client ≡ client
  pub over : call.reaction.over ≡ true
  pub held : HeldView
  pub runs : Runs p h earlier held
  pub why : ((call.event ≡ ticks held.at) × (end_is_due client held ≡ true)) ⊎ ((call.event ≡ finishes held.at) × MayEndNow e p h acts client)

-- in every step
abbrev pub SessionsEndForReasons : Type 0
SessionsEndForReasons =
    (e : Event) (p : Place) (h : HeldView) (acts : List Act) → Decides e (Some tt) p h acts
    → (before after : List Act) (client : List ℕ) → acts ≡ before ++ Session (Over client) ∷ after → EndsForReason e p h acts before client
