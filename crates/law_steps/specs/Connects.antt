-- What a CONNECT comes to, and nothing else (MQTT 5.0, 3.1.2.4, 3.1.4 and 3.2). How it is refused, and whether it is, says law_runs.
use Rattle.std.specs.Prelude.{◌≡◌, ◌⊎◌, ℕ, Bool, true, false, cond, is_some, List, [], ◌∷◌, ◌++◌, Option, Some, None}
use Rattle.mqtt_packets.specs.declared.connect.Connect.{Connect}
use Rattle.mqtt_packets.specs.declared.packet.Packet.{Packet}
use Rattle.mqtt_packets.specs.declared.packet.Packet.TheVariants as packets
use Rattle.mqtt_packets.specs.Written.{written}
use Rattle.mqtt_sessions.specs.Answers.{disconnect}
use Rattle.law_sessions.specs.Runs.{connects, finishes}
use Rattle.node_work.specs.declared.outcome.Output.TheVariants.{Send, Close}
use Rattle.node_work.specs.Acts.{Act, Connection, Session, Out, Runs, next}
use Rattle.node_work.specs.Held.Connections.{Accepted, Closed, room_at}
use Rattle.node_work.specs.Held.Sessions.{SessionStep, Begun, Called, connection_at, has_session, takes_disconnect}
use Rattle.node_work.specs.View.{Place, HeldView}
use Rattle.law_runs.specs.Connects.{IsKnownAs, IsRefusedBy, IsRefusedFor, IsWelcome}
use Rattle.law_steps.specs.Ending.{ClosesOn, OwnIsDone}

-- an older connection of the client gets DISCONNECT 0x8E, unless that is longer than the client takes, and is closed
abbrev pub TakesOverAlone : Place → HeldView → List ℕ → Option ℕ → List Act → Type 0
TakesOverAlone p h client None acts = acts ≡ []
TakesOverAlone p h client (Some older) acts =
    (rest : List Act) × (acts ≡ cond (takes_disconnect client 142 h) (Out (Send older (written (disconnect 142))) ∷ []) [] ++ rest) × ClosesOn p h older client rest

-- Clean Start ends the session that there is
abbrev pub CleansAlone : Bool → Place → HeldView → List ℕ → List Act → Type 0
CleansAlone false p h client acts = acts ≡ []
CleansAlone true p h client acts = OwnIsDone finishes p h client acts

-- the connection has its client, whose session is called on it, after it began where there was none; and the connection is closed where it says so
pub record BeginsAlone (p : Place) (h : HeldView) (c : ℕ) (client : List ℕ) (q : Connect) (acts : List Act) : Type 0 where
  pub call : SessionStep
  pub own : List Act
  pub rest : List Act
  pub is : acts ≡ Connection (Accepted c client) ∷ (own ++ rest)
  pub joins : own ≡ cond (has_session client (next h (Connection (Accepted c client)))) [] (Session (Begun client) ∷ []) ++ Session (Called call) ∷ []
  pub of : call.client ≡ client
  pub on : call.on ≡ Some c
  pub event : call.event ≡ connects q (has_session client (next h (Connection (Accepted c client)))) (room_at c (next h (Connection (Accepted c client)))) h.at
  pub left : HeldView
  pub leaves : Runs p (next h (Connection (Accepted c client))) own left
  pub closes : cond (is_some call.reaction.end) (ClosesOn p left c client rest) (rest ≡ [])

-- in this order: the client is named, where it brought no identifier; an older connection of it ends; and with Clean Start its session
pub record AcceptsAlone (p : Place) (h : HeldView) (c : ℕ) (q : Connect) (acts : List Act) : Type 0 where
  pub client : List ℕ
  pub named : List Act
  pub over : List Act
  pub clean : List Act
  pub rest : List Act
  pub is : acts ≡ named ++ (over ++ (clean ++ rest))
  pub known : IsKnownAs p h q client named
  pub mid : HeldView
  pub runs : Runs p h named mid
  pub takes_over : TakesOverAlone p mid client (connection_at client mid) over
  pub mid2 : HeldView
  pub runs2 : Runs p mid over mid2
  pub cleans : CleansAlone q.clean_start p mid2 client clean
  pub mid3 : HeldView
  pub runs3 : Runs p mid2 clean mid3
  pub begins : BeginsAlone p mid3 c client q rest

abbrev pub ConnectsAlone : Place → HeldView → ℕ → Connect → List Act → Type 0
ConnectsAlone p h c q acts =
    ((code : ℕ) × (reference : Option (List ℕ)) × IsRefusedFor p h q code reference × IsRefusedBy c q code reference acts) ⊎ (IsWelcome p h q × AcceptsAlone p h c q acts)

-- another first packet closes its connection
abbrev pub FirstAlone : Place → HeldView → ℕ → Packet → List Act → Type 0
FirstAlone p h c (packets.Connect q) acts = ConnectsAlone p h c q acts
FirstAlone p h c k acts = acts ≡ Connection (Closed c) ∷ Out (Close c) ∷ []
