-- What a PUBACK or a PUBREC tells in a run (MQTT 5.0, 4.3.2 and 4.3.3).
use Rattle.std.specs.Prelude.{◌≡◌, ◌⊎◌, ℕ, Bool, true, false, List, [], ◌∷◌, ◌++◌, unwrap_or}
use Rattle.causal_context.specs.Dots.{Dot}
use Rattle.mqtt_fields.specs.declared.options.Qos.{Qos}
use Rattle.mqtt_fields.specs.declared.options.Qos.TheVariants.{AtLeastOnce, ExactlyOnce}
use Rattle.mqtt_fields.specs.Properties.{first_two}
use Rattle.mqtt_packets.specs.declared.packet.Packet.TheVariants as packets
use Rattle.mqtt_packets.specs.declared.publish.Publish.{Publish}
use Rattle.mqtt_message.specs.Accepted.{accepted}
use Rattle.mqtt_message.specs.declared.message.Message.{Message}
use Rattle.replica_store.specs.declared.operation.Operation.TheVariants.{Put}
use Rattle.replica_store.specs.Stamps.{Stamp}
use Rattle.mqtt_sessions.specs.Answers.{puback, pubrec}
use Rattle.law_sessions.specs.Aliases.{Topics, topic_under, topics_told}
use Rattle.law_sessions.specs.Arrivals.{is_open_after}
use Rattle.law_sessions.specs.Runs.{Step, connected_after, takes}
use Rattle.law_nodes.specs.Lives.{life, step_in}
use Rattle.node_work.specs.Acts.{Act, Session}
use Rattle.node_work.specs.Held.Sessions.{SessionStep, Called}
use Rattle.node_work.specs.Passing.{content_given}
use Rattle.node_work.specs.View.{HeldView}
use Rattle.law_runs.specs.StepPublishing.{AnswersWith, BeginsWithPassingOn}
use Rattle.cluster_play.specs.Worlds.{World}
use Rattle.cluster_play.specs.Runs.{Played}
use Rattle.cluster_play.specs.Histories.{Reached, site, moves_amid}
use Rattle.cluster_play.specs.Agreement.{HoldsAmid}
use Rattle.law_runs.specs.Staying.{CallsSession, StaysMade}

-- a call takes a PUBLISH of this QoS and identifier, at its moment
pub record TakesPublish (qos : Qos) (id : ℕ) (s : SessionStep) : Type 0 where
  pub publish : Publish
  pub room : Bool
  pub event : s.event ≡ takes (packets.Publish publish) s.at room
  pub qos_is : publish.qos ≡ qos
  pub identifier : publish.identifier ≡ id

-- the PUBLISH, where its topic is empty under the one that its alias stands for
abbrev pub with_topic_told : Topics → Publish → Publish
with_topic_told told p = record p { topic = unwrap_or (topic_under told p.topic (first_two 35 p.properties)) [] }

-- the message of the PUBLISH, by its client at that moment, after these events of the client's session
abbrev pub message_after : {qos : Qos} {id : ℕ} {s : SessionStep} → List Step → TakesPublish qos id s → Message
message_after {s = s} steps t = accepted (with_topic_told (topics_told steps) t.publish) s.client s.at

-- the events of the client's session since it last began, before a call of it
abbrev pub events_before : (run : List Played) (m : Played) (before : List Act) → CallsSession m before → List Step
events_before run m before c = life c.step.client (moves_amid (site m.fate) run before) []

-- directly after the call the topic is given the message, or with an empty payload none, and that stays
pub record PutStays (run later : List Played) (m : Played) (w : World) (before : List Act) (c : CallsSession m before) (x : Message) : Type 0 where
  pub dot : Dot
  pub stamp : Stamp
  pub made : StaysMade run later m w (Put dot stamp (content_given x))
  pub follows : made.first ≡ before ++ Session (Called c.step) ∷ []

-- a message is passed on directly after the call: with RETAIN its Put stays, and unless its deadline has passed its copies join their
-- sessions, and what goes to other nodes joins the lanes that the node has then
pub record IsPassedOn (run later : List Played) (m : Played) (w : World) (before : List Act) (c : CallsSession m before) (x : Message) : Type 0 where
  pub world : World
  pub reached : Reached run world
  pub held : HeldView
  pub there : HoldsAmid world m (site m.fate) before held
  pub passes : BeginsWithPassingOn x c.step.at held.bridge c.after
  pub put : x.retain ≡ true → PutStays run later m w before c x

-- the message of the PUBLISH that PUBACK 0x00 answers is passed on in the step that gives the PUBACK out
abbrev pub PubackStaysTrue : Type 0
PubackStaysTrue =
    (run later : List Played) (m : Played) (w : World) → Reached (run ++ m ∷ later) w
    → (before : List Act) (c : CallsSession m before) (id : ℕ) → AnswersWith (puback id 0) c.step.reaction.packets
    → (t : TakesPublish AtLeastOnce id c.step) × IsPassedOn run later m w before c (message_after (events_before run m before c) t)

-- ---- an exchange that is open

-- whether the connection is open after events with their reactions
abbrev pub connected_over : Bool → List Step → Bool
connected_over on [] = on
connected_over on (s ∷ ss) = connected_over (connected_after on s.event s.reaction) ss

-- an open exchange stays open: no PUBREL for it comes
abbrev pub StaysOpen : Bool → ℕ → List Step → Type 0
StaysOpen on id [] = Unit {0}
StaysOpen on id (s ∷ ss) = (is_open_after on id true s.event s.reaction ≡ true) × StaysOpen (connected_after on s.event s.reaction) id ss

-- An earlier call of the client's session, in this step or an earlier one of its node, opened the exchange, and the message of that
-- PUBLISH is passed on directly after it. By the calls of the session since it last began, the exchange has been open from then on.
pub record WasPassedOn (run later : List Played) (m : Played) (w : World) (before : List Act) (c : CallsSession m before) (id : ℕ) : Type 0 where
  pub first : List Played
  pub opening : Played
  pub last : List Played
  pub whole : run ++ m ∷ later ≡ first ++ opening ∷ last
  pub at : site opening.fate ≡ site m.fate
  pub earlier : List Act
  pub call : CallsSession opening earlier
  pub same : call.step.client ≡ c.step.client
  pub publish : TakesPublish ExactlyOnce id call.step
  pub passed : IsPassedOn first last opening w earlier call (message_after (events_before first opening earlier call) publish)
  pub past : List Step
  pub since : List Step
  pub calls : events_before run m before c ≡ past ++ step_in call.step ∷ since
  pub stays : StaysOpen (connected_over false (past ++ step_in call.step ∷ [])) id since

-- the message of the PUBLISH that PUBREC 0x00 answers is passed on in the step that gives the PUBREC out, or its exchange is open, and
-- then the message of the PUBLISH that opened it was passed on
abbrev pub PubrecStaysTrue : Type 0
PubrecStaysTrue =
    (run later : List Played) (m : Played) (w : World) → Reached (run ++ m ∷ later) w
    → (before : List Act) (c : CallsSession m before) (id : ℕ) → AnswersWith (pubrec id 0) c.step.reaction.packets
    → (t : TakesPublish ExactlyOnce id c.step)
    × (IsPassedOn run later m w before c (message_after (events_before run m before c) t) ⊎ WasPassedOn run later m w before c id)
