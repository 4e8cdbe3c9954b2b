-- What a SUBACK tells exactly, and what is offered after it (MQTT 5.0, 3.3.1.3, 3.8.4 and 3.9.3).
use Rattle.std.specs.Prelude.{◌≡◌, ◌⊎◌, ℕ, Bool, cond, length, replicate, List, [], ◌∷◌, ◌++◌, None, flat_map, map as map_list}
use Rattle.mqtt_message.specs.declared.delivery.Delivery.{Delivery}
use Rattle.mqtt_message.specs.declared.message.Message.{Message}
use Rattle.mqtt_message.specs.Identifiers.{identifiers_of}
use Rattle.mqtt_packets.specs.declared.packet.Packet.TheVariants as packets
use Rattle.mqtt_packets.specs.declared.subscribe.Subscribe.{Subscribe}
use Rattle.bridge_routes.specs.Deliveries.{offer_of}
use Rattle.mqtt_sessions.specs.Answers.{suback}
use Rattle.replica_store.specs.declared.operation.Operation.{Operation}
use Rattle.replica_store.specs.Answers.{IsAnswerOf}
use Rattle.law_sessions.specs.Runs.{takes}
use Rattle.node_work.specs.declared.granted.Granted.{Granted}
use Rattle.node_work.specs.Acts.{Act, Session, Acknowledged}
use Rattle.node_work.specs.Held.Sessions.{Called}
use Rattle.node_clients.specs.Subscribing.{identifier_of}
use Rattle.law_runs.specs.StepPublishing.{AnswersWith}
use Rattle.cluster_play.specs.Worlds.{World}
use Rattle.cluster_play.specs.Runs.{Played}
use Rattle.cluster_play.specs.Histories.{Reached, site, moment_amid, operations_amid}
use Rattle.cluster_play.specs.Answering.{BeginsWithOffers}
use Rattle.law_runs.specs.Staying.{CallsSession}
use Rattle.law_runs.specs.Asking.{CallsBefore}
use Rattle.law_runs.specs.Filters.{FilterReply, AreFiltersAnswered}

-- in the same step a call of the client's session takes the SUBSCRIBE; between it and the SUBACK each filter in order is answered, and
-- nothing else is done; the codes are these answers
pub record AnswersEachFilter (run : List Played) (m : Played) (before : List Act) (client : List ℕ) (id : ℕ) (codes : List ℕ) : Type 0 where
  pub calls : CallsBefore m before client
  pub subscribe : Subscribe
  pub now : ℕ
  pub room : Bool
  pub event : calls.call.event ≡ takes (packets.Subscribe subscribe) now room
  pub identifier : subscribe.identifier ≡ id
  pub replies : List FilterReply
  pub answered : AreFiltersAnswered run m (calls.earlier ++ Session (Called calls.call) ∷ []) client (identifier_of subscribe) subscribe.filters replies calls.acts
  pub told : codes ≡ map_list (λ r. r.code) replies

-- the call that gives it out takes the SUBSCRIBE itself, whose identifier is in use: Packet Identifier in use for each filter, and nothing
-- is done
pub record SaysInUse (m : Played) (before : List Act) (c : CallsSession m before) (id : ℕ) (codes : List ℕ) : Type 0 where
  pub subscribe : Subscribe
  pub now : ℕ
  pub room : Bool
  pub event : c.step.event ≡ takes (packets.Subscribe subscribe) now room
  pub identifier : subscribe.identifier ≡ id
  pub told : codes ≡ replicate (length subscribe.filters) 145
  pub nothing : c.step.reaction.ask ≡ None

-- the codes of a SUBACK are exactly these
abbrev pub CodesAreExact : Type 0
CodesAreExact =
    (run later : List Played) (m : Played) (w : World) → Reached (run ++ m ∷ later) w
    → (before : List Act) (c : CallsSession m before) (id : ℕ) (codes : List ℕ) → AnswersWith (suback id codes) c.step.reaction.packets
    → SaysInUse m before c id codes ⊎ AnswersEachFilter run m before c.step.client id codes

-- ---- what is offered

-- to a filter that asks for them the retained messages with which the operations answer it at the moment; to another one none
abbrev pub IsOfferedFor : List Operation → ℕ → ℕ → FilterReply → List Delivery → Type 0
IsOfferedFor O at identifier r own =
    cond r.asks ((messages : List Message) × IsAnswerOf O r.filter.filter at messages × (own ≡ map_list (offer_of r.filter.options (identifiers_of identifier)) messages)) (own ≡ [])

-- to each in order
abbrev pub AreOfferedFor : List Operation → ℕ → ℕ → List FilterReply → List (List Delivery) → Type 0
AreOfferedFor O at identifier [] parts = parts ≡ []
AreOfferedFor O at identifier (r ∷ rs) parts = (own : List Delivery) × (rest : List (List Delivery)) × (parts ≡ own ∷ rest) × IsOfferedFor O at identifier r own × AreOfferedFor O at identifier rs rest

-- the acts of the step up to a call, and with it
abbrev pub with_call : {m : Played} (before : List Act) → CallsSession m before → List Act
with_call before c = before ++ Session (Called c.step) ∷ []

-- directly after the call that gives the SUBACK the client's session is offered these, one by one, at the node's moment, and nothing
-- stands between
pub record IsOfferedAfter (run : List Played) (m : Played) (before : List Act) (c : CallsSession m before) (id identifier : ℕ) (replies : List FilterReply) : Type 0 where
  pub parts : List (List Delivery)
  pub each : AreOfferedFor (operations_amid (site m.fate) run (with_call before c)) c.step.at identifier replies parts
  pub grants : List Granted
  pub rest : List Act
  pub is : c.after ≡ Acknowledged c.step.client id c.step.at grants (flat_map (λ own. own) parts) ∷ rest
  pub follow : BeginsWithOffers c.step.client c.step.at (flat_map (λ own. own) parts) rest
  pub moment : c.step.at ≡ moment_amid (site m.fate) run (with_call before c)

-- a SUBACK that is sent is followed by exactly the retained messages that its filters ask for
abbrev pub OffersAreExact : Type 0
OffersAreExact =
    (run later : List Played) (m : Played) (w : World) → Reached (run ++ m ∷ later) w
    → (before : List Act) (c : CallsSession m before) (id : ℕ) (codes : List ℕ) → AnswersWith (suback id codes) c.step.reaction.packets
    → SaysInUse m before c id codes ⊎ ((a : AnswersEachFilter run m before c.step.client id codes) × IsOfferedAfter run m before c id (identifier_of a.subscribe) a.replies)
