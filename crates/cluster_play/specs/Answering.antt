-- What is offered to new subscriptions, by the operations that their node has taken (MQTT 5.0, 3.3.1.3 and 3.8.4).
use Rattle.std.specs.Prelude.{◌≡◌, ℕ, List, [], ◌∷◌, ◌++◌, Option, Some, None, flat_map, map, slice_get}
use Rattle.mqtt_fields.specs.Options.{qos_of}
use Rattle.mqtt_message.specs.declared.delivery.Delivery.{Delivery}
use Rattle.mqtt_message.specs.declared.message.Message.{Message}
use Rattle.replica_store.specs.declared.operation.Operation.{Operation}
use Rattle.replica_store.specs.Answers.{IsAnswerOf}
use Rattle.node_work.specs.declared.granted.Asked.{Asked}
use Rattle.node_work.specs.declared.granted.Granted.{Granted}
use Rattle.node_work.specs.Acts.{Act, Acknowledged, Session}
use Rattle.node_work.specs.Held.Sessions.{SessionStep, Called}
use Rattle.law_sessions.specs.Runs.{queues}
use Rattle.bridge_routes.specs.Deliveries.{offer_of}
use Rattle.cluster_play.specs.Runs.{Played}
use Rattle.cluster_play.specs.Histories.{acts_of}

-- what is offered to a filter that asks for retained messages: those with which the operations answer it at the moment, in the
-- order of their topics
abbrev pub IsOfferedBy : List Operation → ℕ → Option Asked → List Delivery → Type 0
IsOfferedBy O at None own = own ≡ []
IsOfferedBy O at (Some a) own = (messages : List Message) × IsAnswerOf O a.filter at messages × (own ≡ map (offer_of a.options a.identifiers) messages)

-- a part for each granted filter, in order
abbrev pub AreOfferedBy : List Operation → ℕ → List Granted → List (List Delivery) → Type 0
AreOfferedBy O at [] parts = parts ≡ []
AreOfferedBy O at (g ∷ gs) parts = (own : List Delivery) × (rest : List (List Delivery)) × (parts ≡ own ∷ rest) × IsOfferedBy O at g.asked own × AreOfferedBy O at gs rest

-- a step answers a SUBSCRIBE of a client after these of its acts, at the node's moment
pub record AcknowledgesFilters (m : Played) (before : List Act) : Type 0 where
  pub client : List ℕ
  pub packet : ℕ
  pub at : ℕ
  pub grants : List Granted
  pub offers : List Delivery
  pub after : List Act
  pub acts : acts_of m.fate ≡ before ++ Acknowledged client packet at grants offers ∷ after

-- calls of the client's session, one for each offer in order: it joins the session at the moment
abbrev pub OffersAreQueued : List ℕ → ℕ → List Delivery → List Act → Type 0
OffersAreQueued client at [] calls = calls ≡ []
OffersAreQueued client at (d ∷ ds) calls =
    (s : SessionStep) × (rest : List Act) × (calls ≡ Session (Called s) ∷ rest) × (s.client ≡ client) × (s.at ≡ at) × (s.event ≡ queues d at) × OffersAreQueued client at ds rest

-- acts that begin with these calls
pub record BeginsWithOffers (client : List ℕ) (at : ℕ) (offers : List Delivery) (after : List Act) : Type 0 where
  pub calls : List Act
  pub rest : List Act
  pub is : after ≡ calls ++ rest
  pub queued : OffersAreQueued client at offers calls

-- the offers are these parts one after the other, each what the operations say
pub record FallsInto (O : List Operation) (at : ℕ) (grants : List Granted) (offers : List Delivery) (parts : List (List Delivery)) : Type 0 where
  pub in_order : offers ≡ flat_map (λ own. own) parts
  pub each : AreOfferedBy O at grants parts

-- directly after that the client's session is offered what the operations say
pub record SendsAnswers (O : List Operation) (m : Played) (before : List Act) (s : AcknowledgesFilters m before) : Type 0 where
  pub follow : BeginsWithOffers s.client s.at s.offers s.after
  pub parts : List (List Delivery)
  pub answers : FallsInto O s.at s.grants s.offers parts

-- two subscriptions ask for the retained messages of one filter, at one QoS and under one Subscription Identifier, or neither asks for any
abbrev pub AskAlike : Option Asked → Option Asked → Type 0
AskAlike None None = Unit {0}
AskAlike None (Some b) = ⊥
AskAlike (Some a) None = ⊥
AskAlike (Some a) (Some b) = (a.filter ≡ b.filter) × (qos_of a.options ≡ qos_of b.options) × (a.identifiers ≡ b.identifiers)

-- the parts of two answers are one wherever two ask alike
pub record OffersAlike (O O' : List Operation) (at : ℕ) (grants grants' : List Granted) (offers offers' : List Delivery) : Type 0 where
  pub parts : List (List Delivery)
  pub parts' : List (List Delivery)
  pub first : FallsInto O at grants offers parts
  pub second : FallsInto O' at grants' offers' parts'
  pub alike : (k k' : ℕ) (g g' : Granted) → slice_get grants k ≡ Some g → slice_get grants' k' ≡ Some g' → AskAlike g.asked g'.asked → slice_get parts k ≡ slice_get parts' k'
