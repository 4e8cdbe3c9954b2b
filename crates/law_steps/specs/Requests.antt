-- What a SUBSCRIBE and an UNSUBSCRIBE come to, and nothing else (MQTT 5.0, 3.8.4, 3.9, 3.10.4 and 3.11).
use Rattle.std.specs.Prelude.{◌≡◌, ◌⊎◌, ℕ, ◌&&◌, not, Bool, cond, is_some, List, [], ◌∷◌, ◌++◌, Some}
use Rattle.mqtt_message.specs.declared.delivery.Delivery.{Delivery}
use Rattle.mqtt_message.specs.Identifiers.{identifiers_of}
use Rattle.mqtt_packets.specs.declared.subscribe.Subscribe.{Subscribe}
use Rattle.mqtt_packets.specs.declared.subscribe.SubscribeFilter.{SubscribeFilter}
use Rattle.mqtt_packets.specs.declared.unsubscribe.Unsubscribe.{Unsubscribe}
use Rattle.mqtt_sessions.specs.Reaction.{Reaction, nothing}
use Rattle.mqtt_topics.specs.Topics.{IsFilter}
use Rattle.replica_store.specs.Making.{subscribe_of}
use Rattle.law_sessions.specs.Runs.{Event, answers, queues}
use Rattle.subscription_set.specs.Standing.{any_of}
use Rattle.node_work.specs.declared.granted.Granted.{Granted}
use Rattle.node_work.specs.Acts.{Act, Acknowledged, Made, Session, Store, Runs}
use Rattle.node_work.specs.Held.Making.{removal}
use Rattle.node_work.specs.Held.Sessions.{SessionStep, Called, has_session}
use Rattle.node_work.specs.View.{Place, HeldView}
use Rattle.node_clients.specs.Subscribing.{filter_refused, granted, granted_reasons, has_most, identifier_of, stands, subscription_entry}
use Rattle.law_steps.specs.Ending.{ClosesOn}

-- each of a list in turn, with its answer after those before
abbrev pub InTurnAre : {A B : Type 0} → (Place → HeldView → A → B → List Act → Type 0) → Place → HeldView → List A → List B → List B → List Act → Type 0
InTurnAre One p h [] before given acts = (given ≡ before) × (acts ≡ [])
InTurnAre {A} {B} One p h (x ∷ xs) before given acts =
    (y : B) × (own : List Act) × (mid : HeldView) × (rest : List Act) × (acts ≡ own ++ rest) × Runs p h own mid × One p h x y own × InTurnAre One p mid xs (before ++ y ∷ []) given rest

-- a filter is refused: a text that isn't one, and a new one where the client has 1,000; or it is granted, by one Subscribe
abbrev pub IsGrantedBy : List ℕ → ℕ → Place → HeldView → SubscribeFilter → Granted → List Act → Type 0
IsGrantedBy client identifier p h f given acts =
    ((¬ IsFilter f.filter) × (given ≡ filter_refused 143) × (acts ≡ []))
    ⊎ (IsFilter f.filter
    × cond (not (stands client f.filter h) && has_most client h.store) ((given ≡ filter_refused 151) × (acts ≡ []))
    ((given ≡ granted f (identifiers_of identifier) (stands client f.filter h)) × (acts ≡ Store (Made (subscribe_of p.id (subscription_entry client f identifier h.homes.version) h.store)) ∷ [])))

-- of a text that isn't a filter nothing is removed; of a filter one Remove takes what stands of the client to it, if anything does
abbrev pub IsRemovedBy : List ℕ → Place → HeldView → List ℕ → ℕ → List Act → Type 0
IsRemovedBy client p h text code acts =
    ((¬ IsFilter text) × (code ≡ 143) × (acts ≡ []))
    ⊎ (IsFilter text × cond (any_of client (Some text) h.store.subscriptions) ((code ≡ 0) × (acts ≡ Store (Made (removal p.id client (Some text) h.store)) ∷ [])) ((code ≡ 17) × (acts ≡ [])))

-- a session is called once; without one nothing is done
pub record CallsOnce (client : List ℕ) (event : Event) (r : Reaction) (acts : List Act) : Type 0 where
  pub call : SessionStep
  pub is : acts ≡ Session (Called call) ∷ []
  pub of : call.client ≡ client
  pub event_is : call.event ≡ event
  pub reaction : call.reaction ≡ r

abbrev pub IsCalledOnce : HeldView → List ℕ → Event → Reaction → List Act → Type 0
IsCalledOnce h client event r acts = cond (has_session client h) (CallsOnce client event r acts) ((r ≡ nothing) × (acts ≡ []))

-- each offer joins the session's queue
abbrev pub AreOfferedTo : Place → HeldView → List ℕ → List Delivery → List Act → Type 0
AreOfferedTo p h client [] acts = acts ≡ []
AreOfferedTo p h client (d ∷ ds) acts =
    (r : Reaction) × (own : List Act) × (mid : HeldView) × (rest : List Act) × (acts ≡ own ++ rest) × Runs p h own mid × IsCalledOnce h client (queues d h.at) r own × AreOfferedTo p mid client ds rest

-- the retained messages that answer each granted filter which asks for them; the act says which
abbrev pub OffersAlone : Place → HeldView → List ℕ → ℕ → List Granted → List Act → Type 0
OffersAlone p h client packet given acts = (offers : List Delivery) × (rest : List Act) × (acts ≡ Acknowledged client packet h.at given offers ∷ rest) × AreOfferedTo p h client offers rest

-- the session is given the codes; then its connection is closed, where it says so, or the retained messages are offered
pub record SubacksAlone (p : Place) (h : HeldView) (c : ℕ) (client : List ℕ) (packet : ℕ) (given : List Granted) (acts : List Act) : Type 0 where
  pub told : List Act
  pub rest : List Act
  pub is : acts ≡ told ++ rest
  pub reaction : Reaction
  pub tells : IsCalledOnce h client (answers packet (granted_reasons given)) reaction told
  pub left : HeldView
  pub leaves : Runs p h told left
  pub follows : cond (is_some reaction.end) (ClosesOn p left c client rest) (OffersAlone p left client packet given rest)

-- the filters in order, and then their codes
pub record SubscribesAlone (p : Place) (h : HeldView) (c : ℕ) (client : List ℕ) (q : Subscribe) (acts : List Act) : Type 0 where
  pub own : List Act
  pub rest : List Act
  pub is : acts ≡ own ++ rest
  pub given : List Granted
  pub filters : InTurnAre (IsGrantedBy client (identifier_of q)) p h q.filters [] given own
  pub mid : HeldView
  pub runs : Runs p h own mid
  pub gives : SubacksAlone p mid c client q.identifier given rest

pub record UnsubacksAlone (p : Place) (h : HeldView) (c : ℕ) (client : List ℕ) (packet : ℕ) (codes : List ℕ) (acts : List Act) : Type 0 where
  pub told : List Act
  pub rest : List Act
  pub is : acts ≡ told ++ rest
  pub reaction : Reaction
  pub tells : IsCalledOnce h client (answers packet codes) reaction told
  pub left : HeldView
  pub leaves : Runs p h told left
  pub follows : cond (is_some reaction.end) (ClosesOn p left c client rest) (rest ≡ [])

pub record UnsubscribesAlone (p : Place) (h : HeldView) (c : ℕ) (client : List ℕ) (u : Unsubscribe) (acts : List Act) : Type 0 where
  pub own : List Act
  pub rest : List Act
  pub is : acts ≡ own ++ rest
  pub codes : List ℕ
  pub filters : InTurnAre (IsRemovedBy client) p h u.filters [] codes own
  pub mid : HeldView
  pub runs : Runs p h own mid
  pub gives : UnsubacksAlone p mid c client u.identifier codes rest
