-- A message is passed on, and nothing else is done (MQTT 5.0, 3.3.1.3, 3.3.4 and 4.8.2).
use Rattle.std.specs.Prelude.{◌≡◌, ◌⊎◌, ℕ, cond, List, [], ◌∷◌, ◌++◌, Option, Some, None}
use Rattle.bridge_routes.specs.declared.plain.PlainCopy.{PlainCopy as Copy}
use Rattle.bridge_routes.specs.declared.destinations.Route.{Route}
use Rattle.mqtt_message.specs.declared.message.Message.{Message}
use Rattle.mqtt_message.specs.Expiry.{IsBefore}
use Rattle.mqtt_sessions.specs.declared.reaction.Ask.{Ask}
use Rattle.mqtt_sessions.specs.declared.reaction.Ask.TheVariants as asks
use Rattle.node_bridge.specs.View.{BridgeView}
use Rattle.node_work.specs.Acts.{Act, Passed, Dropped}
use Rattle.node_work.specs.View.{HeldView}
use Rattle.node_clients.specs.Passing.{lacks_room}
use Rattle.law_runs.specs.StepPublishing.{CopiesAreQueued, AreRouted, IsPut}

-- its copies join their sessions, and what goes to other nodes joins their lanes
pub record AreItsCopies (m : Message) (at : ℕ) (b : BridgeView) (acts : List Act) : Type 0 where
  pub copies : List Copy
  pub lost : ℕ
  pub routes : List (ℕ × Route)
  pub calls : List Act
  pub to_others : List Act
  pub is : acts ≡ Passed m copies lost routes ∷ (calls ++ to_others)
  pub queued : CopiesAreQueued at copies calls
  pub routed : AreRouted b routes to_others

-- its Put; then these, unless its deadline has passed
pub record PassesOn (m : Message) (at : ℕ) (b : BridgeView) (acts : List Act) : Type 0 where
  pub puts : List Act
  pub rest : List Act
  pub is : acts ≡ puts ++ rest
  pub put : IsPut m puts
  pub copied : (IsBefore at m.deadline × AreItsCopies m at b rest) ⊎ ((¬ IsBefore at m.deadline) × (rest ≡ []))

-- a will that a session asks for is passed on, or dropped where there is no room for its topic
abbrev pub PassesWillOn : HeldView → Option Ask → List Act → Type 0
PassesWillOn h None acts = acts ≡ []
PassesWillOn h (Some (asks.Pass m)) acts = cond (lacks_room m h) (acts ≡ Dropped ∷ []) (PassesOn m h.at h.bridge acts)
PassesWillOn h (Some asks.Subscribe) acts = acts ≡ []
PassesWillOn h (Some asks.Unsubscribe) acts = acts ≡ []
