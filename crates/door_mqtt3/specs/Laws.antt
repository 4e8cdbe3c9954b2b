-- Laws of the handler that wraps another one.
use Rattle.std.specs.Prelude.{◌≡◌, ◌↔◌, ℕ, List, None, Some}
use Rattle.broker_sockets.specs.declared.bridge.Given.{Given}
use Rattle.broker_sockets.specs.declared.bridge.PeerEvent.{PeerEvent}
use Rattle.broker_sockets.specs.declared.events.Event.{Event}
use Rattle.broker_sockets.specs.declared.events.Output.{Output}
use Rattle.door_mqtt3.specs.Calls.{AreMade, Call, dealt_of, given_of, met_of}
use Rattle.door_mqtt3.specs.Stages.{AreDealt, Happening, met_in, on, out_in, stage_of}
use Rattle.door_mqtt3.specs.declared.clients.Clients.{Clients}
use Rattle.door_mqtt3.specs.declared.handler.Mqtt3.{Mqtt3}
use Rattle.door_mqtt3.specs.declared.fault.Mqtt3Fault.{Mqtt3Fault}
use Rattle.door_mqtt3.specs.declared.fault.Mqtt3Fault.TheVariants.{NoMemory, Inside}

-- without translation it is the handler inside
module _ {H : Type 0} (handles : H → Event → List Output → H → Type 0) (hears : H → PeerEvent → Given → H → Type 0) (settles : H → H → Type 0)
    (handles' : Mqtt3 H → Event → List Output → Mqtt3 H → Type 0) (hears' : Mqtt3 H → PeerEvent → Given → Mqtt3 H → Type 0)
    (settles' : Mqtt3 H → Mqtt3 H → Type 0) where
  pub record OffChangesNothing : Type 0 where
    pub handled : (d d' : Mqtt3 H) (e : Event) (outputs : List Output) → d.clients ≡ None → handles' d e outputs d' ↔ (handles d.inside e outputs d'.inside × (d'.clients ≡ None))
    pub heard : (d d' : Mqtt3 H) (e : PeerEvent) (given : Given) → d.clients ≡ None → hears' d e given d' ↔ (hears d.inside e given d'.inside × (d'.clients ≡ None))
    pub settled : (d d' : Mqtt3 H) → d.clients ≡ None → settles' d d' ↔ (settles d.inside d'.inside × (d'.clients ≡ None))

module _ {H F : Type 0} (refuses : H → Event → F → H → Type 0) (declines : H → PeerEvent → F → H → Type 0) (stops : H → F → H → Type 0)
    (refuses' : Mqtt3 H → Event → Mqtt3Fault F → Mqtt3 H → Type 0) (declines' : Mqtt3 H → PeerEvent → Mqtt3Fault F → Mqtt3 H → Type 0)
    (stops' : Mqtt3 H → Mqtt3Fault F → Mqtt3 H → Type 0) where
  pub record OffNoFaults : Type 0 where
    pub refused : (d d' : Mqtt3 H) (e : Event) (fault : F) → d.clients ≡ None → refuses' d e (Inside fault) d' ↔ refuses d.inside e fault d'.inside
    pub enough : (d d' : Mqtt3 H) (e : Event) → d.clients ≡ None → refuses' d e NoMemory d' → ⊥
    pub declined : (d d' : Mqtt3 H) (e : PeerEvent) (fault : F) → d.clients ≡ None → declines' d e (Inside fault) d' ↔ declines d.inside e fault d'.inside
    pub enough_to_hear : (d d' : Mqtt3 H) (e : PeerEvent) → d.clients ≡ None → declines' d e NoMemory d' → ⊥
    pub stopped : (d d' : Mqtt3 H) (fault : F) → stops' d (Inside fault) d' ↔ stops d.inside fault d'.inside
    pub enough_to_settle : (d d' : Mqtt3 H) → stops' d NoMemory d' → ⊥

-- ---- with translation

-- Of one connection, from before its first event: what happened on it. The events that came are those of these calls. What the handler inside was told of it and
-- gave for it in its own calls is what comes of them, in order, and this is what went out.
pub record IsFollowed (q : ℕ) (calls inside : List Call) : Type 0 where
  pub happenings : List Happening
  pub met : met_in happenings ≡ met_of q calls
  pub dealt : AreDealt None happenings (dealt_of q inside)
  pub out : on q (given_of calls) ≡ out_in None happenings

module _ {H : Type 0} (handles : H → Event → List Output → H → Type 0) (hears : H → PeerEvent → Given → H → Type 0) (settles : H → H → Type 0)
    (handles' : Mqtt3 H → Event → List Output → Mqtt3 H → Type 0) (hears' : Mqtt3 H → PeerEvent → Given → Mqtt3 H → Type 0)
    (settles' : Mqtt3 H → Mqtt3 H → Type 0) where
  -- whatever calls are made, from where no connection is open, they are calls of the handler inside, and each connection is followed
  abbrev pub EachIsFollowed : Type 0
  EachIsFollowed =
      (calls : List Call) (d d' : Mqtt3 H) (k : Clients) → d.clients ≡ Some k → ((q : ℕ) → stage_of k q ≡ None) → AreMade handles' hears' settles' calls d d'
      → (inside : List Call) × AreMade handles hears settles inside d.inside d'.inside × ((q : ℕ) → IsFollowed q calls inside)
