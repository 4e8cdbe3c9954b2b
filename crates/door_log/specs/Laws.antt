-- Laws of a door.
use Rattle.std.specs.Prelude.{◌≡◌, ◌↔◌, List, None}
use Rattle.broker_sockets.specs.declared.bridge.Given.{Given}
use Rattle.broker_sockets.specs.declared.bridge.PeerEvent.{PeerEvent}
use Rattle.broker_sockets.specs.declared.events.Event.{Event}
use Rattle.broker_sockets.specs.declared.events.Output.{Output}
use Rattle.door_log.specs.declared.fault.LoggedFault.{LoggedFault}
use Rattle.door_log.specs.declared.fault.LoggedFault.TheVariants.{NoMemory, Inside}
use Rattle.door_log.specs.declared.logged.Logged.{Logged}

-- the relations of a handler, and of the door before it
module _ {H W : Type 0} (handles : H → Event → List Output → H → Type 0) (hears : H → PeerEvent → Given → H → Type 0) (settles : H → H → Type 0)
    (handles' : Logged H W → Event → List Output → Logged H W → Type 0) (hears' : Logged H W → PeerEvent → Given → Logged H W → Type 0)
    (settles' : Logged H W → Logged H W → Type 0) where
  -- a call of the door is that call of the handler inside, with a log or without
  pub record LogChangesNothing : Type 0 where
    pub handled : (d d' : Logged H W) (e : Event) (outputs : List Output) → handles' d e outputs d' → handles d.inside e outputs d'.inside
    pub heard : (d d' : Logged H W) (e : PeerEvent) (given : Given) → hears' d e given d' → hears d.inside e given d'.inside
    pub settled : (d d' : Logged H W) → settles' d d' → settles d.inside d'.inside

  -- and where there is no log it is just that
  pub record NoLogChangesNothing : Type 0 where
    pub handled : (d d' : Logged H W) (e : Event) (outputs : List Output) → d.log ≡ None → handles' d e outputs d' ↔ (handles d.inside e outputs d'.inside × (d'.log ≡ None))
    pub heard : (d d' : Logged H W) (e : PeerEvent) (given : Given) → d.log ≡ None → hears' d e given d' ↔ (hears d.inside e given d'.inside × (d'.log ≡ None))
    pub settled : (d d' : Logged H W) → d.log ≡ None → settles' d d' ↔ (settles d.inside d'.inside × (d'.log ≡ None))

-- and its faults are those of the handler inside
module _ {H W F : Type 0} (refuses : H → Event → F → H → Type 0) (declines : H → PeerEvent → F → H → Type 0) (stops : H → F → H → Type 0)
    (refuses' : Logged H W → Event → LoggedFault F → Logged H W → Type 0) (declines' : Logged H W → PeerEvent → LoggedFault F → Logged H W → Type 0)
    (stops' : Logged H W → LoggedFault F → Logged H W → Type 0) where
  pub record NoLogNoFaults : Type 0 where
    pub refused : (d d' : Logged H W) (e : Event) (fault : F) → refuses' d e (Inside fault) d' ↔ refuses d.inside e fault d'.inside
    pub enough : (d d' : Logged H W) (e : Event) → d.log ≡ None → refuses' d e NoMemory d' → ⊥
    pub declined : (d d' : Logged H W) (e : PeerEvent) (fault : F) → declines' d e (Inside fault) d' ↔ declines d.inside e fault d'.inside
    pub enough_to_hear : (d d' : Logged H W) (e : PeerEvent) → d.log ≡ None → declines' d e NoMemory d' → ⊥
    pub stopped : (d d' : Logged H W) (fault : F) → stops' d (Inside fault) d' ↔ stops d.inside fault d'.inside
    pub enough_to_settle : (d d' : Logged H W) → stops' d NoMemory d' → ⊥
