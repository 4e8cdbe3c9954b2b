-- Laws of a door.
use Rattle.std.specs.Prelude.{◌≡◌, ◌++◌, ◌↔◌, ℕ, List, true, Some}
use Rattle.std.specs.FinMap as map
use Rattle.broker_sockets.specs.declared.bridge.Given.{Given}
use Rattle.broker_sockets.specs.declared.bridge.PeerEvent.{PeerEvent}
use Rattle.broker_sockets.specs.declared.events.Event.{Event}
use Rattle.broker_sockets.specs.declared.events.Output.{Output}
use Rattle.door_limits.specs.Calls.{AreMade, AtMostOpen, Call}
use Rattle.door_limits.specs.Limits.{are_none}
use Rattle.door_limits.specs.declared.fault.LimitedFault.{LimitedFault}
use Rattle.door_limits.specs.declared.fault.LimitedFault.TheVariants.{NoMemory, Inside}
use Rattle.door_limits.specs.declared.limited.Limited.{Limited}

-- what the door keeps is as it was
abbrev pub Stays : {H : Type 0} → Limited H → Limited H → Type 0
Stays d d' = (d'.connections ≡ d.connections) × (d'.limits ≡ d.limits)

-- the relations of a handler, and of the door before it
module _ {H : Type 0} (handles : H → Event → List Output → H → Type 0) (hears : H → PeerEvent → Given → H → Type 0) (settles : H → H → Type 0)
    (handles' : Limited H → Event → List Output → Limited H → Type 0) (hears' : Limited H → PeerEvent → Given → Limited H → Type 0)
    (settles' : Limited H → Limited H → Type 0) where
  -- from a door with no connection open: whatever calls are made of it, the handler inside is told of calls of its own, and after each of these
  -- no more connections are open than may be
  abbrev pub LimitsHold : Type 0
  LimitsHold =
      (calls : List Call) (d d' : Limited H) (most : ℕ) → d.limits.most ≡ Some most → d.connections ≡ map.empty → AreMade handles' hears' settles' calls d d'
      → (told : List Call) × AreMade handles hears settles told d.inside d'.inside
      × ((front back : List Call) → told ≡ front ++ back → AtMostOpen most front)

  -- without limits a call of the door is that call of the handler inside
  pub record NoLimitsChangeNothing : Type 0 where
    pub handled : (d d' : Limited H) (e : Event) (outputs : List Output) → are_none d.limits ≡ true → handles' d e outputs d' ↔ (handles d.inside e outputs d'.inside × Stays d d')
    pub heard : (d d' : Limited H) (e : PeerEvent) (given : Given) → are_none d.limits ≡ true → hears' d e given d' ↔ (hears d.inside e given d'.inside × Stays d d')
    pub settled : (d d' : Limited H) → settles' d d' ↔ (settles d.inside d'.inside × Stays d d')

-- and its faults are those of the handler inside
module _ {H F : Type 0} (refuses : H → Event → F → H → Type 0) (declines : H → PeerEvent → F → H → Type 0) (stops : H → F → H → Type 0)
    (refuses' : Limited H → Event → LimitedFault F → Limited H → Type 0) (declines' : Limited H → PeerEvent → LimitedFault F → Limited H → Type 0)
    (stops' : Limited H → LimitedFault F → Limited H → Type 0) where
  pub record NoLimitsNoFaults : Type 0 where
    pub refused : (d d' : Limited H) (e : Event) (fault : F) → are_none d.limits ≡ true → refuses' d e (Inside fault) d' ↔ refuses d.inside e fault d'.inside
    pub enough : (d d' : Limited H) (e : Event) → are_none d.limits ≡ true → refuses' d e NoMemory d' → ⊥
    pub declined : (d d' : Limited H) (e : PeerEvent) (fault : F) → declines' d e (Inside fault) d' ↔ declines d.inside e fault d'.inside
    pub enough_to_hear : (d d' : Limited H) (e : PeerEvent) → declines' d e NoMemory d' → ⊥
    pub stopped : (d d' : Limited H) (fault : F) → stops' d (Inside fault) d' ↔ stops d.inside fault d'.inside
    pub enough_to_settle : (d d' : Limited H) → stops' d NoMemory d' → ⊥
