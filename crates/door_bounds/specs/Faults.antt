-- Why a handler with limits stops: the handler inside has, or there is no memory.
use Rattle.std.specs.Prelude.{◌≡◌, ℕ, List, Option, Some, None}
use Rattle.broker_sockets.specs.declared.bridge.PeerEvent.{PeerEvent}
use Rattle.broker_sockets.specs.declared.events.Event.{Event}
use Rattle.broker_sockets.specs.declared.events.Output.{Output}
use Rattle.door_bounds.specs.Telling.{AreTold, Told}
use Rattle.door_bounds.specs.declared.bounded.Bounded.{Bounded}
use Rattle.door_bounds.specs.declared.door.Door.{Door}
use Rattle.door_bounds.specs.declared.fault.BoundedFault.{BoundedFault}
use Rattle.door_bounds.specs.declared.fault.BoundedFault.TheVariants.{NoMemory, Inside}

-- the fault is one of the handler inside
abbrev pub IsStoppedBy : {F : Type 0} → (F → Type 0) → BoundedFault F → Type 0
IsStoppedBy caused NoMemory = ⊥
IsStoppedBy caused (Inside fault) = caused fault

module _ {H F : Type 0} (handles : H → Event → List Output → H → Type 0) (refuses : H → Event → F → H → Type 0) where
  -- the handler inside is told of events, and then of one that it refuses
  pub record IsRefusing (fault : F) (h h' : H) : Type 0 where
    pub calls : List Told
    pub reached : H
    pub told : AreTold handles calls h reached
    pub event : Event
    pub refused : refuses reached event fault h'

  -- that, or want of memory here
  abbrev pub IsStopped : H → H → BoundedFault F → Type 0
  IsStopped h h' NoMemory = Unit {0}
  IsStopped h h' (Inside fault) = IsRefusing fault h h'

  abbrev pub IsRefusedIf : Option Door → Event → BoundedFault F → H → H → Type 0
  IsRefusedIf None e fault h h' = IsStoppedBy (λ f. refuses h e f h') fault
  IsRefusedIf (Some k) e fault h h' = IsStopped h h' fault

  abbrev pub IsRefused : {G : Type 0} → Bounded H G → Event → BoundedFault F → Bounded H G → Type 0
  IsRefused d e fault d' = IsRefusedIf d.door e fault d.inside d'.inside

-- it declines what other nodes bring about
abbrev pub IsDeclined : {H F G : Type 0} → (H → PeerEvent → F → H → Type 0) → Bounded H G → PeerEvent → BoundedFault F → Bounded H G → Type 0
IsDeclined declines d e fault d' = IsStoppedBy (λ f. declines d.inside e f d'.inside) fault

-- it can't settle
abbrev pub IsCutOff : {H F G : Type 0} → (H → F → H → Type 0) → Bounded H G → BoundedFault F → Bounded H G → Type 0
IsCutOff stops d fault d' = IsStoppedBy (λ f. stops d.inside f d'.inside) fault
