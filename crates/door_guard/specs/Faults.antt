-- Why a handler that guards stops: the handler inside has, or there is no memory.
use Rattle.std.specs.Prelude.{List, Option, Some, None}
use Rattle.broker_sockets.specs.declared.bridge.PeerEvent.{PeerEvent}
use Rattle.broker_sockets.specs.declared.events.Event.{Event}
use Rattle.broker_sockets.specs.declared.events.Output.{Output}
use Rattle.door_guard.specs.Telling.{AreTold, Told}
use Rattle.door_guard.specs.declared.door.Door.{Door}
use Rattle.door_guard.specs.declared.fault.GuardFault.{GuardFault}
use Rattle.door_guard.specs.declared.fault.GuardFault.TheVariants.{NoMemory, Inside}
use Rattle.door_guard.specs.declared.guarded.Guarded.{Guarded}

-- the fault is one of the handler inside
abbrev pub IsStoppedBy : {F : Type 0} → (F → Type 0) → GuardFault F → Type 0
IsStoppedBy caused NoMemory = ⊥
IsStoppedBy caused (Inside fault) = caused fault

module _ {H F : Type 0} (handles : H → Event → List Output → H → Type 0) (refuses : H → Event → F → H → Type 0) where
  -- the handler inside is told of events, and then of one that it refuses
  pub record IsRefusing (fault : F) (h h' : H) : Type 0 where
    pub calls : List Told
    pub reached : H
    pub told : AreTold handles calls h reached
    pub event : Event
    pub refused : refuses reached event fault h'

  -- that, or want of memory here
  abbrev pub IsStopped : H → H → GuardFault F → Type 0
  IsStopped h h' NoMemory = Unit {0}
  IsStopped h h' (Inside fault) = IsRefusing fault h h'

  abbrev pub IsRefusedIf : {A : Type 0} → Option (Door A) → Event → GuardFault F → H → H → Type 0
  IsRefusedIf None e fault h h' = IsStoppedBy (λ f. refuses h e f h') fault
  IsRefusedIf (Some k) e fault h h' = IsStopped h h' fault

  abbrev pub IsRefused : {A : Type 0} → Guarded H A → Event → GuardFault F → Guarded H A → Type 0
  IsRefused d e fault d' = IsRefusedIf d.door e fault d.inside d'.inside

module _ {H F : Type 0} (declines : H → PeerEvent → F → H → Type 0) where
  abbrev pub IsDeclinedOn : PeerEvent → GuardFault F → H → H → Type 0
  IsDeclinedOn e NoMemory h h' = Unit {0}
  IsDeclinedOn e (Inside fault) h h' = declines h e fault h'

  abbrev pub IsDeclinedIf : {A : Type 0} → Option (Door A) → PeerEvent → GuardFault F → H → H → Type 0
  IsDeclinedIf None e fault h h' = IsStoppedBy (λ f. declines h e f h') fault
  IsDeclinedIf (Some k) e fault h h' = IsDeclinedOn e fault h h'

  -- it declines what other nodes bring about
  abbrev pub IsDeclined : {A : Type 0} → Guarded H A → PeerEvent → GuardFault F → Guarded H A → Type 0
  IsDeclined d e fault d' = IsDeclinedIf d.door e fault d.inside d'.inside

-- it can't settle
abbrev pub IsCutOff : {H F A : Type 0} → (H → F → H → Type 0) → Guarded H A → GuardFault F → Guarded H A → Type 0
IsCutOff stops d fault d' = IsStoppedBy (λ f. stops d.inside f d'.inside) fault
