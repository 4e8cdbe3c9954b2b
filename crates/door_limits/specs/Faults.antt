-- Why a door stops: the handler inside has, or there is no memory for what is known of connections.
use Rattle.std.specs.Prelude.{◌≡◌, ◌⊎◌, ℕ, List, Bool, true, false}
use Rattle.broker_sockets.specs.declared.bridge.PeerEvent.{PeerEvent}
use Rattle.broker_sockets.specs.declared.events.Event.{Event}
use Rattle.broker_sockets.specs.declared.events.Output.{Output}
use Rattle.door_limits.specs.Answering.{AreCut, Cut, IsTold, gone, is_tick, is_told}
use Rattle.door_limits.specs.Connected.{IsLate}
use Rattle.door_limits.specs.Limits.{are_none}
use Rattle.door_limits.specs.declared.fault.LimitedFault.{LimitedFault}
use Rattle.door_limits.specs.declared.fault.LimitedFault.TheVariants.{NoMemory, Inside}
use Rattle.door_limits.specs.declared.limited.Limited.{Limited}

-- a fault of the handler inside
abbrev pub IsStoppedBy : {F : Type 0} → (F → Type 0) → LimitedFault F → Type 0
IsStoppedBy caused NoMemory = ⊥
IsStoppedBy caused (Inside fault) = caused fault

-- or want of memory
abbrev pub IsStopped : {F : Type 0} → (F → Type 0) → LimitedFault F → Type 0
IsStopped caused NoMemory = Unit {0}
IsStopped caused (Inside fault) = caused fault

module _ {H F : Type 0} (handles : H → Event → List Output → H → Type 0) (refuses : H → Event → F → H → Type 0) where
  -- after some that were late the handler inside refuses that the next one is gone
  pub record IsStoppedLate (at : ℕ) (fault : F) (d : Limited H) (last : H) : Type 0 where
    pub cuts : List Cut
    pub reached : Limited H
    pub each : AreCut handles at cuts d reached
    pub connection : ℕ
    pub late : IsLate reached.limits.within at reached.connections connection
    pub refused : refuses reached.inside (gone at connection) fault last

  -- at a tick, of which it was told
  pub record IsUnswept (e : Event) (fault : F) (d : Limited H) (last : H) : Type 0 where
    pub ticks : is_tick e.kind ≡ true
    pub given : List Output
    pub between : Limited H
    pub told : IsTold handles e given d between
    pub late : IsStoppedLate e.at fault between last

  -- it refuses the event, or at a tick that one is gone that is late
  abbrev pub IsUnanswered : Event → F → Limited H → H → Type 0
  IsUnanswered e fault d last = refuses d.inside e fault last ⊎ IsUnswept e fault d last

  abbrev pub IsRefusedBy : Bool → Event → F → Limited H → H → Type 0
  IsRefusedBy true e fault d last = IsUnanswered e fault d last
  IsRefusedBy false e fault d last = ⊥

  -- without limits it refuses the event
  abbrev pub IsRefusedIf : Bool → Event → LimitedFault F → Limited H → H → Type 0
  IsRefusedIf true e fault d last = IsStoppedBy (λ f. refuses d.inside e f last) fault
  IsRefusedIf false e fault d last = IsStopped (λ f. IsRefusedBy (is_told d.limits d.connections e.kind) e f d last) fault

  abbrev pub IsRefused : Limited H → Event → LimitedFault F → Limited H → Type 0
  IsRefused d e fault d' = IsRefusedIf (are_none d.limits) e fault d d'.inside

-- it declines what other nodes bring about
abbrev pub IsDeclined : {H F : Type 0} → (H → PeerEvent → F → H → Type 0) → Limited H → PeerEvent → LimitedFault F → Limited H → Type 0
IsDeclined declines d e fault d' = IsStoppedBy (λ f. declines d.inside e f d'.inside) fault

-- it can't settle
abbrev pub IsCutOff : {H F : Type 0} → (H → F → H → Type 0) → Limited H → LimitedFault F → Limited H → Type 0
IsCutOff stops d fault d' = IsStoppedBy (λ f. stops d.inside f d'.inside) fault
