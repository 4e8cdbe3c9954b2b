-- Why a door stops: the handler inside has, or there is no memory for what is known and due. Without a log the first alone.
use Rattle.std.specs.Prelude.{Bool, true, false, List, is_none}
use Rattle.broker_sockets.specs.declared.bridge.PeerEvent.{PeerEvent}
use Rattle.broker_sockets.specs.declared.events.Event.{Event}
use Rattle.door_log.specs.declared.fault.LoggedFault.{LoggedFault}
use Rattle.door_log.specs.declared.fault.LoggedFault.TheVariants.{NoMemory, Inside}
use Rattle.door_log.specs.declared.logged.Logged.{Logged}

abbrev pub IsStoppedBy : {F : Type 0} → Bool → (F → Type 0) → LoggedFault F → Type 0
IsStoppedBy true caused NoMemory = ⊥
IsStoppedBy false caused NoMemory = Unit {0}
IsStoppedBy silent caused (Inside fault) = caused fault

module _ {H W F : Type 0} where
  abbrev pub IsRefused : (H → Event → F → H → Type 0) → Logged H W → Event → LoggedFault F → Logged H W → Type 0
  IsRefused refuses d e fault d' = IsStoppedBy (is_none d.log) (λ f. refuses d.inside e f d'.inside) fault

  abbrev pub IsDeclined : (H → PeerEvent → F → H → Type 0) → Logged H W → PeerEvent → LoggedFault F → Logged H W → Type 0
  IsDeclined declines d e fault d' = IsStoppedBy (is_none d.log) (λ f. declines d.inside e f d'.inside) fault

  -- lines that can't be written stop nothing
  abbrev pub IsCutOff : (H → F → H → Type 0) → Logged H W → LoggedFault F → Logged H W → Type 0
  IsCutOff stops d fault d' = IsStoppedBy true (λ f. stops d.inside f d'.inside) fault
