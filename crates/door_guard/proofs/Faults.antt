-- Why a handler that guards stops.
use Rattle.std.proofs.Common.{ℕ, List, [], ◌++◌, refl}
use Rattle.broker_sockets.specs.declared.events.Event.{Event}
use Rattle.broker_sockets.specs.declared.events.Output.{Output}
use Rattle.door_guard.specs.Faults.{IsRefusing, IsStopped}
use Rattle.door_packets.specs.Rights.{Rights}
use Rattle.door_guard.specs.Stages.{Notice}
use Rattle.door_guard.specs.Telling.{AreDone, AreTold, IsMet, Ledger, Told}
use Rattle.door_guard.specs.declared.clients.Clients.{Clients}
use Rattle.door_guard.specs.declared.fault.GuardFault.{GuardFault}
use Rattle.door_guard.specs.declared.fault.GuardFault.TheVariants.{NoMemory, Inside}
use Rattle.door_packets.specs.declared.step.Step.{Step}
use Rattle.door_guard.proofs.Paths.{calls_then}

module _ {H F : Type 0} (handles : H → Event → List Output → H → Type 0) (refuses : H → Event → F → H → Type 0) where
  pub refusing_one : (e : Event) (f : F) (h h' : H) → refuses h e f h' → IsRefusing handles refuses f h h'
  refusing_one e f h h' r = record { calls = []; reached = h; told = refl; event = e; refused = r }

  stopped_then : (calls : List Told) (fault : GuardFault F) (h m h' : H) → AreTold handles calls h m → IsStopped handles refuses m h' fault → IsStopped handles refuses h h' fault
  stopped_then calls NoMemory h m h' told s = tt
  stopped_then calls (Inside f) h m h' told s = record {
    calls = calls ++ s.calls;
    reached = s.reached;
    told = calls_then handles calls s.calls h m s.reached told s.told;
    event = s.event;
    refused = s.refused;
  }

  pub stopped_steps : (r : Rights) (moment c : ℕ) (did : List Step) (fault : GuardFault F) (h m h' : H) (k l : Clients) (o p : Ledger) → AreDone handles r moment c did h m k l o p
      → IsStopped handles refuses m h' fault → IsStopped handles refuses h h' fault
  stopped_steps r moment c did fault h m h' k l o p d s = stopped_then (d.part []).calls fault h m h' (d.part []).told s

  pub stopped_met : (r : Rights) (moment : ℕ) (met : ℕ → List Notice) (fault : GuardFault F) (h m h' : H) (k l : Clients) (o p : Ledger) → IsMet handles r moment met h m k l o p
      → IsStopped handles refuses m h' fault → IsStopped handles refuses h h' fault
  stopped_met r moment met fault h m h' k l o p d s = stopped_then d.part.calls fault h m h' d.part.told s
