-- What the handler inside is told behind one that lets in users alone.
use Rattle.std.specs.Prelude.{◌≡◌, ◌⊎◌, ◌∷◌, [], ℕ, List, map, Option, Some, None}
use Rattle.broker_sockets.specs.declared.bridge.Given.{Given}
use Rattle.broker_sockets.specs.declared.bridge.PeerEvent.{PeerEvent}
use Rattle.broker_sockets.specs.declared.events.Event.{Event}
use Rattle.broker_sockets.specs.declared.events.Output.{Output}
use Rattle.broker_turns.specs.Handling.Told.{Of_client, Of_peer}
use Rattle.door_guard.specs.Answering.{IsAnsweredIf, IsHeardIf, refusals_of}
use Rattle.door_guard.specs.Calls as guards
use Rattle.door_guard.specs.Counts.{Refused, all_counted, none_refused}
use Rattle.door_guard.specs.Laws.{IsFollowed}
use Rattle.door_guard.specs.Clients.{client_of}
use Rattle.door_guard.specs.Views.{inside_of}
use Rattle.door_guard.specs.declared.clients.Clients.{Clients}
use Rattle.door_guard.specs.declared.door.Door.{Door}
use Rattle.door_guard.specs.declared.fault.GuardFault.{GuardFault}
use Rattle.door_guard.specs.declared.fault.GuardFault.TheVariants.{Inside}
use Rattle.door_guard.specs.declared.guarded.Guarded.{Guarded}
use Rattle.door_guard.specs.declared.known.Known.{Known}
use Rattle.door_packets.specs.Rights.{Rights}
use Rattle.law_doors.specs.Calls.{AreCalled, ArePassed, Call, Settles, Tells, notes, notes_peer}

-- what it keeps; none: there are no users
abbrev pub door_of : {H A : Type 0} → Guarded H A → Option (Door A)
door_of d = d.door

-- who may do what
abbrev pub access_of : {A : Type 0} → Door A → A
access_of k = k.access

-- what is known of connections, and how many were refused
abbrev pub known_in : {A : Type 0} → Door A → Known
known_in k = k.known

abbrev pub clients_in : {A : Type 0} → Door A → Clients
clients_in k = k.known.clients

abbrev pub NoneOpen : {A : Type 0} → Door A → Type 0
NoneOpen k = (q : ℕ) → client_of (clients_in k) q ≡ None

-- in the words of the handler that guards
abbrev pub as_guard_call : Call → guards.Call
as_guard_call (Tells (Of_client e outputs)) = guards.Handled e outputs
as_guard_call (Tells (Of_peer e given)) = guards.Heard e given
as_guard_call Settles = guards.Settled

module _ {A : Type 0} (rights : A → Rights) where
  -- what one call is to it: what a handler that notes all is told behind the same users
  abbrev pub Guards_pass : Option (Door A) → Call → List Call → Option (Door A) → Type 0
  Guards_pass k (Tells (Of_client e outputs)) first k' = IsAnsweredIf notes rights k k' e [] first outputs
  Guards_pass k (Tells (Of_peer e given)) first k' = IsHeardIf notes_peer rights k k' e [] first given
  Guards_pass k Settles first k' = (first ≡ Settles ∷ []) × (k' ≡ k)

  -- Where there are users, from where no connection is open: of each connection the handler inside is told just what its user may send, and what goes out is
  -- what its user may receive of that which the handler inside gave, and what answers the rest. What is counted is just what was refused on these connections.
  abbrev pub GuardsFollow : Type 0
  GuardsFollow =
      (k : Door A) (k' : Option (Door A)) (calls inside : List Call) → NoneOpen k → ArePassed Guards_pass (Some k) calls inside k'
      → (refused : List Refused) × (refusals_of k' ≡ all_counted refused (refusals_of (Some k))) × ((q : ℕ) → IsFollowed (rights (access_of k)) q (map as_guard_call calls) (map as_guard_call inside) refused)

  -- without users it is told just what the other is, and nothing is refused
  abbrev pub GuardsOff : Type 0
  GuardsOff = (k : Option (Door A)) (calls inside : List Call) → ArePassed Guards_pass None calls inside k → (inside ≡ calls) × (refusals_of k ≡ none_refused)

  module _ {H : Type 0} (handles : H → Event → List Output → H → Type 0) (hears : H → PeerEvent → Given → H → Type 0) (settles : H → H → Type 0)
      (handles' : Guarded H A → Event → List Output → Guarded H A → Type 0) (hears' : Guarded H A → PeerEvent → Given → Guarded H A → Type 0)
      (settles' : Guarded H A → Guarded H A → Type 0) where
    -- whatever calls are made of a handler with users, or without, they are these of the handler inside
    abbrev pub GuardsTell : Type 0
    GuardsTell =
        (calls : List Call) (d d' : Guarded H A) → AreCalled handles' hears' settles' calls d d'
        → (inside : List Call) × AreCalled handles hears settles inside (inside_of d) (inside_of d') × ArePassed Guards_pass (door_of d) calls inside (door_of d')

-- it stops with this fault: at an event of clients, at one of other nodes, or where it is to settle
abbrev pub IsStopping : {H F : Type 0} → (H → Event → F → H → Type 0) → (H → PeerEvent → F → H → Type 0) → (H → F → H → Type 0) → H → F → H → Type 0
IsStopping refuses declines stops h fault h' = ((e : Event) × refuses h e fault h') ⊎ ((e : PeerEvent) × declines h e fault h') ⊎ stops h fault h'

module _ {H A F : Type 0} (handles : H → Event → List Output → H → Type 0) (hears : H → PeerEvent → Given → H → Type 0) (settles : H → H → Type 0)
    (refuses : H → Event → F → H → Type 0) (declines : H → PeerEvent → F → H → Type 0) (stops : H → F → H → Type 0)
    (handles' : Guarded H A → Event → List Output → Guarded H A → Type 0) (hears' : Guarded H A → PeerEvent → Given → Guarded H A → Type 0) (settles' : Guarded H A → Guarded H A → Type 0)
    (refuses' : Guarded H A → Event → GuardFault F → Guarded H A → Type 0) (declines' : Guarded H A → PeerEvent → GuardFault F → Guarded H A → Type 0)
    (stops' : Guarded H A → GuardFault F → Guarded H A → Type 0) where
  -- where after any calls it stops with a fault of the handler inside, that was called some more, and stopped with just this fault
  abbrev pub GuardsStop : Type 0
  GuardsStop =
      (calls : List Call) (d m d' : Guarded H A) (fault : F) → AreCalled handles' hears' settles' calls d m → IsStopping refuses' declines' stops' m (Inside fault) d'
      → (inside : List Call) × (h : H) × AreCalled handles hears settles inside (inside_of d) h × IsStopping refuses declines stops h fault (inside_of d')
