-- What the handler inside is told, and what goes out.
use Rattle.std.specs.Prelude.{◌≡◌, ◌==◌, ◌++◌, ◌⊎◌, is_some, ℕ, List, [], ◌∷◌, Bool, true, false, Option, Some, None, flat_map, if◌then◌else◌}
use Rattle.std.specs.List.{AllByRecursion}
use Rattle.broker_sockets.specs.declared.bridge.Given.{Given}
use Rattle.broker_sockets.specs.declared.bridge.PeerEvent.{PeerEvent}
use Rattle.broker_sockets.specs.declared.events.Event.{Event}
use Rattle.broker_sockets.specs.declared.events.EventKind.{EventKind}
use Rattle.broker_sockets.specs.declared.events.EventKind.TheVariants.{Piece}
use Rattle.broker_sockets.specs.declared.events.Output.{Output}
use Rattle.door_mqtt3.specs.Stages.{Dealing, Happening, IsPath, gave, met_by, on, piece_of, sent_if, stage_of, told_if}
use Rattle.door_mqtt3.specs.declared.clients.Clients.{Clients}
use Rattle.door_mqtt3.specs.declared.fault.Mqtt3Fault.{Mqtt3Fault}
use Rattle.door_mqtt3.specs.declared.fault.Mqtt3Fault.TheVariants.{NoMemory, Inside}
use Rattle.door_mqtt3.specs.declared.handler.Mqtt3.{Mqtt3}

-- an event of which the handler inside was told, and what it gave
abbrev pub Told : Type 0
Told = Event × List Output

-- what it was told of a connection in it, and gave for it then
abbrev pub dealt_at : ℕ → Told → List Dealing
dealt_at q t = told_if (piece_of q t.0.kind) ++ gave (on q t.1)

abbrev pub dealt_in : ℕ → List Told → List Dealing
dealt_in q calls = flat_map (dealt_at q) calls

-- it is told what there is of each connection in an event; it gives this
abbrev pub telling : EventKind → ℕ → List Dealing
telling kind = λ q. told_if (piece_of q kind)

abbrev pub giving : List Output → ℕ → List Dealing
giving given = λ q. gave (on q given)

-- a path of each connection
abbrev pub ArePaths : (ℕ → List Happening) → (ℕ → List Dealing) → Clients → Clients → List Output → List Output → Type 0
ArePaths met dealt k k' outputs outputs' = (q : ℕ) → IsPath q (stage_of k q) (stage_of k' q) (met q) (dealt q) outputs outputs'

-- these bytes go out beyond this on a connection, if there are any, and nothing on others
pub record IsPut (c : ℕ) (bytes : List ℕ) (outputs outputs' : List Output) : Type 0 where
  pub here : on c outputs' ≡ on c outputs ++ sent_if bytes
  pub there : (q : ℕ) → (c == q) ≡ false → on q outputs' ≡ on q outputs

abbrev pub none_met : ℕ → List Happening
none_met q = []

-- this happens on one connection
abbrev pub at_one : ℕ → Happening → ℕ → List Happening
at_one c h = λ q. if c == q then h ∷ [] else []

abbrev pub none_dealt : ℕ → List Dealing
none_dealt q = []

-- this event came, and nothing is given or goes out
abbrev pub IsMet : EventKind → Clients → Clients → Type 0
IsMet kind k k' = (outputs : List Output) → ArePaths (λ q. met_by q kind) (telling kind) k k' outputs outputs

abbrev pub is_piece : EventKind → Bool
is_piece (Piece connection bytes) = true
is_piece _ = false

-- bytes of a client, at this moment
abbrev pub IsPieceAt : ℕ → Told → Type 0
IsPieceAt at t = (t.0.at ≡ at) × (is_piece t.0.kind ≡ true)

module _ {H : Type 0} (handles : H → Event → List Output → H → Type 0) where
  abbrev pub AreTold : List Told → H → H → Type 0
  AreTold [] h h' = h' ≡ h
  AreTold (t ∷ more) h h' = (m : H) × handles h t.0 t.1 m × AreTold more m h'

  -- the handler inside is told bytes of clients at this moment, and this came from outside
  pub record IsPart (at : ℕ) (met : ℕ → List Happening) (h h' : H) (k k' : Clients) (outputs outputs' : List Output) : Type 0 where
    pub calls : List Told
    pub told : AreTold calls h h'
    pub pieces : AllByRecursion (IsPieceAt at) calls
    pub paths : ArePaths met (λ q. dealt_in q calls) k k' outputs outputs'

  -- nothing came
  abbrev pub IsTelling : ℕ → H → H → Clients → Clients → List Output → List Output → Type 0
  IsTelling at h h' k k' outputs outputs' = IsPart at none_met h h' k k' outputs outputs'

  -- it is told first what is owed: these bytes
  pub record IsOwed (at : ℕ) (owed : ℕ → List ℕ) (h h' : H) (k k' : Clients) (outputs outputs' : List Output) : Type 0 where
    pub calls : List Told
    pub told : AreTold calls h h'
    pub pieces : AllByRecursion (IsPieceAt at) calls
    pub more : ℕ → List Dealing
    pub deals : (q : ℕ) → dealt_in q calls ≡ told_if (owed q) ++ more q
    pub paths : ArePaths none_met more k k' outputs outputs'

  -- it is told this event
  pub record IsToldOne (e : Event) (h h' : H) (k k' : Clients) (outputs outputs' : List Output) : Type 0 where
    pub given : List Output
    pub handled : handles h e given h'
    pub paths : ArePaths none_met (giving given) k k' outputs outputs'

  -- this one first
  pub record IsTold (e : Event) (h h' : H) (k k' : Clients) (outputs outputs' : List Output) : Type 0 where
    pub reached : H
    pub between : Clients
    pub sent : List Output
    pub first : IsToldOne e h reached k between outputs sent
    pub more : IsTelling e.at reached h' between k' sent outputs'

  -- what goes out where this was given
  pub record IsGivenOn (at : ℕ) (given : List Output) (h h' : H) (k k' : Clients) (outputs : List Output) : Type 0 where
    pub between : Clients
    pub sent : List Output
    pub first : ArePaths none_met (giving given) k between [] sent
    pub more : IsTelling at h h' between k' sent outputs

-- ---- the handler that wraps it

-- whether its bytes are handed on as they are
abbrev pub is_held : Clients → EventKind → Bool
is_held k (Piece connection bytes) = is_some (stage_of k connection)
is_held k _ = false

abbrev pub first_is : Event → List Told → Type 0
first_is e [] = ⊥
first_is e (t ∷ more) = t.0 ≡ e

abbrev pub from_second : List Told → List Told
from_second [] = []
from_second (t ∷ more) = more

-- which calls are bytes at this moment: all, or all but the first, which is the event
abbrev pub AreCalls : Bool → Event → List Told → Type 0
AreCalls true e calls = AllByRecursion (IsPieceAt e.at) calls
AreCalls false e calls = first_is e calls × AllByRecursion (IsPieceAt e.at) (from_second calls)

module _ {H : Type 0} (handles : H → Event → List Output → H → Type 0) where
  -- The handler inside is told bytes of clients at this moment, and first, unless it is bytes of a client that isn't known to be of MQTT 5.0, the event. On
  -- each connection happens what came of this event, what the handler inside gave, and what follows from the two.
  pub record IsTranslated (e : Event) (h h' : H) (k k' : Clients) (outputs : List Output) : Type 0 where
    pub calls : List Told
    pub told : AreTold handles calls h h'
    pub events : AreCalls (is_held k e.kind) e calls
    pub paths : ArePaths (λ q. met_by q e.kind) (λ q. dealt_in q calls) k k' [] outputs

  abbrev pub IsAnsweredIf : Option Clients → Option Clients → Event → H → H → List Output → Type 0
  IsAnsweredIf None k' e h h' outputs = handles h e outputs h' × (k' ≡ None)
  IsAnsweredIf (Some k) None e h h' outputs = ⊥
  IsAnsweredIf (Some k) (Some k') e h h' outputs = IsTranslated e h h' k k' outputs

  -- without translation the handler inside is told the event, and what it gives goes out
  abbrev pub IsAnswered : Mqtt3 H → Event → List Output → Mqtt3 H → Type 0
  IsAnswered d e outputs d' = IsAnsweredIf d.clients d'.clients e d.inside d'.inside outputs

module _ {H : Type 0} (handles : H → Event → List Output → H → Type 0) (hears : H → PeerEvent → Given → H → Type 0) where
  -- what other nodes bring about is handed on as it is
  pub record IsPassedOn (e : PeerEvent) (h h' : H) (k k' : Clients) (given : Given) : Type 0 where
    pub first : Given
    pub reached : H
    pub heard : hears h e first reached
    pub frames : given.frames ≡ first.frames
    pub outputs : IsGivenOn handles e.at first.outputs.items reached h' k k' given.outputs.items

  abbrev pub IsHeardIf : Option Clients → Option Clients → PeerEvent → H → H → Given → Type 0
  IsHeardIf None k' e h h' given = hears h e given h' × (k' ≡ None)
  IsHeardIf (Some k) None e h h' given = ⊥
  IsHeardIf (Some k) (Some k') e h h' given = IsPassedOn e h h' k k' given

  abbrev pub IsHeard : Mqtt3 H → PeerEvent → Given → Mqtt3 H → Type 0
  IsHeard d e given d' = IsHeardIf d.clients d'.clients e d.inside d'.inside given

abbrev pub IsSettled : {H : Type 0} → (H → H → Type 0) → Mqtt3 H → Mqtt3 H → Type 0
IsSettled settles d d' = settles d.inside d'.inside × (d'.clients ≡ d.clients)

-- ---- faults

module _ {H F : Type 0} (handles : H → Event → List Output → H → Type 0) (refuses : H → Event → F → H → Type 0) where
  -- the handler inside is told of events at this moment, and then of one that it refuses
  pub record IsRefusing (at : ℕ) (fault : F) (h h' : H) : Type 0 where
    pub calls : List Told
    pub reached : H
    pub told : AreTold handles calls h reached
    pub event : Event
    pub moment : event.at ≡ at
    pub refused : refuses reached event fault h'

  -- that, or want of memory here
  abbrev pub IsStopped : ℕ → Mqtt3Fault F → H → H → Type 0
  IsStopped at NoMemory h h' = Unit {0}
  IsStopped at (Inside fault) h h' = IsRefusing at fault h h'

-- the fault is one of the handler inside
abbrev pub IsStoppedBy : {F : Type 0} → (F → Type 0) → Mqtt3Fault F → Type 0
IsStoppedBy caused NoMemory = ⊥
IsStoppedBy caused (Inside fault) = caused fault

module _ {H F : Type 0} (handles : H → Event → List Output → H → Type 0) (refuses : H → Event → F → H → Type 0) where
  abbrev pub IsRefusedIf : Option Clients → Event → Mqtt3Fault F → H → H → Type 0
  IsRefusedIf None e fault h h' = IsStoppedBy (λ f. refuses h e f h') fault
  IsRefusedIf (Some k) e fault h h' = IsStopped handles refuses e.at fault h h'

  abbrev pub IsRefused : Mqtt3 H → Event → Mqtt3Fault F → Mqtt3 H → Type 0
  IsRefused d e fault d' = IsRefusedIf d.clients e fault d.inside d'.inside

module _ {H F : Type 0} (handles : H → Event → List Output → H → Type 0) (refuses : H → Event → F → H → Type 0) (hears : H → PeerEvent → Given → H → Type 0) (declines : H → PeerEvent → F → H → Type 0) where
  -- it has heard what other nodes bring about, and refuses what it is told then
  pub record IsRefusingOn (e : PeerEvent) (fault : F) (h h' : H) : Type 0 where
    pub first : Given
    pub reached : H
    pub heard : hears h e first reached
    pub refused : IsRefusing handles refuses e.at fault reached h'

  abbrev pub IsDeclinedOn : PeerEvent → Mqtt3Fault F → H → H → Type 0
  IsDeclinedOn e NoMemory h h' = Unit {0}
  IsDeclinedOn e (Inside fault) h h' = declines h e fault h' ⊎ IsRefusingOn e fault h h'

  abbrev pub IsDeclinedIf : Option Clients → PeerEvent → Mqtt3Fault F → H → H → Type 0
  IsDeclinedIf None e fault h h' = IsStoppedBy (λ f. declines h e f h') fault
  IsDeclinedIf (Some k) e fault h h' = IsDeclinedOn e fault h h'

  abbrev pub IsDeclined : Mqtt3 H → PeerEvent → Mqtt3Fault F → Mqtt3 H → Type 0
  IsDeclined d e fault d' = IsDeclinedIf d.clients e fault d.inside d'.inside

abbrev pub IsCutOff : {H F : Type 0} → (H → F → H → Type 0) → Mqtt3 H → Mqtt3Fault F → Mqtt3 H → Type 0
IsCutOff stops d fault d' = IsStoppedBy (λ f. stops d.inside f d'.inside) fault
