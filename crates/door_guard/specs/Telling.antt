-- What the handler inside is told, and what goes out.
use Rattle.std.specs.Prelude.{◌≡◌, ◌==◌, ℕ, List, [], ◌∷◌, ◌++◌, false, Option, None, flat_map}
use Rattle.std.specs.List.{AllByRecursion}
use Rattle.broker_sockets.specs.declared.events.Event.{Event}
use Rattle.broker_sockets.specs.declared.events.EventKind.{EventKind}
use Rattle.broker_sockets.specs.declared.events.EventKind.TheVariants as kinds
use Rattle.broker_sockets.specs.declared.events.Output.{Output}
use Rattle.mqtt_packets.specs.declared.packet.Packet.{Packet}
use Rattle.door_guard.specs.Counts.{Refused, all_counted}
use Rattle.door_packets.specs.Rights.{Rights}
use Rattle.door_packets.specs.Sending.{Buffer, IsSpelled}
use Rattle.door_guard.specs.Stages.{Held, IsPath, Notice, Outgoing, at, none_busy, noted, on, staged}
use Rattle.door_guard.specs.declared.clients.Clients.{Clients}
use Rattle.door_guard.specs.declared.counts.Refusals.{Refusals}
use Rattle.door_packets.specs.declared.codes.Awaited.{Awaited}
use Rattle.door_packets.specs.declared.step.Step.{Step}

-- an event of which the handler inside was told, and what it gave
abbrev pub Told : Type 0
Told = Event × List Output

abbrev pub given_by : List Told → List Output
given_by calls = flat_map (λ t. t.1) calls

-- what it was told of a connection
abbrev pub noted_in : ℕ → List Told → List Notice
noted_in q calls = flat_map (λ t. noted q t.0.kind) calls

abbrev pub Stages : Type 0
Stages = ℕ → Option Held

-- a path of each connection
abbrev pub ArePaths : Rights → (ℕ → List Notice) → (ℕ → List Notice) → List Output → List Refused → Stages → Stages → List Output → List Output → Type 0
ArePaths r met told given refused s s' out out' = (q : ℕ) → IsPath r q (s q) (s' q) (met q) (told q) given refused out out'

-- how many were refused so far, and what goes out
abbrev pub Ledger : Type 0
Ledger = Refusals × List Output

abbrev pub none : ℕ → List Notice
none q = []

-- this goes out beyond that on a connection, and nothing on others
pub record IsSent (c : ℕ) (more : List Outgoing) (out out' : List Output) : Type 0 where
  pub here : on c out' ≡ on c out ++ more
  pub there : (q : ℕ) → (c == q) ≡ false → on q out' ≡ on q out

-- what goes out where the handler inside gives this, while that SUBACK is to come on a connection
pub record AreGiven (r : Rights) (c : ℕ) (awaited : Option Awaited) (given : List Output) (k k' : Clients) (out out' : Ledger) : Type 0 where
  pub refused : List Refused
  pub counts : out'.0 ≡ all_counted refused out.0
  pub paths : (todo : List Step) → ArePaths r none none given refused (staged (at c (record { todo = todo; awaited = awaited })) k) (staged (at c (record { todo = todo; awaited = awaited })) k') out.1 out'.1

module _ {H : Type 0} (handles : H → Event → List Output → H → Type 0) where
  abbrev pub AreTold : List Told → H → H → Type 0
  AreTold [] h h' = h' ≡ h
  AreTold (t ∷ more) h h' = (m : H) × handles h t.0 t.1 m × AreTold more m h'

module _ {H : Type 0} (handles : H → Event → List Output → H → Type 0) (r : Rights) where
  -- the handler inside is told of events of this moment, and this came from outside
  pub record IsPart (moment : ℕ) (met : ℕ → List Notice) (s s' : Stages) (h h' : H) (out out' : Ledger) : Type 0 where
    pub calls : List Told
    pub refused : List Refused
    pub told : AreTold handles calls h h'
    pub moments : AllByRecursion (λ t. t.0.at ≡ moment) calls
    pub counts : out'.0 ≡ all_counted refused out.0
    pub paths : ArePaths r met (λ q. noted_in q calls) (given_by calls) refused s s' out.1 out'.1

  -- it is told this one
  pub record IsTold (moment c : ℕ) (awaited : Option Awaited) (kind : EventKind) (h h' : H) (k k' : Clients) (out out' : Ledger) : Type 0 where
    pub given : List Output
    pub handled : handles h (record { at = moment; kind = kind }) given h'
    pub gives : AreGiven r c awaited given k k' out out'

  -- it is told of this packet
  pub record IsAsked (moment c : ℕ) (p : Packet) (awaited : Option Awaited) (h h' : H) (k k' : Clients) (out out' : Ledger) : Type 0 where
    pub bytes : Buffer
    pub spelled : IsSpelled p bytes.items
    pub told : IsTold moment c awaited (kinds.Piece c bytes) h h' k k' out out'

  -- this is done for a connection, before all that is to be done behind it
  pub record AreDone (moment c : ℕ) (did : List Step) (h h' : H) (k k' : Clients) (out out' : Ledger) : Type 0 where
    pub part : (more : List Step) → IsPart moment none (staged (at c (record { todo = did ++ more; awaited = None })) k) (staged (at c (record { todo = more; awaited = None })) k') h h' out out'

  -- this came, and nothing is left to be done
  pub record IsMet (moment : ℕ) (met : ℕ → List Notice) (h h' : H) (k k' : Clients) (out out' : Ledger) : Type 0 where
    pub part : IsPart moment met (staged none_busy k) (staged none_busy k') h h' out out'
