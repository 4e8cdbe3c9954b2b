-- Calls of a handler, one after another.
use Rattle.std.specs.Prelude.{◌≡◌, ℕ, List, [], ◌∷◌}
use Rattle.broker_sockets.specs.declared.bridge.Given.{Given}
use Rattle.broker_sockets.specs.declared.bridge.PeerEvent.{PeerEvent}
use Rattle.broker_sockets.specs.declared.events.Event.{Event}
use Rattle.broker_sockets.specs.declared.events.EventKind.TheVariants.{Tick}
use Rattle.broker_sockets.specs.declared.events.Output.{Output}
use Rattle.home_table.specs.Table.{Table}

-- an event of clients and what was given out at it, one of other nodes, or that it settled
pub data Call : Type 0 where
  Handled : (e : Event) (outputs : List Output) → Call
  Heard : (e : PeerEvent) (given : Given) → Call
  Settled : Call

-- what is made of the handler inside: such a call, or it takes a table
pub data Made : Type 0 where
  Plain : (call : Call) → Made
  Taken : (at : ℕ) (homes : Table) (outputs : List Output) → Made

module _ {H : Type 0} (handles : H → Event → List Output → H → Type 0) (hears : H → PeerEvent → Given → H → Type 0) (settles : H → H → Type 0) where
  abbrev pub IsCalled : Call → H → H → Type 0
  IsCalled (Handled e outputs) h h' = handles h e outputs h'
  IsCalled (Heard e given) h h' = hears h e given h'
  IsCalled Settled h h' = settles h h'

  abbrev pub AreCalled : List Call → H → H → Type 0
  AreCalled [] h h' = h' ≡ h
  AreCalled (call ∷ more) h h' = (m : H) × IsCalled call h m × AreCalled more m h'

-- a call as it is, or a table in place of a tick of that moment, with the same outputs
abbrev pub IsFor : Call → Made → Type 0
IsFor call (Plain made) = made ≡ call
IsFor (Handled e outputs) (Taken at homes given) = (e ≡ record { at = at; kind = Tick }) × (given ≡ outputs)
IsFor (Heard e given) (Taken at homes outputs) = ⊥
IsFor Settled (Taken at homes outputs) = ⊥

-- one for each call, in order
abbrev pub AreFor : List Call → List Made → Type 0
AreFor [] [] = Unit {0}
AreFor [] (made ∷ more) = ⊥
AreFor (call ∷ calls) [] = ⊥
AreFor (call ∷ calls) (made ∷ more) = IsFor call made × AreFor calls more

-- the tables that were taken, in order
abbrev pub tables_in : List Made → List Table
tables_in [] = []
tables_in (Plain call ∷ more) = tables_in more
tables_in (Taken at homes outputs ∷ more) = homes ∷ tables_in more
