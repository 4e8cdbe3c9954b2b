-- What the handler inside is told behind limits on what clients send.
use Rattle.std.specs.Prelude.{◌≡◌, ◌∷◌, [], List, Option, None}
use Rattle.broker_sockets.specs.declared.bridge.Given.{Given}
use Rattle.broker_sockets.specs.declared.bridge.PeerEvent.{PeerEvent}
use Rattle.broker_sockets.specs.declared.events.Event.{Event}
use Rattle.broker_sockets.specs.declared.events.Output.{Output}
use Rattle.broker_turns.specs.Handling.Told.{Of_client, Of_peer}
use Rattle.door_bounds.specs.Answering.{IsAnsweredIf, IsHeardIf}
use Rattle.door_bounds.specs.Views.{door_of, inside_of}
use Rattle.door_bounds.specs.declared.bounded.Bounded.{Bounded}
use Rattle.door_bounds.specs.declared.door.Door.{Door}
use Rattle.law_doors.specs.Calls.{AreCalled, ArePassed, Call, Settles, Tells, notes}

-- what one call is to it: what a handler that notes all is told behind the same limits
abbrev pub Bounds_pass : Option Door → Call → List Call → Option Door → Type 0
Bounds_pass door (Tells (Of_client e outputs)) first door' = IsAnsweredIf notes door door' e [] first outputs
Bounds_pass door (Tells (Of_peer e given)) first door' = (first ≡ Tells (Of_peer e given) ∷ []) × IsHeardIf door door' given.outputs.items
Bounds_pass door Settles first door' = (first ≡ Settles ∷ []) × (door' ≡ door)

-- without limits it is told just what the other is
abbrev pub BoundsOff : Type 0
BoundsOff = (door : Option Door) (calls inside : List Call) → ArePassed Bounds_pass None calls inside door → inside ≡ calls

module _ {H G : Type 0} (handles : H → Event → List Output → H → Type 0) (hears : H → PeerEvent → Given → H → Type 0) (settles : H → H → Type 0)
    (handles' : Bounded H G → Event → List Output → Bounded H G → Type 0) (hears' : Bounded H G → PeerEvent → Given → Bounded H G → Type 0) (settles' : Bounded H G → Bounded H G → Type 0) where
  -- whatever calls are made of a handler with limits on what clients send, they are these of the handler inside
  abbrev pub BoundsTell : Type 0
  BoundsTell =
      (calls : List Call) (d d' : Bounded H G) → AreCalled handles' hears' settles' calls d d'
      → (inside : List Call) × AreCalled handles hears settles inside (inside_of d) (inside_of d') × ArePassed Bounds_pass (door_of d) calls inside (door_of d')
