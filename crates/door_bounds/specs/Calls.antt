-- Calls of a handler, one after another.
use Rattle.std.specs.Prelude.{◌≡◌, List, [], ◌∷◌}
use Rattle.broker_sockets.specs.declared.bridge.Given.{Given}
use Rattle.broker_sockets.specs.declared.bridge.PeerEvent.{PeerEvent}
use Rattle.broker_sockets.specs.declared.events.Event.{Event}
use Rattle.broker_sockets.specs.declared.events.Output.{Output}

-- an event of clients and what was given out at it, one of other nodes, or that it settled
pub data Call : Type 0 where
  Handled : (e : Event) (outputs : List Output) → Call
  Heard : (e : PeerEvent) (given : Given) → Call
  Settled : Call

module _ {H : Type 0} (handles : H → Event → List Output → H → Type 0) (hears : H → PeerEvent → Given → H → Type 0) (settles : H → H → Type 0) where
  abbrev pub IsMade : Call → H → H → Type 0
  IsMade (Handled e outputs) h h' = handles h e outputs h'
  IsMade (Heard e given) h h' = hears h e given h'
  IsMade Settled h h' = settles h h'

  abbrev pub AreMade : List Call → H → H → Type 0
  AreMade [] h h' = h' ≡ h
  AreMade (call ∷ more) h h' = (m : H) × IsMade call h m × AreMade more m h'
