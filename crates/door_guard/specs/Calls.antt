-- Calls of a handler, one after another, and what they are of one connection.
use Rattle.std.specs.Prelude.{◌≡◌, ℕ, List, [], ◌∷◌, flat_map}
use Rattle.broker_sockets.specs.declared.bridge.Given.{Given}
use Rattle.broker_sockets.specs.declared.bridge.PeerEvent.{PeerEvent}
use Rattle.broker_sockets.specs.declared.events.Event.{Event}
use Rattle.broker_sockets.specs.declared.events.Output.{Output}
use Rattle.door_guard.specs.Stages.{Notice, noted}

-- an event of clients and what was given at it, one of other nodes, or that it settled
pub data Call : Type 0 where
  Handled : (e : Event) (outputs : List Output) → Call
  Heard : (e : PeerEvent) (given : Given) → Call
  Settled : Call

module _ {H : Type 0} (handles : H → Event → List Output → H → Type 0) (hears : H → PeerEvent → Given → H → Type 0) (settles : H → H → Type 0) where
  abbrev pub IsMade : Call → H → H → Type 0
  IsMade (Handled e outputs) h h' = handles h e outputs h'
  IsMade (Heard e given) h h' = hears h e given h'
  IsMade Settled h h' = settles h h'

  abbrev pub AreMade : List Call → H → H → Type 0
  AreMade [] h h' = h' ≡ h
  AreMade (call ∷ more) h h' = (m : H) × IsMade call h m × AreMade more m h'

-- ---- of one connection

-- what it is told of it
abbrev pub noted_at : ℕ → Call → List Notice
noted_at q (Handled e outputs) = noted q e.kind
noted_at q (Heard e given) = []
noted_at q Settled = []

abbrev pub noted_of : ℕ → List Call → List Notice
noted_of q calls = flat_map (noted_at q) calls

-- what was given
abbrev pub given_at : Call → List Output
given_at (Handled e outputs) = outputs
given_at (Heard e given) = given.outputs.items
given_at Settled = []

abbrev pub given_of : List Call → List Output
given_of calls = flat_map given_at calls
