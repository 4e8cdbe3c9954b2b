-- Calls of a handler, one after another, and what they are of one connection.
use Rattle.std.specs.Prelude.{◌≡◌, ◌++◌, ℕ, List, [], ◌∷◌, flat_map}
use Rattle.broker_sockets.specs.declared.bridge.Given.{Given}
use Rattle.broker_sockets.specs.declared.bridge.PeerEvent.{PeerEvent}
use Rattle.broker_sockets.specs.declared.events.Event.{Event}
use Rattle.broker_sockets.specs.declared.events.Output.{Output}
use Rattle.door_mqtt3.specs.Stages.{Dealing, Happening, gave, met_by, on, piece_of, told_if}

-- an event of clients and what was given at it, one of other nodes, or that it settled
pub data Call : Type 0 where
  Handled : (e : Event) (outputs : List Output) → Call
  Heard : (e : PeerEvent) (given : Given) → Call
  Settled : Call

module _ {H : Type 0} (handles : H → Event → List Output → H → Type 0) (hears : H → PeerEvent → Given → H → Type 0) (settles : H → H → Type 0) where
  abbrev pub IsMade : Call → H → H → Type 0
  IsMade (Handled e outputs) h h' = handles h e outputs h'
  IsMade (Heard e given) h h' = hears h e given h'
  IsMade Settled h h' = settles h h'

  abbrev pub AreMade : List Call → H → H → Type 0
  AreMade [] h h' = h' ≡ h
  AreMade (call ∷ more) h h' = (m : H) × IsMade call h m × AreMade more m h'

-- ---- of one connection

-- the events of it
abbrev pub met_at : ℕ → Call → List Happening
met_at q (Handled e outputs) = met_by q e.kind
met_at q (Heard e given) = []
met_at q Settled = []

abbrev pub met_of : ℕ → List Call → List Happening
met_of q calls = flat_map (met_at q) calls

-- the bytes that came on it
abbrev pub bytes_at : ℕ → Call → List ℕ
bytes_at q (Handled e outputs) = piece_of q e.kind
bytes_at q (Heard e given) = []
bytes_at q Settled = []

abbrev pub bytes_of : ℕ → List Call → List ℕ
bytes_of q calls = flat_map (bytes_at q) calls

-- what was given
abbrev pub given_at : Call → List Output
given_at (Handled e outputs) = outputs
given_at (Heard e given) = given.outputs.items
given_at Settled = []

abbrev pub given_of : List Call → List Output
given_of calls = flat_map given_at calls

-- what was told of it and given for it, in order
abbrev pub dealt_by : ℕ → Call → List Dealing
dealt_by q (Handled e outputs) = told_if (piece_of q e.kind) ++ gave (on q outputs)
dealt_by q (Heard e given) = gave (on q given.outputs.items)
dealt_by q Settled = []

abbrev pub dealt_of : ℕ → List Call → List Dealing
dealt_of q calls = flat_map (dealt_by q) calls
