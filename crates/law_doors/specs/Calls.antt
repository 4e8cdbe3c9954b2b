-- Calls of a handler, one after another, and those that they are of the handler inside.
use Rattle.std.specs.Prelude.{◌≡◌, List, [], ◌∷◌, ◌++◌}
use Rattle.broker_sockets.specs.declared.bridge.Given.{Given}
use Rattle.broker_sockets.specs.declared.bridge.PeerEvent.{PeerEvent}
use Rattle.broker_sockets.specs.declared.events.Event.{Event}
use Rattle.broker_sockets.specs.declared.events.Output.{Output}
use Rattle.broker_turns.specs.Handling.{IsTakenBy, Told}
use Rattle.broker_turns.specs.Handling.Told.{Of_client, Of_peer}

-- it is told something, and gives something out, or it settles
pub data Call : Type 0 where
  Tells : (told : Told) → Call
  Settles : Call

module _ {H : Type 0} (handles : H → Event → List Output → H → Type 0) (hears : H → PeerEvent → Given → H → Type 0) (settles : H → H → Type 0) where
  abbrev pub IsCalled : Call → H → H → Type 0
  IsCalled (Tells told) h h' = IsTakenBy handles hears told h h'
  IsCalled Settles h h' = settles h h'

  abbrev pub AreCalled : List Call → H → H → Type 0
  AreCalled [] h h' = h' ≡ h
  AreCalled (call ∷ calls) h h' = (m : H) × IsCalled call h m × AreCalled calls m h'

-- Between a handler and the one inside it: call by call, from one state of the first to another, these are the calls of the second.
abbrev pub ArePassed : {K : Type 0} → (K → Call → List Call → K → Type 0) → K → List Call → List Call → K → Type 0
ArePassed passes k [] inside k' = (inside ≡ []) × (k' ≡ k)
ArePassed {K = K} passes k (call ∷ calls) inside k' =
    (m : K) × (first : List Call) × (rest : List Call) × passes k call first m × ArePassed passes m calls rest k' × (inside ≡ first ++ rest)

-- ---- a handler that does nothing but note what it is told: it is the list of that

abbrev pub notes : List Call → Event → List Output → List Call → Type 0
notes calls e outputs calls' = calls' ≡ calls ++ Tells (Of_client e outputs) ∷ []

abbrev pub notes_peer : List Call → PeerEvent → Given → List Call → Type 0
notes_peer calls e given calls' = calls' ≡ calls ++ Tells (Of_peer e given) ∷ []
