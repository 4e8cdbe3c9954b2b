-- Calls of the door are calls of the handler inside.
use Rattle.std.proofs.Common.{List, [], ◌∷◌, ap}
use Rattle.broker_sockets.specs.declared.bridge.Given.{Given}
use Rattle.broker_sockets.specs.declared.bridge.PeerEvent.{PeerEvent}
use Rattle.broker_sockets.specs.declared.events.Event.{Event}
use Rattle.broker_sockets.specs.declared.events.Output.{Output}
use Rattle.status_tally.specs.declared.tallied.Tallied.{Tallied}
use Rattle.status_tally.specs.Doors.{IsAnswered, IsHeard, IsSettled}
use Rattle.status_tally.specs.Laws.{Call, handled, heard, settled, Takes, ChangesNothing}

module _ {H : Type 0} (handles : H → Event → List Output → H → Type 0) (hears : H → PeerEvent → Given → H → Type 0) (settles : H → H → Type 0) where
  takes : (call : Call) (d d' : Tallied H) → Takes (IsAnswered handles) (IsHeard hears) (IsSettled settles) d call d' → Takes handles hears settles d.inside call d'.inside
  takes (handled e outputs) d d' t = t.answered
  takes (heard e given) d d' t = t.heard
  takes settled d d' t = t.settled

  pub changes_nothing : ChangesNothing handles hears settles (IsAnswered handles) (IsHeard hears) (IsSettled settles)
  changes_nothing [] d d' t = ap (λ x. x.inside) t
  changes_nothing (call ∷ calls) d d' (m, first, rest) = (m.inside, takes call d m first, changes_nothing calls m d' rest)
