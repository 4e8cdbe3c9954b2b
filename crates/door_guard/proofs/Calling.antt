-- Each event comes to events of the handler inside, and what other nodes bring about to just that.
use Rattle.std.proofs.Common.{List, [], ◌∷◌, Option, Some, None, refl}
use Rattle.broker_sockets.specs.declared.bridge.Given.{Given}
use Rattle.broker_sockets.specs.declared.bridge.PeerEvent.{PeerEvent}
use Rattle.broker_sockets.specs.declared.events.Event.{Event}
use Rattle.broker_sockets.specs.declared.events.Output.{Output}
use Rattle.door_packets.specs.Rights.{Rights}
use Rattle.door_guard.specs.Answering.{IsAnswered, IsAnsweredIf, IsHeard, IsHeardIf}
use Rattle.door_guard.specs.Telling.{AreTold, Told}
use Rattle.door_guard.specs.Views.{inside_of}
use Rattle.door_guard.specs.declared.door.Door.{Door}
use Rattle.door_guard.specs.declared.guarded.Guarded.{Guarded}

module _ {H A : Type 0} (handles : H → Event → List Output → H → Type 0) (rights : A → Rights) where
  told_if : (k k' : Option (Door A)) (e : Event) (h h' : H) (outputs : List Output) → IsAnsweredIf handles rights k k' e h h' outputs → (told : List Told) × AreTold handles told h h'
  told_if None k' e h h' outputs is = ((e, outputs) ∷ [], (h', is.0, refl))
  told_if (Some k) None e h h' outputs is = absurd is
  told_if (Some k) (Some k') e h h' outputs is = (is.0.part.calls, is.0.part.told)

  pub some_told : (d : Guarded H A) (e : Event) (outputs : List Output) (d' : Guarded H A) → IsAnswered handles rights d e outputs d' → (told : List Told) × AreTold handles told (inside_of d) (inside_of d')
  some_told d e outputs d' is = told_if d.door d'.door e d.inside d'.inside outputs is

module _ {H A : Type 0} (hears : H → PeerEvent → Given → H → Type 0) (rights : A → Rights) where
  heard_if : (k k' : Option (Door A)) (e : PeerEvent) (h h' : H) (given : Given) → IsHeardIf hears rights k k' e h h' given → (first : Given) × hears h e first h'
  heard_if None k' e h h' given is = (given, is.0)
  heard_if (Some k) None e h h' given is = absurd is
  heard_if (Some k) (Some k') e h h' given is = (is.0.first, is.0.heard)

  pub some_heard : (d : Guarded H A) (e : PeerEvent) (given : Given) (d' : Guarded H A) → IsHeard hears rights d e given d' → (first : Given) × hears (inside_of d) e first (inside_of d')
  some_heard d e given d' is = heard_if d.door d'.door e d.inside d'.inside given is
