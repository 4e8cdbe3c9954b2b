-- What a handler that guards makes of an event, from what the handler inside makes of what it is told.
use Rattle.std.specs.Prelude.{◌≡◌, List, [], Option, Some, None}
use Rattle.broker_sockets.specs.declared.bridge.Given.{Given}
use Rattle.broker_sockets.specs.declared.bridge.PeerEvent.{PeerEvent}
use Rattle.broker_sockets.specs.declared.events.Event.{Event}
use Rattle.broker_sockets.specs.declared.events.Output.{Output}
use Rattle.door_guard.specs.Counts.{none_refused}
use Rattle.door_packets.specs.Rights.{Rights}
use Rattle.door_guard.specs.Stages.{noted}
use Rattle.door_guard.specs.Telling.{AreGiven, IsMet}
use Rattle.door_guard.specs.declared.counts.Refusals.{Refusals}
use Rattle.door_guard.specs.declared.door.Door.{Door}
use Rattle.door_guard.specs.declared.guarded.Guarded.{Guarded}
use Rattle.door_guard.specs.declared.known.Known.{Known}

module _ {H A : Type 0} (handles : H → Event → List Output → H → Type 0) (rights : A → Rights) where
  -- the handler inside is told what its clients may do, and who may do what stays
  abbrev pub IsGuarded : Event → H → H → Door A → Door A → List Output → Type 0
  IsGuarded e h h' k k' outputs = IsMet handles (rights k.access) e.at (λ q. noted q e.kind) h h' k.known.clients k'.known.clients (k.known.refusals, []) (k'.known.refusals, outputs) × (k'.access ≡ k.access)

  abbrev pub IsAnsweredIf : Option (Door A) → Option (Door A) → Event → H → H → List Output → Type 0
  IsAnsweredIf None k' e h h' outputs = handles h e outputs h' × (k' ≡ None)
  IsAnsweredIf (Some k) None e h h' outputs = ⊥
  IsAnsweredIf (Some k) (Some k') e h h' outputs = IsGuarded e h h' k k' outputs

  -- without users the handler inside is told the event, and what it gives goes out
  abbrev pub IsAnswered : Guarded H A → Event → List Output → Guarded H A → Type 0
  IsAnswered d e outputs d' = IsAnsweredIf d.door d'.door e d.inside d'.inside outputs

-- ---- what other nodes bring about, and settling

-- the handler inside is told it as it is
pub record IsPassedOn {H : Type 0} (hears : H → PeerEvent → Given → H → Type 0) (r : Rights) (e : PeerEvent) (h h' : H) (k k' : Known) (given : Given) : Type 0 where
  pub first : Given
  pub heard : hears h e first h'
  pub frames : given.frames ≡ first.frames
  pub gives : AreGiven r 0 None first.outputs.items k.clients k'.clients (k.refusals, []) (k'.refusals, given.outputs.items)

module _ {H A : Type 0} (hears : H → PeerEvent → Given → H → Type 0) (rights : A → Rights) where
  abbrev pub IsHeardIf : Option (Door A) → Option (Door A) → PeerEvent → H → H → Given → Type 0
  IsHeardIf None k' e h h' given = hears h e given h' × (k' ≡ None)
  IsHeardIf (Some k) None e h h' given = ⊥
  IsHeardIf (Some k) (Some k') e h h' given = IsPassedOn hears (rights k.access) e h h' k.known k'.known given × (k'.access ≡ k.access)

  abbrev pub IsHeard : Guarded H A → PeerEvent → Given → Guarded H A → Type 0
  IsHeard d e given d' = IsHeardIf d.door d'.door e d.inside d'.inside given

abbrev pub IsSettled : {H A : Type 0} → (H → H → Type 0) → Guarded H A → Guarded H A → Type 0
IsSettled settles d d' = settles d.inside d'.inside × (d'.door ≡ d.door)

-- how many were refused
abbrev pub refusals_of : {A : Type 0} → Option (Door A) → Refusals
refusals_of None = none_refused
refusals_of (Some k) = k.known.refusals
