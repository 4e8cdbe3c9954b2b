-- What the handler inside is told behind limits on clients.
use Rattle.std.specs.Prelude.{◌≡◌, ◌++◌, ◌∷◌, [], ℕ, List, Bool, true, false, map}
use Rattle.broker_sockets.specs.declared.bridge.Given.{Given}
use Rattle.broker_sockets.specs.declared.bridge.PeerEvent.{PeerEvent}
use Rattle.broker_sockets.specs.declared.events.Event.{Event}
use Rattle.broker_sockets.specs.declared.events.Output.{Output}
use Rattle.broker_turns.specs.Handling.Told.{Of_client, Of_peer}
use Rattle.door_limits.specs.Answering.{Cut, after_if, closings, gone, instead, is_tick, is_told, met}
use Rattle.door_limits.specs.Connected.{Connected, IsLate, NoneIsLate, after}
use Rattle.door_limits.specs.Limits.{are_none}
use Rattle.door_limits.specs.Views.{connections_of, inside_of, limits_of}
use Rattle.door_limits.specs.declared.limited.Limited.{Limited}
use Rattle.door_limits.specs.declared.limits.Limits.{Limits}
use Rattle.law_doors.specs.Calls.{AreCalled, ArePassed, Call, Settles, Tells}

-- it is told that a connection is gone
abbrev pub told_gone : ℕ → Cut → Call
told_gone at cut = Tells (Of_client (gone at cut.0) cut.1)

-- these are late, one after another, from some open connections on
abbrev pub AreLate : Limits → ℕ → List Cut → Connected → Connected → Type 0
AreLate limits at [] known known' = known' ≡ known
AreLate limits at (cut ∷ more) known known' = IsLate limits.within at known cut.0 × AreLate limits at more (after cut.1 (met (gone at cut.0) known)) known'

-- at a tick all that are late, and none else
abbrev pub AreLateIf : Bool → Limits → ℕ → List Cut → Connected → Connected → Type 0
AreLateIf true limits at cuts known known' = AreLate limits at cuts known known' × NoneIsLate limits.within at known'
AreLateIf false limits at cuts known known' = (cuts ≡ []) × (known' ≡ known)

-- it is told the event, and then of each that is late that it is gone; what it gives out goes out, and the closes of these
pub record IsLetIn (limits : Limits) (known : Connected) (e : Event) (outputs : List Output) (first : List Call) (known' : Connected) : Type 0 where
  pub given : List Output
  pub cuts : List Cut
  pub told : first ≡ Tells (Of_client e given) ∷ map (told_gone e.at) cuts
  pub late : AreLateIf (is_tick e.kind) limits e.at cuts (after given (met e known)) known'
  pub all : outputs ≡ given ++ closings cuts

-- nothing of a client that found no room, which is closed
abbrev pub IsLetInIf : Bool → Limits → Connected → Event → List Output → List Call → Connected → Type 0
IsLetInIf true limits known e outputs first known' = IsLetIn limits known e outputs first known'
IsLetInIf false limits known e outputs first known' = (first ≡ []) × (outputs ≡ instead e.kind) × (known' ≡ known)

-- without limits it is told all, and just what it gives out goes out
abbrev pub IsLimited : Bool → Limits → Connected → Event → List Output → List Call → Connected → Type 0
IsLimited true limits known e outputs first known' = (first ≡ Tells (Of_client e outputs) ∷ []) × (known' ≡ known)
IsLimited false limits known e outputs first known' = IsLetInIf (is_told limits known e.kind) limits known e outputs first known'

-- what one call is to it, while these connections are open
abbrev pub Limits_pass : Limits → Connected → Call → List Call → Connected → Type 0
Limits_pass limits known (Tells (Of_client e outputs)) first known' = IsLimited (are_none limits) limits known e outputs first known'
Limits_pass limits known (Tells (Of_peer e given)) first known' = (first ≡ Tells (Of_peer e given) ∷ []) × (known' ≡ after_if (are_none limits) given.outputs.items known)
Limits_pass limits known Settles first known' = (first ≡ Settles ∷ []) × (known' ≡ known)

-- without limits it is told just what the other is
abbrev pub LimitsOff : Type 0
LimitsOff = (limits : Limits) (known known' : Connected) (calls inside : List Call) → are_none limits ≡ true → ArePassed (Limits_pass limits) known calls inside known' → inside ≡ calls

module _ {H : Type 0} (handles : H → Event → List Output → H → Type 0) (hears : H → PeerEvent → Given → H → Type 0) (settles : H → H → Type 0)
    (handles' : Limited H → Event → List Output → Limited H → Type 0) (hears' : Limited H → PeerEvent → Given → Limited H → Type 0) (settles' : Limited H → Limited H → Type 0) where
  -- whatever calls are made of a handler with limits, they are these of the handler inside
  abbrev pub LimitsTell : Type 0
  LimitsTell =
      (calls : List Call) (d d' : Limited H) → AreCalled handles' hears' settles' calls d d'
      → (inside : List Call) × AreCalled handles hears settles inside (inside_of d) (inside_of d')
      × ArePassed (Limits_pass (limits_of d)) (connections_of d) calls inside (connections_of d')
