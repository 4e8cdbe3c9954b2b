-- A handler that lets in users alone stops where the one inside stops.
use Rattle.std.proofs.Common.{List, [], ◌∷◌, ◌++◌, Option, Some, None, refl, inl, inr}
use Rattle.broker_sockets.specs.declared.bridge.Given.{Given}
use Rattle.broker_sockets.specs.declared.bridge.PeerEvent.{PeerEvent}
use Rattle.broker_sockets.specs.declared.events.Event.{Event}
use Rattle.broker_sockets.specs.declared.events.Output.{Output}
use Rattle.broker_turns.specs.Handling.Told.{Of_client}
use Rattle.door_guard.specs.Answering.{IsAnswered, IsHeard, IsSettled}
use Rattle.door_guard.specs.Faults.{IsCutOff, IsDeclined, IsDeclinedIf, IsRefused, IsRefusedIf}
use Rattle.door_guard.specs.Telling.{AreTold, Told}
use Rattle.door_guard.specs.Views.{inside_of}
use Rattle.door_guard.specs.declared.door.Door.{Door}
use Rattle.door_guard.specs.declared.fault.GuardFault.TheVariants.{Inside}
use Rattle.door_guard.specs.declared.guarded.Guarded.{Guarded}
use Rattle.door_packets.specs.Rights.{Rights}
use Rattle.law_doors.specs.Calls.{AreCalled, Call, Tells}
use Rattle.law_doors.specs.Guards.{GuardsStop, IsStopping, door_of}
use Rattle.law_doors.proofs.Calls.{called_join}
use Rattle.law_doors.proofs.Guards.{guards_tell}

module _ {H A F : Type 0} (rights : A → Rights) (handles : H → Event → List Output → H → Type 0) (hears : H → PeerEvent → Given → H → Type 0) (settles : H → H → Type 0)
    (refuses : H → Event → F → H → Type 0) (declines : H → PeerEvent → F → H → Type 0) (stops : H → F → H → Type 0) where
  abbrev Called : List Call → H → H → Type 0
  Called calls h h' = AreCalled handles hears settles calls h h'

  abbrev Stopping : H → F → H → Type 0
  Stopping h fault h' = IsStopping refuses declines stops h fault h'

  abbrev Ends : F → H → H → Type 0
  Ends fault h h' = (more : List Call) × (m : H) × Called more h m × Stopping m fault h'

  as_calls : (told : List Told) (h h' : H) → AreTold handles told h h' → (more : List Call) × Called more h h'
  as_calls [] h h' same = ([], same)
  as_calls (t ∷ told) h h' all = let rest = as_calls told all.0 h' all.2 in (Tells (Of_client t.0 t.1) ∷ rest.0, (all.0, all.1, rest.1))

  refused : (k : Option (Door A)) (e : Event) (fault : F) (h h' : H) → IsRefusedIf handles refuses k e (Inside fault) h h' → Ends fault h h'
  refused None e fault h h' is = ([], h, refl, inl (e, is))
  refused (Some k) e fault h h' is = let all = as_calls is.calls h is.reached is.told in (all.0, is.reached, all.1, inl (is.event, is.refused))

  declined : (k : Option (Door A)) (e : PeerEvent) (fault : F) (h h' : H) → IsDeclinedIf declines k e (Inside fault) h h' → Ends fault h h'
  declined None e fault h h' is = ([], h, refl, inr (inl (e, is)))
  declined (Some k) e fault h h' is = ([], h, refl, inr (inl (e, is)))

  ends : (m d' : Guarded H A) (fault : F) → IsStopping (IsRefused handles refuses) (IsDeclined declines) (IsCutOff stops) m (Inside fault) d' → Ends fault (inside_of m) (inside_of d')
  ends m d' fault (inl (e, is)) = refused (door_of m) e fault (inside_of m) (inside_of d') is
  ends m d' fault (inr (inl (e, is))) = declined (door_of m) e fault (inside_of m) (inside_of d') is
  ends m d' fault (inr (inr is)) = ([], inside_of m, refl, inr (inr is))

  pub guards_stop : GuardsStop handles hears settles refuses declines stops (IsAnswered handles rights) (IsHeard hears rights) (IsSettled settles) (IsRefused handles refuses) (IsDeclined declines) (IsCutOff stops)
  guards_stop calls d m d' fault all is =
      let told = guards_tell rights handles hears settles calls d m all in
      let last = ends m d' fault is in
      (told.0 ++ last.0, last.1, called_join handles hears settles told.0 last.0 (inside_of d) (inside_of m) last.1 told.1 last.2, last.3)
