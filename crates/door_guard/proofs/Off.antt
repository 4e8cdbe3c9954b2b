-- Without users.
use Rattle.std.proofs.Common.{List, Option, ap, sym, subst, ◌∙◌}
use Rattle.broker_sockets.specs.declared.bridge.Given.{Given}
use Rattle.broker_sockets.specs.declared.bridge.PeerEvent.{PeerEvent}
use Rattle.broker_sockets.specs.declared.events.Event.{Event}
use Rattle.broker_sockets.specs.declared.events.Output.{Output}
use Rattle.door_guard.specs.Answering.{IsAnswered, IsAnsweredIf, IsHeard, IsHeardIf, IsSettled, refusals_of}
use Rattle.door_guard.specs.Faults.{IsCutOff, IsDeclined, IsDeclinedIf, IsRefused, IsRefusedIf}
use Rattle.door_guard.specs.Laws.{NoUsersChangeNothing, NoUsersNoFaults}
use Rattle.door_packets.specs.Rights.{Rights}
use Rattle.door_guard.specs.declared.door.Door.{Door}
use Rattle.door_guard.specs.declared.fault.GuardFault.TheVariants.{NoMemory, Inside}

module _ {H A : Type 0} (handles : H → Event → List Output → H → Type 0) (hears : H → PeerEvent → Given → H → Type 0) (settles : H → H → Type 0) (rights : A → Rights) where
  pub changes_nothing : NoUsersChangeNothing {H = H} {A = A} handles hears settles (IsAnswered handles rights) (IsHeard hears rights) (IsSettled settles)
  changes_nothing = record {
    handled = λ d d' e outputs none.
        let As : Option (Door A) → Type 0 = λ o. IsAnsweredIf handles rights o d'.door e d.inside d'.inside outputs in
        (λ a. subst As none a, λ a. subst As (sym none) a);
    heard = λ d d' e given none.
        let As : Option (Door A) → Type 0 = λ o. IsHeardIf hears rights o d'.door e d.inside d'.inside given in
        (λ a. subst As none a, λ a. subst As (sym none) a);
    settled = λ d d' none. (λ a. (a.0, a.1 ∙ none), λ a. (a.0, a.1 ∙ sym none));
    counted = λ d none. ap (λ (o : Option (Door A)). refusals_of o) none;
  }

module _ {H A F : Type 0} (handles : H → Event → List Output → H → Type 0) (refuses : H → Event → F → H → Type 0) (declines : H → PeerEvent → F → H → Type 0) (stops : H → F → H → Type 0) where
  pub no_faults : NoUsersNoFaults {H = H} {A = A} refuses declines stops (IsRefused handles refuses) (IsDeclined declines) (IsCutOff stops)
  no_faults = record {
    refused = λ d d' e fault none.
        let As : Option (Door A) → Type 0 = λ o. IsRefusedIf handles refuses o e (Inside fault) d.inside d'.inside in
        (λ a. subst As none a, λ a. subst As (sym none) a);
    enough = λ d d' e none a.
        let As : Option (Door A) → Type 0 = λ o. IsRefusedIf handles refuses o e NoMemory d.inside d'.inside in
        subst As none a;
    declined = λ d d' e fault none.
        let As : Option (Door A) → Type 0 = λ o. IsDeclinedIf declines o e (Inside fault) d.inside d'.inside in
        (λ a. subst As none a, λ a. subst As (sym none) a);
    enough_to_hear = λ d d' e none a.
        let As : Option (Door A) → Type 0 = λ o. IsDeclinedIf declines o e NoMemory d.inside d'.inside in
        subst As none a;
    stopped = λ d d' fault. (λ a. a, λ a. a);
    enough_to_settle = λ d d' a. a;
  }
