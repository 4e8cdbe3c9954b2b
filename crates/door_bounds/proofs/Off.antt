-- Without limits.
use Rattle.std.proofs.Common.{◌≡◌, List, Option, Some, None, refl, sym, subst, ◌∙◌}
use Rattle.std.specs.Prelude.{◌↔◌}
use Rattle.broker_sockets.specs.declared.bridge.Given.{Given}
use Rattle.broker_sockets.specs.declared.bridge.PeerEvent.{PeerEvent}
use Rattle.broker_sockets.specs.declared.events.Event.{Event}
use Rattle.broker_sockets.specs.declared.events.Output.{Output}
use Rattle.door_bounds.specs.Answering.{IsAnswered, IsAnsweredIf, IsHeard, IsHeardIf, IsSettled}
use Rattle.door_bounds.specs.Faults.{IsCutOff, IsDeclined, IsRefused, IsRefusedIf}
use Rattle.door_bounds.specs.Laws.{NoLimitsChangeNothing, NoLimitsNoFaults}
use Rattle.door_bounds.specs.declared.bounded.Bounded.{Bounded}
use Rattle.door_bounds.specs.declared.door.Door.{Door}
use Rattle.door_bounds.specs.declared.fault.BoundedFault.{BoundedFault}
use Rattle.door_bounds.specs.declared.fault.BoundedFault.TheVariants.{NoMemory, Inside}

module _ {H G : Type 0} (handles : H → Event → List Output → H → Type 0) (hears : H → PeerEvent → Given → H → Type 0) (settles : H → H → Type 0) where
  pub changes_nothing : NoLimitsChangeNothing {H = H} {G = G} handles hears settles (IsAnswered handles) (IsHeard hears) (IsSettled settles)
  changes_nothing = record {
    handled = λ d d' e outputs none.
        let As : Option Door → Type 0 = λ o. IsAnsweredIf handles o d'.door e d.inside d'.inside outputs in
        (λ a. subst As none a, λ a. subst As (sym none) a);
    heard = λ d d' e given none.
        let As : Option Door → Type 0 = λ o. hears d.inside e given d'.inside × IsHeardIf o d'.door given.outputs.items in
        (λ a. subst As none a, λ a. subst As (sym none) a);
    settled = λ d d' none. (λ a. (a.0, a.1 ∙ none), λ a. (a.0, a.1 ∙ sym none));
  }

module _ {H G F : Type 0} (handles : H → Event → List Output → H → Type 0) (refuses : H → Event → F → H → Type 0) (declines : H → PeerEvent → F → H → Type 0) (stops : H → F → H → Type 0) where
  pub no_faults : NoLimitsNoFaults {H = H} {G = G} refuses declines stops (IsRefused handles refuses) (IsDeclined declines) (IsCutOff stops)
  no_faults = record {
    refused = λ d d' e fault none.
        let As : Option Door → Type 0 = λ o. IsRefusedIf handles refuses o e (Inside fault) d.inside d'.inside in
        (λ a. subst As none a, λ a. subst As (sym none) a);
    enough = λ d d' e none a.
        let As : Option Door → Type 0 = λ o. IsRefusedIf handles refuses o e NoMemory d.inside d'.inside in
        subst As none a;
    declined = λ d d' e fault. (λ a. a, λ a. a);
    enough_to_hear = λ d d' e a. a;
    stopped = λ d d' fault. (λ a. a, λ a. a);
    enough_to_settle = λ d d' a. a;
  }
