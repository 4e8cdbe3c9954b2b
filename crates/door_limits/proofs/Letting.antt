-- What comes of an event of which the handler inside is told.
use Rattle.std.proofs.Common.{◌≡◌, true, false, List, [], Result, Ok, Err, refl, sym, subst}
use Rattle.std.proofs.lemmas.List.{append-nil}
use Rattle.std.specs.Prelude.{IfErr, IsErrAnd}
use Rattle.broker_sockets.specs.declared.events.Event.{Event}
use Rattle.broker_sockets.specs.declared.events.Output.{Output}
use Rattle.door_limits.specs.Answering.{AreCutIf, IsLetIn, IsSwept, IsTold, is_tick}
use Rattle.door_limits.specs.Faults.{IsStopped}
use Rattle.door_limits.specs.declared.fault.LimitedFault.{LimitedFault}
use Rattle.door_limits.specs.declared.fault.LimitedFault.TheVariants.{NoMemory, Inside}
use Rattle.door_limits.specs.declared.limited.Limited.{Limited}

-- a fault that is handed on
pub failed : {X F : Type 0} (r : Result X F) (fault : F) (P : F → Type 0) → IsErrAnd r (λ x. x ≡ fault) → P fault → IfErr r P
failed (Ok x) fault P given is = absurd given
failed (Err x) fault P given is = subst P (sym given) is

pub stopped_so : {F : Type 0} (fault : LimitedFault F) (P Q : F → Type 0) → ((f : F) → P f → Q f) → IsStopped P fault → IsStopped Q fault
stopped_so NoMemory P Q so is = tt
stopped_so (Inside f) P Q so is = so f is

module _ {H : Type 0} (handles : H → Event → List Output → H → Type 0) where
  pub ticked : (e : Event) (given outputs : List Output) (d m d' : Limited H) → is_tick e.kind ≡ true → IsTold handles e given d m → IsSwept handles e.at m given d' outputs
      → IsLetIn handles e outputs d d'
  ticked e given outputs d m d' ticks told swept = record {
    given = given;
    between = m;
    told = told;
    cuts = swept.cuts;
    swept = subst (λ b. AreCutIf handles b e.at swept.cuts m d') (sym ticks) swept.swept;
    all = swept.all;
  }

  pub unticked : (e : Event) (given : List Output) (d m : Limited H) → is_tick e.kind ≡ false → IsTold handles e given d m → IsLetIn handles e given d m
  unticked e given d m ticks told = record {
    given = given;
    between = m;
    told = told;
    cuts = [];
    swept = subst (λ b. AreCutIf handles b e.at [] m m) (sym ticks) (refl, refl);
    all = sym (append-nil given);
  }

  pub let_in_as : (e : Event) (outputs outputs' : List Output) (d m m' : Limited H) → m' ≡ m → outputs' ≡ outputs → IsLetIn handles e outputs d m → IsLetIn handles e outputs' d m'
  let_in_as e outputs outputs' d m m' same alike is =
      let At : Limited H → Type 0 = λ x. IsLetIn handles e outputs' d x in
      subst At (sym same) (subst (λ o. IsLetIn handles e o d m) (sym alike) is)
