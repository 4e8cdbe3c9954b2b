use Rattle.std.proofs.Common.{◌≡◌, Ok, ap, sym, subst, refl, is_some, true≢false, ◌∙◌}
use Rattle.std.specs.Prelude.{IfSome}
use Rattle.subscription_set.specs.Standing.{statuses}
use Rattle.replica_bytes.proofs.Sets.{set_passes, set_fails}
use Rattle.replica_bytes.proofs.subscriptions.set_of.Goals as goal

pub returns-in-None-clause-exact : goal.returns-in-None-clause-exact
returns-in-None-clause-exact c =
    let fails = set_fails c.args.seen c.args.entries.items (λ s. true≢false (sym (c.in_ok-new.ensures.when.1 s) ∙ ap is_some c.in-None.is)) in
    rw fails refl

pub returns-in-Some-clause-exact : goal.returns-in-Some-clause-exact
returns-in-Some-clause-exact c =
    let made = subst (λ o. IfSome o (λ s. s ≡ statuses c.args.seen c.args.entries.items)) c.in-Some.is c.in_ok-new.ensures.some in
    let passes = set_passes c.args.seen c.args.entries.items (c.in_ok-new.ensures.when.0 (rw c.in-Some.is refl)) in
    rw passes (ap Ok (sym made))
