use Rattle.std.proofs.Common.{◌≡◌, IfSome, inr, ap, subst, ◌∙◌}
use Rattle.std.specs.FinSet as set
use Rattle.subscription_set.specs.Standing.{seen_of, statuses}
use Rattle.subscription_set.proofs.Seen.{seen_of-statuses}
use Rattle.replica_rows.specs.ReadingSteps.{said}
use Rattle.replica_rows.proofs.Told.{not_made}
use Rattle.replica_rows.proofs.reading.store_of.Goals as goal

pub returns-in-None-clause-bad : goal.returns-in-None-clause-bad
returns-in-None-clause-bad c = inr (not_made (said c.args.parts) c.in_ok-entries.entries.items c.in_ok-new.field-0 c.in_ok-entries.ensures c.in_ok-new.ensures.when.1 c.in-None.is)

pub of_parts-requires : goal.of_parts-requires
of_parts-requires c =
    let is : c.in-Some.set ≡ statuses c.args.parts.seen c.in_ok-entries.entries.items =
    subst (λ made. IfSome made (λ s. s ≡ statuses c.args.parts.seen c.in_ok-entries.entries.items)) c.in-Some.is c.in_ok-new.ensures.some
    in
    let same : seen_of c.in-Some.set ≡ c.args.parts.seen = ap seen_of is ∙ seen_of-statuses c.args.parts.seen c.in_ok-entries.entries.items in
    λ q there. ap (λ d. set.contains d q) same ∙ c.is_below.ensures.0 c.if-not-is_below.false q there
