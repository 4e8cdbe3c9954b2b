use Rattle.std.proofs.Common.{subst, ◌∙◌}
use Rattle.std.specs.List.{AllByRecursion}
use Rattle.mqtt_fields.specs.Numbers.{IsText}
use Rattle.replica_bytes.specs.Values.{dot}
use Rattle.subscription_set.specs.Standing.{standing}
use Rattle.replica_rows.specs.Reading.{CanStand}
use Rattle.replica_rows.proofs.Stores.{one_follows, all_follow}
use Rattle.replica_rows.proofs.laws.all_can_stand.Goals as goal

pub loop-at-init : goal.loop-at-init
loop-at-init c = λ all. subst (AllByRecursion (λ x. dot.Fits x.0 × IsText x.1.client × CanStand x.1)) (c.into_iter-at-iterator.ensures.into_iter_gives ∙ c.entries-at-items.ensures) all

pub loop-at-preserved : goal.loop-at-preserved
loop-at-preserved c =
    one_follows (λ x. dot.Fits x.0 × IsText x.1.client × CanStand x.1) (standing c.args.set.now) c.loop-at.at-iterator c.next.new.self (c.in-Some.at.now, c.in-Some.entry.now) c.in-Some.ensures.steps
    (c.can_stand.ensures.dot, c.can_stand.ensures.client, c.can_stand.ensures.can) c.loop-at.invariant

pub returns : goal.returns
returns c = all_follow (λ x. dot.Fits x.0 × IsText x.1.client × CanStand x.1) (standing c.args.set.now) c.loop-at.at-iterator c.in-None.ensures.steps.0 c.loop-at.invariant
