use Rattle.std.proofs.Common.{◌+◌, drop, sym, ◌∙◌}
use Rattle.std.proofs.lemmas.List.{drop_more, drop_all}
use Rattle.subscription_set.specs.Standing.{standing}
use Rattle.bridge_routes.specs.Latest.{standing_at}
use Rattle.bridge_routes.proofs.LatestLive.{ranges_step, ranges_end}
use Rattle.bridge_routes.proofs.latest.latest_among.Goals as goal

pub loop-range-preserved : goal.loop-range-preserved
loop-range-preserved c =
    let es = standing c.args.subscriptions.now in
    let ranges = c.args.ranges.now in
    ranges_step es (standing_at es c.loop-range.latest) (standing_at es c.latest_in-latest.result) _ (drop c.loop-range.range-index ranges) (drop (c.loop-range.range-index + 1) ranges)
    (drop_more ranges c.loop-range.range-index _ c.loop-range-test.true) c.latest_in-latest.ensures
    ∙ c.loop-range.invariant

pub returns : goal.returns
returns c =
    let es = standing c.args.subscriptions.now in
    sym (ranges_end es (standing_at es c.loop-range.latest) (drop c.loop-range.range-index c.args.ranges.now) (drop_all c.loop-range.range-index c.args.ranges.now c.loop-range-test.false))
    ∙ c.loop-range.invariant
