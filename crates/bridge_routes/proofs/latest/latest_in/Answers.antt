use Rattle.std.proofs.Common.{◌+◌, ◌-◌, sym, ◌∙◌}
use Rattle.subscription_set.specs.Standing.{standing}
use Rattle.bridge_routes.specs.Latest.{standing_at}
use Rattle.bridge_routes.proofs.LatestLive.{range_step}
use Rattle.bridge_routes.proofs.latest.latest_in.Goals as goal

pub loop-i-preserved : goal.loop-i-preserved
loop-i-preserved c =
    let es = standing c.args.subscriptions.now in
    range_step es (standing_at es c.loop-i.latest) (standing_at es c.later-latest.result) c.args.range.node c.args.range.first (c.args.range.last + 1 - c.args.range.first) c.loop-i.i c.unwrap-dot.result
    c.loop-i-test.true (sym c.new.ensures ∙ c.unwrap-dot.ensures) c.later-latest.ensures
    ∙ c.loop-i.invariant
