use Rattle.std.proofs.Common.{option_copied, sym, ap, ◌∙◌}
use Rattle.causal_context.specs.Ranges.{dots_in}
use Rattle.subscription_set.specs.Standing.{standing}
use Rattle.bridge_routes.specs.Latest.{standing_at}
use Rattle.bridge_routes.proofs.LatestLive.{found_nothing, found_at}
use Rattle.bridge_routes.proofs.latest.latest_at.Goals as goal

pub returns-in-None : goal.returns-in-None
returns-in-None c =
    let es = standing c.args.subscriptions.now in
    found_nothing es (dots_in c.ranges-2.result.now) c.args.dots.now c.ranges-2.ensures.set (sym (ap (standing_at es) c.in-None.is) ∙ c.latest_among.ensures)

pub returns-in-Some : goal.returns-in-Some
returns-in-Some c =
    let es = standing c.args.subscriptions.now in
    found_at es (dots_in c.ranges-2.result.now) c.args.dots.now c.ranges-2.ensures.set c.in-Some.dot (option_copied c.entry.result) c.entry.ensures (sym (ap (standing_at es) c.in-Some.is) ∙ c.latest_among.ensures)
