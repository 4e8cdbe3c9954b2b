use Rattle.std.proofs.Common.{Some, not, sym, ap, ◌∙◌}
use Rattle.std.specs.FinMap as map
use Rattle.subscription_set.specs.Indexing.{stands_as}
use Rattle.subscription_set.proofs.Picking.{latest_none, latest_some}
use Rattle.subscription_set.proofs.live.is_the_latest.Goals as goal

pub returns-in-None : goal.returns-in-None
returns-in-None c = latest_none c.args.entries.now (c.args.dot, c.args.entry.now) (λ d. (λ i. stands_as (sym c.client.ensures i) (Some (sym c.filter.ensures i)) (map.get c.args.entries.now d)) ∙ c.in-None.ensures d)

pub returns-in-Some : goal.returns-in-Some
returns-in-Some c =
    ap not c.any_later.ensures
    ∙ latest_some c.args.entries.now (c.args.dot, c.args.entry.now) c.in-Some.dots.now (λ d. c.in-Some.ensures.same d ∙ (λ i. stands_as (c.client.ensures i) (Some (c.filter.ensures i)) (map.get c.args.entries.now d)))
