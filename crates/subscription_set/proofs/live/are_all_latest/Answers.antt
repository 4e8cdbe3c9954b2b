use Rattle.std.proofs.Common.{◌∙◌}
use Rattle.std.specs.FinMap as map
use Rattle.subscription_set.specs.Standing.{is_latest}
use Rattle.subscription_set.proofs.Counting.{all_counted}
use Rattle.subscription_set.proofs.live.are_all_latest.Goals as goal

pub returns : goal.returns
returns c = all_counted (is_latest (map.entries c.args.entries.now)) (map.entries c.args.entries.now) c.live.result c.len.result c.live.ensures (c.len.ensures ∙ map.len-entries c.args.entries.now)
