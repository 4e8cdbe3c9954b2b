use Rattle.std.proofs.Common.{option_copied, ◌∙◌}
use Rattle.subscription_set.proofs.Picking.{any_is}
use Rattle.subscription_set.proofs.live.any_among.Goals as goal

pub returns : goal.returns
returns c = c.is_some.ensures ∙ any_is c.args.entries.now c.args.client.now (option_copied c.args.filter) c.standing.result c.standing.ensures
