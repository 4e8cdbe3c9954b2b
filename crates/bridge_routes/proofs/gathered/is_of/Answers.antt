use Rattle.std.proofs.Common.{ap, ◌∙◌}
use Rattle.std.specs.Cmp.Lexicographic.{texts_ties}
use Rattle.subscription_set.specs.Filing.{text_cmp}
use Rattle.std.specs.Ordering.{eq_by_cmp}
use Rattle.bridge_routes.proofs.gathered.is_of.Goals as goal

pub returns : goal.returns
returns c = c.eq.ensures ∙ texts_ties c.args.client.now c.client.result.now ∙ ap (eq_by_cmp text_cmp c.args.client.now) c.client.ensures
