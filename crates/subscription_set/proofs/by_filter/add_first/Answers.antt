use Rattle.std.proofs.Common.{ap, ◌∙◌}
use Rattle.std.specs.FinMap as map
use Rattle.std.specs.FinSet as set
use Rattle.subscription_set.proofs.by_filter.add_first.Goals as goal

pub returns-in-Ok-clause-ok : goal.returns-in-Ok-clause-ok
returns-in-Ok-clause-ok c = c.in-Ok.ensures.ok ∙ (λ i. map.insert c.args.dots.now (c.in_ok-key.ensures i) ((c.in_ok-insert.ensures.ok ∙ ap (λ s. set.insert s c.args.dot) c.new-own.ensures) i))
