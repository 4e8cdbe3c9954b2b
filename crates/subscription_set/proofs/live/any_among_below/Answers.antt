use Rattle.std.proofs.Common.{None, refl, sym, ◌∙◌}
use Rattle.std.specs.Prelude.{nat_lt}
use Rattle.subscription_set.specs.Indexing.{below_at}
use Rattle.subscription_set.proofs.Picking.{none_stands, any_stands}
use Rattle.subscription_set.proofs.live.any_among_below.Goals as goal

pub returns-in-None : goal.returns-in-None
returns-in-None c = sym (none_stands c.args.entries.now c.args.client.now None (λ y. nat_lt y.1.version c.args.version) c.in-None.ensures)

pub returns-in-Some : goal.returns-in-Some
returns-in-Some c = c.any_below.ensures ∙ any_stands c.args.entries.now c.args.client.now None (λ y. nat_lt y.1.version c.args.version) (λ _ g. below_at c.args.version g) (λ d. refl) (λ d e. refl) c.in-Some.dots.now c.in-Some.ensures.same
