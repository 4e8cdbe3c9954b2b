use Rattle.std.proofs.Common.{◌≡◌, true, option_copied, sym, ◌∙◌}
use Rattle.causal_context.specs.Dots.{Dots}
use Rattle.subscription_set.specs.Entries.{is_of}
use Rattle.subscription_set.specs.Standing.{dots_in}
use Rattle.std.specs.FinMap as map
use Rattle.subscription_set.proofs.Joins.{on_err}
use Rattle.subscription_set.proofs.Picking.{dots_none, dots_all_stand, and_true, some_stands, if_ok}
use Rattle.subscription_set.proofs.live.dots_among.Goals as goal

pub returns-in-None-clause-dots : goal.returns-in-None-clause-dots
returns-in-None-clause-dots c = dots_none c.args.entries.now c.args.client.now (option_copied c.args.filter) (λ _. true) (is_of c.args.client.now (option_copied c.args.filter)) (λ d e. sym (and_true (is_of c.args.client.now (option_copied c.args.filter) e))) c.new.result c.in-None.ensures c.new.ensures

pub returns-in-Some-clause-dots : goal.returns-in-Some-clause-dots
returns-in-Some-clause-dots c = if_ok (λ (s : Dots). s ≡ c.in-Some.dots.now) (λ s. s ≡ dots_in (is_of c.args.client.now (option_copied c.args.filter)) (map.entries c.args.entries.now)) c.context.result
    (λ s same. same ∙ dots_all_stand c.args.entries.now c.args.client.now (option_copied c.args.filter) c.in-Some.dots.now c.in-Some.ensures.same) c.context.ensures.dots

pub returns-in-Some-clause-memory : goal.returns-in-Some-clause-memory
returns-in-Some-clause-memory c = on_err c.context.result (some_stands c.args.entries.now c.args.client.now (option_copied c.args.filter) c.in-Some.ensures.some)
