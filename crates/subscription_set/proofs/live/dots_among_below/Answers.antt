use Rattle.std.proofs.Common.{◌≡◌, ◌&&◌, None, refl, sym, ◌∙◌}
use Rattle.std.specs.Prelude.{nat_lt}
use Rattle.std.specs.FinMap as map
use Rattle.std.specs.FinSet as set
use Rattle.causal_context.specs.Dots.{Dots, Dot}
use Rattle.subscription_set.specs.Entries.{is_of_below}
use Rattle.subscription_set.specs.Standing.{dots_in}
use Rattle.subscription_set.specs.Indexing.{below_at}
use Rattle.subscription_set.proofs.Picking.{dots_none, dots_some, any_stands, on_err_weaker, if_ok}
use Rattle.subscription_set.proofs.live.dots_among_below.Goals as goal

pub returns-in-None-clause-dots : goal.returns-in-None-clause-dots
returns-in-None-clause-dots c = dots_none c.args.entries.now c.args.client.now None (λ y. nat_lt y.1.version c.args.version) (is_of_below c.args.client.now c.args.version) (λ d e. refl) c.new.result c.in-None.ensures c.new.ensures

pub returns-in-Some-clause-dots : goal.returns-in-Some-clause-dots
returns-in-Some-clause-dots c = if_ok (λ (s : Dots). (q : Dot) → set.contains s q ≡ (set.contains c.in-Some.dots.now q && below_at c.args.version (map.get c.args.entries.now q))) (λ s. s ≡ dots_in (is_of_below c.args.client.now c.args.version) (map.entries c.args.entries.now)) c.those_below.result
    (λ s picks. dots_some c.args.entries.now c.args.client.now None (λ y. nat_lt y.1.version c.args.version) (is_of_below c.args.client.now c.args.version) (λ d e. refl) s (λ _ g. below_at c.args.version g) (λ d. refl) (λ d e. refl) c.in-Some.dots.now c.in-Some.ensures.same picks) c.those_below.ensures.dots

pub returns-in-Some-clause-memory : goal.returns-in-Some-clause-memory
returns-in-Some-clause-memory c = on_err_weaker c.those_below.result
    (λ yes. sym (any_stands c.args.entries.now c.args.client.now None (λ y. nat_lt y.1.version c.args.version) (λ _ g. below_at c.args.version g) (λ d. refl) (λ d e. refl) c.in-Some.dots.now c.in-Some.ensures.same) ∙ yes) c.those_below.ensures.memory
