use Rattle.std.proofs.Common.{Ok, Err, Result, ◌∙◌}
use Rattle.std.specs.Prelude.{IfOk}
use Rattle.std.specs.FinMap as map
use Rattle.subscription_set.specs.Joining.{is_leaving}
use Rattle.subscription_set.proofs.Leaving.{leaving_is}
use Rattle.subscription_set.proofs.Below.{none_leaves}
use Rattle.subscription_set.proofs.set.SubscriptionSet.leaving.Goals as goal

if_ok : {X E : Type 0} {P Q : X → Type 0} (r : Result X E) → ((x : X) → P x → Q x) → IfOk r P → IfOk r Q
if_ok (Ok x) f p = f x p
if_ok (Err e) f p = tt

pub returns-clause-leaving : goal.returns-clause-leaving
returns-clause-leaving c = if_ok c.leaving.result (λ out so q.
    leaving_is c.self.inside.seen c.other.inside.seen c.self.inside.entries c.other.inside.entries out.items c.self.invariant so q
    ∙ (λ i. is_leaving (map.get (c.self.view_is i) q) (map.get (c.other.view_is i) q))) c.leaving.ensures.leaving

pub returns-clause-none : goal.returns-clause-none
returns-clause-none c = λ none. c.leaving.ensures.none (none_leaves c.self.inside.seen c.other.inside.seen c.self.inside.entries c.other.inside.entries c.self.invariant c.other.invariant
    (λ q. (λ i. is_leaving (map.get (c.self.view_is i) q) (map.get (c.other.view_is i) q)) ∙ none q))
