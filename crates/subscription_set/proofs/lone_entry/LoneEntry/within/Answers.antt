use Rattle.std.proofs.Common.{[], ◌∷◌, true, false, sym, ap, ◌∙◌}
use Rattle.causal_context.specs.Ranges.{covers}
use Rattle.subscription_set.proofs.Alone.{within_by}
use Rattle.subscription_set.proofs.lone_entry.LoneEntry.within.Goals as goal

pub returns-then-not-is_in : goal.returns-then-not-is_in
returns-then-not-is_in c = c.none.ensures
    ∙ within_by c.args.self.now (λ d. covers d c.args.range) false (ap (λ x. covers x.0 c.args.range) (sym c.self.view_is) ∙ sym c.is_in.ensures ∙ c.if-not-is_in.true)

pub returns : goal.returns
returns c = c.one.ensures ∙ ap (λ x. x ∷ []) c.self.view_is
    ∙ within_by c.args.self.now (λ d. covers d c.args.range) true (ap (λ x. covers x.0 c.args.range) (sym c.self.view_is) ∙ sym c.is_in.ensures ∙ c.if-not-is_in.false)
