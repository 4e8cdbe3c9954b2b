use Rattle.std.proofs.Common.{subst, sym}
use Rattle.causal_context.specs.Dots.{IsGreatest}
use Rattle.causal_context.specs.RangeSteps.{IsLastOf}
use Rattle.causal_context.proofs.Greatest.{last_is_greatest, is_greatest}
use Rattle.causal_context.proofs.context.Context.greatest.Goals as goal

pub returns-clause-same : goal.returns-clause-same
returns-clause-same c = last_is_greatest c.self.inside.ranges.items c.args.self.now c.args.node c.last_of.result c.self.view_is (subst (λ rs. IsLastOf rs c.args.node c.last_of.result) c.deref.ensures.value c.last_of.ensures)

pub returns-clause-greatest : goal.returns-clause-greatest
returns-clause-greatest c = subst (IsGreatest c.args.self.now c.args.node)
    (sym (last_is_greatest c.self.inside.ranges.items c.args.self.now c.args.node c.last_of.result c.self.view_is (subst (λ rs. IsLastOf rs c.args.node c.last_of.result) c.deref.ensures.value c.last_of.ensures)))
    (is_greatest c.args.self.now c.args.node)
