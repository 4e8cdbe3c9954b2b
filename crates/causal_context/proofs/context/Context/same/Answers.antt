use Rattle.std.proofs.Common.{sym, ◌∙◌}
use Rattle.causal_context.proofs.SameRanges.{same_sets_test}
use Rattle.causal_context.proofs.context.Context.same.Goals as goal

pub returns : goal.returns
returns c =
    let test = same_sets_test c.self.inside.ranges.items c.other.inside.ranges.items c.args.self.now c.args.other.now c.self.invariant.sound c.other.invariant.sound c.self.view_is c.other.view_is in
    (λ t. test.0 (sym c.eq.ensures ∙ t), λ e. c.eq.ensures ∙ test.1 e)
