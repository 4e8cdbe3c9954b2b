use Rattle.std.proofs.Common.{subst, sym}
use Rattle.causal_context.specs.Dots.{Dots}
use Rattle.causal_context.specs.SetLattice.{IsSubset}
use Rattle.bridge_deltas.proofs.Shipping.{kept_if, if_kept}
use Rattle.bridge_deltas.proofs.buffer.are_kept.Goals as goal

pub returns : goal.returns
returns c = (
  λ below. kept_if c.args.belief.now c.args.deltas.now.items c.args.taken.now (subst (λ (s : Dots). IsSubset c.args.taken.now s) c.in_ok-dots.ensures (c.is_below.ensures.0 below)),
  λ kept. c.is_below.ensures.1 (subst (λ (s : Dots). IsSubset c.args.taken.now s) (sym c.in_ok-dots.ensures) (if_kept c.args.belief.now c.args.deltas.now.items c.args.taken.now kept)),
)
