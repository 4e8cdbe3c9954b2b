use Rattle.std.proofs.Common.{rules}
use Rattle.bridge_deltas.proofs.Confirming.{all_lowered, all_still}
use Rattle.bridge_deltas.proofs.links.Links.took.Goals as goal

pub invariant_of-self-then-branch : goal.invariant_of-self-then-branch
invariant_of-self-then-branch c = (
  search rules,
  all_lowered c.self.inside.beliefs.items c.self.inside.confirmed.items c.lower_all.new.counts.items c.self.inside.deltas.items c.keep.new.deltas.items c.args.delta
      (rw c.if-branch.true at c.in_ok-keep.ensures.gone) c.lower_all.ensures c.self.invariant.1,
)

pub invariant_of-self-else-branch : goal.invariant_of-self-else-branch
invariant_of-self-else-branch c = (
  search rules,
  all_still c.self.inside.beliefs.items c.self.inside.confirmed.items c.self.inside.deltas.items c.keep.new.deltas.items c.args.delta
      (rw c.if-branch.false at c.in_ok-keep.ensures.gone) c.self.invariant.1,
)
