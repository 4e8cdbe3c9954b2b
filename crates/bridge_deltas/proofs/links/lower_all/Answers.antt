use Rattle.std.proofs.Common.{◌-◌, ◌<◌, length, arith, rules}
use Rattle.std.proofs.lemmas.Grind.{common_steps}
use Rattle.bridge_deltas.proofs.Mapping.{one_changed}
use Rattle.bridge_deltas.proofs.links.lower_all.Goals as goal

pub loop-i-preserved : goal.loop-i-preserved
loop-i-preserved c =
    let inside : c.loop-i.i < length c.args.counts.now.items = first_of (search rules, grind (arith, common_steps)) in
    one_changed (λ n. n - 1) c.args.counts.now.items c.loop-i.counts.items c.loop-i.i c.index.result.now c.saturating_sub.result inside c.loop-i.invariant (first_of (search rules, grind (arith, common_steps))) (first_of (search rules, grind (arith, common_steps)))
