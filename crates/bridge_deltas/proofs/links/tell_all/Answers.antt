use Rattle.std.proofs.Common.{◌<◌, length, arith, rules}
use Rattle.std.proofs.lemmas.Grind.{common_steps}
use Rattle.bridge_lanes.specs.Changes.{told_now}
use Rattle.bridge_deltas.proofs.Mapping.{one_changed}
use Rattle.bridge_deltas.proofs.links.tell_all.Goals as goal

pub loop-i-preserved : goal.loop-i-preserved
loop-i-preserved c =
    let inside : c.loop-i.i < length c.args.lanes.now.items = first_of (search rules, grind (arith, common_steps)) in
    one_changed told_now c.args.lanes.now.items c.loop-i.lanes.items c.loop-i.i c.index_mut.result.now c.tell.new.self inside c.loop-i.invariant c.index_mut.ensures.value c.tell.ensures
