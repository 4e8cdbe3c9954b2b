use Rattle.std.proofs.Common.{drop, length, ◌<◌, ◌≤◌, arith, rules}
use Rattle.std.proofs.lemmas.Grind.{common_steps}
use Rattle.bridge_deltas.proofs.Confirming.{joins_behind}
use Rattle.bridge_deltas.proofs.Shipping.{all_passed, next_joined, none_left}
use Rattle.bridge_deltas.proofs.buffer.joined_news.Goals as goal

pub loop-i-init : goal.loop-i-init
loop-i-init c = joins_behind c.args.belief.now c.args.confirmed c.args.deltas.now.items c.new-joined.result c.new-joined.ensures c.requires

pub loop-i-preserved : goal.loop-i-preserved
loop-i-preserved c =
    let inside : c.loop-i.i < length c.args.deltas.now.items = first_of (search rules, grind (arith, common_steps)) in
    next_joined c.args.belief.now c.args.deltas.now.items c.loop-i.i c.index.result.now c.loop-i.joined c.join_new.new.joined inside c.index.ensures c.in_ok-join_new.ensures c.loop-i.invariant

pub returns : goal.returns
returns c =
    let over : length c.args.deltas.now.items ≤ c.loop-i.i = first_of (search rules, grind (arith, common_steps)) in
    all_passed c.args.belief.now c.args.deltas.now.items (drop c.loop-i.i c.args.deltas.now.items) c.loop-i.joined (none_left c.args.deltas.now.items c.loop-i.i over) c.loop-i.invariant
