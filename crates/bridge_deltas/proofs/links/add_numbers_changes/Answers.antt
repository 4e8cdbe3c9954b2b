use Rattle.std.proofs.Common.{◌<◌, length, map, arith}
use Rattle.bridge_lanes.specs.ChangeSteps.{numbers_changes}
use Rattle.bridge_lanes.specs.Changes.{left_of}
use Rattle.bridge_deltas.proofs.Telling.{more_each, told_at}
use Rattle.bridge_deltas.proofs.links.add_numbers_changes.Goals as goal

pub loop-peer-preserved : goal.loop-peer-preserved
loop-peer-preserved c =
    let inside : c.loop-peer.peer < length c.args.lanes.now.items = omega (arith, c.loop-peer-test.true, c.requires) in
    more_each numbers_changes c.args.lanes.now.items c.loop-peer.peer c.index.result.now (map left_of c.args.out.now.items) (map left_of c.loop-peer.out.items) (map left_of c.numbers_change.new.out.items) inside c.index.ensures c.loop-peer.invariant c.in_ok-numbers_change.ensures.ok

pub returns-in_err-numbers_change-clause-told : goal.returns-in_err-numbers_change-clause-told
returns-in_err-numbers_change-clause-told c = λ e.
    let inside : c.loop-peer.peer < length c.args.lanes.now.items = omega (arith, c.loop-peer-test.true, c.requires) in
    absurd (let no = c.in_err-numbers_change.ensures.told (told_at c.args.lanes.now.items c.loop-peer.peer c.index.result.now inside c.index.ensures e) in cc)
