use Rattle.std.proofs.Common.{List, map, ap, ◌∙◌, arith}
use Rattle.std.proofs.lemmas.Result.{err_from_is_err_and}
use Rattle.row_store.specs.Rows.{entry_of}
use Rattle.bridge_lanes.specs.declared.reading.ReadLane.{ReadLane}
use Rattle.bridge_lanes.specs.Reading.{AreParts, IsLaneOf, IsPeers, lane_in}
use Rattle.bridge_lanes.proofs.Cuts.{is_cut, none_there, one_read}
use Rattle.bridge_lanes.proofs.Lanes.{handed}
use Rattle.bridge_lanes.proofs.Lists.{mapped_last}
use Rattle.bridge_lanes.proofs.reading.read_each.Goals as goal

pub returns-in_err-lane-clause-finds : goal.returns-in_err-lane-clause-finds
returns-in_err-lane-clause-finds c =
    let p = err_from_is_err_and c.from_residual.result c.from_residual.ensures.1 in
    let one = is_cut (IsPeers c.loop-peer.peer) c.loop-peer.left.now c.split_at.result.0.now c.split_at.result.1.now c.count_of.result c.split_at.ensures.by_index.0 c.split_at.ensures.front c.split_at.ensures.back c.count_of.ensures.own c.count_of.ensures.others in
    let two = is_cut (IsPeers c.loop-peer.peer) c.loop-peer.last.now c.split_at-in-loop-peer.result.0.now c.split_at-in-loop-peer.result.1.now c.count_of-in-loop-peer.result c.split_at-in-loop-peer.ensures.by_index.0 c.split_at-in-loop-peer.ensures.front c.split_at-in-loop-peer.ensures.back c.count_of-in-loop-peer.ensures.own c.count_of-in-loop-peer.ensures.others in
    handed {Y = ReadLane} (λ lanes. map lane_in lanes.items) lane_in (AreParts c.args.nodes (map entry_of c.args.messages.now) (map entry_of c.args.numbers.now)) (IsLaneOf c.loop-peer.peer (map entry_of c.split_at.result.0.now) (map entry_of c.split_at-in-loop-peer.result.0.now)) c.from_residual.result c.in_err-lane.field-0.0 p.0 p.1 p.2
    (none_there c.args.nodes c.loop-peer.peer (map entry_of c.args.messages.now) (map entry_of c.args.numbers.now) (map lane_in c.loop-peer.lanes.items) (map entry_of c.loop-peer.left.now) (map entry_of c.loop-peer.last.now) _ _ _ _ (omega (arith, c.ranges.nodes.fits)) c.loop-peer-test.true c.loop-peer.invariant one.are two.are one.own two.own one.apart two.apart)
    c.in_err-lane.ensures.finds

pub loop-peer-preserved : goal.loop-peer-preserved
loop-peer-preserved c =
    let one = is_cut (IsPeers c.loop-peer.peer) c.loop-peer.left.now c.split_at.result.0.now c.split_at.result.1.now c.count_of.result c.split_at.ensures.by_index.0 c.split_at.ensures.front c.split_at.ensures.back c.count_of.ensures.own c.count_of.ensures.others in
    let two = is_cut (IsPeers c.loop-peer.peer) c.loop-peer.last.now c.split_at-in-loop-peer.result.0.now c.split_at-in-loop-peer.result.1.now c.count_of-in-loop-peer.result c.split_at-in-loop-peer.ensures.by_index.0 c.split_at-in-loop-peer.ensures.front c.split_at-in-loop-peer.ensures.back c.count_of-in-loop-peer.ensures.own c.count_of-in-loop-peer.ensures.others in
    one_read c.args.nodes c.loop-peer.peer (map entry_of c.args.messages.now) (map entry_of c.args.numbers.now) (map lane_in c.loop-peer.lanes.items) (map entry_of c.loop-peer.left.now) (map entry_of c.loop-peer.last.now) _ _ _ _ (omega (arith, c.ranges.nodes.fits)) c.loop-peer-test.true c.loop-peer.invariant one.are two.are one.own two.own one.apart two.apart
    (map lane_in c.push.new.self.items) (lane_in c.in_ok-lane.lane) (ap (map lane_in) c.in_ok-push.ensures.items ∙ mapped_last lane_in c.loop-peer.lanes.items c.in_ok-lane.lane) c.in_ok-lane.ensures.finds
