use Rattle.std.proofs.Common.{◌<◌, length, map, arith}
use Rattle.row_store.specs.Rows.{entry_of}
use Rattle.bridge_lanes.specs.Changes.{KeptLane}
use Rattle.bridge_lanes.specs.Rows.{waiting_of}
use Rattle.bridge_deltas.proofs.Telling.{more_each, none_at}
use Rattle.bridge_deltas.proofs.links.add_messages.Goals as goal

pub loop-peer-preserved : goal.loop-peer-preserved
loop-peer-preserved c =
    let inside : c.loop-peer.peer < length c.args.lanes.now.items = omega (arith, c.loop-peer-test.true, c.requires) in
    more_each (λ p (k : KeptLane). waiting_of p k.lane) c.args.lanes.now.items c.loop-peer.peer c.index.result.now (map entry_of c.args.out.now.items) (map entry_of c.loop-peer.out.items) (map entry_of c.append_messages.new.out.items) inside c.index.ensures c.loop-peer.invariant c.in_ok-append_messages.ensures.ok

pub returns-in_err-append_messages-clause-none : goal.returns-in_err-append_messages-clause-none
returns-in_err-append_messages-clause-none c = λ e.
    let inside : c.loop-peer.peer < length c.args.lanes.now.items = omega (arith, c.loop-peer-test.true, c.requires) in
    absurd (let no = c.in_err-append_messages.ensures.none (none_at (λ p (k : KeptLane). waiting_of p k.lane) c.args.lanes.now.items c.loop-peer.peer c.index.result.now inside c.index.ensures e) in cc)
