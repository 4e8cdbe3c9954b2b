use Rattle.std.proofs.Common.{◌≡◌, ◌+◌, ◌<◌, suc, map, length, drop, ap, arith}
use Rattle.row_store.specs.Rows.{entry_of}
use Rattle.bridge_lanes.specs.Rows.{message_row, message_rows}
use Rattle.bridge_lanes.proofs.Lists.{all_pushed, next_message, none_after, one_pushed, still_begins}
use Rattle.bridge_lanes.proofs.row.append_rows.Goals as goal

pub loop-i-preserved : goal.loop-i-preserved
loop-i-preserved c =
    let inside : c.loop-i.i < length c.args.messages.now.items = omega (arith, c.loop-i-test.true, c.len-end.ensures) in
    record {
      items = one_pushed entry_of c.loop-i.out.items c.push.new.self.items c.in_ok-row.row _ _ _ _ c.in_ok-push.ensures.items c.in_ok-row.ensures (next_message c.args.peer c.args.base c.loop-i.i c.args.messages.now.items c.index.result.now inside c.index.ensures) c.loop-i.invariant.items;
      begins = still_begins c.args.out.now.items c.loop-i.out.items c.push.new.self.items _ c.loop-i.invariant.begins c.in_ok-push.ensures.items;
    }
