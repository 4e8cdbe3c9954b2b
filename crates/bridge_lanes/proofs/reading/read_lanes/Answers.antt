use Rattle.std.proofs.Common.{map}
use Rattle.row_store.specs.Rows.{entry_of}
use Rattle.bridge_lanes.specs.Reading.{IsMessageRow}
use Rattle.bridge_lanes.proofs.Cuts.{all_found, is_cut}
use Rattle.bridge_lanes.proofs.reading.read_lanes.Goals as goal

pub returns-clause-finds : goal.returns-clause-finds
returns-clause-finds c =
    let cut = is_cut IsMessageRow c.args.rows.now c.split_at.result.0.now c.split_at.result.1.now c.count_messages.result c.split_at.ensures.by_index.0 c.split_at.ensures.front c.split_at.ensures.back c.count_messages.ensures.own c.count_messages.ensures.others in
    all_found c.args.nodes (map entry_of c.args.rows.now) (map entry_of c.split_at.result.0.now) (map entry_of c.split_at.result.1.now) cut.are cut.own cut.apart c.read_each.result c.read_each.ensures.finds
