use Rattle.std.proofs.Common.{ap}
use Rattle.row_store.specs.Rows.{entry_of}
use Rattle.bridge_lanes.proofs.Lists.{one_if}
use Rattle.bridge_lanes.proofs.row.append_numbers.Goals as goal

pub returns-clause-ok : goal.returns-clause-ok
returns-clause-ok c = one_if entry_of c.args.out.now.items c.push.new.self.items c.in_ok-row.row _ _ c.are_equal.result c.are_equal.ensures c.if-are_equal.false c.in_ok-push.ensures.items c.in_ok-row.ensures
