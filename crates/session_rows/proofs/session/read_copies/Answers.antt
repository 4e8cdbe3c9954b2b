use Rattle.session_rows.proofs.CopiesLaws.{onto_next, bytes_next, bytes_all}
use Rattle.session_rows.proofs.session.read_copies.Goals as goal

pub loop-row-preserved : goal.loop-row-preserved
loop-row-preserved c = record {
  said = onto_next c.args.client.now c.args.rows.now c.loop-row.row-index c.row-item.result c.loop-row.copies.items c.push.new.self.items (c.in_ok-copy.copy.0, c.in_ok-copy.copy.1) _ c.loop-row-test.true c.row-item.is c.in_ok-copy.ensures.said c.in-Ok.ensures.items c.loop-row.invariant.said;
  bytes = bytes_next c.args.rows.now c.loop-row.row-index c.row-item.result c.loop-row-test.true c.row-item.is c.in_ok-copy.ensures.bytes c.loop-row.invariant.bytes;
}

pub returns-clause-bytes : goal.returns-clause-bytes
returns-clause-bytes c = bytes_all c.args.rows.now c.loop-row.row-index c.loop-row-test.false c.loop-row.invariant.bytes
