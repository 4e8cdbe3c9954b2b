use Rattle.session_rows.proofs.ToldLaws.{rows-step}
use Rattle.session_rows.proofs.told.push_rows.Goals as goal

pub loop-place-preserved : goal.loop-place-preserved
loop-place-preserved c = rows-step c.args.client.now c.args.outgoing.now.box.copies c.args.places.now c.loop-place.place-index _ _ _ c.loop-place-test.true c.in_ok-push_row.ensures c.loop-place.invariant
