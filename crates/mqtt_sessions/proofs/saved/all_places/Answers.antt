use Rattle.mqtt_sessions.proofs.RemovedLaws.{gone-step}
use Rattle.mqtt_sessions.proofs.saved.all_places.Goals as goal

pub loop-place-preserved : goal.loop-place-preserved
loop-place-preserved c = gone-step c.args.outgoing.now.box.copies c.args.touched.now c.loop-place.place-index _ _ _ c.loop-place-test.true c.in_ok-push_gone.ensures c.loop-place.invariant
