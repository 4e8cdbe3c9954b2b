use Rattle.mqtt_message.proofs.RoomLaws.{on_err}
use Rattle.session_rows.proofs.ToldLaws.{changes-some, changes-step}
use Rattle.session_rows.proofs.WrittenLaws.{begins_so}
use Rattle.session_rows.proofs.told.copy_changes.Goals as goal

pub loop-place-preserved : goal.loop-place-preserved
loop-place-preserved c = record {
  items = changes-step c.args.client.now c.args.next c.args.outgoing.now.box.copies c.args.places.now c.loop-place.place-index _ _ _ c.loop-place-test.true c.in_ok-push_copy.ensures.ok c.loop-place.invariant.items;
  begins = begins_so _ _ _ c.loop-place.invariant.begins c.in_ok-push_copy.ensures.begins;
}

pub returns-in_err-push_copy-clause-begins : goal.returns-in_err-push_copy-clause-begins
returns-in_err-push_copy-clause-begins c = begins_so _ _ _ c.loop-place.invariant.begins c.in_err-push_copy.ensures.begins

pub returns-in_err-push_copy-clause-need : goal.returns-in_err-push_copy-clause-need
returns-in_err-push_copy-clause-need c =
    on_err c.from_residual.result _ (changes-some c.args.client.now c.args.next c.args.outgoing.now.box.copies c.args.places.now c.loop-place.place-index c.loop-place-test.true c.in_err-push_copy.ensures.need)
