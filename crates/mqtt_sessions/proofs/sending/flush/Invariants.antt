use Rattle.session_rows.specs.Changes.{Follows}
use Rattle.mqtt_sessions.proofs.Flushed.{HasSent, to_send}
use Rattle.mqtt_sessions.proofs.sending.flush.Given as goal

abbrev pub invariant-loop-alloc : goal.invariant-loop-alloc
invariant-loop-alloc l = record {
  sent : HasSent l.now l.limit l.fn.room l.fn.outgoing.box l.fn.packets.items l.room l.outgoing.box l.packets.items;
  follows : Follows l.fn.outgoing l.outgoing;
}

abbrev pub decreases-loop-alloc : goal.decreases-loop-alloc
decreases-loop-alloc l = to_send l.outgoing.box.copies
