use Rattle.std.proofs.Common.{◌≡◌, ◌∙◌, true, sym, inr}
use Rattle.session_rows.proofs.FollowLaws.{follows_then, follows_touched}
use Rattle.mqtt_sessions.specs.State.{has_room}
use Rattle.mqtt_sessions.proofs.Flushed.{may-flush, may-flush-more, on-err, sent-more, sends-less}
use Rattle.mqtt_sessions.proofs.sending.flush.Goals as goal

pub loop-alloc-smaller : goal.loop-alloc-smaller
loop-alloc-smaller c =
    let h = rw c.in-Some.is at (rw c.in_ok-sending.was at c.next.follows.holds-at-none) in
    sends-less c.args.now c.args.limit _ _ _ h.0

pub loop-alloc-preserved : goal.loop-alloc-preserved
loop-alloc-preserved c =
    let has : has_room c.loop-alloc.room ≡ true = sym c.has_room.ensures ∙ c.loop-alloc-test.true in
    let h = rw c.in-Some.is at (rw c.in_ok-sending.was at c.next.follows.holds-at-none) in
    let is = rw c.in-Some.is at (rw c.in_ok-sending.was at c.next.ensures.spelled) in
    record {
      sent =
          rw (c.in_ok-push.ensures.items, c.in_ok-delivery.ensures, c.room_less.ensures)
          (sent-more c.args.now c.args.limit c.args.room.now c.args.outgoing.now.box c.args.packets.now.items _ _ _ _ _ c.loop-alloc.invariant.sent has h.0 is);
      follows = follows_then _ _ _ c.loop-alloc.invariant.follows (follows_touched _ _ h.1);
    }

pub returns-in_err-sending-clause-want : goal.returns-in_err-sending-clause-want
returns-in_err-sending-clause-want c =
    let has : has_room c.loop-alloc.room ≡ true = sym c.has_room.ensures ∙ c.loop-alloc-test.true in
    on-err _ _ (may-flush c.args.now c.args.limit _ _ _ _ _ _ c.loop-alloc.invariant.sent (has, c.in_err-sending.ensures.need, inr c.in_err-sending.ensures.some))

pub returns-in_err-delivery-clause-want : goal.returns-in_err-delivery-clause-want
returns-in_err-delivery-clause-want c =
    let has : has_room c.loop-alloc.room ≡ true = sym c.has_room.ensures ∙ c.loop-alloc-test.true in
    let h = rw c.in-Some.is at (rw c.in_ok-sending.was at c.next.follows.holds-at-none) in
    on-err _ _ (may-flush-more c.args.now c.args.limit _ _ _ _ _ _ _ _ c.loop-alloc.invariant.sent has h.0)

pub returns-in_err-push-clause-want : goal.returns-in_err-push-clause-want
returns-in_err-push-clause-want c =
    let has : has_room c.loop-alloc.room ≡ true = sym c.has_room.ensures ∙ c.loop-alloc-test.true in
    let h = rw c.in-Some.is at (rw c.in_ok-sending.was at c.next.follows.holds-at-none) in
    on-err _ _ (may-flush-more c.args.now c.args.limit _ _ _ _ _ _ _ _ c.loop-alloc.invariant.sent has h.0)
