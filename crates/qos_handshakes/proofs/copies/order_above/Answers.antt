use Rattle.qos_handshakes.proofs.Ordered.{above-all, above-turn, above-stays, above-more, values-orders, orders-last}
use Rattle.qos_handshakes.proofs.copies.order_above.Goals as goal

pub loop-entry-init : goal.loop-entry-init
loop-entry-init c = record {
  same = rw c.values-left.ensures.rest (above-all c.args.entries.now.entries);
  orders = rw c.values-left.ensures.rest (values-orders c.args.entries.now.entries c.requires);
}

pub loop-entry-preserved-then-order-above : goal.loop-entry-preserved-then-order-above
loop-entry-preserved-then-order-above c = record {
  same = above-turn c.loop-entry.left _ c.in-Some.entry.now c.loop-entry.above _ _ c.loop-entry.invariant.same c.in-Some.ensures.steps (rw c.order_of-order.ensures (above-more c.in-Some.entry.now.stage c.loop-entry.above (rw c.order_of-order.ensures at c.if-order-above.true)));
  orders = (orders-last _ c.in-Some.entry.now (rw c.in-Some.ensures.steps at c.loop-entry.invariant.orders)).0;
}

pub loop-entry-preserved : goal.loop-entry-preserved
loop-entry-preserved c = record {
  same = above-turn c.loop-entry.left _ c.in-Some.entry.now c.loop-entry.above _ _ c.loop-entry.invariant.same c.in-Some.ensures.steps (above-stays c.in-Some.entry.now.stage c.loop-entry.above (rw c.order_of-order.ensures at c.if-order-above.false));
  orders = (orders-last _ c.in-Some.entry.now (rw c.in-Some.ensures.steps at c.loop-entry.invariant.orders)).0;
}
