use Rattle.std.proofs.Common.{Some, arith, subst, sym}
use Rattle.std.specs.Vec.Iter.{into_iter_items}
use Rattle.node_work.specs.Calling.{Queues, QueuesOne}
use Rattle.node_work.specs.Working.{Did}
use Rattle.node_work.proofs.Working.{did_nothing}
use Rattle.node_clients.proofs.Copying.{came_next, came_stops, none_left}
use Rattle.node_clients.proofs.passing.queue_each.Goals as goal

pub loop-copy-preserved : goal.loop-copy-preserved
loop-copy-preserved c =
    came_next QueuesOne c.args.work.now c.loop-copy.work (Queues c.args.copies.items) (into_iter_items c.loop-copy.copy-iterator) c.queue_one.new.work c.in-Some.copy (into_iter_items c.next.new.self)
    c.in-Some.ensures.steps.0 c.loop-copy.invariant c.in_ok-queue_one.ensures

pub returns-in_err-queue_one : goal.returns-in_err-queue_one
returns-in_err-queue_one c =
    came_stops QueuesOne c.args.work.now c.loop-copy.work (Queues c.args.copies.items) (into_iter_items c.loop-copy.copy-iterator) (λ x. x) (λ x. x) c.queue_one.new.work c.in-Some.copy (into_iter_items c.next.new.self)
    c.in-Some.ensures.steps.0 c.loop-copy.invariant c.from_residual.result c.in_err-queue_one.field-0.0 c.from_residual.ensures.1 c.in_err-queue_one.ensures

pub returns : goal.returns
returns c =
    let m = c.loop-copy.work in
    let none = none_left (into_iter_items c.loop-copy.copy-iterator) (let h = c.in-None.ensures.steps in let k = c.loop-copy.copy-iterator.rest.ok in omega arith) in
    c.loop-copy.invariant (Some tt) m (subst (λ xs. Did m m (Queues xs (Some tt))) (sym none) (did_nothing m tt))
