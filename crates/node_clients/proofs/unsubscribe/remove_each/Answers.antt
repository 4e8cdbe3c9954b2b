use Rattle.std.proofs.Common.{[]}
use Rattle.node_clients.specs.Unsubscribing.{Unsubscribed}
use Rattle.node_work.specs.Working.{InTurn}
use Rattle.node_work.proofs.Working.{turn_next, turn_stops, turn_ends}
use Rattle.node_clients.proofs.unsubscribe.remove_each.Goals as goal

pub returns-in_err-reason : goal.returns-in_err-reason
returns-in_err-reason c =
    let One = Unsubscribed c.args.client.now in
    let x = c.text-item.result in
    turn_stops One (λ y. y) (λ v. v.items) c.args.work.now c.loop-text.work c.remove.new.work (InTurn One c.args.filters.now []) c.args.filters.now c.loop-text.text-index x x c.loop-text.reasons.items
    c.loop-text-test.true c.text-item.is c.loop-text.invariant c.from_residual.result c.in_err-reason.field-0.0 c.from_residual.ensures.1 c.in_err-reason.ensures

pub loop-text-preserved : goal.loop-text-preserved
loop-text-preserved c =
    let One = Unsubscribed c.args.client.now in
    let x = c.text-item.result in
    turn_next One c.args.work.now c.loop-text.work c.remove.new.work (InTurn One c.args.filters.now []) c.args.filters.now c.loop-text.text-index x x c.loop-text.reasons.items c.push.new.self.items c.in_ok-reason.reason
    c.loop-text-test.true c.text-item.is c.loop-text.invariant c.in_ok-reason.ensures c.in_ok-push.ensures.items

pub returns : goal.returns
returns c =
    let One = Unsubscribed c.args.client.now in
    turn_ends One c.args.work.now c.loop-text.work (InTurn One c.args.filters.now []) c.args.filters.now c.loop-text.text-index c.loop-text.reasons.items c.loop-text-test.false c.loop-text.invariant
