use Rattle.std.proofs.Common.{ap, subst}
use Rattle.node_work.specs.Acts.{Bridge}
use Rattle.node_work.specs.Calling.{Queues}
use Rattle.node_work.specs.Held.Bridge.{Took}
use Rattle.node_work.specs.Passing.{seated}
use Rattle.node_work.specs.View.{HeldView}
use Rattle.node_work.specs.Working.{Acting, ComesTo}
use Rattle.node_work.proofs.Working.{comes_finds, then_goes, then_stops}
use Rattle.node_clients.proofs.Seating.{after_act, seated_after}
use Rattle.node_clients.specs.Passing.{IsHandedOver, TakesCopies}
use Rattle.node_clients.proofs.arriving.take_forward.Goals as goal

pub returns-in_err-take : goal.returns-in_err-take
returns-in_err-take c =
    let m = c.args.message.now in
    let w = c.args.work.now in
    let w' = c.take.new.self in
    let from = c.args.from in
    let number = c.args.number in
    let all = c.in_ok-handed.handed.copies.items in
    let copies = seated w.held all in
    let lost = c.in_ok-handed.handed.lost in
    let r = c.from_residual-in_err-take.result in
    let is = c.in_ok-handed.ensures.ok in
    comes_finds (λ x. x) r w w' (IsHandedOver m) (TakesCopies from number m) (copies, lost) is
    (then_stops (Acting (λ p h. Bridge (Took from number m copies lost))) (λ _. Queues copies) (λ x. x) (λ x. x) r c.in_err-take.field-0.0 w w' c.from_residual-in_err-take.ensures.1 (c.in_err-take.ensures m copies is))

pub returns : goal.returns
returns c =
    let m = c.args.message.now in
    let w = c.args.work.now in
    let n = c.take.new.self in
    let w' = c.queue_seated.new.work in
    let from = c.args.from in
    let number = c.args.number in
    let all = c.in_ok-handed.handed.copies.items in
    let copies = seated w.held all in
    let lost = c.in_ok-handed.handed.lost in
    let r = c.queue_seated.result in
    let is = c.in_ok-handed.ensures.ok in
    let took = c.in_ok-take.ensures m copies is in
    let still = seated_after w.held n.held all (ap (λ (h : HeldView). h.sessions) (after_act (λ p h. Bridge (Took from number m copies lost)) w n took)) in
    comes_finds (λ x. x) r w w' (IsHandedOver m) (TakesCopies from number m) (copies, lost) is
    (then_goes (Acting (λ p h. Bridge (Took from number m copies lost))) (λ _. Queues copies) (λ x. x) r w n w' tt took (subst (λ xs. ComesTo (λ x. x) r n w' (Queues xs)) still c.queue_seated.ensures))
