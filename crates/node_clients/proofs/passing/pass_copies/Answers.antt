use Rattle.std.proofs.Common.{◌≡◌, ℕ, List, Some, Result, Err, ap, subst, ◌∙◌}
use Rattle.bridge_routes.specs.declared.plain.PlainCopy.{PlainCopy as Copy}
use Rattle.bridge_routes.specs.declared.destinations.Route.{Route}
use Rattle.mqtt_message.specs.declared.message.Message.{Message}
use Rattle.node_work.specs.Acts.{Passed}
use Rattle.node_work.specs.Calling.{Queues}
use Rattle.node_work.specs.Doings.{Routes}
use Rattle.node_work.specs.Passing.{seated, turn_at_end}
use Rattle.node_work.specs.View.{HeldView, WorkView}
use Rattle.node_work.specs.Working.{ComesTo, Did, Each, Numbered, Then}
use Rattle.node_work.proofs.Working.{comes_finds, then_goes, then_stops}
use Rattle.node_work.specs.declared.fault.NodeFault.{NodeFault}
use Rattle.node_clients.proofs.Seating.{after_number, seated_after}
use Rattle.node_clients.specs.Passing.{AreMade, MakesCopies, routes_to}
use Rattle.node_clients.proofs.passing.pass_copies.Goals as goal

-- passing one on leaves the sessions as they were
still_seated : (m : Message) (copies : List Copy) (lost : ℕ) (routes : List (ℕ × Route)) (w n : WorkView) (all : List Copy) → Did w n (Numbered turn_at_end (λ p h. Passed m copies lost routes) (Some tt)) → seated n.held all ≡ seated w.held all
still_seated m copies lost routes w n all d = seated_after w.held n.held all (ap (λ (h : HeldView). h.sessions) (after_number turn_at_end (λ p h. Passed m copies lost routes) w n d))

pub returns-in_err-pass : goal.returns-in_err-pass
returns-in_err-pass c =
    let m = c.args.message.now in
    let w = c.args.work.now in
    let w' = c.pass.new.self in
    let all = c.in_ok-made.made.copies.items in
    let copies = seated w.held all in
    let lost = c.in_ok-made.made.lost in
    let routes = routes_to w.place m c.in_ok-made.made.to in
    let r = c.from_residual-in_err-pass.result in
    let is = c.in_ok-made.ensures.ok in
    comes_finds (λ x. x) r w w' (AreMade m) (MakesCopies m) (copies, (lost, routes)) is
    (then_stops (Numbered turn_at_end (λ p h. Passed m copies lost routes)) (λ _. Then (Queues copies) (λ _. Each Routes routes)) (λ x. x) (λ x. x) r c.in_err-pass.field-0.0 w w'
    c.from_residual-in_err-pass.ensures.1 (c.in_err-pass.ensures.comes m copies routes is))

pub returns-in_err-queue_seated : goal.returns-in_err-queue_seated
returns-in_err-queue_seated c =
    let m = c.args.message.now in
    let w = c.args.work.now in
    let n = c.pass.new.self in
    let w' = c.queue_seated.new.work in
    let all = c.in_ok-made.made.copies.items in
    let copies = seated w.held all in
    let lost = c.in_ok-made.made.lost in
    let routes = routes_to w.place m c.in_ok-made.made.to in
    let r = c.from_residual-in_err-queue_seated.result in
    let is = c.in_ok-made.ensures.ok in
    let passed = c.in_ok-pass.ensures.comes m copies routes is in
    let e : Result (Unit {0}) NodeFault = Err c.in_err-queue_seated.field-0.0 in
    let queued = subst (λ xs. ComesTo (λ x. x) e n w' (Queues xs)) (still_seated m copies lost routes w n all passed) c.in_err-queue_seated.ensures in
    comes_finds (λ x. x) r w w' (AreMade m) (MakesCopies m) (copies, (lost, routes)) is
    (then_goes (Numbered turn_at_end (λ p h. Passed m copies lost routes)) (λ _. Then (Queues copies) (λ _. Each Routes routes)) (λ x. x) r w n w' tt passed
    (then_stops (Queues copies) (λ _. Each Routes routes) (λ x. x) (λ x. x) r c.in_err-queue_seated.field-0.0 n w' c.from_residual-in_err-queue_seated.ensures.1 queued))

pub returns : goal.returns
returns c =
    let m = c.args.message.now in
    let w = c.args.work.now in
    let n = c.pass.new.self in
    let k = c.queue_seated.new.work in
    let w' = c.route_each.new.work in
    let all = c.in_ok-made.made.copies.items in
    let copies = seated w.held all in
    let lost = c.in_ok-made.made.lost in
    let to = c.in_ok-made.made.to in
    let routes = routes_to w.place m to in
    let r = c.route_each.result in
    let is = c.in_ok-made.ensures.ok in
    let passed = c.in_ok-pass.ensures.comes m copies routes is in
    let queued = subst (λ xs. Did n k (Queues xs (Some tt))) (still_seated m copies lost routes w n all passed) c.in_ok-queue_seated.ensures in
    let same : k.place ≡ w.place = c.in_ok-queue_seated.ensures.place ∙ passed.place in
    comes_finds (λ x. x) r w w' (AreMade m) (MakesCopies m) (copies, (lost, routes)) is
    (then_goes (Numbered turn_at_end (λ p h. Passed m copies lost routes)) (λ _. Then (Queues copies) (λ _. Each Routes routes)) (λ x. x) r w n w' tt passed
    (then_goes (Queues copies) (λ _. Each Routes routes) (λ x. x) r n k w' tt queued (subst (λ p. ComesTo (λ x. x) r k w' (Each Routes (routes_to p m to))) same c.route_each.ensures)))
