use Rattle.node_work.specs.Working.{Then}
use Rattle.node_work.proofs.Working.{then_goes, then_stops}
use Rattle.node_clients.specs.Connecting.{TakesOver, Cleans, BeginsSession}
use Rattle.node_clients.proofs.connect.accept.Goals as goal

pub returns-in_err-take_over : goal.returns-in_err-take_over
returns-in_err-take_over c =
    let client = c.args.client.now in
    let p = c.args.packet.now in
    then_stops (TakesOver client) (λ _. Then (Cleans p.clean_start client) (λ _. BeginsSession c.args.connection client p)) (λ x. x) (λ x. x) c.from_residual.result c.in_err-take_over.field-0.0 c.args.work.now c.take_over.new.work c.from_residual.ensures.1 c.in_err-take_over.ensures

pub returns-in_err-clean : goal.returns-in_err-clean
returns-in_err-clean c =
    let client = c.args.client.now in
    let p = c.args.packet.now in
    let w = c.args.work.now in
    let m = c.take_over.new.work in
    let n = c.clean.new.work in
    let r = c.from_residual-in_err-clean.result in
    then_goes (TakesOver client) (λ _. Then (Cleans p.clean_start client) (λ _. BeginsSession c.args.connection client p)) (λ x. x) r w m n tt c.in_ok-take_over.ensures
    (then_stops (Cleans p.clean_start client) (λ _. BeginsSession c.args.connection client p) (λ x. x) (λ x. x) r c.in_err-clean.field-0.0 m n c.from_residual-in_err-clean.ensures.1 c.in_err-clean.ensures)

pub returns : goal.returns
returns c =
    let client = c.args.client.now in
    let p = c.args.packet.now in
    let w = c.args.work.now in
    let m = c.take_over.new.work in
    let n = c.clean.new.work in
    then_goes (TakesOver client) (λ _. Then (Cleans p.clean_start client) (λ _. BeginsSession c.args.connection client p)) (λ x. x) c.begin.result w m c.begin.new.work tt c.in_ok-take_over.ensures
    (then_goes (Cleans p.clean_start client) (λ _. BeginsSession c.args.connection client p) (λ x. x) c.begin.result m n c.begin.new.work tt c.in_ok-clean.ensures c.begin.ensures)
