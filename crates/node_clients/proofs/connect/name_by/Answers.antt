use Rattle.std.proofs.Common.{sym, ap, ◌∙◌}
use Rattle.node_work.specs.Acts.{Named}
use Rattle.node_work.specs.Working.{Acting, Looks}
use Rattle.node_work.proofs.Working.{comes_looks, then_goes}
use Rattle.node_clients.specs.Connecting.{Accepts}
use Rattle.node_clients.specs.Naming.{automatic}
use Rattle.node_clients.proofs.connect.name_by.Goals as goal

pub returns : goal.returns
returns c =
    let p = c.args.packet.now in
    let at = c.args.connection in
    let number = c.args.number in
    let m = c.name.new.self in
    let new = c.accept.new.work in
    let r = c.accept.result in
    let client = c.in_ok-client.client in
    let is = ap (λ id. automatic id number) (sym c.id.ensures) ∙ sym c.in_ok-client.ensures.ok in
    then_goes (Acting (λ place h. Named number)) (λ _. Looks (λ place h. automatic place.id number) (Accepts at p)) (λ x. x) r c.args.work.now m new tt c.in_ok-name.ensures
    (comes_looks (λ x. x) r m new (λ place h. automatic place.id number) (Accepts at p) client is c.accept.ensures)
