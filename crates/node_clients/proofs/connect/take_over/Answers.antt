use Rattle.std.proofs.Common.{Some, None, Ok, Result, sym, ap, ◌∙◌}
use Rattle.std.specs.Prelude.{option_and_then}
use Rattle.std.specs.FinMap as map
use Rattle.session_table.specs.Seats.{Seats}
use Rattle.node_work.specs.declared.fault.NodeFault.{NodeFault}
use Rattle.node_work.specs.Doings.{Disconnects}
use Rattle.node_work.specs.Held.Sessions.{connection_at}
use Rattle.node_work.specs.View.{HeldView}
use Rattle.node_work.proofs.Working.{comes_looks, did_nothing, then_goes}
use Rattle.node_clients.specs.Connecting.{TakesOverFrom}
use Rattle.node_clients.specs.Ending.{ClosesFor}
use Rattle.node_clients.proofs.connect.take_over.Goals as goal

pub returns-in_default : goal.returns-in_default
returns-in_default c =
    let client = c.args.client.now in
    let w = c.args.work.now in
    let done : Result (Unit {0}) NodeFault = Ok tt in
    let none = ap (λ (h : HeldView). connection_at client h) (sym c.held.ensures) ∙ ap (λ (s : Seats). option_and_then (λ x. x.connection) (map.get s client)) (sym c.sessions.ensures) ∙ sym c.in_default.ensures in
    comes_looks (λ x. x) done w w (λ p h. connection_at client h) (TakesOverFrom client) None none (did_nothing w tt)

pub returns : goal.returns
returns c =
    let client = c.args.client.now in
    let w = c.args.work.now in
    let older = c.in-Some.older in
    let r = c.close_for.result in
    let new = c.close_for.new.work in
    let on = ap (λ (h : HeldView). connection_at client h) (sym c.held.ensures) ∙ ap (λ (s : Seats). option_and_then (λ x. x.connection) (map.get s client)) (sym c.sessions.ensures) ∙ sym c.connection.ensures ∙ c.in-Some.is in
    comes_looks (λ x. x) r w new (λ p h. connection_at client h) (TakesOverFrom client) (Some older) on
    (then_goes (Disconnects older client 142) (λ _. ClosesFor older client) (λ x. x) r w c.disconnect.new.self new tt c.in_ok-disconnect.ensures.comes c.close_for.ensures)
