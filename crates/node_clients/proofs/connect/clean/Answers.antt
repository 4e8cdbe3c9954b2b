use Rattle.std.proofs.Common.{sym, subst, ap, ◌∙◌, is_some}
use Rattle.std.specs.FinMap as map
use Rattle.session_table.specs.Seats.{Seats}
use Rattle.node_work.specs.Held.Sessions.{has_session}
use Rattle.node_work.specs.View.{HeldView}
use Rattle.node_work.specs.Working.{ComesTo, Returns}
use Rattle.node_work.proofs.Working.{comes_when}
use Rattle.node_clients.specs.Connecting.{Cleans}
use Rattle.node_clients.specs.Ending.{Finishes}
use Rattle.node_clients.proofs.connect.clean.Goals as goal

pub returns : goal.returns
returns c =
    let client = c.args.client.now in
    let w = c.args.work.now in
    let r = c.finish.result in
    let new = c.finish.new.work in
    let has = ap (λ (h : HeldView). has_session client h) (sym c.held.ensures) ∙ ap (λ (s : Seats). is_some (map.get s client)) (sym c.sessions.ensures) ∙ sym c.has.ensures ∙ c.if-not-has.false in
    subst (λ b. ComesTo (λ x. x) r w new (Cleans b client)) (sym c.if-not-clean_start.false)
    (comes_when (λ x. x) r w new (λ p h. has_session client h) (Finishes client) (Returns tt) has c.finish.ensures)
