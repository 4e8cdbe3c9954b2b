use Rattle.std.proofs.Common.{◌≡◌, ℕ, List, Option, Some, false, inr, refl, sym, subst, ap, ◌∙◌, is_some}
use Rattle.std.specs.FinMap as map
use Rattle.law_sessions.specs.Runs.{connects}
use Rattle.law_maps.proofs.Texts.{get_inserted}
use Rattle.session_table.specs.Calls.{MayConnectAt, moves}
use Rattle.session_table.specs.Seats.{Seat, Seats, begun}
use Rattle.node_work.specs.Acts.{Runs, Session}
use Rattle.node_work.specs.Calling.{Calls}
use Rattle.node_work.specs.Held.Sessions.{Begun, called, has_session}
use Rattle.node_work.specs.View.{HeldView, WorkView}
use Rattle.node_work.specs.Working.{Did, Acting}
use Rattle.node_work.proofs.Working.{comes_looks, then_goes}
use Rattle.node_clients.specs.Connecting.{JoinsBy}
use Rattle.node_clients.proofs.connect.join_in.Goals as goal

-- a session that began is new
begun_is : (client : List ℕ) (w m : WorkView) → Did w m (Acting (λ p h. Session (Begun client)) (Some tt)) → m.held ≡ called w.held (Begun client)
begun_is client w m d = let r = subst (λ xs. Runs w.place w.held xs m.held) d.does.1 d.runs in r.2 ∙ r.1.1

may_connect : (client : List ℕ) (w m : WorkView) → Did w m (Acting (λ p h. Session (Begun client)) (Some tt)) → MayConnectAt false (map.get m.held.sessions client)
may_connect client w m d =
    let found : map.get m.held.sessions client ≡ Some (begun client) = ap (λ (h : HeldView). map.get h.sessions client) (begun_is client w m d) ∙ get_inserted w.held.sessions client (begun client) in
    subst (λ (o : Option Seat). MayConnectAt false o) (sym found) (inr (refl, refl))

pub connect-requires-2-clause-continued : goal.connect-requires-2-clause-continued
connect-requires-2-clause-continued c = may_connect c.args.client.now c.args.work.now c.begin_session.new.self c.in_ok-begin_session.ensures

pub returns : goal.returns
returns c =
    let client = c.args.client.now in
    let p = c.args.packet.now in
    let at = c.args.connection in
    let room = c.args.room in
    let w = c.args.work.now in
    let r = c.connect-2.result in
    let new = c.connect-2.new.self in
    let has = ap (λ (h : HeldView). has_session client h) (sym c.held.ensures) ∙ ap (λ (s : Seats). is_some (map.get s client)) (sym c.sessions.ensures) ∙ sym c.has.ensures ∙ c.if-has.false in
    comes_looks (λ x. x) r w new (λ place h. has_session client h) (λ b. JoinsBy b at client p room) false has
    (then_goes (Acting (λ place h. Session (Begun client))) (λ _. Calls client (connects p false room) (moves at)) (λ x. x) r w c.begin_session.new.self new tt c.in_ok-begin_session.ensures c.connect-2.ensures)
