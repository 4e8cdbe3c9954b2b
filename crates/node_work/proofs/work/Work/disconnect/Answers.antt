use Rattle.std.proofs.Common.{◌≡◌, Bool, Option, Ok, Some, None, Result, ap, sym, subst, ◌∙◌}
use Rattle.std.specs.FinMap as map
use Rattle.std.specs.Option.{option_and_then}
use Rattle.mqtt_sessions.specs.State.{limit_of}
use Rattle.node_work.specs.Doings.{Disconnects, Sends}
use Rattle.node_work.specs.Held.Sessions.{fits_in, takes_disconnect}
use Rattle.mqtt_sessions.specs.Answers.{disconnect}
use Rattle.node_work.specs.View.{HeldView, Place, WorkView}
use Rattle.node_work.specs.Working.{Did, Returns}
use Rattle.node_work.specs.declared.fault.NodeFault.{NodeFault}
use Rattle.node_work.proofs.Working.{comes_unless, did_nothing}
use Rattle.node_work.proofs.work.Work.disconnect.Goals as goal

pub returns-in_default-clause-comes : goal.returns-in_default-clause-comes
returns-in_default-clause-comes c =
    let before : WorkView = record { place = record { id = c.self.inside.id; nodes = c.self.inside.nodes }; held = c.self.inside.held; outputs = c.self.inside.outputs.items; changes = c.self.inside.changes.items } in
    let client = c.args.client.now in
    let code = c.args.reason in
    let test : Place → HeldView → Bool = λ p h. takes_disconnect client code h in
    let gone : option_and_then (λ s. limit_of s.session.link) (map.get before.held.sessions client) ≡ None =
    subst (λ seats. option_and_then (λ s. limit_of s.session.link) (map.get seats client) ≡ None) c.sessions.ensures (sym c.limit.ensures ∙ c.in_default.is) in
    let answer : Result (Unit {0}) NodeFault = Ok tt in
    subst (λ w. Did w w (Disconnects c.args.connection client code (Some tt))) c.self.view_is
    (comes_unless (λ x. x) answer before before test (Sends c.args.connection (disconnect code)) (Returns tt) (ap (λ l. fits_in l (disconnect code)) gone) (did_nothing before tt))
