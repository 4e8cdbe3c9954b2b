use Rattle.std.proofs.Common.{subst, refl}
use Rattle.law_sessions.specs.Runs.{rooms}
use Rattle.session_table.specs.Calls.{stays, reaction_of}
use Rattle.node_work.specs.View.{HeldView}
use Rattle.node_work.specs.Held.Calling.{IsHeldCall}
use Rattle.node_work.proofs.held.Held.make_room.Goals as goal

pub returns-clause-called : goal.returns-clause-called
returns-clause-called c =
    let h : HeldView = record { at = c.self.inside.at; started = c.self.inside.started; homes = c.self.inside.homes; store = c.self.inside.store; connections = c.self.inside.connections; sessions = c.make_room.new.self; bridge = c.self.inside.bridge; turn = c.self.inside.turn; named = c.self.inside.named; counts = c.self.inside.counts } in
    subst (λ (v : HeldView). IsHeldCall c.args.client.now (rooms c.args.bytes v.at) stays v (reaction_of c.make_room.result) h) c.self.view_is (c.make_room.new.self, c.make_room.ensures.called, refl)

pub returns-clause-goes : goal.returns-clause-goes
returns-clause-goes c = c.make_room.ensures.goes
