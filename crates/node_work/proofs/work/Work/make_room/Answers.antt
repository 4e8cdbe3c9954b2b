use Rattle.std.proofs.Common.{refl, subst}
use Rattle.law_sessions.specs.Runs.{rooms}
use Rattle.session_table.specs.Calls.{stays, reaction_of}
use Rattle.node_work.specs.Calling.{Calls}
use Rattle.node_work.specs.View.{WorkView}
use Rattle.node_work.specs.Working.{ComesTo}
use Rattle.node_work.proofs.Calling.{comes_call, spelled_after}
use Rattle.node_work.proofs.work.Work.make_room.Goals as goal

pub react-requires : goal.react-requires
react-requires c = spelled_after c.args.client.now (rooms c.args.bytes c.self.inside.held.at) stays c.self.inside.held c.make_room-called.new.self (reaction_of c.make_room-called.result) c.make_room-called.ensures.called c.make_room-called.ensures.spelled

pub returns : goal.returns
returns c =
    let before : WorkView = record { place = record { id = c.self.inside.id; nodes = c.self.inside.nodes }; held = c.self.inside.held; outputs = c.self.inside.outputs.items; changes = c.self.inside.changes.items } in
    subst (λ w. ComesTo (λ x. x) c.react.result w c.react.new.self (Calls c.args.client.now (rooms c.args.bytes) stays)) c.self.view_is
    (comes_call c.args.client.now (rooms c.args.bytes) stays before c.react.new.self c.make_room-called.new.self c.make_room-called.new.changes.items c.make_room-called.result c.react.result c.make_room-called.ensures.called c.make_room-called.ensures.leads
    c.make_room-called.ensures.goes
    (λ b. refl) refl c.react.ensures)
