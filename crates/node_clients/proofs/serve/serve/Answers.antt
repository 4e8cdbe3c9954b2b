use Rattle.std.proofs.Common.{sym, ap, ◌∙◌}
use Rattle.law_sessions.specs.Runs.{takes}
use Rattle.session_table.specs.Calls.{stays}
use Rattle.node_work.specs.Calling.{Calls}
use Rattle.node_work.proofs.Working.{comes_looks, then_goes, then_stops}
use Rattle.node_clients.specs.Serving.{DoesReaction, ServesIn, room_for}
use Rattle.node_clients.proofs.serve.serve.Goals as goal

pub returns-in_err-reaction : goal.returns-in_err-reaction
returns-in_err-reaction c =
    let client = c.args.client.now in
    let p = c.args.packet.now in
    let w = c.args.work.now in
    let m = c.packet.new.self in
    let r = c.from_residual-in_err-reaction.result in
    let room = c.in_ok-room.room in
    let is = c.in_ok-room.ensures.ok ∙ ap (room_for client p) c.held.ensures in
    comes_looks (λ x. x) r w m (λ place h. room_for client p h) (ServesIn c.args.connection client p) room (sym is)
    (then_stops (Calls client (λ at. takes p at room) stays) (DoesReaction c.args.connection client p room) (λ x. x) (λ x. x) r c.in_err-reaction.field-0.0 w m c.from_residual-in_err-reaction.ensures.1 c.in_err-reaction.ensures)

pub returns : goal.returns
returns c =
    let client = c.args.client.now in
    let p = c.args.packet.now in
    let w = c.args.work.now in
    let m = c.packet.new.self in
    let n = c.react.new.work in
    let r = c.react.result in
    let room = c.in_ok-room.room in
    let is = c.in_ok-room.ensures.ok ∙ ap (room_for client p) c.held.ensures in
    comes_looks (λ x. x) r w n (λ place h. room_for client p h) (ServesIn c.args.connection client p) room (sym is)
    (then_goes (Calls client (λ at. takes p at room) stays) (DoesReaction c.args.connection client p room) (λ x. x) r w m n c.in_ok-reaction.reaction c.in_ok-reaction.ensures c.react.ensures)
