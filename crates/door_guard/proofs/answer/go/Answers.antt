use Rattle.std.proofs.Common.{sym, ◌∙◌}
use Rattle.door_guard.proofs.Meets.{gone_told, gone_untold}
use Rattle.door_guard.proofs.Told.{if_ok}
use Rattle.door_guard.proofs.answer.go.Goals as goal

pub returns-then-not-told-clause-ok : goal.returns-then-not-told-clause-ok
returns-then-not-told-clause-ok g c =
    gone_untold g.H.Handler.handles (g.A.Access.rights c.args.access.now) c.args.place.0 c.args.place.1 c.args.inside.now c.args.known.now.clients c.take.new.self (c.args.known.now.refusals, c.args.outputs.now.items)
    (sym c.is_told-told.ensures ∙ c.if-not-told.true) c.take.ensures.left

pub returns-clause-ok : goal.returns-clause-ok
returns-clause-ok g c =
    if_ok c.pass.result
    (gone_told g.H.Handler.handles (g.A.Access.rights c.args.access.now) c.args.place.0 c.args.place.1 c.args.inside.now c.pass.new.inside c.args.known.now.clients c.take.new.self c.pass.new.known.clients (c.args.known.now.refusals, c.args.outputs.now.items) (c.pass.new.known.refusals, c.pass.new.outputs.items)
    (sym c.is_told-told.ensures ∙ c.if-not-told.false) c.take.ensures.left)
    c.pass.ensures.ok
