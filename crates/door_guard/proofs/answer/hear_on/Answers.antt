use Rattle.std.proofs.Common.{refl}
use Rattle.door_guard.proofs.Meets.{passed}
use Rattle.door_guard.proofs.answer.hear_on.Goals as goal

pub returns-in_ok-give-in-Ok-clause-ok : goal.returns-in_ok-give-in-Ok-clause-ok
returns-in_ok-give-in-Ok-clause-ok g c =
    passed g.H.BridgeHandler.hears (g.A.Access.rights c.args.access.now) c.args.event c.args.inside.now c.hear.new.self c.args.known.now c.give.new.known c.in-Ok.given
    (record { outputs = c.give.new.outputs; frames = c.in-Ok.given.frames }) c.new-outputs.result.items c.in-Ok.ensures.ok refl c.new-outputs.ensures.items c.in_ok-give-in-Ok.ensures
