use Rattle.std.proofs.Common.{◌∷◌, []}
use Rattle.door_mqtt3.proofs.Paths.{paths_given}
use Rattle.door_mqtt3.proofs.telling.give.Goals as goal

pub loop-output-preserved : goal.loop-output-preserved
loop-output-preserved c =
    paths_given c.args.clients.now c.loop-output.clients c.give_one.new.clients c.loop-output.yielded (c.in-Some.output ∷ [])
    c.args.outputs.now.items c.loop-output.outputs.items c.give_one.new.outputs.items c.loop-output.invariant c.in_ok-give_one.ensures
