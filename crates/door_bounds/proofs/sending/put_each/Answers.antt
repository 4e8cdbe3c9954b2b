use Rattle.door_bounds.proofs.Sent.{put_then}
use Rattle.door_bounds.proofs.sending.put_each.Goals as goal

pub loop-output-preserved : goal.loop-output-preserved
loop-output-preserved c =
    put_then c.args.connection c.args.mend.now c.loop-output.yielded c.in-Some.output c.in_ok-mended_output.field-0 c.args.outputs.now.items c.loop-output.outputs.items c.push.new.self.items
    c.loop-output.invariant c.in_ok-mended_output.ensures c.in_ok-push.ensures.items
