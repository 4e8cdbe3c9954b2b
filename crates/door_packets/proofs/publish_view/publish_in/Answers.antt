use Rattle.door_packets.proofs.Views.{publish_here}
use Rattle.door_packets.proofs.publish_view.publish_in.Goals as goal

pub returns-in_ok-view-in-len1-up : goal.returns-in_ok-view-in-len1-up
returns-in_ok-view-in-len1-up c =
    publish_here c.args.bytes.now c.in-Ok.rest.now c.in-Ok-run_at.body.now c.in-Ok-run_at.field-0-1.now c.in-Ok.len _ c.in-len1-up.len_at_least c.in_ok-view-in-len1-up.ensures.0
    c.in-Ok.ensures.exact c.in-Ok-run_at.ensures.exact c.in_ok-view-in-len1-up.ensures.1
