use Rattle.std.proofs.Common.{◌∙◌, sym}
use Rattle.mqtt_sessions.proofs.Flushed.{has-made-room}
use Rattle.mqtt_sessions.proofs.running.Running.make_room.Goals as goal

pub returns-in_default-clause-step : goal.returns-in_default-clause-step
returns-in_default-clause-step c =
    rw (← c.self.view_is)
    (has-made-room _ c.args.bytes c.args.now c.says.result (sym c.limit.ensures.limit ∙ c.in_default.is) (rw c.new-packets.ensures.items at c.says.ensures))
