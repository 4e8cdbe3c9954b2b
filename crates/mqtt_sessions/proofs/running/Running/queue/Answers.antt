use Rattle.std.proofs.Common.{◌∙◌, sym}
use Rattle.mqtt_sessions.proofs.Flushed.{joins}
use Rattle.mqtt_sessions.proofs.running.Running.queue.Goals as goal

pub returns-in_default-clause-step : goal.returns-in_default-clause-step
returns-in_default-clause-step c =
    rw (← c.self.view_is)
    (joins _ c.args.delivery c.args.now c.offer.new.self.box c.says.result (sym c.is_once.ensures ∙ c.if-is_once.false) (sym c.limit.ensures.limit ∙ c.in_default.is) (rw c.in-Ok-Queued.field-0-is at c.in-Ok-Queued.ensures.offered) (rw c.new-packets.ensures.items at c.says.ensures))
