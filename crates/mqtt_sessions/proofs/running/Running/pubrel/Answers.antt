use Rattle.mqtt_sessions.proofs.running.Running.pubrel.Goals as goal

pub returns-clause-step : goal.returns-clause-step
returns-clause-step c = rw (← c.self.view_is) (rw (c.pubcomp.ensures.packet, c.release-code.ensures.code, c.release-code.ensures.left) at c.answered-2.ensures.step)
