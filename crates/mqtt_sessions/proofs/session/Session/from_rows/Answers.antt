use Rattle.mqtt_sessions.proofs.SavedLaws.{opens, read-client}
use Rattle.mqtt_sessions.proofs.session.Session.from_rows.Goals as goal

pub returns-in-Ok-clause-opens : goal.returns-in-Ok-clause-opens
returns-in-Ok-clause-opens c = opens c.args.rows.now c.in-Ok.kept c.open.result c.in-Ok.ensures.ok c.open.ensures.ok c.open.ensures.fault

pub returns-in-Ok-clause-no_memory : goal.returns-in-Ok-clause-no_memory
returns-in-Ok-clause-no_memory c = λ _. read-client c.args.rows.now c.in-Ok.kept c.in-Ok.ensures.ok
