use Rattle.mqtt_sessions.proofs.LengthLaws.{suback_fit, unsuback_fit}
use Rattle.mqtt_sessions.proofs.answers.list_fits.Goals as goal

pub returns-clause-suback : goal.returns-clause-suback
returns-clause-suback c = λ id codes is. rw (c.list_length.ensures, ← is) (suback_fit id c.args.limit codes c.requires)

pub returns-clause-unsuback : goal.returns-clause-unsuback
returns-clause-unsuback c = λ id codes is. rw (c.list_length.ensures, ← is) (unsuback_fit id c.args.limit codes c.requires)
