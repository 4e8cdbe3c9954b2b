use Rattle.std.proofs.Common.{Some, None}
use Rattle.mqtt_topics.proofs.LevelLaws.{levels_split}
use Rattle.mqtt_topics.proofs.levels.first_level.Goals as goal

pub returns-in-Some : goal.returns-in-Some
returns-in-Some c = levels_split c.args.text.now (Some (c.in-Some.level, c.in-Some.rest)) c.in-Some.ensures.cases

pub returns-in-None : goal.returns-in-None
returns-in-None c = levels_split c.args.text.now None c.in-None.ensures.cases
