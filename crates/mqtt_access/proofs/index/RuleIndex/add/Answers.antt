use Rattle.mqtt_access.proofs.Indexing.{more_user}
use Rattle.mqtt_access.proofs.index.RuleIndex.add.Goals as goal

pub returns-in_ok-add-in-User : goal.returns-in_ok-add-in-User
returns-in_ok-add-in-User c = more_user c.args.rule c.args.self.now c.add-in-User.new.self c.in-User.name c.in-User.is c.in_ok-add-in-User.ensures
