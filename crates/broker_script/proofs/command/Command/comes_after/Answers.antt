use Rattle.broker_script.proofs.Scripts.{no_home, precedes_none}
use Rattle.broker_script.proofs.command.Command.comes_after.Goals as goal

pub returns-in_default : goal.returns-in_default
returns-in_default c = precedes_none c.args.self.now c.args.before.now (no_home c.args.self.now c.in_default.not-Home)
