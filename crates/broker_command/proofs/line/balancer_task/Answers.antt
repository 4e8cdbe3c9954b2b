use Rattle.std.proofs.Common.{codes}
use Rattle.clap.specs.Words.{found_of}
use Rattle.broker_command.proofs.Lines.{word_of}
use Rattle.broker_command.proofs.line.balancer_task.Goals as goal

pub returns : goal.returns
returns c = word_of (found_of c.args.found.now) (codes "CONFIG") c.get_str.result c.in-Some.configuration _ c.get_str.ensures c.in-Some.is c.in_ok-configuration.ensures.ok
