use Rattle.std.proofs.Common.{codes}
use Rattle.clap.specs.Words.{found_of}
use Rattle.broker_command.proofs.Lines.{word_of}
use Rattle.broker_command.proofs.dropping.drop_task.Goals as goal

pub returns : goal.returns
returns c = (
  word_of (found_of c.args.found.now) (codes "CONFIG") c.get_str.result c.in-Some-Some-Some.configuration _ c.get_str.ensures c.in-Some-Some-Some.is-0 c.in_ok-configuration.ensures.ok,
  word_of (found_of c.args.found.now) (codes "NODE") c.get_str-2.result c.in-Some-Some-Some.node _ c.get_str-2.ensures c.in-Some-Some-Some.is-1 c.in_ok-node.ensures.ok,
  word_of (found_of c.args.found.now) (codes "DATABASE") c.get_str-3.result c.in-Some-Some-Some.database _ c.get_str-3.ensures c.in-Some-Some-Some.is-2 c.in_ok-database.ensures.ok,
  c.in_ok-session.ensures,
  c.in_ok-queue.ensures,
  c.in_ok-lane.ensures,
)
