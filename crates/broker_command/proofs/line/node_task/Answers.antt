use Rattle.std.proofs.Common.{refl, codes}
use Rattle.clap.specs.Words.{found_of}
use Rattle.broker_command.proofs.Lines.{flag_read, word_of}
use Rattle.broker_command.proofs.line.node_task.Goals as goal

pub returns : goal.returns
returns c = (
  word_of (found_of c.args.found.now) (codes "CONFIG") c.get_str.result c.in-Some-Some-Some.configuration _ c.get_str.ensures c.in-Some-Some-Some.is-0 c.in_ok-from_str.ensures.ok,
  word_of (found_of c.args.found.now) (codes "NODE") c.get_str-2.result c.in-Some-Some-Some.node _ c.get_str-2.ensures c.in-Some-Some-Some.is-1 c.in_ok-from_str-2.ensures.ok,
  word_of (found_of c.args.found.now) (codes "DATABASE") c.get_str-3.result c.in-Some-Some-Some.database _ c.get_str-3.ensures c.in-Some-Some-Some.is-2 c.in_ok-from_str-3.ensures.ok,
  refl,
  c.in-Some.ensures,
  c.in-Some-number_of.ensures,
  flag_read (found_of c.args.found.now) (codes "mqtt3") c.get_flag.result c.get_flag.ensures.none c.get_flag.ensures.other c.get_flag.ensures.value,
  flag_read (found_of c.args.found.now) (codes "log") c.get_flag-2.result c.get_flag-2.ensures.none c.get_flag-2.ensures.other c.get_flag-2.ensures.value,
  c.in_ok-text_of.ensures,
  c.in_ok-text_of-2.ensures,
  c.in_ok-text_of-3.ensures,
  c.in_ok-text_of-4.ensures,
  c.is_from_anywhere.ensures,
  c.in-Some-limits_of.ensures,
  c.in_ok-users_of.ensures,
)
