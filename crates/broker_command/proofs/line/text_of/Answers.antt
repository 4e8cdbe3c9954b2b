use Rattle.clap.specs.Words.{found_of}
use Rattle.broker_command.proofs.Lines.{absent_word, word_of}
use Rattle.broker_command.proofs.line.text_of.Goals as goal

pub returns-in_ok-from_str-in-Some : goal.returns-in_ok-from_str-in-Some
returns-in_ok-from_str-in-Some c = word_of (found_of c.args.found.now) c.args.name.now c.get_str.result c.in-Some.text _ c.get_str.ensures c.in-Some.is c.in_ok-from_str-in-Some.ensures.ok

pub returns-in-None : goal.returns-in-None
returns-in-None c = absent_word (found_of c.args.found.now) c.args.name.now c.get_str.result c.get_str.ensures c.in-None.is
