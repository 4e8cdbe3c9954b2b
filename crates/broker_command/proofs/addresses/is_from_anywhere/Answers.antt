use Rattle.std.proofs.Common.{codes}
use Rattle.clap.specs.Words.{found_of}
use Rattle.broker_command.proofs.Lines.{flag_read}
use Rattle.broker_command.proofs.addresses.is_from_anywhere.Goals as goal

pub returns : goal.returns
returns c = flag_read (found_of c.args.found.now) (codes "bridge-from-anywhere") c.get_flag.result c.get_flag.ensures.none c.get_flag.ensures.other c.get_flag.ensures.value
