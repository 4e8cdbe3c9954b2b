use Rattle.std.proofs.Common.{arith}
use Rattle.std.specs.Str.Parse.{ParsesUnsigned, ExplainsUnsignedError, HasUnsignedDigitsIfOk}
use Rattle.clap.specs.Words.{found_of}
use Rattle.broker_command.proofs.Lines.{none_read, number_read}
use Rattle.broker_command.proofs.line.number_of.Goals as goal

pub returns-else-number-gt-MOST : goal.returns-else-number-gt-MOST
returns-else-number-gt-MOST c =
    number_read _ (λ bs r. ParsesUnsigned 32 10 bs r × ExplainsUnsignedError 10 bs r × HasUnsignedDigitsIfOk bs r) (found_of c.args.found.now) c.args.name.now
    c.in-Ok-Some.number (λ t r g. g.0) (λ e. let bad = c.in-Ok-Some.ensures.none e in let is = c.in-Ok-Some.field-0-is in cc) (rw c.in-Ok-Some.field-0-is at c.in-Ok-Some.ensures.value) (omega arith) (omega arith)

pub returns-in-Ok-None : goal.returns-in-Ok-None
returns-in-Ok-None c = none_read (found_of c.args.found.now) c.args.name.now (rw c.in-Ok-None.field-0-is at c.in-Ok-None.ensures.value)
