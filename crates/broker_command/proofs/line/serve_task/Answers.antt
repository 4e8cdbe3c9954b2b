use Rattle.std.proofs.Common.{◌≡◌, ℕ, Option, Some, None, arith, codes}
use Rattle.std.specs.Str.Parse.{ParsesUnsigned, ExplainsUnsignedError, HasUnsignedDigitsIfOk}
use Rattle.clap.specs.Words.{found_of}
use Rattle.broker_command.proofs.Lines.{counted_if, number_read}
use Rattle.broker_command.proofs.line.serve_task.Goals as goal

pub returns : goal.returns
returns c =
    let turns = number_read _ (λ bs r. ParsesUnsigned 32 10 bs r × ExplainsUnsignedError 10 bs r × HasUnsignedDigitsIfOk bs r) (found_of c.args.found.now) (codes "turns") c.in-Some.turns
    (λ t r g. g.0) (λ e. let bad : ◌≡◌ {A = Option ℕ} (Some c.in-Some.turns) None = c.in-Some.ensures.none e in cc) c.in-Some.ensures.value (omega arith) (omega arith) in
    counted_if _ c.in-Some.turns c.node_task.result turns c.node_task.ensures
