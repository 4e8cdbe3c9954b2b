use Rattle.std.proofs.Common.{◌∙◌, codes, sym}
use Rattle.std.proofs.lemmas.Slice.Eq.{bytes_eq-Decides}
use Rattle.clap.specs.Words.{found_of, rows_of, subcommand_rows_of}
use Rattle.broker_command.proofs.Lines.{named_rows, task_of_run, task_of_serve}
use Rattle.broker_command.proofs.line.named_task.Goals as goal

pub returns-then-eq-3 : goal.returns-then-eq-3
returns-then-eq-3 c = task_of_serve (subcommand_rows_of c.args.matches.now) c.in-Some.name.now (rows_of (found_of c.in-Some.found.now)) c.serve_task.result
    (named_rows c.args.matches.now ∙ sym c.in-Some.ensures.name) (sym c.in-Some.ensures.rows) ((bytes_eq-Decides c.in-Some.name.now (codes "serve")).0 (sym c.if-eq-3.ensures)) c.serve_task.ensures

pub returns-then-eq-4 : goal.returns-then-eq-4
returns-then-eq-4 c = task_of_run (subcommand_rows_of c.args.matches.now) c.in-Some.name.now (rows_of (found_of c.in-Some.found.now)) c.run_task.result
    (named_rows c.args.matches.now ∙ sym c.in-Some.ensures.name) (sym c.in-Some.ensures.rows) ((bytes_eq-Decides c.in-Some.name.now (codes "run")).0 (sym c.if-eq-4.ensures)) c.run_task.ensures
