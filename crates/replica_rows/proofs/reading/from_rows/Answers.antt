use Rattle.std.proofs.Common.{length, sym, ◌∙◌}
use Rattle.std.proofs.lemmas.Bool.{eqb-true}
use Rattle.replica_bytes.proofs.Loops.{no_items}
use Rattle.replica_rows.proofs.Empty.{nothing_listed}
use Rattle.replica_rows.proofs.reading.from_rows.Goals as goal

pub returns-then-is_empty-clause-ok : goal.returns-then-is_empty-clause-ok
returns-then-is_empty-clause-ok c =
    nothing_listed c.args.rows.now c.new-none.result (no_items c.args.rows.now (eqb-true (length c.args.rows.now) 0 (sym c.is_empty.ensures ∙ c.if-is_empty.true))) c.new-none.ensures
