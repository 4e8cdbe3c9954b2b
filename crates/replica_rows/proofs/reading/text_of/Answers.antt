use Rattle.std.proofs.Common.{◌⊎◌, ◌≤◌, ◌^◌, length, sym, subst}
use Rattle.std.specs.Prelude.{Contains}
use Rattle.replica_rows.proofs.Wanting.{fits_text, one_fault}
use Rattle.replica_rows.proofs.reading.text_of.Goals as goal

pub returns-clause-no_memory : goal.returns-clause-no_memory
returns-clause-no_memory c = λ memory.
    fits_text c.args.bytes.now c.in-Ok.ensures.cases.1
    (λ bad. one_fault c.new.result (c.new.ensures.malformed.1 (subst (λ s. (2 ^ 16 ≤ length s) ⊎ Contains s 0) (sym c.in-Ok.ensures.cases.0) bad)) memory)
