use Rattle.std.proofs.Common.{ap₂, subst, refl, ℕ, List, IfOk}
use Rattle.sqlite.specs.Recovery.{Image}
use Rattle.row_database.specs.Copied.{Show}
use Rattle.row_database.proofs.copied.copied_rows.Goals as goal

abbrev image : List ℕ → List ℕ → Image
image log db = record { log = log; db = db }

pub returns-in-Ok-clause-rows : goal.returns-in-Ok-clause-rows
returns-in-Ok-clause-rows c =
    let same = ap₂ image c.in-Ok.ensures.0 c.in-Ok.ensures.1 in
    subst (λ (files : Image). IfOk c.rows_on.result (λ rows. Show files rows.items)) same (c.rows_on.ensures.rows (λ file. refl))
