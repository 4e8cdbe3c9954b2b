use Rattle.std.proofs.Common.{rules, true≢false, sym, ◌∙◌}
use Rattle.session_records.specs.Stored.{HasForm}
use Rattle.session_records.proofs.Adopts.{next_formed}
use Rattle.row_store.proofs.Neighbours.{here}
use Rattle.session_records.proofs.found.have_form.Goals as goal

pub loop-row-preserved : goal.loop-row-preserved
loop-row-preserved c = record { formed = next_formed c.args.rows.now c.loop-row.row-index c.row-item.result (search rules) (search rules) (search rules) c.loop-row.invariant.formed }

pub returns-then-not-is_row : goal.returns-then-not-is_row
returns-then-not-is_row c = (
  λ t. absurd (true≢false (sym t)),
  λ all.
      let form = here HasForm c.args.rows.now c.loop-row.row-index c.row-item.result (search rules) (search rules) all in
      absurd (true≢false (sym (c.is_row.ensures.1 form) ∙ c.if-not-is_row.true)),
)
