use Rattle.std.proofs.Common.{rules, sym, ap, ◌∙◌}
use Rattle.std.specs.Ordering.{eq_by_cmp}
use Rattle.row_store.specs.Leading.{key_in}
use Rattle.row_store.specs.Rows.{key_cmp}
use Rattle.row_journal.proofs.RepeatLaws.{named_there}
use Rattle.row_journal.proofs.repeats.is_named_at.Goals as goal

pub returns : goal.returns
returns c tie =
    let key = key_in c.args.change.now in
    named_there c.args.changes.now c.args.at c.index-changes-at.result key (search rules) (ap (λ x. eq_by_cmp key_cmp key (key_in x)) (sym c.index-changes-at.is) ∙ sym c.is_same_row.ensures ∙ tie)
