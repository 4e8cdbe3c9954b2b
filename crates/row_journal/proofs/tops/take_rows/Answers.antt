use Rattle.std.proofs.Common.{List, subst, sym, take}
use Rattle.std.specs.List.{AllByRecursion}
use Rattle.row_store.specs.declared.row.Row.{Row}
use Rattle.row_journal.specs.Tops.{AllowsRow}
use Rattle.row_journal.proofs.TopsLaws.{allow_one, allows_row_more, grows_on, taken_one}
use Rattle.row_journal.proofs.tops.take_rows.Goals as goal

pub loop-row-preserved : goal.loop-row-preserved
loop-row-preserved c =
    let before = c.loop-row.tops.entries in
    let after = c.take_row.new.tops.entries in
    let rows = c.args.rows.now in
    let grows = c.take_row.ensures.grows in
    record {
      grows = grows_on c.args.tops.now.entries before after c.loop-row.invariant.grows grows;
      taken = subst (λ (xs : List Row). AllByRecursion (AllowsRow after) xs) (sym (taken_one rows c.loop-row.row-index c.row-item.result c.loop-row-test.true c.row-item.is))
          (allow_one (AllowsRow before) (AllowsRow after) (take c.loop-row.row-index rows) c.row-item.result (λ y. allows_row_more before after y grows) c.loop-row.invariant.taken c.in_ok-take_row.ensures.taken);
    }
