use Rattle.std.proofs.Common.{List, subst, sym, take}
use Rattle.std.specs.List.{AllByRecursion}
use Rattle.row_store.specs.declared.row.Change.{Change}
use Rattle.row_journal.specs.Tops.{Allows}
use Rattle.row_journal.proofs.TopsLaws.{allow_one, allows_more, grows_on, taken_one}
use Rattle.row_journal.proofs.tops.take_changes.Goals as goal

pub loop-change-preserved : goal.loop-change-preserved
loop-change-preserved c =
    let before = c.loop-change.tops.entries in
    let after = c.take_change.new.tops.entries in
    let changes = c.args.changes.now in
    let grows = c.take_change.ensures.grows in
    record {
      grows = grows_on c.args.tops.now.entries before after c.loop-change.invariant.grows grows;
      taken = subst (λ (xs : List Change). AllByRecursion (Allows after) xs) (sym (taken_one changes c.loop-change.change-index c.change-item.result c.loop-change-test.true c.change-item.is))
          (allow_one (Allows before) (Allows after) (take c.loop-change.change-index changes) c.change-item.result (λ y. allows_more before after y grows) c.loop-change.invariant.taken c.in_ok-take_change.ensures.taken);
    }
