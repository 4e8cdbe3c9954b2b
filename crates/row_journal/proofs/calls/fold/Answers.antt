use Rattle.std.proofs.Common.{◌∙◌, List, Ok, Err, ap, sym, subst}
use Rattle.std.specs.List.{AllByRecursion}
use Rattle.std.proofs.lemmas.Result.{err_from_is_err_and}
use Rattle.row_store.specs.declared.row.Change.{Change}
use Rattle.row_store.specs.Rows.{after_all}
use Rattle.row_journal.specs.Journal.{shown}
use Rattle.row_journal.specs.Tops.{Allows, Covers, IsKept}
use Rattle.row_journal.proofs.CallLaws.{applied, folded, kept_grown, none_noted}
use Rattle.row_journal.proofs.TopsLaws.{covers_after, covers_more}
use Rattle.row_journal.proofs.calls.fold.Goals as goal

pub returns-in_err-changes-clause-kept : goal.returns-in_err-changes-clause-kept
returns-in_err-changes-clause-kept g c = λ clean up.
    let old = c.args.journal.now in
    let left = c.fold_changes.new.self in
    kept_grown (g.R.RowStore.content c.args.rows.now) old.noted.items left.noted.items old.count left.count old.tops.entries left.tops.entries c.fold_changes.ensures.same.0 c.fold_changes.ensures.same.1 c.fold_changes.ensures.grows
    (c.requires.kept clean up)

pub returns-in_err-apply-clause-made : goal.returns-in_err-apply-clause-made
returns-in_err-apply-clause-made g c =
    let p = err_from_is_err_and c.from_residual-in_err-apply.result c.from_residual-in_err-apply.ensures.1 in
    let made = c.in_err-apply.ensures in
    let rows = g.R.RowStore.content c.args.rows.now in
    rw (p.1, p.2) (applied g.R.RowStore c.args.rows.now c.apply.new.self (Err c.in_err-apply.field-0.0) c.deref.result.now (shown rows)
    (λ clean up. (folded rows c.args.journal.now.noted.items c.deref.result.now c.args.journal.now.count (c.requires.kept clean up).journal
    (ap (after_all rows) c.deref.ensures.value ∙ c.in_ok-changes.ensures.changes rows (c.requires.kept clean up).covers)).1)
    made.ok made.err made.crash made.rows made.was_clean made.was_open)

pub returns-in_err-apply-clause-kept : goal.returns-in_err-apply-clause-kept
returns-in_err-apply-clause-kept g c = λ clean up.
    let made = c.in_err-apply.ensures in
    let old = c.args.journal.now in
    let left = c.fold_changes.new.self in
    subst (λ d. IsKept d left.noted.items left.count left.tops.entries) (sym (made.err clean up))
    (kept_grown (g.R.RowStore.content c.args.rows.now) old.noted.items left.noted.items old.count left.count old.tops.entries left.tops.entries c.fold_changes.ensures.same.0 c.fold_changes.ensures.same.1 c.fold_changes.ensures.grows
    (c.requires.kept (made.was_clean clean) (made.was_open clean up)))

pub returns-clause-made : goal.returns-clause-made
returns-clause-made g c =
    let made = c.in_ok-apply.ensures in
    let rows = g.R.RowStore.content c.args.rows.now in
    applied g.R.RowStore c.args.rows.now c.apply.new.self (Ok tt) c.deref.result.now (shown rows)
    (λ clean up. (folded rows c.args.journal.now.noted.items c.deref.result.now c.args.journal.now.count (c.requires.kept clean up).journal
    (ap (after_all rows) c.deref.ensures.value ∙ c.in_ok-changes.ensures.changes rows (c.requires.kept clean up).covers)).1)
    made.ok made.err made.crash made.rows made.was_clean made.was_open

pub returns-clause-kept : goal.returns-clause-kept
returns-clause-kept g c = λ clean up.
    let made = c.in_ok-apply.ensures in
    let was = made.was_open clean up in
    let rows = g.R.RowStore.content c.args.rows.now in
    let kept = c.requires.kept (made.was_clean clean) was in
    let changes = c.deref.result.now in
    let none = (folded rows c.args.journal.now.noted.items changes c.args.journal.now.count kept.journal (ap (after_all rows) c.deref.ensures.value ∙ c.in_ok-changes.ensures.changes rows kept.covers)).0 in
    let tops = c.fold_changes.new.self.tops.entries in
    let taken : AllByRecursion (Allows tops) changes = subst (λ (xs : List Change). AllByRecursion (Allows tops) xs) (sym c.deref.ensures.value) c.in_ok-changes.ensures.taken in
    let covers = covers_after tops rows changes (covers_more c.args.journal.now.tops.entries tops rows c.fold_changes.ensures.grows kept.covers) taken in
    let left = c.clear.new.self in
    subst (λ d. IsKept d left.noted.items left.count left.tops.entries) (sym (made.ok clean was).1) (record {
      journal = none_noted (after_all rows changes) left.noted.items left.count none c.clear.ensures.0 c.clear.ensures.1;
      covers = subst (λ t. Covers t.entries (after_all rows changes)) (sym c.clear.ensures.2) covers;
    })
