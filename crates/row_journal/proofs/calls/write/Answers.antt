use Rattle.std.proofs.Common.{◌≡◌, ◌+◌, ◌++◌, List, Ok, Err, map, drop, ap, sym, subst, ◌∙◌}
use Rattle.std.specs.List.{AllByRecursion}
use Rattle.std.proofs.lemmas.Result.{err_from_is_err_and}
use Rattle.row_store.specs.declared.row.Change.{Change}
use Rattle.row_store.specs.Rows.{after_all}
use Rattle.row_store.specs.Noted.{pair_of}
use Rattle.row_journal.specs.Journal.{IsNoted, shown}
use Rattle.row_journal.specs.Tops.{Allows, Covers, IsKept}
use Rattle.row_journal.proofs.TopsLaws.{covers_after, covers_more}
use Rattle.row_journal.proofs.CallLaws.{applied, kept_grown, turn_fits, written}
use Rattle.row_journal.proofs.calls.write.Goals as goal

pub returns-in_err-written-clause-kept : goal.returns-in_err-written-clause-kept
returns-in_err-written-clause-kept g c = λ clean up.
    let old = c.args.journal.now in
    let left = c.prepare.new.journal in
    kept_grown (g.R.RowStore.content c.args.rows.now) old.noted.items left.noted.items old.count left.count old.tops.entries left.tops.entries c.prepare.ensures.same.0 c.prepare.ensures.same.1 c.prepare.ensures.grows
    (c.requires.kept clean up)

pub returns-in_err-apply-clause-made : goal.returns-in_err-apply-clause-made
returns-in_err-apply-clause-made g c =
    let p = err_from_is_err_and c.from_residual-in_err-apply.result c.from_residual-in_err-apply.ensures.1 in
    let made = c.in_err-apply.ensures in
    let old = g.R.RowStore.content c.args.rows.now in
    let changes = c.args.changes.now in
    let w = c.in_ok-written.written in
    rw (p.1, p.2) (applied g.R.RowStore c.args.rows.now c.apply.new.self (Err c.in_err-apply.field-0.0) c.deref.result.now (after_all (shown old) changes)
    (λ clean up. (written old c.args.journal.now.noted.items c.deref.result.now w.copies.items changes w.made c.args.journal.now.count c.requires.room (c.requires.kept clean up).journal
    (turn_fits changes c.requires.few c.requires.fit) c.requires.plain (ap (map pair_of) c.deref.ensures.value ∙ c.in_ok-written.ensures.changes) c.in_ok-written.ensures.copies).1)
    made.ok made.err made.crash made.rows made.was_clean made.was_open)

pub returns-in_err-apply-clause-kept : goal.returns-in_err-apply-clause-kept
returns-in_err-apply-clause-kept g c = λ clean up.
    let made = c.in_err-apply.ensures in
    let old = c.args.journal.now in
    let left = c.prepare.new.journal in
    subst (λ d. IsKept d left.noted.items left.count left.tops.entries) (sym (made.err clean up))
    (kept_grown (g.R.RowStore.content c.args.rows.now) old.noted.items left.noted.items old.count left.count old.tops.entries left.tops.entries c.prepare.ensures.same.0 c.prepare.ensures.same.1 c.prepare.ensures.grows
    (c.requires.kept (made.was_clean clean) (made.was_open clean up)))

pub returns-clause-made : goal.returns-clause-made
returns-clause-made g c =
    let made = c.in_ok-apply.ensures in
    let old = g.R.RowStore.content c.args.rows.now in
    let changes = c.args.changes.now in
    let w = c.in_ok-written.written in
    applied g.R.RowStore c.args.rows.now c.apply.new.self (Ok tt) c.deref.result.now (after_all (shown old) changes)
    (λ clean up. (written old c.args.journal.now.noted.items c.deref.result.now w.copies.items changes w.made c.args.journal.now.count c.requires.room (c.requires.kept clean up).journal
    (turn_fits changes c.requires.few c.requires.fit) c.requires.plain (ap (map pair_of) c.deref.ensures.value ∙ c.in_ok-written.ensures.changes) c.in_ok-written.ensures.copies).1)
    made.ok made.err made.crash made.rows made.was_clean made.was_open

pub returns-clause-kept : goal.returns-clause-kept
returns-clause-kept g c = λ clean up.
    let made = c.in_ok-apply.ensures in
    let old = g.R.RowStore.content c.args.rows.now in
    let changes = c.args.changes.now in
    let w = c.in_ok-written.written in
    let was = made.was_open clean up in
    let left = c.take.new.self in
    let kept = c.requires.kept (made.was_clean clean) was in
    let these = c.deref.result.now in
    let noted = (written old c.args.journal.now.noted.items these w.copies.items changes w.made c.args.journal.now.count c.requires.room kept.journal
    (turn_fits changes c.requires.few c.requires.fit) c.requires.plain (ap (map pair_of) c.deref.ensures.value ∙ c.in_ok-written.ensures.changes) c.in_ok-written.ensures.copies).0 in
    let same = c.prepare.ensures.same in
    let items : left.noted.items ≡ drop w.made c.args.journal.now.noted.items ++ w.copies.items = c.take.ensures.noted ∙ ap (λ xs. drop w.made xs ++ w.copies.items) same.0 in
    let count : left.count ≡ c.args.journal.now.count + 1 = c.take.ensures.count ∙ ap (λ k. k + 1) same.1 in
    let tops = c.prepare.new.journal.tops.entries in
    let taken : AllByRecursion (Allows tops) these = subst (λ (xs : List Change). AllByRecursion (Allows tops) xs) (sym c.deref.ensures.value) c.in_ok-written.ensures.taken in
    let covers = covers_after tops old these (covers_more c.args.journal.now.tops.entries tops old c.prepare.ensures.grows kept.covers) taken in
    subst (λ d. IsKept d left.noted.items left.count left.tops.entries) (sym (made.ok clean was).1) (record {
      journal = subst (λ k. IsNoted (after_all old these) left.noted.items k) (sym count) (subst (λ xs. IsNoted (after_all old these) xs (c.args.journal.now.count + 1)) (sym items) noted);
      covers = subst (λ t. Covers t.entries (after_all old these)) (sym c.take.ensures.tops) covers;
    })
