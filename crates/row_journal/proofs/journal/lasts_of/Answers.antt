use Rattle.std.proofs.Common.{inl, inr, [], append-nil, subst, sym, ◌∙◌}
use Rattle.std.proofs.lemmas.Result.{IfOk-weaker}
use Rattle.row_store.specs.Gathered.{AreOnce}
use Rattle.row_journal.proofs.JournalLaws.{after_all_is}
use Rattle.row_journal.proofs.NamedLaws.{left_named}
use Rattle.row_journal.proofs.RepeatLaws.{leaves_on, leaves_same_as}
use Rattle.row_journal.proofs.TopsLaws.{leaves_same}
use Rattle.row_journal.proofs.journal.lasts_of.Goals as goal

pub returns-clause-content : goal.returns-clause-content
returns-clause-content c =
    let all = c.in_ok-last_of_each.ensures in
    let lasts = c.in_ok-last_of_each.field-0.items in
    let left = c.in_ok-left.left.items in
    let noted = c.args.noted.now in
    let tops = c.args.tops.now.entries in
    IfOk-weaker c.needed.result _ _ (λ out needed d covers.
    leaves_same tops out.items lasts (needed [] (subst AreOnce (sym (append-nil lasts)) all.once)) d covers
    ∙ all.content d ∙ leaves_same tops left noted c.in_ok-left.ensures d covers ∙ after_all_is d noted) c.needed.ensures

pub returns-clause-named : goal.returns-clause-named
returns-clause-named c =
    let all = c.in_ok-last_of_each.ensures in
    let lasts = c.in_ok-last_of_each.field-0.items in
    let left = c.in_ok-left.left.items in
    let noted = c.args.noted.now in
    let tops = c.args.tops.now.entries in
    IfOk-weaker c.needed.result _ _ (λ out needed.
    left_named out.items noted (λ q. elim ((leaves_on tops out.items left noted (leaves_on tops out.items lasts left (needed [] (subst AreOnce (sym (append-nil lasts)) all.once)) (leaves_same_as tops lasts left all.left)) c.in_ok-left.ensures).each q) [
      | inl same ↦ inl same
      | inr idle ↦ inr idle.1
    ])) c.needed.ensures
