use Rattle.std.proofs.Common.{rules, List, [], ◌∷◌, ◌++◌, append_assoc, subst, sym}
use Rattle.row_store.specs.declared.row.Change.{Change}
use Rattle.row_store.specs.Gathered.{AreOnce}
use Rattle.row_journal.specs.Tops.{Leaves}
use Rattle.row_journal.proofs.TopsLaws.{leaves_push, leaves_skip, once_before}
use Rattle.row_journal.proofs.tops.needed.Goals as goal

pub loop-change-preserved-in_ok-push : goal.loop-change-preserved-in_ok-push
loop-change-preserved-in_ok-push c = λ rest once.
    let tops = c.args.tops.now.entries in
    let before = c.loop-change.yielded in
    let change = c.in-Some.change in
    let sooner : AreOnce (before ++ change ∷ rest) = subst AreOnce (append_assoc before (change ∷ []) rest) once in
    subst (λ (xs : List Change). Leaves tops xs (before ++ change ∷ [])) (sym c.in_ok-push.ensures.items) (leaves_push tops c.loop-change.out.items before change (c.loop-change.invariant (change ∷ rest) sooner))

pub loop-change-preserved : goal.loop-change-preserved
loop-change-preserved c = λ rest once.
    let tops = c.args.tops.now.entries in
    let before = c.loop-change.yielded in
    let change = c.in-Some.change in
    let sooner : AreOnce (before ++ change ∷ rest) = subst AreOnce (append_assoc before (change ∷ []) rest) once in
    leaves_skip tops c.loop-change.out.items before change (c.in_ok-is_idle.ensures (search rules)) (once_before before rest change sooner) (c.loop-change.invariant (change ∷ rest) sooner)
