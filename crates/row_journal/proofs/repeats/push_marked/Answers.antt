use Rattle.std.proofs.Common.{List, set, subst, sym, ◌++◌, ◌∷◌}
use Rattle.row_store.specs.declared.row.Change.{Change}
use Rattle.row_journal.specs.Repeats.{AreMarked}
use Rattle.row_journal.specs.Tops.{Leaves}
use Rattle.row_journal.proofs.RepeatLaws.{marked_more, pushed}
use Rattle.row_journal.proofs.repeats.push_marked.Goals as goal

pub returns-clause-marked : goal.returns-clause-marked
returns-clause-marked c =
    let n = c.place_of-place.result in
    let marks = c.args.marks.now in
    subst (λ (xs : List Change). AreMarked (set marks n 1) xs) (sym c.in_ok-push.ensures.items)
    (marked_more marks c.args.out.now.items c.in_ok-copy.copy c.args.change.now n c.place_of-place.ensures.is c.place_of-place.ensures.within c.requires.marked c.in_ok-copy.ensures)

pub returns-clause-leaves : goal.returns-clause-leaves
returns-clause-leaves c = λ tops behind.
    subst (λ (xs : List Change). Leaves tops (xs ++ behind) (c.args.out.now.items ++ c.args.change.now ∷ behind)) (sym c.in_ok-push.ensures.items)
    (pushed tops c.args.out.now.items c.in_ok-copy.copy c.args.change.now behind c.in_ok-copy.ensures)
