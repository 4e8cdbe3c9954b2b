use Rattle.std.proofs.Common.{◌∙◌, ◌∷◌, ◌++◌, [], subst, sym}
use Rattle.node_rows.specs.Versions.{AreRaising}
use Rattle.row_store.specs.Rows.{entry_of}
use Rattle.node_rows.proofs.Raising.{pushes, skips}
use Rattle.node_rows.proofs.versions.raise_row.Goals as goal

pub returns-then-not-differs : goal.returns-then-not-differs
returns-then-not-differs c = λ rows are. skips c.args.first rows c.args.changes.now.items (entry_of c.args.row.now) (sym c.differs.ensures ∙ c.if-not-differs.true) are

pub returns : goal.returns
returns c = λ rows are.
    subst (AreRaising c.args.first (rows ++ entry_of c.args.row.now ∷ [])) (sym c.in_ok-push.ensures.items)
    (pushes c.args.first rows c.args.changes.now.items (entry_of c.args.row.now) c.in_ok-made.made (sym c.differs.ensures ∙ c.if-not-differs.false) c.in_ok-made.ensures are)
