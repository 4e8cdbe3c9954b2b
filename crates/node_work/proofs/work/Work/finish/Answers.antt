use Rattle.std.proofs.Common.{List, Vec, Global, ap, refl, subst, ◌∙◌}
use Rattle.row_store.proofs.Leaving.{settle_none}
use Rattle.row_store.specs.Gathered.{Settle}
use Rattle.row_store.specs.declared.row.Change.{Change}
use Rattle.session_table.specs.Rows.{own_kind}
use Rattle.node_work.specs.View.{WorkView}
use Rattle.node_work.proofs.work.Work.finish.Goals as goal

pub returns-clause-none : goal.returns-clause-none
returns-clause-none c = λ e.
    let told = ap (λ (v : Vec Change Global). v.items) c.replace-told.ensures.value ∙ ap (λ (w : WorkView). w.changes) c.self.view_is ∙ e in
    (settle_none own_kind c.in_ok-changes.changes.items (subst (λ (xs : List Change). Settle own_kind c.in_ok-changes.changes.items xs) told c.in_ok-changes.ensures.settled), refl)
