-- Many events whose changes are made at once are events that are handled one after another.
use Rattle.std.proofs.Common.{◌≡◌, List, [], ◌∷◌, ◌++◌, refl, sym, ap, subst, ◌∙◌, append_assoc}
use Rattle.std.proofs.lemmas.List.{append-nil}
use Rattle.broker_node.specs.declared.event.Event.{Event}
use Rattle.node_keeper.specs.Batches.{Answered, AreDecided, AreHandled, BatchGrows, BatchIsSteps, BatchKeeps, IsDecided}
use Rattle.node_keeper.specs.Keeping.{RowsAreKept}
use Rattle.node_keeper.proofs.Keeping.{commits}
use Rattle.node_work.specs.View.{NodeView}
use Rattle.node_work.specs.declared.outcome.Output.{Output}
use Rattle.row_store.specs.declared.row.Change.{Change}
use Rattle.row_store.specs.Rows.{Content, after, after_all}

after-append : (c : Content) (xs ys : List Change) → after_all c (xs ++ ys) ≡ after_all (after_all c xs) ys
after-append c [] ys = refl
after-append c (x ∷ xs) ys = after-append (after c x) xs ys

-- the changes that join those that wait are those of the steps
steps_from :
    (n n' : NodeView) (rows : Content) (answered : List Answered) (waiting waiting' : List Change) → AreDecided n waiting answered n' waiting'
    → (changes : List Change) × (waiting' ≡ waiting ++ changes) × AreHandled n rows answered n' (after_all rows changes)
steps_from n n' rows [] waiting waiting' same = ([], same.1 ∙ sym (append-nil waiting), (same.0, refl))
steps_from n n' rows (a ∷ more) waiting waiting' decided =
    let m = decided.0 in
    let first = decided.2 in
    let between = after_all rows first.changes in
    let rest = steps_from m n' between more decided.1 waiting' decided.3 in
    let Handled : Content → Type 0 = λ c. AreHandled m between more n' c in (
      first.changes ++ rest.0,
      rest.1 ∙ ap (λ w. w ++ rest.0) first.waits ∙ append_assoc waiting first.changes rest.0,
      (
        m,
        between,
        record { commits = commits n rows a.0 a.1 first.changes m between first.done first.place refl; place = first.place },
        subst Handled (sym (after-append rows first.changes rest.0)) rest.2,
      ),
    )

pub batch_is_steps : BatchIsSteps
batch_is_steps n n' rows answered changes decided =
    let steps = steps_from n n' rows answered [] changes decided in
    let Handled : List Change → Type 0 = λ xs. AreHandled n rows answered n' (after_all rows xs) in
    subst Handled (sym steps.1) steps.2

handled_keeps : (n n' : NodeView) (rows rows' : Content) (answered : List Answered) → AreHandled n rows answered n' rows' → RowsAreKept n rows → RowsAreKept n' rows'
handled_keeps n n' rows rows' [] same kept =
    let Node : NodeView → Type 0 = λ m. RowsAreKept m rows' in
    let Held : Content → Type 0 = λ c. RowsAreKept n c in
    subst Node (sym same.0) (subst Held (sym same.1) kept)
handled_keeps n n' rows rows' (a ∷ more) handled kept =
    handled_keeps handled.0 n' handled.1 rows' more handled.3 (handled.2.commits.kept kept)

pub batch_keeps : BatchKeeps
batch_keeps n n' rows answered changes decided kept =
    handled_keeps n n' rows (after_all rows changes) answered (batch_is_steps n n' rows answered changes decided) kept

pub batch_grows : BatchGrows
batch_grows n m n' [] waiting between waiting' e outputs same decided =
    let Node : NodeView → Type 0 = λ x. IsDecided x waiting e outputs n' waiting' in
    let Waiting : List Change → Type 0 = λ w. IsDecided m w e outputs n' waiting' in
    (n', waiting', subst Node same.0 (subst Waiting same.1 decided), (refl, refl))
batch_grows n m n' (a ∷ more) waiting between waiting' e outputs first decided =
    (first.0, first.1, first.2, batch_grows first.0 m n' more first.1 between waiting' e outputs first.3 decided)
