use Rattle.std.proofs.Common.{List, ◌++◌, ap, refl, ◌∙◌}
use Rattle.std.proofs.lemmas.List.{append-nil}
use Rattle.node_keeper.proofs.Keeping.{idle_changes}
use Rattle.row_store.specs.declared.row.Change.{Change}
use Rattle.node_keeper.proofs.batch.take.Goals as goal

-- an idle event has no changes, so what waits is as it was
pub returns-in-Ok-add-clause-idle : goal.returns-in-Ok-add-clause-idle
returns-in-Ok-add-clause-idle c h up below idle =
    let none = idle_changes c.args.node.now h c.args.event.now c.in-Ok.outcome c.in-Ok.ensures.idle up below idle in
    let before = c.args.waiting.now.items in
    ((c.in-Ok.outcome.outputs, refl, none.0), c.in-Ok-add.ensures.ok ∙ ap (λ (changes : List Change). before ++ changes) none.1 ∙ append-nil before)
