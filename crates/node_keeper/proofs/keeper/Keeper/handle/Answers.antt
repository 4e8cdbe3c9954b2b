use Rattle.std.proofs.Common.{◌∙◌, ap, refl, inl, inr, List}
use Rattle.node_keeper.proofs.Keeping.{commits, idle_changes, refused, write_cause}
use Rattle.row_store.specs.declared.row.Change.{Change}
use Rattle.row_store.specs.Rows.{after_all}
use Rattle.node_keeper.proofs.keeper.Keeper.handle.Goals as goal

pub returns-in-Ok-apply-clause-ok : goal.returns-in-Ok-apply-clause-ok
returns-in-Ok-apply-clause-ok g c clean up =
    let ok = c.in-Ok-apply.ensures.ok clean up in (
      ok.0,
      commits c.args.self.now.node (g.R.RowStore.content c.args.self.now.rows) c.args.event.now c.in-Ok-step.outcome.outputs.items c.in-Ok-step.outcome.changes.items c.step.new.self (g.R.RowStore.content c.apply.new.self)
          c.in-Ok-step.ensures.ok c.step.ensures.place
          (ok.1 ∙ ap (λ (changes : List Change). after_all (g.R.RowStore.content c.args.self.now.rows) changes) c.deref.ensures.value),
    )

pub returns-in-Ok-apply-clause-idle : goal.returns-in-Ok-apply-clause-idle
returns-in-Ok-apply-clause-idle g c h up below idle =
    let none = idle_changes c.args.self.now.node h c.args.event.now c.in-Ok-step.outcome c.in-Ok-step.ensures.idle up below idle in
    ((c.in-Ok-step.outcome.outputs, refl, none.0), (c.in-Ok-apply.ensures.nothing (c.deref.ensures.value ∙ none.1)).1)

pub returns-in-Ok-apply-clause-crash : goal.returns-in-Ok-apply-clause-crash
returns-in-Ok-apply-clause-crash g c clean up left may =
    let ok = c.in-Ok-apply.ensures.ok clean up in
    inr (record {
      outputs = c.in-Ok-step.outcome.outputs.items;
      changes = c.in-Ok-step.outcome.changes.items;
      after = c.step.new.self;
      done = c.in-Ok-step.ensures.ok;
      written = g.met.R.RowStore.settled c.apply.new.self left ok.0 may ∙ ok.1 ∙ ap (λ (changes : List Change). after_all (g.R.RowStore.content c.args.self.now.rows) changes) c.deref.ensures.value;
    })

pub returns-in-Err-apply-clause-crash : goal.returns-in-Err-apply-clause-crash
returns-in-Err-apply-clause-crash g c clean up left may =
    elim (c.in-Err-apply.ensures.crash clean up left may) [
      | inl same ↦ inl same
      | inr made ↦ inr (record {
        outputs = c.in-Ok-step.outcome.outputs.items;
        changes = c.in-Ok-step.outcome.changes.items;
        after = c.step.new.self;
        done = c.in-Ok-step.ensures.ok;
        written = made ∙ ap (λ (changes : List Change). after_all (g.R.RowStore.content c.args.self.now.rows) changes) c.deref.ensures.value;
      })
    ]

pub returns-in-Err-apply-clause-cause : goal.returns-in-Err-apply-clause-cause
returns-in-Err-apply-clause-cause g c =
    write_cause c.args.self.now.node c.args.event.now c.in-Ok-step.outcome c.step.new.self c.in-Err-apply.fault c.in-Ok-step.ensures.idle c.in-Ok-step.ensures.ok
    (λ none. refused (c.in-Err-apply.ensures.nothing (c.deref.ensures.value ∙ none)).0)
