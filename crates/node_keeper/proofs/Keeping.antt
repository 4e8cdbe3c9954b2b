-- What an event makes of a node and its rows.
use Rattle.std.proofs.Common.{false, ◌≡◌, ◌<◌, ◌^◌, true, List, [], Option, Some, None, Ok, Err, inl, inr, sym, ap, subst, ◌∙◌, arith}
use Rattle.std.specs.Option.{unwrap_or}
use Rattle.std.specs.FinMap as map
use Rattle.broker_node.specs.declared.event.Event.{Event}
use Rattle.broker_node.specs.Idle.{IsIdle, RestsWhereIdle}
use Rattle.broker_node.specs.Step.{IsDone, may_move_in}
use Rattle.broker_node.proofs.Tables.{moves_not_idle}
use Rattle.home_table.specs.Table.{Table}
use Rattle.node_keeper.specs.Keeping.{Commits, KeeperHasCauseAt, KeepsTable}
use Rattle.node_keeper.specs.declared.fault.KeeperFault.TheVariants.{NoMemory, Rows}
use Rattle.node_work.specs.Lasting.{held_row}
use Rattle.node_work.specs.View.{HeldView, NodeView, Place}
use Rattle.node_work.specs.declared.outcome.Outcome.{Outcome}
use Rattle.node_work.specs.declared.outcome.Output.{Output}
use Rattle.row_store.proofs.Leaving.{content_follows}
use Rattle.row_store.specs.declared.row.Change.{Change}
use Rattle.row_store.specs.declared.store.RowFault.{RowFault}
use Rattle.row_store.specs.Rows.{Content, after_all}

pub commits : (n : NodeView) (rows : Content) (e : Event) (outputs : List Output) (changes : List Change) (n' : NodeView) (rows' : Content) → IsDone n e outputs changes n' → n'.place ≡ n.place → rows' ≡ after_all rows changes
    → Commits n rows e outputs n' rows'
commits n rows e outputs changes n' rows' done place written = record {
  changes = changes;
  done = done;
  written = written;
  kept = λ had h up key.
      let same : done.after ≡ h = cc (done.is, up) in
      ap (λ (c : Content). map.get c key) written
      ∙ content_follows rows (held_row n.place.id done.before) (held_row n.place.id done.after) changes (had done.before done.was) done.leads key
      ∙ ap (λ (x : HeldView). held_row n.place.id x key) same
      ∙ ap (λ (p : Place). held_row p.id h key) (sym place);
}

-- one answer isn't two
pub refused : {A E : Type 0} {x : A} {e : E} → Err e ≡ Ok x → ⊥
refused is = cc is

-- an idle step has no changes
pub idle_changes : (n : NodeView) (h : HeldView) (e : Event) (o : Outcome) → RestsWhereIdle n e (Ok o) → n.up ≡ Some h → e.at < 2 ^ 62 → IsIdle n.place h e → (o.outputs.items ≡ []) × (o.changes.items ≡ [])
idle_changes n h e o rests up below idle =
    let r = rests h up below idle in
    let same : o ≡ r.0 = cc r.1 in
    (ap (λ (x : Outcome). x.outputs.items) same ∙ r.2, ap (λ (x : Outcome). x.changes.items) same ∙ r.3)

-- so rows that can't be changed aren't met by an idle event
pub write_cause : (n : NodeView) (e : Event) (o : Outcome) (n' : NodeView) (fault : RowFault) → RestsWhereIdle n e (Ok o) → IsDone n e o.outputs.items o.changes.items n' → ¬ (o.changes.items ≡ []) → KeeperHasCauseAt n.up n.place e (Rows fault)
write_cause n e o n' fault rests done some =
    subst (λ (up : Option HeldView). KeeperHasCauseAt up n.place e (Rows fault)) (sym done.was) (done.steps.moment, λ idle. some (idle_changes n done.before e o rests done.was done.steps.moment idle).1)

-- a node whose step isn't written has the table that it had before it
pub kept_table : (n n' : NodeView) (e : Event) (before : Option Table) → KeepsTable n e before → n'.place ≡ n.place → (may_move_in n.up e.kind ≡ false → n'.homes ≡ n.homes) → e.at < 2 ^ 62
    → ◌≡◌ {A = NodeView} (record n' { homes = unwrap_or before n'.homes; up = None }) (record n { up = None })
kept_table n n' e (Some homes) kept place stays below = λ i. record { place = place i; homes = kept.0 i; up = None }
kept_table n n' e None (inl none) place stays below = λ i. record { place = place i; homes = stays none i; up = None }
kept_table n n' e None (inr end) place stays below = absurd (omega (arith, end, below))

-- where memory is wanting for it, the node has a cause to stop: the event isn't idle
pub table_cause : (up : Option HeldView) (p : Place) (e : Event) → may_move_in up e.kind ≡ true → e.at < 2 ^ 62 → KeeperHasCauseAt up p e NoMemory
table_cause None p e moves below = cc
table_cause (Some h) p e moves below = (below, λ idle. moves_not_idle p h e moves idle)
