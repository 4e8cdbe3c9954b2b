-- What a step changes of its node's rows.
use Rattle.std.specs.Prelude.{◌≡◌, ◌≢◌, ◌⊎◌, List, IfSome}
use Rattle.node_work.specs.declared.outcome.Output.{Output}
use Rattle.node_work.specs.Lasting.{AlterTwice, held_row}
use Rattle.node_work.specs.View.{NodeView}
use Rattle.row_store.specs.Leading.{left_by}
use Rattle.row_store.specs.declared.row.Change.{Change}
use Rattle.row_store.specs.Rows.{Key}
use Rattle.session_table.specs.Rows.{own_kind}
use Rattle.broker_node.specs.declared.event.Event.{Event}
use Rattle.broker_node.specs.Step.{IsDone}

-- what the changes leave at a key isn't what was there before the step: what is put wasn't, and what is removed was; of a session's own
-- row, and of any other that two acts of the step don't alter
abbrev pub ChangesDiffer : Type 0
ChangesDiffer =
    (n : NodeView) (e : Event) (outputs : List Output) (changes : List Change) (n' : NodeView) (d : IsDone n e outputs changes n') (key : Key)
    → (key.0 ≡ own_kind) ⊎ (AlterTwice n.place.id d.before d.acts key → ⊥)
    → IfSome (left_by changes key) (λ left. left ≢ held_row n.place.id d.before key)
