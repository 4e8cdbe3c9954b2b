-- A node that stops because there is no memory for what it gave out.
use Rattle.std.proofs.Common.{◌≡◌, ◌<◌, ◌^◌, [], List, Option, Some, Ok, Vec, sym, ap, subst, ◌∙◌}
use Rattle.std.specs.declared.alloc.Global.{Global}
use Rattle.broker_node.specs.declared.event.Event.{Event}
use Rattle.broker_node.specs.Idle.{IsIdle}
use Rattle.node_keeper.specs.declared.batch.BatchKeeper.{BatchKeeper}
use Rattle.node_keeper.specs.Batches.{IsDecided}
use Rattle.node_keeper.specs.BatchViews.{node_in, rows_in}
use Rattle.node_keeper.specs.Keeping.{KeeperHasCauseAt, KeeperRests}
use Rattle.node_keeper.specs.declared.fault.KeeperFault.TheVariants.{NoMemory}
use Rattle.node_server.specs.Serving.{IsCrashed, IsHalted}
use Rattle.node_work.specs.View.{HeldView, NodeView}
use Rattle.node_work.specs.declared.outcome.Output.{Output}
use Rattle.row_store.specs.declared.row.Change.{Change}

-- an event with outputs isn't idle
pub made_cause :
    (n : NodeView) (waiting : List Change) (e : Event) (made : Vec Output Global) (n' : NodeView) (waiting' : List Change) → IsDecided n waiting e made.items n' waiting'
    → ((h : HeldView) → n.up ≡ Some h → e.at < 2 ^ 62 → IsIdle n.place h e → KeeperRests (Ok made)) → ¬ (made.items ≡ [])
    → KeeperHasCauseAt n.up n.place e NoMemory
made_cause n waiting e made n' waiting' decided idle some =
    let done = decided.done in
    subst (λ (up : Option HeldView). KeeperHasCauseAt up n.place e NoMemory) (sym done.was) (
      done.steps.moment,
      λ is.
          let r = idle done.before done.was done.steps.moment is in
          let same : made ≡ r.0 = cc r.1 in
          some (ap (λ (v : Vec Output Global). v.items) same ∙ r.2),
    )

pub crashed : {R : Type 0} (k k' k'' : BatchKeeper R) (e : Event) → KeeperHasCauseAt (node_in k).up (node_in k).place e NoMemory → rows_in k' ≡ rows_in k → IsCrashed k' k'' → IsHalted k e NoMemory k''
crashed k k' k'' e cause rows crash = record {
  down = ap (λ (n : NodeView). n.up) crash.node;
  cause = cause;
  rows = crash.rows ∙ rows;
  nothing = crash.nothing;
}
