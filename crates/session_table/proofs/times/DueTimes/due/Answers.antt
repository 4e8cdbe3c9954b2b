use Rattle.std.proofs.Common.{[], ◌∷◌, ◌++◌, sym, ap, ◌∙◌}
use Rattle.std.specs.FinMap as map
use Rattle.session_table.proofs.Tables.{keys_of_set}
use Rattle.session_table.proofs.Taking.{begins, goes, stops, ends}
use Rattle.session_table.proofs.times.DueTimes.due.Goals.{in-None, in-Some+then-due-now}
use Rattle.session_table.proofs.times.DueTimes.due.Goals as goal

pub loop-due-init : goal.loop-due-init
loop-due-init c =
    begins c.args.now (map.keys c.args.self.now) c.self.inside.order.keys _ _
    (ap map.keys (sym c.self.view_is) ∙ keys_of_set c.self.inside.order.keys c.iter-due-items.ensures.ordered) c.iter-due-items.ensures.ordered
    c.new-out.ensures.items (c.into_iter-due-iterator.ensures.into_iter_gives ∙ c.iter-due-items.ensures.rest)

pub loop-due-preserved : goal.loop-due-preserved
loop-due-preserved c =
    goes c.args.now _ c.loop-due.out.items _ _ _ c.in-Some.due.now c.in-Some.ensures.steps c.if-due-now.false
    (c.in_ok-push.ensures.items ∙ ap (λ t. c.loop-due.out.items ++ (c.in-Some.due.now.0, t) ∷ []) c.in_ok-copy.ensures) c.loop-due.invariant

pub returns-clause-due : goal.returns-clause-due
returns-clause-due c = elim c.match-next.branch [
  | in-None w ↦ ends c.args.now _ c.loop-due.out.items _ w.in-None.ensures.steps.0 c.loop-due.invariant
  | in-Some+then-due-now w ↦ stops c.args.now _ c.loop-due.out.items _ _ w.in-Some.due.now w.in-Some.ensures.steps w.if-due-now.true c.loop-due.invariant
]
