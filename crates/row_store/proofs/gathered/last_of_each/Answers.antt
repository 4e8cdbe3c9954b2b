use Rattle.std.proofs.Common.{rules}
use Rattle.std.proofs.lemmas.Result.{IfOk-weaker}
use Rattle.row_store.proofs.Noting.{last_left, same_content}
use Rattle.row_store.proofs.gathered.last_of_each.Goals as goal

pub returns-in_ok-lefts-clause-left : goal.returns-in_ok-lefts-clause-left
returns-in_ok-lefts-clause-left c =
    IfOk-weaker c.in_order.result _ _
    (λ out settled. last_left c.new.result.entries c.in_ok-lefts.lefts.entries c.args.changes.items out.items (search rules) c.in_ok-lefts.ensures settled)
    c.in_order.ensures.settled

pub returns-in_ok-lefts-clause-content : goal.returns-in_ok-lefts-clause-content
returns-in_ok-lefts-clause-content c =
    IfOk-weaker c.in_order.result _ _
    (λ out settled. same_content c.args.changes.items out.items (last_left c.new.result.entries c.in_ok-lefts.lefts.entries c.args.changes.items out.items (search rules) c.in_ok-lefts.ensures settled))
    c.in_order.ensures.settled
