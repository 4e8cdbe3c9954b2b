use Rattle.std.proofs.Common.{Some, sym, subst}
use Rattle.node_work.specs.Acts.{MayMove, Moved}
use Rattle.node_work.specs.Working.{Acting, Did}
use Rattle.node_work.proofs.Working.{then_goes}
use Rattle.broker_node.specs.Moving.{SendsAway}
use Rattle.broker_node.proofs.Tables.{may_be_taken}
use Rattle.broker_node.proofs.moving.move_to.Goals as goal

pub move_to-requires : goal.move_to-requires
move_to-requires c =
    let w = c.args.work.now in
    subst (λ t. MayMove w.place w.held t) (sym c.in_ok-copy.ensures) (may_be_taken c.args.homes.now w.place w.held c.is_table.ensures c.requires)

pub returns : goal.returns
returns c =
    let w = c.args.work.now in
    let m = c.move_to.new.self in
    let done = subst (λ t. Did w m (Acting (λ p h. Moved t) (Some tt))) c.in_ok-copy.ensures c.in_ok-move_to.ensures.comes in
    then_goes (Acting (λ p h. Moved c.args.homes.now)) (λ _. SendsAway) (λ x. x) c.send_away.result w m c.send_away.new.work tt done c.send_away.ensures.comes
