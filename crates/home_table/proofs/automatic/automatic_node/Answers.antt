use Rattle.std.proofs.Common.{arith}
use Rattle.home_table.proofs.AutomaticLaws.{automatic_alone}
use Rattle.home_table.proofs.automatic.automatic_node.Goals as goal

pub returns-in_err-n-clause-none : goal.returns-in_err-n-clause-none
returns-in_err-n-clause-none c = rw c.from_residual.ensures (λ n small own. c.in_err-n.ensures.none n (omega (arith, c.ranges.nodes.fits)) own)

pub returns-else-n-nodes-clause-none : goal.returns-else-n-nodes-clause-none
returns-else-n-nodes-clause-none c = λ n small own.
    let own_too = c.in_ok-n.ensures.some in
    let same = automatic_alone c.args.identifier.now n c.in_ok-n.n (omega arith) (omega (arith, own_too.0)) own own_too.1 in omega (arith, same)
