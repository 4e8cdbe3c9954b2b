use Rattle.std.proofs.Common.{sym, subst}
use Rattle.node_work.specs.Working.{ComesTo}
use Rattle.node_clients.specs.Ending.{ClosesAfter}
use Rattle.node_clients.proofs.ending.close_after.Goals as goal

pub returns-in-Some-clause-comes : goal.returns-in-Some-clause-comes
returns-in-Some-clause-comes c =
    subst (λ o. ComesTo (λ x. x) c.close_for.result c.args.work.now c.close_for.new.work (ClosesAfter o c.args.connection c.args.client.now)) (sym c.in-Some.is) c.close_for.ensures
