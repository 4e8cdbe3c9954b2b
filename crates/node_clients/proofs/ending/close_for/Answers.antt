use Rattle.node_work.proofs.Working.{then_goes}
use Rattle.node_clients.specs.Ending.{ClosesConnection, Parts}
use Rattle.node_clients.proofs.ending.close_for.Goals as goal

pub returns : goal.returns
returns c =
    then_goes (ClosesConnection c.args.connection) (λ _. Parts c.args.client.now) (λ x. x) c.part.result c.args.work.now c.close.new.work c.part.new.work tt c.in_ok-close.ensures c.part.ensures
