use Rattle.node_work.specs.Acts.{Store, Merged}
use Rattle.node_work.specs.Working.{Acting}
use Rattle.node_work.proofs.Working.{then_goes}
use Rattle.broker_node.specs.Bridge.{TellsTaken}
use Rattle.broker_node.proofs.bridge.merge.Goals as goal

pub returns : goal.returns
returns c =
    then_goes (Acting (λ p h. Store (Merged c.args.state))) (λ _. TellsTaken c.args.from) (λ x. x) c.tell_taken.result c.args.work.now c.merge.new.self c.tell_taken.new.work tt c.in_ok-merge.ensures c.tell_taken.ensures
