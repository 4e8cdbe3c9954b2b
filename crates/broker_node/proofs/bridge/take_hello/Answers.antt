use Rattle.node_work.specs.Acts.{Bridge}
use Rattle.node_work.specs.Held.Bridge.{Greeted}
use Rattle.node_work.specs.Working.{Acting}
use Rattle.node_work.proofs.Working.{then_goes}
use Rattle.broker_node.specs.Bridge.{TellsTaken}
use Rattle.broker_node.proofs.bridge.take_hello.Goals as goal

pub returns : goal.returns
returns c =
    then_goes (Acting (λ p h. Bridge (Greeted c.args.from c.args.greeting.now))) (λ _. TellsTaken c.args.from) (λ x. x) c.tell_taken.result c.args.work.now c.greet.new.self c.tell_taken.new.work tt c.in_ok-greet.ensures.comes c.tell_taken.ensures
