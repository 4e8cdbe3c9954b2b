use Rattle.std.proofs.Common.{sym, ◌∙◌}
use Rattle.node_work.specs.Doings.{GivesBody}
use Rattle.node_work.specs.Frames.{is_other}
use Rattle.node_work.specs.Held.Bridge.{hello_to}
use Rattle.node_work.specs.Working.{Returns}
use Rattle.node_work.proofs.Working.{comes_when}
use Rattle.broker_node.proofs.bridge.greet.Goals as goal

pub returns-clause-comes : goal.returns-clause-comes
returns-clause-comes c =
    let peer = c.args.peer in
    comes_when (λ x. x) c.say_hello.result c.args.work.now c.say_hello.new.work (λ p h. is_other p peer) (GivesBody peer (hello_to peer)) (Returns tt) (sym c.is_other.ensures ∙ c.if-not-is_other.false)
    c.say_hello.ensures
