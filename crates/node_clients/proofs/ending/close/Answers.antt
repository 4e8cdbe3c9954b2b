use Rattle.node_work.specs.Acts.{Connection, Out}
use Rattle.node_work.specs.Held.Connections.{Closed}
use Rattle.node_work.specs.Working.{Acting}
use Rattle.node_work.specs.declared.outcome.Output.TheVariants.{Close}
use Rattle.node_work.proofs.Working.{then_goes}
use Rattle.node_clients.proofs.ending.close.Goals as goal

pub returns : goal.returns
returns c =
    let at = c.args.connection in
    then_goes (Acting (λ p h. Connection (Closed at))) (λ _. Acting (λ p h. Out (Close at))) (λ x. x) c.tell_close.result c.args.work.now c.close.new.self c.tell_close.new.self tt c.in_ok-close.ensures.comes c.tell_close.ensures.comes
