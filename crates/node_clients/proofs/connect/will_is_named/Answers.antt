use Rattle.node_clients.proofs.Wills.{will_named, will_publishable}
use Rattle.node_clients.proofs.connect.will_is_named.Goals as goal

pub returns-clause-named : goal.returns-clause-named
returns-clause-named c =
    let p = c.args.packet.now in
    (λ t. will_named p (c.can_publish.ensures.0 t), λ named. c.can_publish.ensures.1 (will_publishable p c.requires named))
