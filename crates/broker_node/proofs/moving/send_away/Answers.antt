use Rattle.std.proofs.Common.{sym, subst, ◌∙◌}
use Rattle.node_work.specs.Working.{Each}
use Rattle.node_work.proofs.Working.{comes_finds}
use Rattle.node_clients.specs.Moving.{MovesAway}
use Rattle.broker_node.specs.Moving.{AreAway}
use Rattle.broker_node.proofs.Tables.{looked, none_go}
use Rattle.broker_node.proofs.moving.send_away.Goals as goal

pub returns-clause-idle : goal.returns-clause-idle
returns-clause-idle c nobody =
    let w = c.args.work.now in
    let are = looked w c.held-held.result.now c.homes.result.now c.id.result c.sessions.result.now c.in_ok-away.away.items c.held-held.ensures c.homes.ensures c.id.ensures c.sessions.ensures c.in_ok-away.ensures.clients in
    c.send_each.ensures.idle (c.deref.ensures.value ∙ none_go w.place w.held c.in_ok-away.away.items are nobody)

pub returns-clause-comes : goal.returns-clause-comes
returns-clause-comes c =
    let w = c.args.work.now in
    let are = looked w c.held-held.result.now c.homes.result.now c.id.result c.sessions.result.now c.in_ok-away.away.items c.held-held.ensures c.homes.ensures c.id.ensures c.sessions.ensures c.in_ok-away.ensures.clients in
    comes_finds (λ x. x) c.send_each.result w c.send_each.new.work AreAway (Each MovesAway) c.deref.result.now (subst (λ xs. AreAway w.place w.held xs) (sym c.deref.ensures.value) are) c.send_each.ensures.comes
