use Rattle.std.proofs.Common.{◌≡◌, true, []}
use Rattle.subscription_set.specs.Entries.{can_be_asked}
use Rattle.node_clients.specs.Subscribing.{Grants}
use Rattle.node_work.specs.Working.{InTurn}
use Rattle.node_work.proofs.Spelled.{item_of}
use Rattle.node_work.proofs.Working.{turn_next, turn_stops, turn_ends}
use Rattle.node_clients.proofs.subscribe.grant_each.Goals as goal

pub grant-requires : goal.grant-requires
grant-requires c =
    item_of (λ f. can_be_asked f.options c.args.identifier ≡ true) c.args.filters.now c.loop-each.each-index c.each-item.result c.loop-each-test.true c.each-item.is c.requires

pub returns-in_err-granted : goal.returns-in_err-granted
returns-in_err-granted c =
    let One = Grants c.args.client.now c.args.identifier in
    let x = c.each-item.result in
    turn_stops One (λ y. y) (λ v. v.items) c.args.work.now c.loop-each.work c.grant.new.work (InTurn One c.args.filters.now []) c.args.filters.now c.loop-each.each-index x x c.loop-each.grants.items
    c.loop-each-test.true c.each-item.is c.loop-each.invariant c.from_residual.result c.in_err-granted.field-0.0 c.from_residual.ensures.1 c.in_err-granted.ensures

pub loop-each-preserved : goal.loop-each-preserved
loop-each-preserved c =
    let One = Grants c.args.client.now c.args.identifier in
    let x = c.each-item.result in
    turn_next One c.args.work.now c.loop-each.work c.grant.new.work (InTurn One c.args.filters.now []) c.args.filters.now c.loop-each.each-index x x c.loop-each.grants.items c.push.new.self.items c.in_ok-granted.granted
    c.loop-each-test.true c.each-item.is c.loop-each.invariant c.in_ok-granted.ensures c.in_ok-push.ensures.items

pub returns : goal.returns
returns c =
    let One = Grants c.args.client.now c.args.identifier in
    turn_ends One c.args.work.now c.loop-each.work (InTurn One c.args.filters.now []) c.args.filters.now c.loop-each.each-index c.loop-each.grants.items c.loop-each-test.false c.loop-each.invariant
