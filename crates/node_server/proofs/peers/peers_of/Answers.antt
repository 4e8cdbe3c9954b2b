use Rattle.std.proofs.Common.{length, length-append, arith, ap, ◌∙◌, ◌∷◌, []}
use Rattle.node_server.proofs.Finding.{all-found, one-more}
use Rattle.node_server.proofs.peers.peers_of.Goals as goal

pub loop-number-preserved : goal.loop-number-preserved
loop-number-preserved c =
    let is = c.in_ok-add.ensures in
    let counted = ap length is ∙ length-append c.loop-number.peers.items (c.in_ok-peer_of.field-0 ∷ []) in
    let before = c.loop-number.invariant.0 in (
      omega (arith, counted, before),
      one-more c.args.homes.now.nodes c.args.id c.loop-number.number c.loop-number.peers.items c.add.new.peers.items c.in_ok-peer_of.field-0 is before c.in_ok-peer_of.ensures c.loop-number.invariant.1,
    )

pub returns-clause-peers : goal.returns-clause-peers
returns-clause-peers c =
    let end = c.nodes-number-end.ensures.count in
    all-found c.args.homes.now.nodes c.args.id c.loop-number.number c.loop-number.peers.items
    (omega (arith, c.loop-number-test.false, c.loop-number.auto.number-end, end)) c.loop-number.invariant.0 c.loop-number.invariant.1
