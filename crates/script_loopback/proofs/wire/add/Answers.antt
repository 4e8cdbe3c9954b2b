use Rattle.script_loopback.proofs.Joining.{adds-at}
use Rattle.script_loopback.proofs.wire.add.Goals as goal

pub returns : goal.returns
returns g c =
    let found = c.in-Some.ensures.lookup in
    adds-at g.S.Sockets.connects g.S.Sockets.accepts c.args.hosts.now c.in-Some.host.now c.from.result c.args.node c.args.number _ _ _ c.from.ensures found.3.0 found.1
    (c.in_ok-pair.pair, c.in_ok-pair.ensures, cc (c.in_ok-reserve.ensures.items, c.push_reserved.ensures.items))
