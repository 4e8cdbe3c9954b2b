use Rattle.std.proofs.Common.{sym}
use Rattle.broker_turns.proofs.Linking.{kept-if, link-read-at}
use Rattle.std.proofs.Common.{refl}
use Rattle.broker_turns.proofs.Breaking.{asked_one, off_memory_err, off_told_err, tells_none}
use Rattle.broker_turns.specs.Broken.{IsReadOnce}
use Rattle.broker_turns.proofs.links.read_link.Goals as goal

pub returns-clause-ok : goal.returns-clause-ok
returns-clause-ok g c =
    let found = sym c.in-Some.ensures.value in
    link-read-at _ _ c.args.at c.args.key c.in-Some.line.now _ _ _ found (record {
      frames = c.in_ok-heard.heard.frames.items;
      goes_on = c.in_ok-heard.heard.goes_on;
      left = c.read_line.new.line;
      read = c.in_ok-heard.ensures.ok;
      kept = kept-if _ _ _ _ _ _ found c.keep.ensures;
      heard = c.in_ok-hear_all.ensures.ok;
    })

pub returns-in_err-heard-clause-fault : goal.returns-in_err-heard-clause-fault
returns-in_err-heard-clause-fault g c =
    let h = c.args.handler.now in
    off_memory_err g.H.Handler.handles g.H.BridgeHandler.hears g.H.Handler.refuses g.H.BridgeHandler.declines c.args.at (IsReadOnce g.S.Sockets.reads) c.from_residual.result (c.args.sockets.now, h) (c.read_line.new.sockets, h) c.from_residual.ensures.1
    (tells_none g.H.Handler.handles g.H.BridgeHandler.hears h h refl, asked_one (IsReadOnce g.S.Sockets.reads) c.args.sockets.now c.read_line.new.sockets c.in_err-heard.ensures.fault)

pub returns-in_err-hear_all-clause-fault : goal.returns-in_err-hear_all-clause-fault
returns-in_err-hear_all-clause-fault g c =
    let h = c.args.handler.now in
    let read = c.in_ok-heard.ensures.ok in
    off_told_err g.H.Handler.handles g.H.BridgeHandler.hears g.H.Handler.refuses g.H.BridgeHandler.declines c.args.at (IsReadOnce g.S.Sockets.reads) c.from_residual-in_err-hear_all.result c.in_err-hear_all.field-0.0 (c.args.sockets.now, h) c.read_line.new.sockets h c.hear_all.new.handler
    c.from_residual-in_err-hear_all.ensures.1
    (tells_none g.H.Handler.handles g.H.BridgeHandler.hears h h refl, asked_one (IsReadOnce g.S.Sockets.reads) c.args.sockets.now c.read_line.new.sockets (_, read.answer, read.bytes, _, read.asked)) c.in_err-hear_all.ensures.fault
