use Rattle.std.proofs.Common.{sym, refl, arith}
use Rattle.std.proofs.lemmas.Grind.{common_steps}
use Rattle.broker_sockets.specs.Answers.{carried}
use Rattle.broker_sockets.specs.declared.network.Answer.TheVariants.{Bytes}
use Rattle.broker_turns.proofs.Turning.{read-at, at-value}
use Rattle.broker_turns.proofs.Breaking.{asked_one, off_memory_err, off_told_err, tells_none}
use Rattle.broker_turns.specs.Broken.{IsReadOnce}
use Rattle.broker_turns.proofs.turn.read_one.Goals as goal

pub returns-in_ok-handle_event-in-Bytes-clause-ok : goal.returns-in_ok-handle_event-in-Bytes-clause-ok
returns-in_ok-handle_event-in-Bytes-clause-ok g c =
    let found = sym c.in-Some.ensures.value in
    read-at _ _ c.args.at c.args.key c.in-Some.client.now _ _ _ found c.if-client.false (record {
      answer = Bytes c.in-Bytes.count;
      bytes = carried (Bytes c.in-Bytes.count) c.read.new.buffer;
      stream = c.read.new.stream;
      answered = c.in-Bytes.ensures.carried;
      heard = (
        record {
          piece = c.in_ok-bytes-in-Bytes.bytes;
          is = grind (arith, common_steps, c.in_ok-bytes-in-Bytes.ensures.items);
          some = grind (arith, common_steps, c.in-Bytes.ensures.some);
          most = grind (arith, common_steps);
          kept = _;
          keeps = at-value _ _ _ _ found;
          handled = c.in_ok-handle_event-in-Bytes.ensures.ok;
        },
        refl,
      );
    })

pub returns-in_err-bytes-in-Bytes-clause-fault : goal.returns-in_err-bytes-in-Bytes-clause-fault
returns-in_err-bytes-in-Bytes-clause-fault g c =
    let h = c.args.handler.now in
    off_memory_err g.H.Handler.handles g.H.BridgeHandler.hears g.H.Handler.refuses g.H.BridgeHandler.declines c.args.at (IsReadOnce g.S.Sockets.reads) c.from_residual.result (c.args.sockets.now, h) (c.read.new.self, h) c.from_residual.ensures.1
    (tells_none g.H.Handler.handles g.H.BridgeHandler.hears h h refl, asked_one (IsReadOnce g.S.Sockets.reads) c.args.sockets.now c.read.new.self (_, _, _, _, c.in-Bytes.ensures.carried))

pub returns-in_err-handle_event-in-Bytes-clause-fault : goal.returns-in_err-handle_event-in-Bytes-clause-fault
returns-in_err-handle_event-in-Bytes-clause-fault g c =
    let h = c.args.handler.now in
    off_told_err g.H.Handler.handles g.H.BridgeHandler.hears g.H.Handler.refuses g.H.BridgeHandler.declines c.args.at (IsReadOnce g.S.Sockets.reads) c.from_residual-in_err-handle_event-in-Bytes.result c.in_err-handle_event-in-Bytes.field-0.0 (c.args.sockets.now, h) c.read.new.self h c.handle_event.new.handler
    c.from_residual-in_err-handle_event-in-Bytes.ensures.1
    (tells_none g.H.Handler.handles g.H.BridgeHandler.hears h h refl, asked_one (IsReadOnce g.S.Sockets.reads) c.args.sockets.now c.read.new.self (_, _, _, _, c.in-Bytes.ensures.carried)) c.in_err-handle_event-in-Bytes.ensures.fault

pub returns-in_err-let_go-in-Gone-clause-fault : goal.returns-in_err-let_go-in-Gone-clause-fault
returns-in_err-let_go-in-Gone-clause-fault g c =
    let h = c.args.handler.now in
    off_told_err g.H.Handler.handles g.H.BridgeHandler.hears g.H.Handler.refuses g.H.BridgeHandler.declines c.args.at (IsReadOnce g.S.Sockets.reads) c.from_residual-in_err-let_go-in-Gone.result c.in_err-let_go-in-Gone.field-0.0 (c.args.sockets.now, h) c.read.new.self h c.let_go.new.handler
    c.from_residual-in_err-let_go-in-Gone.ensures.1
    (tells_none g.H.Handler.handles g.H.BridgeHandler.hears h h refl, asked_one (IsReadOnce g.S.Sockets.reads) c.args.sockets.now c.read.new.self (_, _, _, _, c.in-Gone.ensures.carried)) c.in_err-let_go-in-Gone.ensures.fault
