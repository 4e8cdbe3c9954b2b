use Rattle.std.proofs.lemmas.List.{take_more}
use Rattle.broker_turns.proofs.Stepping.{Each-more}
use Rattle.std.proofs.Common.{◌+◌, drop, slice_index_or, take}
use Rattle.broker_turns.specs.Broken.{AreUnwrote}
use Rattle.broker_turns.specs.Connections.{world}
use Rattle.broker_turns.proofs.Breaking.{parted_at}
use Rattle.broker_turns.proofs.Serving.{failed}
use Rattle.broker_turns.proofs.turn.write_all.Goals as goal

pub loop-key-preserved : goal.loop-key-preserved
loop-key-preserved g c =
    rw (take_more c.args.keys.now c.loop-key.key-index 0 c.loop-key-test.true)
    (Each-more _ _ _ _ _ _ c.loop-key.invariant c.in_ok-write_one.ensures.ok)

pub returns-in_err-write_one-clause-fault : goal.returns-in_err-write_one-clause-fault
returns-in_err-write_one-clause-fault g c =
    let keys = c.args.keys.now in
    let i = c.loop-key.key-index in
    failed c.from_residual.result c.in_err-write_one.field-0.0
    (λ fault. AreUnwrote g.S.Sockets.writes g.H.Handler.handles g.H.BridgeHandler.hears g.H.Handler.settles g.H.Handler.refuses g.H.BridgeHandler.declines g.H.Handler.stops c.args.at keys (world c.args.sockets.now c.args.handler.now c.args.clients.now.slab) (world c.write_one.new.sockets c.write_one.new.handler c.write_one.new.clients.slab) fault)
    c.from_residual.ensures.1
    (record {
      before = take i keys;
      key = slice_index_or keys i 0;
      after = drop (i + 1) keys;
      all = parted_at keys i c.loop-key-test.true;
      between = world c.loop-key.sockets c.loop-key.handler c.loop-key.clients.slab;
      each = c.loop-key.invariant;
      last = c.in_err-write_one.ensures.fault;
    })
