use Rattle.std.proofs.Common.{sym, refl, ◌∙◌}
use Rattle.std.proofs.lemmas.Result.{IfErr-weaker, on_ok_weaker}
use Rattle.broker_turns.specs.declared.turn.Fate.TheVariants.{Stays, Done, Lost}
use Rattle.broker_turns.proofs.Turning.{wrote-at, at-value, Updates-over, lost-closing, lost-open, written-closing}
use Rattle.std.proofs.Common.{inl, inr}
use Rattle.broker_turns.specs.Broken.{IsUnwrote}
use Rattle.broker_turns.specs.Connections.{world}
use Rattle.broker_turns.proofs.Serving.{failed}
use Rattle.broker_turns.proofs.Turning.{let_go-over}
use Rattle.broker_turns.proofs.turn.write_one.Goals as goal

pub returns-in-Stays-clause-ok : goal.returns-in-Stays-clause-ok
returns-in-Stays-clause-ok g c =
    let found = sym c.in-Some.ensures.value in
    wrote-at _ _ _ c.args.at c.args.key c.in-Some.client.now _ _ found (record {
      fate = Stays;
      left = c.write_client.new.client;
      written = c.in-Stays.ensures;
      parted = (refl, at-value _ _ _ _ found);
    })

pub returns-in-Done-clause-ok : goal.returns-in-Done-clause-ok
returns-in-Done-clause-ok g c =
    let found = sym c.in-Some.ensures.value in
    wrote-at _ _ _ c.args.at c.args.key c.in-Some.client.now _ _ found (record {
      fate = Done;
      left = c.write_client.new.client;
      written = c.in-Done.ensures;
      parted = (refl, Updates-over _ _ _ _ _ _ (at-value _ _ _ _ found) c.remove.ensures);
    })

pub returns-then-closing-clause-ok : goal.returns-then-closing-clause-ok
returns-then-closing-clause-ok g c =
    let found = sym c.in-Some.ensures.value in
    wrote-at _ _ _ c.args.at c.args.key c.in-Some.client.now _ _ found (record {
      fate = Lost;
      left = c.write_client.new.client;
      written = c.in-Lost.ensures;
      parted = lost-closing _ _ _ _ _ _ _ _ _ _ (written-closing _ _ _ _ _ _ c.in-Lost.ensures ∙ c.if-closing.true) (at-value _ _ _ _ found) c.remove-then-closing.ensures;
    })

pub returns-in_ok-let_go-in-Lost-clause-ok : goal.returns-in_ok-let_go-in-Lost-clause-ok
returns-in_ok-let_go-in-Lost-clause-ok g c =
    let found = sym c.in-Some.ensures.value in
    on_ok_weaker c.settle.result
    (λ settled. wrote-at _ _ _ c.args.at c.args.key c.in-Some.client.now _ _ found (record {
      fate = Lost;
      left = c.write_client.new.client;
      written = c.in-Lost.ensures;
      parted = lost-open _ _ _ _ _ _ _ _ _ _ _ _ (written-closing _ _ _ _ _ _ c.in-Lost.ensures ∙ c.if-closing.false) (at-value _ _ _ _ found) c.in_ok-let_go-in-Lost.ensures.ok settled;
    }))
    c.settle.ensures.ok

pub returns-in_err-let_go-in-Lost-clause-fault : goal.returns-in_err-let_go-in-Lost-clause-fault
returns-in_err-let_go-in-Lost-clause-fault g c =
    failed c.from_residual.result c.in_err-let_go-in-Lost.field-0.0
    (λ fault. IsUnwrote g.S.Sockets.writes g.H.Handler.handles g.H.BridgeHandler.hears g.H.Handler.refuses g.H.BridgeHandler.declines g.H.Handler.stops c.args.at c.args.key (world c.args.sockets.now c.args.handler.now c.args.clients.now.slab) (world c.write_client.new.sockets c.let_go.new.handler c.let_go.new.clients.slab) fault)
    c.from_residual.ensures.1
    (record {
      client = c.in-Some.client.now;
      found = sym c.in-Some.ensures.value;
      left = c.write_client.new.client;
      written = c.in-Lost.ensures;
      unasked = written-closing _ _ _ _ _ _ c.in-Lost.ensures ∙ c.if-closing.false;
      breaks = inl c.in_err-let_go-in-Lost.ensures.fault;
    })

pub returns-in_ok-let_go-in-Lost-clause-fault : goal.returns-in_ok-let_go-in-Lost-clause-fault
returns-in_ok-let_go-in-Lost-clause-fault g c =
    let found = sym c.in-Some.ensures.value in
    IfErr-weaker c.settle.result _
    (λ fault. IsUnwrote g.S.Sockets.writes g.H.Handler.handles g.H.BridgeHandler.hears g.H.Handler.refuses g.H.BridgeHandler.declines g.H.Handler.stops c.args.at c.args.key (world c.args.sockets.now c.args.handler.now c.args.clients.now.slab) (world c.write_client.new.sockets c.settle.new.handler c.let_go.new.clients.slab) fault)
    (λ fault stopped. record {
      client = c.in-Some.client.now;
      found = found;
      left = c.write_client.new.client;
      written = c.in-Lost.ensures;
      unasked = written-closing _ _ _ _ _ _ c.in-Lost.ensures ∙ c.if-closing.false;
      breaks = inr (c.let_go.new.handler, let_go-over _ _ _ _ _ _ _ _ _ (at-value _ _ _ _ found) c.in_ok-let_go-in-Lost.ensures.ok, stopped);
    })
    c.settle.ensures.fault
