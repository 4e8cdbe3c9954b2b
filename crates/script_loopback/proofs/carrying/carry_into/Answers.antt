use Rattle.std.proofs.Common.{◌≡◌, ◌≤◌, ◌<◌, length, take, inl, inr, refl, arith}
use Rattle.std.proofs.lemmas.List.{length-take-le}
use Rattle.script_loopback.specs.Carrying.{way}
use Rattle.script_loopback.proofs.Turning.{cut-of, turn-of, turns-more}
use Rattle.script_loopback.proofs.carrying.carry_into.Goals as goal

pub returns-in_err-left : goal.returns-in_err-left
returns-in_err-left g c =
    let taken : length (take c.loop.filled c.loop.came) ≡ c.loop.filled = length-take-le c.loop.filled c.loop.came (omega arith) in
    cut-of g.S.Sockets.reads g.S.Sockets.writes c.args.bytes.now c.loop.came _ _ c.from_residual.result _ c.from_residual.ensures.1 c.in_err-left.ensures.gone.0 (record {
      made = c.loop.counter;
      few = omega (arith, c.loop-test.true);
      reached = way (c.loop.sockets, c.loop.near, c.loop.far) c.loop.left.now (take c.loop.filled c.loop.came);
      turns = c.loop.invariant.turns;
      missing = omega arith;
      broken = inl (c.in_err-left.ensures.gone.1, refl);
    })

pub returns-in_err-filled : goal.returns-in_err-filled
returns-in_err-filled g c =
    let taken : length (take c.loop.filled c.loop.came) ≡ c.loop.filled = length-take-le c.loop.filled c.loop.came (omega arith) in
    cut-of g.S.Sockets.reads g.S.Sockets.writes c.args.bytes.now c.ask.new.came _ _ c.from_residual-in_err-filled.result _ c.from_residual-in_err-filled.ensures.1 c.in_err-filled.ensures.gone.0 (record {
      made = c.loop.counter;
      few = omega (arith, c.loop-test.true);
      reached = way (c.loop.sockets, c.loop.near, c.loop.far) c.loop.left.now (take c.loop.filled c.loop.came);
      turns = c.loop.invariant.turns;
      missing = omega arith;
      broken = inr (c.offer.new.sockets, c.in_ok-left.left.now, c.in_ok-left.ensures.ok, c.in_err-filled.ensures.gone.1);
    })

pub loop-preserved : goal.loop-preserved
loop-preserved g c = record {
  turns = turns-more g.S.Sockets.reads g.S.Sockets.writes _ _ _ _ _ c.loop.invariant.turns
      (turn-of g.S.Sockets.reads g.S.Sockets.writes _ c.loop.filled c.in_ok-filled.filled _ c.offer.new.sockets _ _ _ _ _ _ _ c.loop.came c.ask.new.came
      c.loop.invariant.whole c.loop.invariant.within c.if-filled-bytes.false c.in_ok-left.ensures.ok c.in_ok-filled.ensures.ok);
  whole = omega arith;
  within = omega (arith, c.in_ok-filled.ensures.within);
}

pub returns-else-filled-bytes-2 : goal.returns-else-filled-bytes-2
returns-else-filled-bytes-2 g c =
    let taken : length (take c.loop.filled c.loop.came) ≡ c.loop.filled = length-take-le c.loop.filled c.loop.came (omega arith) in
    record {
      made = c.loop.counter;
      all = omega (arith, c.loop-test.false);
      left = c.loop.left.now;
      came = take c.loop.filled c.loop.came;
      turns = c.loop.invariant.turns;
      short = omega arith;
    }
