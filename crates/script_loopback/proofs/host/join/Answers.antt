use Rattle.std.proofs.Common.{arith}
use Rattle.script_loopback.proofs.host.join.Goals as goal

pub returns : goal.returns
returns g c = record {
  stream = c.in-Ok.dialled;
  begun = c.connect.new.self;
  dialled = c.in-Ok.ensures;
  made = c.loop.counter;
  all = omega (arith, c.loop-test.false);
  waited = c.loop.invariant;
}
