use Rattle.std.proofs.Common.{arith}
use Rattle.std.proofs.lemmas.Grind.{common_steps}
use Rattle.broker_sockets.specs.Steady.{counted}
use Rattle.broker_sockets.proofs.Steadying.{stepped}
use Rattle.broker_sockets.proofs.steady.Kept.after.Goals as goal

pub returns-then-self-end : goal.returns-then-self-end
returns-then-self-end c =
    let is = (stepped c.args.self.now.quarters c.args.times.system (counted c.args.self.now.monotonic c.args.times.monotonic)).ahead (omega (arith, c.if-self-end.true, c.end_of-end.ensures)) in
    grind (arith, common_steps, is)

pub returns-else-self-end : goal.returns-else-self-end
returns-else-self-end c =
    let is = (stepped c.args.self.now.quarters c.args.times.system (counted c.args.self.now.monotonic c.args.times.monotonic)).behind (omega (arith, c.if-self-end.false, c.end_of-end.ensures)) in
    grind (arith, common_steps, is)
