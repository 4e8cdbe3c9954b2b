use Rattle.std.proofs.Common.{arith}
use Rattle.std.proofs.lemmas.Grind.{common_steps}
use Rattle.script_loopback.proofs.Joining.{Listen-more}
use Rattle.script_loopback.proofs.host.listen_all.Goals as goal

pub loop-preserved : goal.loop-preserved
loop-preserved g c = (
  rw c.in_ok-push.ensures.items (Listen-more g.S.Sockets.listens c.loop.hosts.items c.in_ok-listen.field-0 _ _ _ c.loop.invariant.0 c.in_ok-listen.ensures.ok),
  grind (arith, common_steps),
)
