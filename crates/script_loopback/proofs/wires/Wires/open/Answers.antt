use Rattle.std.proofs.Common.{Ok, Err, refl}
use Rattle.script_loopback.proofs.Joining.{handed, opens-by}
use Rattle.script_loopback.proofs.wires.Wires.open.Goals as goal

pub returns : goal.returns
returns g c =
    opens-by g.S.Sockets.connects g.S.Sockets.accepts _ _ _ _ (Ok c.in_ok-reach.field-0) _ _
    c.deref.ensures.value c.in_ok-reach.ensures refl refl refl

pub returns-in_err-reach : goal.returns-in_err-reach
returns-in_err-reach g c =
    opens-by g.S.Sockets.connects g.S.Sockets.accepts _ _ _ _ (Err c.in_err-reach.field-0.0) _ _
    c.deref.ensures.value c.in_err-reach.ensures (handed c.from_residual.result _ c.from_residual.ensures.1) refl refl
