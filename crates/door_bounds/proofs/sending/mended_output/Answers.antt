use Rattle.std.proofs.Common.{◌≡◌, arith, sym, subst}
use Rattle.broker_sockets.specs.declared.events.Output.{Output}
use Rattle.broker_sockets.specs.declared.events.Output.TheVariants.{Send}
use Rattle.door_bounds.specs.Mending.{IsMended}
use Rattle.door_bounds.proofs.Sent.{mended_send}
use Rattle.door_bounds.proofs.sending.mended_output.Goals as goal

pub returns-in_ok-mended_bytes-in-Send : goal.returns-in_ok-mended_bytes-in-Send
returns-in_ok-mended_bytes-in-Send c =
    let here : c.in-Send.to ≡ c.args.connection = omega (arith, c.if-to-connection.false) in
    subst (λ (o : Output). IsMended c.args.connection c.args.mend.now o (Send c.in-Send.to c.in_ok-mended_bytes-in-Send.field-0)) (sym c.in-Send.is)
    (mended_send c.args.connection c.args.mend.now c.in-Send.to c.in-Send.bytes c.in_ok-mended_bytes-in-Send.field-0 here c.in_ok-mended_bytes-in-Send.ensures)
