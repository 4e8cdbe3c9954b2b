use Rattle.std.proofs.Common.{◌≡◌, true, length, ap, subst}
use Rattle.std.specs.Prelude.{is_some}
use Rattle.qos_handshakes.specs.Incoming.{opened}
use Rattle.mqtt_sessions.specs.State.{Tracked}
use Rattle.mqtt_sessions.proofs.AskingLaws.{unsubscribe-in_use}
use Rattle.mqtt_sessions.proofs.running.Running.unsubscribe.Goals as goal

pub returns-then-in_use-clause-step : goal.returns-then-in_use-clause-step
returns-then-in_use-clause-step c =
    (unsubscribe-in_use c.args.request.now c.args.limit _ c.unsuback.result.packet c.in_ok-codes.codes.items _ c.answered-then-in_use.result c.answered-then-in_use.new.self.state
    (subst (λ (t : Tracked). true ≡ is_some (opened c.args.request.now.identifier t.state.incoming)) c.self.view_is c.if-in_use.ensures) c.unsuback.ensures.packet c.in_ok-codes.ensures (ap (λ fs. length fs) c.as_slice-count.ensures) c.answered-then-in_use.ensures.step)
