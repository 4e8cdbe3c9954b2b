use Rattle.std.proofs.Common.{◌≡◌, true, length, ap, subst}
use Rattle.std.specs.Prelude.{is_some}
use Rattle.qos_handshakes.specs.Incoming.{opened}
use Rattle.mqtt_sessions.specs.State.{Tracked}
use Rattle.mqtt_sessions.proofs.AskingLaws.{subscribe-in_use}
use Rattle.mqtt_sessions.proofs.running.Running.ask_to_subscribe.Goals as goal

pub returns-then-in_use-clause-step : goal.returns-then-in_use-clause-step
returns-then-in_use-clause-step c =
    (subscribe-in_use c.args.request.now c.args.limit _ c.suback.result.packet c.in_ok-codes.codes.items _ c.answered-then-in_use.result c.answered-then-in_use.new.self.state
    (subst (λ (t : Tracked). true ≡ is_some (opened c.args.request.now.identifier t.state.incoming)) c.self.view_is c.if-in_use.ensures) c.suback.ensures.packet c.in_ok-codes.ensures (ap (λ fs. length fs) c.as_slice-count.ensures) c.answered-then-in_use.ensures.step)
