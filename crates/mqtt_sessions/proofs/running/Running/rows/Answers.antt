use Rattle.std.proofs.Common.{ap, ◌∙◌}
use Rattle.mqtt_sessions.specs.State.{Tracked}
use Rattle.mqtt_sessions.proofs.SavedLaws.{rows-if}
use Rattle.mqtt_sessions.proofs.running.Running.rows.Goals as goal

pub returns : goal.returns
returns c =
    rows-if c.rows.result c.args.self.now.state c.client.result.now c.deref.result.now c.self.inside.outgoing.box.copies (c.deref.ensures.value ∙ c.in_ok-value.ensures)
    (c.client.ensures ∙ ap (λ (t : Tracked). t.state.kept.client) c.self.view_is) (ap (λ (t : Tracked). t.state.outbox.copies) c.self.view_is) c.rows.ensures
