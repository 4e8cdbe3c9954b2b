use Rattle.std.proofs.Common.{◌≡◌, ◌∙◌, sym, subst, None}
use Rattle.mqtt_sessions.specs.Arriving.{refusal}
use Rattle.mqtt_sessions.specs.State.{Tracked, aliases_of}
use Rattle.mqtt_sessions.proofs.ArrivingLaws.{alias-wants, is-fault, publishes}
use Rattle.mqtt_sessions.proofs.running.Running.publish.Goals as goal

pub returns-clause-step : goal.returns-clause-step
returns-clause-step c =
    publishes c.args.publish.now c.args.now c.args.room c.is_unwelcome-unwelcome.result c.args.limit c.args.self.now.state
    (subst (λ (t : Tracked). refusal (aliases_of t.state.link) c.args.publish.now ≡ None) c.self.view_is (sym c.refusal.ensures.code ∙ c.in_default.is)) c.is_unwelcome-unwelcome.ensures
    c.in_ok-reaction.reaction c.publish_by_level.new.self.state c.set.new.self.state c.in_ok-reaction.ensures.step c.in_ok-set.ensures.step

pub returns-in_err-set-clause-fault : goal.returns-in_err-set-clause-fault
returns-in_err-set-clause-fault c =
    is-fault _ _ c.from_residual-in_err-set.ensures.1
    (alias-wants c.args.publish.now c.args.now c.args.room c.is_unwelcome-unwelcome.result c.args.limit c.args.self.now.state
    (subst (λ (t : Tracked). refusal (aliases_of t.state.link) c.args.publish.now ≡ None) c.self.view_is (sym c.refusal.ensures.code ∙ c.in_default.is)) c.is_unwelcome-unwelcome.ensures
    c.in_ok-reaction.reaction c.publish_by_level.new.self.state c.in_ok-reaction.ensures.step c.in_err-set.ensures.want)
