use Rattle.std.proofs.Common.{sym, subst, ◌∙◌}
use Rattle.std.proofs.lemmas.Bool.{false≢true, not-false}
use Rattle.mqtt_sessions.specs.Saved.{IsFresh}
use Rattle.mqtt_sessions.proofs.KeepingLaws.{packet_keeps, fresh_still}
use Rattle.mqtt_sessions.proofs.saved.Live.packet.Goals as goal
use Rattle.mqtt_sessions.proofs.saved.Live.packet.Goals.{then-self, else-self}

pub invariant_of-self-2 : goal.invariant_of-self-2
invariant_of-self-2 c = (
  fresh_still c.if-self.stale c.self.inside.running c.packet.new.self c.self.inside.told
      (λ is. elim c.if-self.branch [
        | then-self w ↦ absurd (false≢true (sym is ∙ w.stale-is ∙ w.if-self.true))
        | else-self w ↦ (
          subst (λ b. IsFresh b c.self.inside.running c.self.inside.told) w.if-self.false c.self.invariant.0,
          packet_keeps c.args.packet.now c.args.now c.args.room c.self.inside.running.state c.in_ok-reaction.reaction c.packet.new.self.state
              (sym w.keeps_own_row.ensures ∙ not-false w.keeps_own_row.result (sym w.stale-is ∙ is)) c.in_ok-reaction.ensures.step,
        )
      ]),
  c.self.invariant.1,
)
