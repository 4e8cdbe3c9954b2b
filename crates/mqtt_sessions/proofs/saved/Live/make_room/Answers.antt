use Rattle.std.proofs.Common.{subst}
use Rattle.mqtt_sessions.specs.Saved.{IsFresh}
use Rattle.mqtt_sessions.proofs.KeepingLaws.{room_keeps, fresh_still}
use Rattle.mqtt_sessions.proofs.saved.Live.make_room.Goals as goal

pub invariant_of-self-2 : goal.invariant_of-self-2
invariant_of-self-2 c = (
  fresh_still c.self.inside.stale c.self.inside.running c.make_room.new.self c.self.inside.told
      (λ is. (
        subst (λ b. IsFresh b c.self.inside.running c.self.inside.told) is c.self.invariant.0,
        room_keeps c.args.bytes c.args.now c.self.inside.running.state c.in_ok-reaction.reaction c.make_room.new.self.state c.in_ok-reaction.ensures.step,
      )),
  c.self.invariant.1,
)
