use Rattle.std.proofs.Common.{refl, arith}
use Rattle.mqtt_sessions.proofs.ReactionLaws.{pubrec_answered}
use Rattle.mqtt_sessions.proofs.ReceivedLaws.{released, unknown, ignored, ends, released-fault, unknown-fault}
use Rattle.mqtt_sessions.proofs.running.Running.pubrec.Goals as goal

pub returns-in-Release-clause-step : goal.returns-in-Release-clause-step
returns-in-Release-clause-step c =
    rw (← c.self.view_is)
    (released c.args.id c.args.code c.args.now c.args.limit _ c.received.new.self.box c.answered.result c.answered.new.self.state c.in-Release.ensures.step (rw c.pubrel-answer.ensures.packet at c.answered.ensures.step))

pub returns-then-code-ge-UNSPECIFIED_ERROR-clause-step : goal.returns-then-code-ge-UNSPECIFIED_ERROR-clause-step
returns-then-code-ge-UNSPECIFIED_ERROR-clause-step c =
    rw (← c.self.view_is)
    (ignored c.args.id c.args.code c.args.now c.args.limit _ c.received.new.self.box c.nothing.result _ c.if-code-ge-UNSPECIFIED_ERROR.true c.in-Unknown.ensures.step c.nothing.ensures refl)

pub returns-in-Unknown-clause-step : goal.returns-in-Unknown-clause-step
returns-in-Unknown-clause-step c =
    rw (← c.self.view_is)
    (unknown c.args.id c.args.code c.args.now c.args.limit _ c.received.new.self.box c.answered-in-Unknown.result c.answered-in-Unknown.new.self.state c.if-code-ge-UNSPECIFIED_ERROR.false c.in-Unknown.ensures.step (rw c.pubrel-answer-in-Unknown.ensures.packet at c.answered-in-Unknown.ensures.step))

pub returns-in-Release-clause-spelled : goal.returns-in-Release-clause-spelled
returns-in-Release-clause-spelled c =
    pubrec_answered c.args.id 0 c.args.now c.args.limit _ _ c.answered.result c.requires.limit (c.requires.id, omega (arith, c.ranges.id.fits)) (omega arith) (rw c.pubrel-answer.ensures.packet at c.answered.ensures.step)

pub returns-in-Unknown-clause-spelled : goal.returns-in-Unknown-clause-spelled
returns-in-Unknown-clause-spelled c =
    pubrec_answered c.args.id 146 c.args.now c.args.limit _ _ c.answered-in-Unknown.result c.requires.limit (c.requires.id, omega (arith, c.ranges.id.fits)) (omega arith) (rw c.pubrel-answer-in-Unknown.ensures.packet at c.answered-in-Unknown.ensures.step)

pub returns-in-Release-clause-fault : goal.returns-in-Release-clause-fault
returns-in-Release-clause-fault c =
    rw (← c.self.view_is)
    (released-fault c.args.id c.args.code c.args.now c.args.limit _ c.received.new.self.box c.answered.result _ c.in-Release.ensures.step c.answered.ensures.fault (rw c.pubrel-answer.ensures.packet at c.answered.ensures.want))

pub returns-in-Unknown-clause-fault : goal.returns-in-Unknown-clause-fault
returns-in-Unknown-clause-fault c =
    rw (← c.self.view_is)
    (unknown-fault c.args.id c.args.code c.args.now c.args.limit _ c.received.new.self.box c.answered-in-Unknown.result _ c.if-code-ge-UNSPECIFIED_ERROR.false c.in-Unknown.ensures.step c.answered-in-Unknown.ensures.fault
    (rw c.pubrel-answer-in-Unknown.ensures.packet at c.answered-in-Unknown.ensures.want))

pub returns-clause-step : goal.returns-clause-step
returns-clause-step c =
    rw (← c.self.view_is)
    (ends c.args.id c.args.code c.args.now c.args.limit _ c.received.new.self.box c.says.result c.go_on.new.self.state c.new-packets.result.items c.go_on.new.packets.items c.in-Ended.ensures.step c.in_ok-go_on.ensures.step c.new-packets.ensures.items c.says.ensures)
