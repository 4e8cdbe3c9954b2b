use Rattle.std.proofs.Common.{arith}
use Rattle.mqtt_sessions.proofs.ReactionLaws.{answered_spelled, codes_spelled}
use Rattle.mqtt_sessions.proofs.running.Running.answer.Goals as goal

pub returns-clause-spelled : goal.returns-clause-spelled
returns-clause-spelled c =
    answered_spelled c.in-Some.limit _ _ _ _ c.answered-2.result c.in-Some.ensures.most
    (rw (c.answer_of.ensures.packet, c.in_ok-codes.ensures.items) (codes_spelled c.in-Some-asked_of.asked c.args.id c.args.codes.now (c.requires.identifier, omega (arith, c.ranges.id.fits)) c.requires.codes)) c.answered-2.ensures.step
