use Rattle.mqtt_sessions.proofs.SpelledLaws.{pubrec_identified}
use Rattle.mqtt_sessions.proofs.ReactionLaws.{publish_spelled, release_spelled, subscribe_spelled, unsubscribe_spelled, pingreq_spelled}
use Rattle.mqtt_sessions.proofs.running.Running.answer_packet.Goals as goal

pub pubrec-requires-clause-id : goal.pubrec-requires-clause-id
pubrec-requires-clause-id c = (pubrec_identified c.in-Pubrec.ack (rw c.in-Pubrec.is at c.requires.spelled)).0

pub returns-in-Publish-clause-spelled : goal.returns-in-Publish-clause-spelled
returns-in-Publish-clause-spelled c =
    publish_spelled c.in-Publish.publish c.args.now c.args.room c.args.limit c.args.self.now.state c.publish.new.self.state c.publish.result c.requires.limit (rw c.in-Publish.is at c.requires.spelled) c.publish.ensures.step

pub returns-in-Pubrel-clause-spelled : goal.returns-in-Pubrel-clause-spelled
returns-in-Pubrel-clause-spelled c = release_spelled c.in-Pubrel.ack c.args.now c.args.limit _ _ c.pubrel.result c.requires.limit (rw c.in-Pubrel.is at c.requires.spelled) c.pubrel.ensures.step

pub returns-in-Subscribe-clause-spelled : goal.returns-in-Subscribe-clause-spelled
returns-in-Subscribe-clause-spelled c =
    subscribe_spelled c.in-Subscribe.request c.args.now c.args.limit _ _ c.subscribe.result c.requires.limit (rw c.in-Subscribe.is at c.requires.spelled) c.subscribe.ensures.step

pub returns-in-Unsubscribe-clause-spelled : goal.returns-in-Unsubscribe-clause-spelled
returns-in-Unsubscribe-clause-spelled c =
    unsubscribe_spelled c.in-Unsubscribe.request c.args.now c.args.limit _ _ c.unsubscribe.result c.requires.limit (rw c.in-Unsubscribe.is at c.requires.spelled) c.unsubscribe.ensures.step

pub returns-in-Pingreq-clause-spelled : goal.returns-in-Pingreq-clause-spelled
returns-in-Pingreq-clause-spelled c = pingreq_spelled c.args.now c.args.limit _ _ c.answered.result c.requires.limit (rw c.pingresp.ensures.packet at c.answered.ensures.step)
