use Rattle.mqtt_message.proofs.BeginLaws.{message_begins}
use Rattle.bridge_frames.proofs.forward.message_at.Goals as goal

pub returns-in_err-message-2-clause-no_memory : goal.returns-in_err-message-2-clause-no_memory
returns-in_err-message-2-clause-no_memory c = λ _. message_begins c.args.bytes.now (_, _) c.in_ok-message.ensures.exact
