use Rattle.std.proofs.Common.{rules}
use Rattle.mqtt_message.proofs.BeginLaws.{message_begins}
use Rattle.mqtt_message.proofs.delivery.Delivery.at.Goals as goal

pub returns-in_err-qos-clause-no_memory : goal.returns-in_err-qos-clause-no_memory
returns-in_err-qos-clause-no_memory c e = message_begins c.args.bytes.now _ c.in_ok-message.ensures.exact

pub returns-in_err-new-clause-no_memory : goal.returns-in_err-new-clause-no_memory
returns-in_err-new-clause-no_memory c e = message_begins c.args.bytes.now _ c.in_ok-message.ensures.exact
