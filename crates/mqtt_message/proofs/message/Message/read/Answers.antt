use Rattle.std.proofs.Common.{arith}
use Rattle.mqtt_fields.specs.Field.{IsBytes}
use Rattle.mqtt_fields.proofs.Laws.{used}
use Rattle.mqtt_message.specs.Spellings.{message}
use Rattle.mqtt_message.proofs.WholeLaws.{message_is}
use Rattle.mqtt_message.proofs.message.Message.read.Goals as goal

pub overflow_sub-result : goal.overflow_sub-result
overflow_sub-result c =
    let bytes : IsBytes c.args.bytes.now = λ i. omega (arith, c.type_inv.bytes i) in
    (used message message_is c.args.bytes.now (c.in_ok-message.message, c.in_ok-message.rest.now) bytes c.in_ok-message.ensures.exact).0

pub returns-clause-exact : goal.returns-clause-exact
returns-clause-exact c =
    let bytes : IsBytes c.args.bytes.now = λ i. omega (arith, c.type_inv.bytes i) in
    rw (used message message_is c.args.bytes.now (c.in_ok-message.message, c.in_ok-message.rest.now) bytes c.in_ok-message.ensures.exact).1 c.in_ok-message.ensures.exact
