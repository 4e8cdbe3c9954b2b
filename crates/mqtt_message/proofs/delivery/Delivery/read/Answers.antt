use Rattle.std.proofs.Common.{arith}
use Rattle.mqtt_fields.specs.Field.{IsBytes}
use Rattle.mqtt_fields.proofs.Laws.{used}
use Rattle.mqtt_message.specs.Spellings.{delivery}
use Rattle.mqtt_message.proofs.WholeLaws.{delivery_is}
use Rattle.mqtt_message.proofs.delivery.Delivery.read.Goals as goal

pub overflow_sub-result : goal.overflow_sub-result
overflow_sub-result c =
    let bytes : IsBytes c.args.bytes.now = λ i. omega (arith, c.type_inv.bytes i) in
    (used delivery delivery_is c.args.bytes.now (c.in_ok-delivery.delivery, c.in_ok-delivery.rest.now) bytes c.in_ok-delivery.ensures.exact).0

pub returns-clause-exact : goal.returns-clause-exact
returns-clause-exact c =
    let bytes : IsBytes c.args.bytes.now = λ i. omega (arith, c.type_inv.bytes i) in
    rw (used delivery delivery_is c.args.bytes.now (c.in_ok-delivery.delivery, c.in_ok-delivery.rest.now) bytes c.in_ok-delivery.ensures.exact).1 c.in_ok-delivery.ensures.exact
