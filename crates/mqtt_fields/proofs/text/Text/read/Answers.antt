use Rattle.std.proofs.Common.{arith}
use Rattle.mqtt_fields.specs.Numbers.{text}
use Rattle.mqtt_fields.proofs.Laws.{used}
use Rattle.mqtt_fields.proofs.NumberLaws.{text_is}
use Rattle.mqtt_fields.proofs.text.Text.read.Goals as goal

pub overflow_sub-result : goal.overflow_sub-result
overflow_sub-result c = (used text text_is c.args.bytes.now (c.in_ok-t.t, c.in_ok-t.rest.now) (λ i. omega (arith, c.type_inv.bytes i)) c.in_ok-t.ensures.exact).0

pub returns-clause-exact : goal.returns-clause-exact
returns-clause-exact c = rw ((used text text_is c.args.bytes.now (c.in_ok-t.t, c.in_ok-t.rest.now) (λ i. omega (arith, c.type_inv.bytes i)) c.in_ok-t.ensures.exact).1) c.in_ok-t.ensures.exact
