use Rattle.std.proofs.Common.{arith}
use Rattle.mqtt_fields.specs.Numbers.{vbi}
use Rattle.mqtt_fields.proofs.Laws.{used}
use Rattle.mqtt_fields.proofs.NumberLaws.{vbi_is}
use Rattle.mqtt_fields.proofs.vbi.Vbi.read.Goals as goal

pub overflow_sub-result : goal.overflow_sub-result
overflow_sub-result c = (used vbi vbi_is c.args.bytes.now (c.in_ok-n.n, c.in_ok-n.rest.now) (λ i. omega (arith, c.type_inv.bytes i)) c.in_ok-n.ensures.exact).0

pub returns-clause-exact : goal.returns-clause-exact
returns-clause-exact c = rw ((used vbi vbi_is c.args.bytes.now (c.in_ok-n.n, c.in_ok-n.rest.now) (λ i. omega (arith, c.type_inv.bytes i)) c.in_ok-n.ensures.exact).1) c.in_ok-n.ensures.exact
