use Rattle.std.proofs.Common.{arith}
use Rattle.mqtt_fields.specs.Numbers.{blob}
use Rattle.mqtt_fields.proofs.Laws.{used}
use Rattle.mqtt_fields.proofs.NumberLaws.{blob_is}
use Rattle.mqtt_fields.proofs.blob.Blob.read.Goals as goal

pub overflow_sub-result : goal.overflow_sub-result
overflow_sub-result c = (used blob blob_is c.args.bytes.now (c.in_ok-b.b, c.in_ok-b.rest.now) (λ i. omega (arith, c.type_inv.bytes i)) c.in_ok-b.ensures.exact).0

pub returns-clause-exact : goal.returns-clause-exact
returns-clause-exact c = rw ((used blob blob_is c.args.bytes.now (c.in_ok-b.b, c.in_ok-b.rest.now) (λ i. omega (arith, c.type_inv.bytes i)) c.in_ok-b.ensures.exact).1) c.in_ok-b.ensures.exact
