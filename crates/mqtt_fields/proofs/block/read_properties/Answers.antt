use Rattle.std.proofs.Common.{arith}
use Rattle.mqtt_fields.specs.Block.{properties}
use Rattle.mqtt_fields.proofs.Laws.{used}
use Rattle.mqtt_fields.proofs.BlockLaws.{properties_is, read_spelled}
use Rattle.mqtt_fields.proofs.block.read_properties.Goals as goal

pub overflow_sub-result : goal.overflow_sub-result
overflow_sub-result c = (used (properties c.args.place) (properties_is c.args.place) c.args.bytes.now (c.in_ok-ps.ps, c.in_ok-ps.rest.now) (λ i. omega (arith, c.type_inv.bytes i)) c.in_ok-ps.ensures.exact).0

pub returns-clause-exact : goal.returns-clause-exact
returns-clause-exact c = rw ((used (properties c.args.place) (properties_is c.args.place) c.args.bytes.now (c.in_ok-ps.ps, c.in_ok-ps.rest.now) (λ i. omega (arith, c.type_inv.bytes i)) c.in_ok-ps.ensures.exact).1) c.in_ok-ps.ensures.exact

pub returns-clause-spelled : goal.returns-clause-spelled
returns-clause-spelled c = read_spelled c.args.place c.args.bytes.now (c.in_ok-ps.ps, c.in_ok-ps.rest.now) (λ i. omega (arith, c.type_inv.bytes i)) c.in_ok-ps.ensures.exact
