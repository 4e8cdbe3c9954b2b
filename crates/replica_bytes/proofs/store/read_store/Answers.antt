use Rattle.std.proofs.Common.{arith}
use Rattle.mqtt_fields.specs.Field.{IsBytes}
use Rattle.mqtt_fields.proofs.Laws.{used}
use Rattle.replica_bytes.specs.Stores.{state}
use Rattle.replica_bytes.proofs.Wholes.{state_is}
use Rattle.replica_bytes.proofs.store.read_store.Goals as goal

pub overflow_sub-result : goal.overflow_sub-result
overflow_sub-result c =
    let bytes : IsBytes c.args.bytes.now = λ i. omega (arith, c.type_inv.bytes i) in
    (used state state_is c.args.bytes.now (c.in_ok-store.store, c.in_ok-store.rest.now) bytes c.in_ok-store.ensures.exact).0

pub returns-clause-exact : goal.returns-clause-exact
returns-clause-exact c =
    let bytes : IsBytes c.args.bytes.now = λ i. omega (arith, c.type_inv.bytes i) in
    rw (used state state_is c.args.bytes.now (c.in_ok-store.store, c.in_ok-store.rest.now) bytes c.in_ok-store.ensures.exact).1 c.in_ok-store.ensures.exact
