use Rattle.std.proofs.Common.{◌<◌, arith, rules}
use Rattle.std.specs.Int.{w16}
use Rattle.mqtt_fields.specs.Field.{IsBytes}
use Rattle.mqtt_fields.specs.Numbers.{number}
use Rattle.mqtt_fields.proofs.Laws.{IsBytes-after}
use Rattle.mqtt_fields.proofs.NumberLaws.{number_is, wide16}
use Rattle.mqtt_message.proofs.SpellingLaws.{values_takes}
use Rattle.replica_bytes.specs.Memory.{HasText, WantsSome}
use Rattle.bridge_frames.specs.Forwards.{pick}
use Rattle.bridge_frames.specs.Memory.{PicksWant}
use Rattle.bridge_frames.proofs.ForwardLaws.{pick_is}
use Rattle.bridge_frames.proofs.pick.Picks.at.Goals as goal

-- as many were read as two bytes said
pub invariant_of-result : goal.invariant_of-result
invariant_of-result c =
    let bytes : IsBytes c.args.bytes.now = λ i. omega (arith, c.type_inv.bytes i) in
    let s = (number_is w16 wide16).takes c.args.bytes.now (c.in_ok-count.count, c.in_ok-count.rest.now) bytes c.in_ok-count.ensures.exact in
    let few : c.in_ok-count.count < 65536 = s.1 in
    let later = IsBytes-after c.args.bytes.now ((number w16).bytes c.in_ok-count.count) c.in_ok-count.rest.now bytes s.0 in
    let t = values_takes pick pick_is c.in_ok-count.count c.in_ok-count.rest.now (c.in_ok-list.list.items, c.in_ok-list.rest.now) later c.in_ok-list.ensures.exact in
    omega (arith, t.count)

pub returns-in_err-list-clause-no_memory : goal.returns-in_err-list-clause-no_memory
returns-in_err-list-clause-no_memory c =
    let wants : WantsSome HasText c.in_ok-count.count c.in_ok-count.rest.now → PicksWant c.args.bytes.now = λ some. record { count = c.in_ok-count.count; rest = c.in_ok-count.rest.now; read = c.in_ok-count.ensures.exact; wants = some } in
    search (rules, wants)
