use Rattle.std.proofs.Common.{ℕ, ◌-◌, ◌<◌, ◌≤◌, Option, Some, None, arith}
use Rattle.std.specs.Prelude.{IfSome}
use Rattle.mqtt_packets.specs.declared.fault.PacketFault.{PacketFault}
use Rattle.mqtt_packets.proofs.CutLaws.{used}
use Rattle.mqtt_packets.proofs.framer.cut_used.Goals as goal

used_less : (fault : Option PacketFault) (a b : ℕ) → b ≤ a → IfSome fault (λ _. 0 < b) → IfSome fault (λ _. a - b < a)
used_less None a b le long = tt
used_less (Some f) a b le long = omega arith

pub returns-clause-at_fault : goal.returns-clause-at_fault
returns-clause-at_fault c =
    let e = rw c.new.ensures.items at c.in_ok-packets.ensures.cut in
    let le = (used c.args.limit c.args.bytes.now _ c.in_ok-packets.rest.now _ (λ i. omega (arith, c.type_inv.bytes i)) e).0 in
    used_less c.in_ok-packets.fault _ _ le c.in_ok-packets.ensures.at_fault

pub overflow_sub-result : goal.overflow_sub-result
overflow_sub-result c =
    let e = rw c.new.ensures.items at c.in_ok-packets.ensures.cut in
    (used c.args.limit c.args.bytes.now _ c.in_ok-packets.rest.now _ (λ i. omega (arith, c.type_inv.bytes i)) e).0

pub returns-clause-cut : goal.returns-clause-cut
returns-clause-cut c =
    let e = rw c.new.ensures.items at c.in_ok-packets.ensures.cut in
    rw (used c.args.limit c.args.bytes.now _ c.in_ok-packets.rest.now _ (λ i. omega (arith, c.type_inv.bytes i)) e).1 e
