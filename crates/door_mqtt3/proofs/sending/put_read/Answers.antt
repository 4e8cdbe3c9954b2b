use Rattle.std.proofs.Common.{◌≡◌, ◌≤◌, ℕ, Option, Some, None, drop, take, length, subst, true, false}
use Rattle.std.specs.Prelude.{IfSome}
use Rattle.mqtt_packets.specs.declared.packet.Packet.{Packet}
use Rattle.mqtt_packets.specs.Stream.{Spells}
use Rattle.mqtt3_packets.specs.Written.{ends}
use Rattle.door_mqtt3.proofs.SentLaws.{fails_is, found_at, next_ends, next_fault, next_none, next_put, none_found}
use Rattle.door_mqtt3.proofs.sending.put_read.Goals as goal

pub returns-then-ends : goal.returns-then-ends
returns-then-ends c =
    let is : ◌≡◌ {A = Option (Packet × ℕ)} c.in-Ok-Some.field-0 (Some (c.in-Ok-Some.packet, c.in-Ok-Some.used)) = cc (c.in-Ok-Some.is, c.in-Ok-Some.field-0-is) in
    let found = found_at c.args.bytes.now c.in-Ok-Some.field-0 c.in-Ok-Some.packet c.in-Ok-Some.used _ is c.in-Ok-Some.ensures.exact in
    let stops : ends c.args.level c.in-Ok-Some.packet ≡ true = cc (c.ends.ensures, c.if-ends.true) in
    next_ends c.args.level c.args.bytes.now c.args.exchanges.now c.in-Ok-Some.packet (drop c.in-Ok-Some.used c.args.bytes.now) c.args.sent.now.items found stops

pub returns-in-Ok-None : goal.returns-in-Ok-None
returns-in-Ok-None c =
    let is : ◌≡◌ {A = Option (Packet × ℕ)} c.in-Ok-None.field-0 None = cc (c.in-Ok-None.is, c.in-Ok-None.field-0-is) in
    next_none c.args.level c.args.bytes.now c.args.exchanges.now c.args.sent.now.items (none_found c.args.bytes.now c.in-Ok-None.field-0 _ is c.in-Ok-None.ensures.exact)

pub returns-in_default : goal.returns-in_default
returns-in_default c =
    next_fault c.args.level c.args.bytes.now c.args.exchanges.now c.args.sent.now.items c.in-Err.fault (fails_is c.in-Err.fault _ c.in_default.not-NoMemory c.in-Err.ensures.exact)

pub returns-in_ok-write_packet-in-Ok-Some : goal.returns-in_ok-write_packet-in-Ok-Some
returns-in_ok-write_packet-in-Ok-Some c =
    let is : ◌≡◌ {A = Option (Packet × ℕ)} c.in-Ok-Some.field-0 (Some (c.in-Ok-Some.packet, c.in-Ok-Some.used)) = cc (c.in-Ok-Some.is, c.in-Ok-Some.field-0-is) in
    let found = found_at c.args.bytes.now c.in-Ok-Some.field-0 c.in-Ok-Some.packet c.in-Ok-Some.used _ is c.in-Ok-Some.ensures.exact in
    let goes : ends c.args.level c.in-Ok-Some.packet ≡ false = cc (c.ends.ensures, c.if-ends.false) in
    let fits : c.in-Ok-Some.used ≤ length c.args.bytes.now = (subst (λ (o : Option (Packet × ℕ)). IfSome o (λ x. (x.1 ≤ length c.args.bytes.now) × Spells (take x.1 c.args.bytes.now) x.0)) is c.in-Ok-Some.ensures.found).0 in
    next_put c.args.level c.args.bytes.now c.args.exchanges.now c.in-Ok-Some.packet c.in-Ok-Some.used c.args.sent.now.items c.write_packet.new.out.items c.finish.new.exchanges
    fits found goes c.in_ok-write_packet-in-Ok-Some.ensures c.finish.ensures
