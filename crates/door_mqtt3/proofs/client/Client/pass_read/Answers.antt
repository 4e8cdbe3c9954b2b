use Rattle.std.proofs.Common.{◌≡◌, ◌≤◌, ℕ, Option, Some, None, length, refl, true, subst}
use Rattle.std.specs.Prelude.{IfSome}
use Rattle.mqtt_packets.specs.declared.packet.Packet.{Packet}
use Rattle.mqtt3_packets.specs.Stream.{packet_at}
use Rattle.door_mqtt3.specs.Client.{limit}
use Rattle.door_mqtt3.proofs.SentLaws.{fails_is, found_at, none_found}
use Rattle.door_mqtt3.proofs.Walking.{fault_told, read_done, undone_fault, undone_none}
use Rattle.door_mqtt3.proofs.client.Client.pass_read.Goals as goal

pub returns-in-Ok-None : goal.returns-in-Ok-None
returns-in-Ok-None c =
    let is : ◌≡◌ {A = Option (Packet × ℕ)} c.in-Ok-None.field-0 None = cc c.in-Ok-None.field-0-is in
    undone_none c.args.order c.args.self.now c.args.bytes.now c.args.taken.now (none_found c.args.bytes.now c.in-Ok-None.field-0 _ is c.in-Ok-None.ensures.exact)

pub returns-in_ok-put_fault-in_default : goal.returns-in_ok-put_fault-in_default
returns-in_ok-put_fault-in_default c =
    undone_fault c.args.order c.args.self.now (record c.args.self.now { ended = true }) c.args.bytes.now c.in-Err.fault c.args.taken.now (record c.args.taken.now { told = c.put_fault.new.told })
    (fails_is c.in-Err.fault (packet_at c.args.self.now.level limit c.args.bytes.now) c.in_default.not-NoMemory c.in-Err.ensures.exact) refl
    (fault_told c.in-Err.fault c.args.taken.now.told.items c.put_fault.new.told.items c.in_ok-put_fault-in_default.ensures) refl

pub returns-in_ok-pass-in-Ok-Some : goal.returns-in_ok-pass-in-Ok-Some
returns-in_ok-pass-in-Ok-Some c =
    let is : ◌≡◌ {A = Option (Packet × ℕ)} c.in-Ok-Some.field-0 (Some (c.in-Ok-Some.packet, c.in-Ok-Some.used)) = cc c.in-Ok-Some.field-0-is in
    let le : c.in-Ok-Some.used ≤ length c.args.bytes.now = subst (λ (o : Option (Packet × ℕ)). IfSome o (λ x. x.1 ≤ length c.args.bytes.now)) is c.in-Ok-Some.ensures.used in
    let found = found_at c.args.bytes.now c.in-Ok-Some.field-0 c.in-Ok-Some.packet c.in-Ok-Some.used (packet_at c.args.self.now.level limit c.args.bytes.now) is c.in-Ok-Some.ensures.exact in
    read_done c.args.order c.args.self.now c.pass.new.self c.in-Ok-Some.packet c.args.bytes.now c.in-Ok-Some.used c.args.taken.now c.pass.new.taken le found c.in_ok-pass-in-Ok-Some.ensures
