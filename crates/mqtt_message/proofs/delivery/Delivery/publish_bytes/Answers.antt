use Rattle.std.proofs.Common.{[], refl, arith}
use Rattle.mqtt_message.specs.Sent.{sent}
use Rattle.mqtt_message.proofs.WrittenLaws.{sent_short, sent_fits, joined}
use Rattle.mqtt_message.proofs.delivery.Delivery.publish_bytes.Goals as goal

pub write-requires : goal.write-requires
write-requires c =
    let p = sent c.args.self.now c.args.now c.args.dup c.args.identifier in
    omega (arith, c.body_len-body.ensures.exact c.args.dup c.args.identifier, sent_short p c.requires)

pub write_body-requires : goal.write_body-requires
write_body-requires c =
    let p = sent c.args.self.now c.args.now c.args.dup c.args.identifier in
    rw c.in_ok-properties.ensures (sent_fits p c.requires)

pub returns : goal.returns
returns c =
    let p = sent c.args.self.now c.args.now c.args.dup c.args.identifier in
    joined p c.body_len-body.result [] c.push_reserved.new.self.items c.write.new.out.items c.write_body.new.out.items
    (rw (c.push_reserved.ensures.items, c.in_ok-bytes.ensures.items, c.first_byte.ensures) refl) (c.body_len-body.ensures.exact c.args.dup c.args.identifier) c.in_ok-write.ensures.ok
    (rw c.in_ok-properties.ensures at (c.in_ok-write_body.ensures c.args.now c.args.dup))
