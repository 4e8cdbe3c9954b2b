use Rattle.door_mqtt3.proofs.Paths.{asks_spelled, asks_unspelled}
use Rattle.door_mqtt3.proofs.client.put_packet.Goals as goal

pub returns : goal.returns
returns c = asks_unspelled c.args.packet.now c.is_sound.result c.args.told.now.items c.put_fault.new.told.items c.if-is_sound.false c.is_sound.ensures c.in_ok-put_fault.ensures

pub returns-then-is_sound : goal.returns-then-is_sound
returns-then-is_sound c = asks_spelled c.args.packet.now c.is_sound.result c.args.told.now.items c.write_packet.new.out.items c.if-is_sound.true c.is_sound.ensures c.in_ok-write_packet.ensures.ok
