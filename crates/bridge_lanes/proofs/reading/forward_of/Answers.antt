use Rattle.std.proofs.Common.{arith}
use Rattle.bridge_frames.specs.Forwards.{forward}
use Rattle.bridge_frames.proofs.ForwardLaws.{forward_is}
use Rattle.mqtt_fields.proofs.Whole.{whole_found, whole_more, whole_none}
use Rattle.bridge_lanes.proofs.reading.forward_of.Goals as goal

pub returns-in-Ok-default-empty-clause-finds : goal.returns-in-Ok-default-empty-clause-finds
returns-in-Ok-default-empty-clause-finds c = whole_found forward forward_is c.args.bytes.now (_, _) c.are_bytes.ensures c.in-Ok-default-empty.ensures.exact (let h = c.in-Ok-default-empty.len_below in omega (arith, h))

pub returns-in-Ok-clause-finds : goal.returns-in-Ok-clause-finds
returns-in-Ok-clause-finds c = whole_more forward forward_is c.args.bytes.now (_, _) c.in-Ok.ensures.exact (let h = c.in-Ok.len_at_least in omega (arith, h))

pub returns-in-Err-clause-finds : goal.returns-in-Err-clause-finds
returns-in-Err-clause-finds c = whole_none forward forward_is c.args.bytes.now (λ m. m) c.in-Err.fault c.in-Err.ensures.exact
