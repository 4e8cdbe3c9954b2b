use Rattle.std.proofs.Common.{arith}
use Rattle.bridge_lanes.proofs.Readers.{is_number}
use Rattle.bridge_lanes.proofs.reading.is_place.Goals as goal

pub returns-in-Ok-default-empty : goal.returns-in-Ok-default-empty
returns-in-Ok-default-empty c =
    is_number c.args.bytes.now c.in-Ok-default-empty.m c.in-Ok-default-empty.field-0-1.now c.args.n (omega (arith, c.ranges.n.fits)) c.are_bytes.ensures c.in-Ok-default-empty.ensures.exact (let h = c.in-Ok-default-empty.len_below in omega (arith, h))
