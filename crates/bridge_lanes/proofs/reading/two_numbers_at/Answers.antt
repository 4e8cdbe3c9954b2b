use Rattle.std.proofs.Common.{arith}
use Rattle.bridge_lanes.proofs.Readers.{two_numbers}
use Rattle.bridge_lanes.proofs.reading.two_numbers_at.Goals as goal

pub returns-in-Ok-default-empty : goal.returns-in-Ok-default-empty
returns-in-Ok-default-empty c =
    two_numbers c.args.bytes.now c.in-Ok.last_put c.in-Ok.rest.now c.in-Ok-default-empty.took c.in-Ok-default-empty.field-0-1.now c.are_bytes.ensures c.in-Ok.ensures.exact c.in-Ok-default-empty.ensures.exact
    (let h = c.in-Ok-default-empty.len_below in omega (arith, h))
