use Rattle.std.proofs.Common.{arith, length-append}
use Rattle.qos_handshakes.proofs.RestoringLaws.{padded-none, padded-one}
use Rattle.qos_handshakes.proofs.copies.grow.Goals as goal

pub loop-places-init : goal.loop-places-init
loop-places-init c = record { padded = padded-none _; small = c.requires.small }

pub loop-places-preserved : goal.loop-places-preserved
loop-places-preserved c = rw c.in_ok-add.ensures.ok (record { padded = padded-one _ _ c.loop-places.invariant.padded; small = rw length-append (omega arith) })
