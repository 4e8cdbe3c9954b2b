use Rattle.std.proofs.Common.{◌≡◌, ◌<◌, ◌≤◌, length, arith}
use Rattle.mqtt3_packets.proofs.CutLaws.{body_in}
use Rattle.mqtt3_packets.proofs.WidenLaws.{publish_in}
use Rattle.mqtt3_packets.proofs.front.body_at.Goals as goal

pub returns-else-rest-len-clause-body : goal.returns-else-rest-len-clause-body
returns-else-rest-len-clause-body c =
    body_in c.args.bytes.now c.in_ok-flags-in-len1-up.flags c.in-Ok.len c.in-Ok.rest.now c.split_at.result.0.now c.split_at.result.1.now (omega (arith, c.in-len1-up.len_at_least)) c.in_ok-flags-in-len1-up.ensures.five c.in-Ok.ensures.exact
    (omega (arith, c.if-rest-len.false)) c.split_at.ensures.front c.split_at.ensures.back

pub returns-else-rest-len-clause-earlier : goal.returns-else-rest-len-clause-earlier
returns-else-rest-len-clause-earlier c =
    publish_in c.args.bytes.now c.in_ok-flags-in-len1-up.flags c.in-Ok.len c.in-Ok.rest.now c.split_at.result.0.now c.split_at.result.1.now (λ i. omega (arith, c.type_inv.bytes i)) (omega (arith, c.in-len1-up.len_at_least)) c.in_ok-flags-in-len1-up.ensures.earlier c.in-Ok.ensures.exact
    (omega (arith, c.if-rest-len.false)) c.split_at.ensures.front c.split_at.ensures.back
