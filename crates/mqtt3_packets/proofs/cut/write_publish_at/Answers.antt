use Rattle.std.proofs.Common.{◌≡◌, ◌++◌, List, ℕ, ap, ◌∙◌, arith}
use Rattle.mqtt3_packets.specs.Cut.{first_of}
use Rattle.mqtt3_packets.specs.Written.{framed}
use Rattle.mqtt3_packets.proofs.CutLaws.{cut_is}
use Rattle.mqtt3_packets.proofs.cut.write_publish_at.Goals as goal

pub returns-in_ok-put_parts-in-Ok : goal.returns-in_ok-put_parts-in-Ok
returns-in_ok-put_parts-in-Ok c =
    let new : c.put_parts.new.out.items ≡ c.args.out.now.items ++ framed (first_of c.in-Some.flags) (c.in-Ok.front.now ++ c.in-Ok.payload.now) =
    c.in_ok-put_parts-in-Ok.ensures ∙ ap (λ (first : ℕ). c.args.out.now.items ++ framed first (c.in-Ok.front.now ++ c.in-Ok.payload.now)) c.byte.ensures in
    cut_is c.in-Some.flags c.args.bytes.now c.in-Some.body.now c.in-Some.rest.now c.in-Ok.front.now c.in-Ok.payload.now c.args.out.now.items c.put_parts.new.out.items
    (λ i. omega (arith, c.type_inv.bytes i)) c.in-Some.ensures.body c.in-Ok.ensures new
