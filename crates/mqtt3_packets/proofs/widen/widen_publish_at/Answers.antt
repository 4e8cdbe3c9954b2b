use Rattle.std.proofs.Common.{◌≡◌, ◌<◌, ◌≤◌, ◌+◌, ◌-◌, ◌^◌, ◌++◌, List, ℕ, length, refl, ap, ◌∙◌, arith}
use Rattle.mqtt3_packets.specs.declared.widen.FrontPublish.{FrontPublish}
use Rattle.mqtt3_packets.specs.Cut.{first_of}
use Rattle.mqtt3_packets.specs.Widen.{wide_body, wide_bytes}
use Rattle.mqtt3_packets.proofs.WidenLaws.{widened_is}
use Rattle.mqtt3_packets.proofs.widen.widen_publish_at.Goals as goal

pub returns-in_ok-put_wide-in-Ok : goal.returns-in_ok-put_wide-in-Ok
returns-in_ok-put_wide-in-Ok c =
    let x : FrontPublish = record { used = length c.args.bytes.now - length c.in-Some.rest.now; qos = c.in-Some.flags.qos; identifier = c.in-Ok.identifier } in
    let body : List ℕ = wide_body c.in-Ok.front.now c.in-Ok.payload.now in
    let new : c.put_wide.new.out.items ≡ c.args.out.now.items ++ wide_bytes (first_of c.in-Some.flags) body =
    c.in_ok-put_wide-in-Ok.ensures ∙ ap (λ (first : ℕ). c.args.out.now.items ++ wide_bytes first body) c.byte.ensures in
    let within : length c.args.bytes.now - length c.in-Some.rest.now ≤ c.args.limit = omega (arith, c.if-used-limit.false) in
    let short : length c.in-Ok.front.now + 1 + length c.in-Ok.payload.now < 2 ^ 28 = omega (arith, c.if-body-ge-LONGEST_BODY.false, c.in-Ok.ensures.whole) in
    widened_is c.args.limit c.in-Some.flags c.args.bytes.now c.in-Some.body.now c.in-Some.rest.now c.in-Ok.front.now c.in-Ok.identifier c.in-Ok.payload.now x c.args.out.now.items c.put_wide.new.out.items
    c.in-Some.ensures.earlier c.in-Ok.ensures.wide within short refl refl refl new
