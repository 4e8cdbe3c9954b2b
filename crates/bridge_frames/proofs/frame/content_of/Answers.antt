use Rattle.std.proofs.Common.{◌≡◌, length, Err, arith}
use Rattle.std.specs.Prelude.{IsErrOf}
use Rattle.std.proofs.lemmas.Grind.{common_steps}
use Rattle.mqtt_fields.specs.Field.{IsBytes}
use Rattle.bridge_frames.specs.declared.fault.LinkFault.{LinkFault}
use Rattle.bridge_frames.specs.declared.fault.LinkFault.TheVariants as faults
use Rattle.bridge_frames.specs.declared.frame.BridgeFrame.{BridgeFrame}
use Rattle.bridge_frames.specs.Frames.{content}
use Rattle.bridge_frames.proofs.FrameLaws.{content_is, none_after, not_read, rest_left}
use Rattle.bridge_frames.proofs.frame.content_of.Goals as goal

pub returns-then-is_empty-clause-ok : goal.returns-then-is_empty-clause-ok
returns-then-is_empty-clause-ok c =
    let bytes : IsBytes c.args.bytes.now = λ i. omega (arith, c.type_inv.bytes i) in
    let none : length c.in-Ok.rest.now ≡ 0 = grind (arith, common_steps, c.is_empty.ensures, c.if-is_empty.true) in
    none_after content content_is c.args.bytes.now c.in-Ok.rest.now c.in-Ok.frame bytes c.in-Ok.ensures.exact none

pub returns-else-is_empty-clause-bad : goal.returns-else-is_empty-clause-bad
returns-else-is_empty-clause-bad c = λ _.
    rest_left content content_is c.args.bytes.now c.in-Ok.rest.now c.in-Ok.frame c.in-Ok.ensures.exact (λ none. grind (arith, common_steps, none, c.is_empty.ensures, c.if-is_empty.false))

bad_is : (e : LinkFault) → IsErrOf {T = BridgeFrame} (Err e) faults.BadFrame → e ≡ faults.BadFrame
bad_is e is = cc

pub returns-in-Err-clause-bad : goal.returns-in-Err-clause-bad
returns-in-Err-clause-bad c = λ bad.
    let is : c.link_fault.result ≡ faults.BadFrame = bad_is c.link_fault.result bad in
    not_read content content_is c.args.bytes.now c.in-Err.fault (c.link_fault.ensures.bad is) c.in-Err.ensures.exact
