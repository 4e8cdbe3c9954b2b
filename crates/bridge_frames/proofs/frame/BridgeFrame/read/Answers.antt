use Rattle.std.proofs.Common.{Result, Ok, Err, refl, arith}
use Rattle.std.specs.Prelude.{IfOk}
use Rattle.mqtt_fields.specs.Field.{IsBytes}
use Rattle.bridge_frames.specs.declared.fault.LinkFault.{LinkFault}
use Rattle.bridge_frames.specs.Frames.{Frame}
use Rattle.bridge_frames.proofs.FrameLaws.{frame_is, no_frame, no_run, not_content, spells, too_large}
use Rattle.bridge_frames.proofs.frame.BridgeFrame.read.Goals as goal

if_ok : {P Q : Frame → Type 0} (r : Result Frame LinkFault) → ((f : Frame) → P f → Q f) → IfOk r P → IfOk r Q
if_ok (Ok f) g p = g f p
if_ok (Err e) g p = p

pub returns-then-is_too_large-clause-no_frame : goal.returns-then-is_too_large-clause-no_frame
returns-then-is_too_large-clause-no_frame c = λ _.
    let bytes : IsBytes c.args.bytes.now = λ i. omega (arith, c.type_inv.bytes i) in
    too_large c.args.bytes.now bytes (c.is_too_large.ensures.0 c.if-is_too_large.true)

pub returns-in_default-clause-none : goal.returns-in_default-clause-none
returns-in_default-clause-none c = λ _.
    let bytes : IsBytes c.args.bytes.now = λ i. omega (arith, c.type_inv.bytes i) in
    no_run c.args.bytes.now bytes (c.in_default.ensures.none refl)

pub returns-clause-exact : goal.returns-clause-exact
returns-clause-exact c =
    let run = c.in-Some.ensures.some in
    if_ok c.content_of.result (λ f is. frame_is c.args.bytes.now f (spells c.args.bytes.now c.in-Some.run'.now f run.0 run.1 is.0 is.1)) c.content_of.ensures.ok

pub returns-clause-none : goal.returns-clause-none
returns-clause-none c = λ bad.
    let bytes : IsBytes c.args.bytes.now = λ i. omega (arith, c.type_inv.bytes i) in
    let run = c.in-Some.ensures.some in
    no_frame c.args.bytes.now bytes (λ f s. c.content_of.ensures.bad bad f s.has.fits (not_content c.args.bytes.now c.in-Some.run'.now f run.0 run.1 s))

pub returns-clause-no_memory : goal.returns-clause-no_memory
returns-clause-no_memory c = λ wanting.
    let run = c.in-Some.ensures.some in
    record { run = c.in-Some.run'.now; is = run.0; wants = c.content_of.ensures.no_memory wanting }
