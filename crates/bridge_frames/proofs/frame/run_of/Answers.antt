use Rattle.std.proofs.Common.{◌≡◌, length, arith}
use Rattle.std.proofs.lemmas.Grind.{common_steps}
use Rattle.mqtt_fields.specs.Field.{IsBytes}
use Rattle.mqtt_fields.specs.Numbers.{long}
use Rattle.mqtt_fields.proofs.NumberLaws.{long_is}
use Rattle.bridge_frames.proofs.FrameLaws.{none_after}
use Rattle.bridge_frames.proofs.frame.run_of.Goals as goal

pub returns-clause-some : goal.returns-clause-some
returns-clause-some c =
    let bytes : IsBytes c.args.bytes.now = λ i. omega (arith, c.type_inv.bytes i) in
    let none : length c.in-Ok.rest.now ≡ 0 = grind (arith, common_steps, c.is_empty.ensures, c.if-not-is_empty.false) in
    ((none_after long long_is c.args.bytes.now c.in-Ok.rest.now c.in-Ok.run'.now bytes c.in-Ok.ensures.exact none).0, grind (arith, common_steps, c.if-run-gt-LONGEST_FRAME.false))
