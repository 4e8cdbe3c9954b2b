use Rattle.std.proofs.Common.{rules, ◌≡◌, ◌∷◌, [], take, ◌++◌, ◌/◌, ◌%◌, get_or, sym, ap, ◌∙◌}
use Rattle.std.proofs.lemmas.Grind.{put_two}
use Rattle.std.specs.Prelude.{encode_utf8, slice_index}
use Rattle.hex.specs.Hex.{encode_lower, encode_with, lower_digits}
use Rattle.hex_text.proofs.HexLines.{encode_lower-take_more}
use Rattle.hex_text.proofs.HexTextDisplay.fmt.Goals as goal

pub loop-byte-init : goal.loop-byte-init
unfolding encode_with
loop-byte-init g c = search rules

pub loop-byte-preserved : goal.loop-byte-preserved
loop-byte-preserved g c = λ p.
    let byte = get_or c.args.self.now.0.now c.loop-byte.byte-index 0 in
    let digits : encode_utf8 c.digit-high.result ++ encode_utf8 c.digit-low.result ≡ slice_index lower_digits (byte / 16) ∷ slice_index lower_digits (byte % 16) ∷ [] = rw (c.digit-high.ensures, c.digit-low.ensures) in
    put_two _ _ _ _ _ (encode_utf8 c.digit-high.result ++ encode_utf8 c.digit-low.result) _ (c.loop-byte.invariant p) (search rules)
    (ap (λ w. encode_lower (take c.loop-byte.byte-index c.args.self.now.0.now) ++ w) digits ∙ sym (encode_lower-take_more c.args.self.now.0.now c.loop-byte.byte-index c.loop-byte-test.true))
