use Rattle.std.proofs.Common.{sym, ◌∙◌, ap}
use Rattle.std.specs.Int.{w64}
use Rattle.std.proofs.lemmas.Nat.Bits.{bit_at_set_same, bit_at_set_other, bit_at_clear_same, bit_at_clear_other}
use Rattle.qos_handshakes.specs.Noted.{number}
use Rattle.qos_handshakes.proofs.bits.with_bit.Goals as goal

pub returns-then-on-clause-same : goal.returns-then-on-clause-same
returns-then-on-clause-same c = bit_at_set_same w64 c.args.word c.args.i c.requires ∙ ap number (sym c.if-on.true)

pub returns-then-on-clause-others : goal.returns-then-on-clause-others
returns-then-on-clause-others c = λ k low apart. bit_at_set_other w64 c.args.word c.args.i c.requires k apart

pub returns-else-on-clause-same : goal.returns-else-on-clause-same
returns-else-on-clause-same c = bit_at_clear_same w64 c.args.word c.args.i c.requires ∙ ap number (sym c.if-on.false)

pub returns-else-on-clause-others : goal.returns-else-on-clause-others
returns-else-on-clause-others c = λ k low apart. bit_at_clear_other w64 c.args.word c.args.i c.requires k low apart
