use Rattle.std.proofs.Common.{arith}
use Rattle.qos_handshakes.proofs.Notes.{zeros-from, full-more}
use Rattle.qos_handshakes.proofs.bits.first_clear.Goals as goal

pub returns-then-words-i-clause-least : goal.returns-then-words-i-clause-least
returns-then-words-i-clause-least c = zeros-from c.args.words.now c.loop-i.i _ c.loop-i.invariant.set c.clear_in.ensures.least

pub loop-i-preserved : goal.loop-i-preserved
loop-i-preserved c = record { within = omega (arith, c.loop-i-test.true); set = full-more c.args.words.now c.loop-i.i c.loop-i.invariant.set c.if-words-i.false }
