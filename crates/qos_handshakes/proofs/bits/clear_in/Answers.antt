use Rattle.std.proofs.Common.{arith, refl}
use Rattle.qos_handshakes.proofs.Notes.{first-zero}
use Rattle.qos_handshakes.proofs.bits.clear_in.Goals as goal

pub returns : goal.returns
returns c =
    let z = first-zero c.args.words.now c.args.word _ c.trailing_ones.result refl (omega (arith, c.type_inv.words c.args.word)) c.requires.open c.trailing_ones.ensures in
    record { within = omega (arith, z.0); clear = z.1; least = z.2 }
