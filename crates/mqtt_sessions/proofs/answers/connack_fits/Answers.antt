use Rattle.std.proofs.Common.{refl}
use Rattle.mqtt_sessions.proofs.LengthLaws.{connack_fit}
use Rattle.mqtt_sessions.proofs.answers.connack_fits.Goals as goal

pub returns : goal.returns
returns c = λ present.
    rw (c.vbi_len-2.ensures.exact, c.vbi_len.ensures.exact, c.assigned_length-properties.ensures.exact)
    (connack_fit present c.args.given.now c.args.client.now c.args.limit _ _ refl refl)
