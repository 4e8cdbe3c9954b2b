use Rattle.std.proofs.Common.{rules, arith, ◌≡◌, ◌∙◌}
use Rattle.mqtt_message.specs.Order.{message_cmp}
use Rattle.mqtt_message.proofs.EncodingLaws.{compared_bytes}
use Rattle.mqtt_message.proofs.message.Message.compare.Goals as goal

pub returns-clause-encodings : goal.returns-clause-encodings
returns-clause-encodings c =
    let fields : c.then-5.result ≡ message_cmp c.args.self.now c.args.other.now = search rules in
    let own = c.compare_blocks-properties.ensures.own in
    let moments = c.compare_deadlines-deadline.ensures.fits in
    fields ∙ compared_bytes c.args.self.now c.args.other.now
    (record { topic = c.as_str.ensures.name.fits.0; payload = omega (arith, c.as_slice.ensures.fits); properties = own.0; publisher = c.as_str-3.ensures.fits.0; deadline = moments.0 })
    (record { topic = c.as_str-2.ensures.name.fits.0; payload = omega (arith, c.as_slice-2.ensures.fits); properties = own.1; publisher = c.as_str-4.ensures.fits.0; deadline = moments.1 })
