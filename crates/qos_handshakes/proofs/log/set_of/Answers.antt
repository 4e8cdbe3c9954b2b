use Rattle.std.proofs.Common.{refl}
use Rattle.qos_handshakes.proofs.Marking.{rest-one, rest-made}
use Rattle.qos_handshakes.proofs.log.set_of.Goals as goal

pub loop-place-init : goal.loop-place-init
loop-place-init c = λ p. rw c.new-set.ensures.empty refl

pub loop-place-preserved : goal.loop-place-preserved
loop-place-preserved c = rest-one c.loop-place.set.keys c.insert.new.self.keys c.args.places.now c.loop-place.place-index c.loop-place-test.true c.loop-place.invariant c.in_ok-insert.ensures.keys

pub returns : goal.returns
returns c = rest-made c.loop-place.set.keys c.args.places.now c.loop-place.place-index c.loop-place-test.false c.loop-place.invariant
