use Rattle.std.proofs.Common.{◌≡◌, arith, length}
use Rattle.std.proofs.lemmas.Grind.{common_steps}
use Rattle.qos_handshakes.proofs.Marking.{none-listed_at}
use Rattle.qos_handshakes.proofs.log.Log.take.Goals as goal

pub returns-then-is_empty-clause-places : goal.returns-then-is_empty-clause-places
returns-then-is_empty-clause-places c =
    let none : length c.self.inside.places.items ≡ 0 = grind (arith, common_steps, c.is_empty.ensures, c.if-is_empty.true) in
    rw (← c.self.view_is, c.new.ensures.items) (none-listed_at c.self.inside.places.items none)
