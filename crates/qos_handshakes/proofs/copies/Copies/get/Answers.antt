use Rattle.std.proofs.Common.{ℕ, ap, ◌∙◌}
use Rattle.qos_handshakes.specs.Entries.{at_place, find_id, Held}
use Rattle.qos_handshakes.proofs.Indexed.{find-indexed}
use Rattle.qos_handshakes.proofs.copies.Copies.get.Goals as goal

pub returns : goal.returns
returns c =
    c.get.ensures.value ∙ ap (λ (p : ℕ). at_place p c.self.inside.entries.entries) c.place_of-place.ensures
    ∙ find-indexed c.self.inside.entries.entries c.self.inside.places c.args.id c.self.invariant
    ∙ ap (λ (h : Held). find_id c.args.id h.entries) c.self.view_is
