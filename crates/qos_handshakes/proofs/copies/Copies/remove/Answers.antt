use Rattle.std.proofs.Common.{sym, ◌∙◌, refl, ◌-◌}
use Rattle.std.proofs.Math.ListN.{length-set}
use Rattle.qos_handshakes.proofs.Indexed.{drop-free, removed, held}
use Rattle.qos_handshakes.proofs.copies.Copies.remove.Goals as goal

pub returns-then-place-eq0 : goal.returns-then-place-eq0
returns-then-place-eq0 c =
    rw (← c.self.view_is) (held _ _ _ _ (sym (drop-free c.self.inside.entries.entries c.self.inside.places c.args.id c.self.invariant (sym c.place_of-place.ensures ∙ c.if-place-eq0.true))) refl)

pub invariant_of-self : goal.invariant_of-self
invariant_of-self c = rw c.set.ensures (removed _ _ _ _ c.args.id _ c.self.invariant refl c.place_of-place.ensures c.if-place-eq0.false c.remove.ensures.entries c.remove.ensures.ordered).0

pub returns : goal.returns
returns c = rw (← c.self.view_is, c.set.ensures) (held _ _ _ _ ((removed _ _ _ _ c.args.id _ c.self.invariant refl c.place_of-place.ensures c.if-place-eq0.false c.remove.ensures.entries c.remove.ensures.ordered).1) (length-set c.self.inside.places (c.args.id - 1) 0))
