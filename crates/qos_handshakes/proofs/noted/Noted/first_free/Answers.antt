use Rattle.std.proofs.Common.{◌≡◌, ℕ, get_or, arith, ap, sym, ◌∙◌}
use Rattle.qos_handshakes.proofs.Notes.{words-below, used-slot, free-slot, first-free}
use Rattle.qos_handshakes.proofs.noted.Noted.first_free.Goals as goal

pub returns-then-word-len-clause-least : goal.returns-then-word-len-clause-least
returns-then-word-len-clause-least c = rw (sym c.self.view_is) (λ k below. used-slot _ _ _ k c.self.invariant (words-below _ _ _ c.first_clear-word.result c.self.invariant (rw c.deref.ensures.value at c.first_clear-word.ensures.least) k (omega (arith, c.if-word-len.true, c.self.invariant.room, c.len.ensures, c.len-then-word-len.ensures, below))))

pub returns-clause-least : goal.returns-clause-least
returns-clause-least c = rw (sym c.self.view_is) (first-free _ _ _ c.first_clear-word.result _ _ c.self.invariant (rw c.deref.ensures.value at c.first_clear-word.ensures.least) (rw c.deref-2.ensures.value at c.clear_in.ensures.least) (omega (arith, c.min.ensures)))

pub returns-clause-free : goal.returns-clause-free
returns-clause-free c = rw (sym c.self.view_is) (λ below. let e : c.min.result ≡ c.clear_in.result = omega (arith, c.min.ensures, c.len-2.ensures, below) in ap (λ (k : ℕ). get_or c.self.inside.values.items k 0) e ∙ free-slot _ _ _ c.clear_in.result c.self.invariant (rw c.deref-2.ensures.value at c.clear_in.ensures.clear))
