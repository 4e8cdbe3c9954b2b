use Rattle.std.proofs.Common.{◌≡◌, true, refl, sym, ap, ◌∙◌, arith}
use Rattle.std.proofs.lemmas.Grind.{common_steps}
use Rattle.causal_context.specs.Dots.{Dots}
use Rattle.causal_context.specs.Joining.{after}
use Rattle.causal_context.proofs.RangeSets.{set_of_union}
use Rattle.causal_context.proofs.joining.Joining.commit.Goals as goal

pub returns : goal.returns
returns c =
    let placed : c.self.inside.in_place ≡ true = grind (arith, common_steps) in
    set_of_union c.self.inside.ranges.items c.self.inside.more.items c.put_ranges.new.ranges.items _ _ (rw c.deref.ensures.value at c.put_ranges.ensures.union) refl refl
    ∙ ap (λ b. after b c.self.inside.ranges.items c.self.inside.more.items) (sym placed) ∙ ap (λ (p : Dots × Dots). p.1) c.self.view_is
