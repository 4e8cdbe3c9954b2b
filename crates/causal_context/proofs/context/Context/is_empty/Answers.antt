use Rattle.std.proofs.Common.{◌≡◌, length, vec_len, sym, ◌∙◌, arith}
use Rattle.std.proofs.lemmas.Bool.{eq-eqb, eqb-true}
use Rattle.causal_context.proofs.SameRanges.{empty_test}
use Rattle.causal_context.proofs.context.Context.is_empty.Goals as goal

pub returns : goal.returns
returns c =
    let test = empty_test c.self.inside.ranges.items c.args.self.now c.self.invariant.sound c.self.view_is in
    let count : vec_len c.self.inside.ranges ≡ length c.self.inside.ranges.items = omega arith in (
      λ t. test.0 (omega (arith, eqb-true (vec_len c.self.inside.ranges) 0 (sym c.is_empty.ensures ∙ t))),
      λ e. (let none = test.1 e in c.is_empty.ensures ∙ eq-eqb (vec_len c.self.inside.ranges) 0 (omega arith)),
    )
