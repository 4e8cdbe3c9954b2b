use Rattle.std.proofs.Common.{◌≡◌, ◌++◌, ℕ, List, length, ap, ◌∙◌, arith}
use Rattle.std.proofs.lemmas.Result.{on_ok_weaker, on_err_weaker}
use Rattle.causal_context.specs.Spelling.{context, ranges_bytes}
use Rattle.causal_context.proofs.SpellingLaws.{bytes_same}
use Rattle.causal_context.proofs.context.Context.write.Goals as goal

pub returns-clause-ok : goal.returns-clause-ok
returns-clause-ok c =
    let same : ranges_bytes c.deref.result.now ≡ context.bytes c.args.self.now = ap ranges_bytes c.deref.ensures.value ∙ bytes_same c.self.inside.ranges.items c.args.self.now c.self.invariant c.self.view_is in
    on_ok_weaker c.write_ranges.result (λ e. e ∙ ap (λ (xs : List ℕ). c.args.out.now.items ++ xs) same) c.write_ranges.ensures.ok

pub returns-clause-full : goal.returns-clause-full
returns-clause-full c =
    let same : ranges_bytes c.deref.result.now ≡ context.bytes c.args.self.now = ap ranges_bytes c.deref.ensures.value ∙ bytes_same c.self.inside.ranges.items c.args.self.now c.self.invariant c.self.view_is in
    on_err_weaker c.write_ranges.result (λ h. omega (arith, ap length same)) c.write_ranges.ensures.full
