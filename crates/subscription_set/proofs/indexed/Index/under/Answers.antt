use Rattle.std.proofs.Common.{List, ℕ, ◌≡◌, false, MatchOption, subst}
use Rattle.std.specs.FinSet as set
use Rattle.causal_context.specs.Dots.{Dot, dot_cmp}
use Rattle.subscription_set.specs.Filing.{IsGroup, text_cmp}
use Rattle.subscription_set.proofs.Indexing.{under_filter}
use Rattle.subscription_set.proofs.indexed.Index.under.Goals as goal

pub returns-in-Some : goal.returns-in-Some
returns-in-Some c =
    let P : List ℕ → Type 0 = λ f. MatchOption c.under-in-Some.result ((q : Dot) → set.contains c.in-Some.filters.now (f, q) ≡ false) (λ d. IsGroup text_cmp dot_cmp c.in-Some.filters.now f d.now) in
    under_filter c.args.self.now.filters c.args.client.now c.args.filter.now c.in-Some.filters.now c.under-in-Some.result c.in-Some.ensures (subst P c.as_text.ensures.same c.under-in-Some.ensures)

pub returns-in-None : goal.returns-in-None
returns-in-None c = λ d. c.in-None.ensures (c.args.filter.now, d)
