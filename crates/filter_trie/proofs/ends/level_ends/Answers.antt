use Rattle.std.proofs.Common.{List, inl, inr, subst}
use Rattle.filter_trie.specs.declared.ends.Branch.{Branch}
use Rattle.filter_trie.specs.Search.Branching.{Waits}
use Rattle.filter_trie.proofs.BranchLaws.{waits_pop}
use Rattle.filter_trie.proofs.ends.level_ends.Goals as goal

pub loop-preserved : goal.loop-preserved
loop-preserved c = λ f filed m.
    let W : List Branch → Type 0 = λ bs. Waits bs f in
    c.in_ok-visit.ensures f filed (elim (c.loop.invariant f filed m) [ inl a ↦ inl a | inr w ↦ inr (waits_pop c.pop.new.self.items c.in-Some.branch f (subst W c.in-Some.ensures.items w)) ])
