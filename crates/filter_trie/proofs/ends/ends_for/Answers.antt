use Rattle.std.proofs.Common.{ℕ, List, inl, inr, sym, subst}
use Rattle.std.specs.Prelude.{codes}
use Rattle.filter_trie.specs.Search.Branching.{Holds}
use Rattle.filter_trie.proofs.BranchLaws.{holds_insert}
use Rattle.filter_trie.proofs.ends.ends_for.Goals as goal

pub returns-clause-levels : goal.returns-clause-levels
returns-clause-levels c = λ f filed m.
    let H : List (List ℕ × Unit {0}) → Type 0 = λ es. Holds es f in
    subst H (sym c.in_ok-insert.ensures.entries) (holds_insert c.in_ok-ends.ends.entries c.in-Some.filter tt f (inl (c.in_ok-ends.ensures f filed m)))

pub returns-clause-share : goal.returns-clause-share
returns-clause-share c = λ f filed after.
    let H : List (List ℕ × Unit {0}) → Type 0 = λ es. Holds es (codes "$share") in
    subst H (sym c.in_ok-insert.ensures.entries) (holds_insert c.in_ok-ends.ends.entries c.in-Some.filter tt (codes "$share") (inr (sym c.in-Some.ensures)))
