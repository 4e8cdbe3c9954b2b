use Rattle.std.proofs.Common.{List, ℕ, Some, sym, subst, ◌∙◌}
use Rattle.filter_trie.specs.Search.Branching.{Holds}
use Rattle.filter_trie.specs.Search.Seeking.{IsNext}
use Rattle.filter_trie.proofs.Jumping.{rises}
use Rattle.filter_trie.proofs.BranchLaws.{none_past, first_past}
use Rattle.filter_trie.proofs.ends.next_end.Goals as goal

pub returns-in_default : goal.returns-in_default
returns-in_default c = (tt, none_past c.args.key.now c.args.ends.now.entries (sym (c.range.ensures.between tt) ∙ c.in_default.ensures.steps.0))

pub returns-in-Ok : goal.returns-in-Ok
returns-in-Ok c =
    let es = c.args.ends.now.entries in
    let N : List ℕ → Type 0 = λ e. IsNext (Holds es) c.args.key.now (Some e) in
    subst N (sym c.in-Ok.ensures) (first_past c.args.key.now es _ _ (rises es c.range.ensures.ordered) (sym (c.range.ensures.between tt) ∙ c.in-Some.ensures.steps))
