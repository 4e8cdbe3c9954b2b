use Rattle.std.proofs.Common.{◌++◌, List, ℕ, Option, Bor, sym, ap, subst, ◌∙◌}
use Rattle.std.specs.Prelude.{codes}
use Rattle.filter_trie.specs.Search.Seeking.{IsCut}
use Rattle.filter_trie.proofs.seeks.share_of.Goals as goal

pub returns : goal.returns
returns c =
    let C : Option (Bor (List ℕ)) → Type 0 = IsCut c.in_ok-rest.rest.now c.first_level.result.0.now in
    let cut = subst C c.in_ok-part.was c.first_level.ensures in
    let h = c.in_ok-rest.ensures.cases in
    (h.1.1 ∙ ap (λ x. codes "$share/" ++ x) (sym h.2 ∙ cut.0), cut.1)
