use Rattle.std.proofs.Common.{◌++◌, ◌∷◌, List, ℕ, Some, sym, subst}
use Rattle.std.specs.Prelude.{codes}
use Rattle.mqtt_topics.specs.Matching.{Matches}
use Rattle.filter_trie.specs.Search.Seeking.{IsNext}
use Rattle.filter_trie.specs.Search.Steps.{bound_text}
use Rattle.filter_trie.proofs.ShareLaws.{shared_next}
use Rattle.filter_trie.proofs.seeks.shared_onward.Goals as goal

pub returns-in-Some-with_share : goal.returns-in-Some-with_share
returns-in-Some-with_share c =
    let N : List ℕ → Type 0 = λ b. IsNext (λ f. Matches f c.args.name.now) (codes "$share/" ++ (c.args.group.now ++ 47 ∷ c.args.part.now)) (Some b) in
    subst N (sym c.in-Some-with_share.ensures)
    (shared_next c.args.group.now c.args.part.now c.args.name.now (bound_text c.args.part.now c.in-Some.bound) c.requires c.in-Some.ensures)
