use Rattle.std.proofs.Common.{List, ℕ, None, subst}
use Rattle.mqtt_topics.specs.Matching.{Matches}
use Rattle.filter_trie.specs.Search.Seeking.{IsNext}
use Rattle.filter_trie.proofs.seeks.past_filter.Goals as goal

pub returns-in-End : goal.returns-in-End
returns-in-End c =
    let K : List ℕ → Type 0 = λ k. IsNext (λ f. Matches f c.as_str-2.result.now) k None in
    let N : List ℕ → Type 0 = λ n. IsNext (λ f. Matches f n) c.args.key.now None in
    subst N c.as_str-2.ensures.same (subst K c.as_str.ensures.same c.in-End.ensures)
