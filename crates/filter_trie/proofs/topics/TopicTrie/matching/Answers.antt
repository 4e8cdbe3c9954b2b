use Rattle.std.proofs.Common.{List, ℕ, [], map as map_list, IfOk, sym, ap, subst, ◌∙◌}
use Rattle.std.specs.FinMap as map
use Rattle.mqtt_topics.specs.Matching.{Matches}
use Rattle.filter_trie.specs.Selected.{IsSelected}
use Rattle.law_maps.proofs.Texts.{entries_sorted, rising}
use Rattle.filter_trie.proofs.topics.TopicTrie.matching.Goals as goal

pub returns-clause-pairs : goal.returns-clause-pairs
returns-clause-pairs g c =
    let es = c.self.inside.pairs.entries in
    let whole = ap map.entries (sym c.self.view_is) ∙ entries_sorted es (rising es c.names_matching.ensures.ordered) in
    let P = λ (l : List (List ℕ × g.row.V.Denot)). IfOk c.names_matching.result (λ out. IsSelected (λ e. Matches c.args.filter.now e.0) l (map_list (λ r. (r.0.now, r.1.now)) out.items)) in
    subst P (sym whole) c.names_matching.ensures.pairs

pub returns-clause-none : goal.returns-clause-none
returns-clause-none g c = λ none.
    let es = c.self.inside.pairs.entries in
    let whole = ap map.entries (sym c.self.view_is) ∙ entries_sorted es (rising es c.names_matching.ensures.ordered) in
    let P = λ (l : List (List ℕ × g.row.V.Denot)). IsSelected (λ e. Matches c.args.filter.now e.0) l [] in
    c.names_matching.ensures.none (subst P whole none)
