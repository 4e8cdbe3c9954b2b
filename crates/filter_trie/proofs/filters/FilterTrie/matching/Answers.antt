use Rattle.std.proofs.Common.{List, ℕ, [], map as map_list, IfOk, IfSome, refl, rules, sym, ap, subst, ◌∙◌}
use Rattle.std.specs.FinMap as map
use Rattle.mqtt_topics.specs.Levels.{levels}
use Rattle.mqtt_topics.specs.Matching.{LevelsMatch, Matches}
use Rattle.filter_trie.specs.Selected.{IsSelected}
use Rattle.filter_trie.specs.Search.Filing.{IsFiled}
use Rattle.filter_trie.specs.Search.Branching.{Holds}
use Rattle.law_maps.proofs.Texts.{entries_sorted, rising}
use Rattle.filter_trie.proofs.LookupLaws.{covered}
use Rattle.filter_trie.proofs.filters.FilterTrie.matching.Goals as goal

pub at_ends-requires : goal.at_ends-requires
at_ends-requires g c =
    let b = c.self.inside.beginnings in
    let found : IfSome c.ok-ends.result (λ ends. (f : List ℕ) → IsFiled b f → LevelsMatch (levels f) (levels c.args.name.now) → Holds ends.entries f) = search rules in
    covered b c.self.inside.pairs.entries c.in-Some.ends.entries c.args.name.now c.hashed.result c.hashed.ensures (c.if-not-has.ensures refl) c.self.invariant (rw c.in-Some.is at found)

pub returns-then-not-has-clause-pairs : goal.returns-then-not-has-clause-pairs
returns-then-not-has-clause-pairs g c =
    let es = c.self.inside.pairs.entries in
    let whole = ap map.entries (sym c.self.view_is) ∙ entries_sorted es (rising es c.at_ends.ensures.ordered) in
    let P = λ (l : List (List ℕ × g.row.V.Denot)). IfOk c.at_ends.result (λ out. IsSelected (λ e. Matches e.0 c.args.name.now) l (map_list (λ r. (r.0.now, r.1.now)) out.items)) in
    subst P (sym whole) c.at_ends.ensures.pairs

pub returns-then-not-has-clause-none : goal.returns-then-not-has-clause-none
returns-then-not-has-clause-none g c = λ none.
    let es = c.self.inside.pairs.entries in
    let whole = ap map.entries (sym c.self.view_is) ∙ entries_sorted es (rising es c.at_ends.ensures.ordered) in
    let P = λ (l : List (List ℕ × g.row.V.Denot)). IsSelected (λ e. Matches e.0 c.args.name.now) l [] in
    c.at_ends.ensures.none (subst P whole none)

pub returns-clause-pairs : goal.returns-clause-pairs
returns-clause-pairs g c =
    let es = c.self.inside.pairs.entries in
    let whole = ap map.entries (sym c.self.view_is) ∙ entries_sorted es (rising es c.filters_matching.ensures.ordered) in
    let P = λ (l : List (List ℕ × g.row.V.Denot)). IfOk c.filters_matching.result (λ out. IsSelected (λ e. Matches e.0 c.args.name.now) l (map_list (λ r. (r.0.now, r.1.now)) out.items)) in
    subst P (sym whole) c.filters_matching.ensures.pairs

pub returns-clause-none : goal.returns-clause-none
returns-clause-none g c = λ none.
    let es = c.self.inside.pairs.entries in
    let whole = ap map.entries (sym c.self.view_is) ∙ entries_sorted es (rising es c.filters_matching.ensures.ordered) in
    let P = λ (l : List (List ℕ × g.row.V.Denot)). IsSelected (λ e. Matches e.0 c.args.name.now) l [] in
    c.filters_matching.ensures.none (subst P whole none)
