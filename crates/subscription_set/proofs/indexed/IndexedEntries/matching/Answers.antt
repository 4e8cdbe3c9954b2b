use Rattle.std.proofs.Common.{◌≡◌, true, ◌↔◌, IfOk, IsOk, subst}
use Rattle.std.specs.FinMap as map
use Rattle.std.specs.FinSet as set
use Rattle.causal_context.specs.Dots.{Dot}
use Rattle.mqtt_topics.specs.Matching.{Matches}
use Rattle.subscription_set.specs.Indexing.{ByDot, MatchesName}
use Rattle.subscription_set.specs.Matching.{IsMatched, dots_of}
use Rattle.subscription_set.proofs.Filtered.{matched_dots, matched_nothing}
use Rattle.subscription_set.proofs.Picking.{if_ok}
use Rattle.subscription_set.proofs.indexed.IndexedEntries.matching.Goals as goal

pub returns-clause-dots : goal.returns-clause-dots
returns-clause-dots c =
    let m : ByDot = map.from_entries c.self.inside.entries.entries in
    let P : ByDot → Type 0 = λ n. IfOk c.matching.result (λ out. (d : Dot) → (set.contains (dots_of out) d ≡ true) ↔ MatchesName c.args.name.now (map.get n d)) in
    subst P c.self.view_is (if_ok (λ out. IsMatched c.self.inside.index.matches c.args.name.now (dots_of out)) (λ out. (d : Dot) → (set.contains (dots_of out) d ≡ true) ↔ MatchesName c.args.name.now (map.get m d)) c.matching.result
    (λ out. matched_dots (λ f. Matches f c.args.name.now) m c.self.inside.index.matches c.self.invariant.matched (dots_of out)) c.matching.ensures.dots)

pub returns-clause-none : goal.returns-clause-none
returns-clause-none c =
    let m : ByDot = map.from_entries c.self.inside.entries.entries in
    let P : ByDot → Type 0 = λ n. ((d : Dot) → MatchesName c.args.name.now (map.get n d) → ⊥) → IsOk c.matching.result in
    subst P c.self.view_is (λ none. c.matching.ensures.none (matched_nothing (λ f. Matches f c.args.name.now) m c.self.inside.index.matches c.self.invariant.matched none))
