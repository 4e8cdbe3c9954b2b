use Rattle.std.proofs.Common.{◌≡◌, true, ◌↔◌, sym, subst}
use Rattle.std.specs.FinMap as map
use Rattle.std.specs.FinSet as set
use Rattle.causal_context.specs.Dots.{Dot}
use Rattle.mqtt_topics.specs.Matching.{Matches}
use Rattle.subscription_set.specs.Indexing.{MatchesName, alone}
use Rattle.subscription_set.proofs.Alone.{alone_matches, alone_unmatched, none_match}
use Rattle.subscription_set.proofs.lone_entry.LoneEntry.matching.Goals as goal

pub returns-then-not-matches : goal.returns-then-not-matches
returns-then-not-matches c =
    let no : Matches c.self.inside.entry.filter c.args.name.now → ⊥ = λ m. (let yes = c.matches.ensures.1 (subst (λ f. Matches f c.args.name.now) (sym c.filter.ensures) m) in let is = c.if-not-matches.true in cc) in
    subst (λ x. (d : Dot) → (set.contains c.new.result d ≡ true) ↔ MatchesName c.args.name.now (map.get (alone x) d)) c.self.view_is
    (none_match (λ f. Matches f c.args.name.now) c.new.result (λ d. map.get (alone (c.self.inside.dot, c.self.inside.entry)) d) c.new.ensures (alone_unmatched (c.self.inside.dot, c.self.inside.entry) (λ f. Matches f c.args.name.now) no))

pub returns : goal.returns
returns c =
    let yes : Matches c.self.inside.entry.filter c.args.name.now = subst (λ f. Matches f c.args.name.now) c.filter.ensures (c.matches.ensures.0 c.if-not-matches.false) in
    subst (λ x. (d : Dot) → (set.contains c.self.inside.dots d ≡ true) ↔ MatchesName c.args.name.now (map.get (alone x) d)) c.self.view_is
    (alone_matches (c.self.inside.dot, c.self.inside.entry) (λ f. Matches f c.args.name.now) c.self.inside.dots yes c.self.invariant)
