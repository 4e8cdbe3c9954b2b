use Rattle.std.proofs.Common.{sym, ap, subst, ◌∙◌}
use Rattle.std.specs.FinMap as map
use Rattle.mqtt_topics.specs.Matching.{Matches}
use Rattle.subscription_set.specs.Indexing.{ByDot, MatchesName}
use Rattle.subscription_set.specs.Holding.{held}
use Rattle.subscription_set.proofs.Alone.{none_match, unmatched}
use Rattle.subscription_set.proofs.entry_map.EntryMap.matching.Goals as goal

pub returns-in-Nothing-clause-dots : goal.returns-in-Nothing-clause-dots
returns-in-Nothing-clause-dots c = none_match (λ f. Matches f c.args.name.now) c.new.result (λ d. map.get c.args.self.now d) c.new.ensures
    (λ d m. unmatched (λ f. Matches f c.args.name.now) d (subst (λ (x : ByDot). MatchesName c.args.name.now (map.get x d)) (sym (sym (ap held c.in-Nothing.is) ∙ c.self.view_is)) m))
