-- What holds of all rules, filters and topics. A topic is here a text without wildcards: a topic name, or the empty text, which is none.
use Rattle.std.specs.Prelude.{◌≡◌, ◌≢◌, ◌↔◌, ℕ, List, [], true, false, Option}
use Rattle.std.specs.List.{AllByRecursion, list_any}
use Rattle.mqtt_topics.specs.Levels.{ArePlaced, HasWildcard, is_separator, levels}
use Rattle.mqtt_topics.specs.Matching.{BeginsWithDollar, LevelsMatch, Matches}
use Rattle.mqtt_topics.specs.Topics.{IsFilter, IsShared, filter_part}
use Rattle.mqtt_access.specs.declared.rule.TopicRule.{TopicRule}
use Rattle.mqtt_access.specs.Comparing.{covers, is_wild, matches_topic, meets}
use Rattle.mqtt_access.specs.Filled.{first_level}
use Rattle.mqtt_access.specs.Rules.{may}
use Rattle.mqtt_access.specs.Rules.Asked.{ToRead, ToSubscribe}

-- the topics that the levels of a rule match (MQTT 5.0, 4.7)
abbrev pub RuleMatches : List (List ℕ) → List ℕ → Type 0
RuleMatches rule topic = LevelsMatch rule (levels topic) × (is_wild (first_level rule) ≡ true → BeginsWithDollar topic → ⊥)

-- the test of a topic is that relation
abbrev pub TopicsAreMatched : Type 0
TopicsAreMatched = (rule : List (List ℕ)) (topic : List ℕ) → ArePlaced rule → (matches_topic rule topic ≡ true) ↔ RuleMatches rule topic

-- the levels of a filter that isn't shared match what the filter matches
abbrev pub FiltersMatchAlike : Type 0
FiltersMatchAlike = (filter topic : List ℕ) → IsFilter filter → (IsShared filter → ⊥) → RuleMatches (levels filter) topic ↔ Matches filter topic

-- a rule covers a filter exactly where it matches each topic that the filter matches
abbrev pub CoversAllMatched : Type 0
CoversAllMatched = (rule : List (List ℕ)) (filter : List ℕ) → ArePlaced rule → IsFilter filter
    → (covers rule (levels (filter_part filter)) ≡ true) ↔ ((topic : List ℕ) → (HasWildcard topic → ⊥) → Matches filter topic → RuleMatches rule topic)

-- levels that a text may have: each wildcard fills its level, `#` is the last one, no separator is in one
pub record AreLevels (rule : List (List ℕ)) : Type 0 where
  pub placed : ArePlaced rule
  pub apart : AllByRecursion (λ level. list_any is_separator level ≡ false) rule
  pub some : rule ≢ []

-- a rule meets a filter exactly where some topic is matched by both
abbrev pub MeetsSomeMatched : Type 0
MeetsSomeMatched = (rule : List (List ℕ)) (filter : List ℕ) → AreLevels rule → IsFilter filter
    → (meets rule (levels (filter_part filter)) ≡ true) ↔ ((topic : List ℕ) × (HasWildcard topic → ⊥) × Matches filter topic × RuleMatches rule topic)

-- who may subscribe to a filter may read each topic that it matches
abbrev pub SubscribersMayRead : Type 0
SubscribersMayRead = (rules : List TopicRule) (user : Option (List ℕ)) (client filter topic : List ℕ)
    → may rules user client (ToSubscribe filter) ≡ true → Matches filter topic → may rules user client (ToRead topic) ≡ true
