-- Laws of what is done for packets.
use Rattle.std.specs.Prelude.{◌≡◌, ◌==◌, ◌&&◌, ℕ, List, [], ◌∷◌, ◌++◌, length, map, filter, zip, Bool, true, false, Option, Some, None, Result, Ok, if◌then◌else◌}
use Rattle.std.specs.FinSet as set
use Rattle.std.specs.List.{AllByRecursion}
use Rattle.mqtt_packets.specs.declared.publish.Publish.{Publish}
use Rattle.mqtt_packets.specs.declared.subscribe.SubscribeFilter.{SubscribeFilter}
use Rattle.door_packets.specs.Packets.{Aliases, alias_of, aliases_after, codes_of, has_topic, is_allowed, is_asked}
use Rattle.door_packets.specs.Codes.{merged}
use Rattle.door_packets.specs.Rights.{Rights}
use Rattle.door_packets.specs.declared.access.Login.{Login}

-- ---- SUBACK

-- Of a SUBSCRIBE with these filters all codes go out, where these were granted to those that were asked for: one for each filter, 0x87 for each that may not be
-- subscribed to, and the granted ones, in their order, for the others
pub record AreInOrder (r : Rights) (l : Login) (fs : List SubscribeFilter) (granted all : List ℕ) : Type 0 where
  pub long : length all ≡ length fs
  pub refused : AllByRecursion (λ x. is_asked r l x.0 ≡ false → x.1 ≡ 135) (zip fs all)
  pub others : map (λ x. x.1) (filter (λ x. is_asked r l x.0) (zip fs all)) ≡ granted

abbrev pub CodesInOrder : Type 0
CodesInOrder =
    (r : Rights) (l : Login) (fs : List SubscribeFilter) (granted : List ℕ) → length granted ≡ length (filter (is_asked r l) fs) → AreInOrder r l fs granted (merged (codes_of r l fs) granted)

-- ---- topic aliases

abbrev pub is_alias : ℕ → Option ℕ → Bool
is_alias a None = false
is_alias a (Some b) = a == b

-- the topic to which an alias was given last by these PUBLISHes, the latest first
abbrev pub topic_given : ℕ → List Publish → Option (List ℕ)
topic_given a [] = None
topic_given a (p ∷ earlier) = if has_topic p && is_alias a (alias_of p) then Some p.topic else topic_given a earlier

-- the aliases that stand refused behind these PUBLISHes
abbrev pub refused_after : Rights → Login → List Publish → Aliases
refused_after r l [] = set.empty
refused_after r l (p ∷ earlier) = aliases_after (is_allowed r l (refused_after r l earlier) p) p (refused_after r l earlier)

-- one that was given to no topic is the node's to refuse
abbrev pub may_write_given : Rights → Login → Option (List ℕ) → Bool
may_write_given r l None = true
may_write_given r l (Some topic) = r.may_write l topic

-- a PUBLISH with an alias alone is allowed just where the topic may be written to which this client gave the alias last, whether that PUBLISH was allowed or not
abbrev pub AliasesAreFollowed : Type 0
AliasesAreFollowed =
    (r : Rights) (l : Login) (earlier : List Publish) (p : Publish) (a : ℕ) → has_topic p ≡ false → alias_of p ≡ Some a
    → is_allowed r l (refused_after r l earlier) p ≡ may_write_given r l (topic_given a earlier)
