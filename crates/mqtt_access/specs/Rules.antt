-- What rules come to for a client.
use Rattle.std.specs.Prelude.{ℕ, List, [], map, Bool, true, false, not, ◌&&◌, ◌||◌, nat_eq, Option, Some, None, unwrap_or, if◌then◌else◌}
use Rattle.std.specs.List.{list_any, starts_with}
use Rattle.std.specs.Option.{option_map_or}
use Rattle.std.specs.Str.{bytes_eq}
use Rattle.mqtt_topics.specs.Levels.{levels}
use Rattle.mqtt_topics.specs.Topics.{filter_part}
use Rattle.mqtt_access.specs.declared.rule.Access.{Access}
use Rattle.mqtt_access.specs.declared.rule.Access.TheVariants.{Read, Write, ReadWrite, Deny}
use Rattle.mqtt_access.specs.declared.rule.ClientRule.{ClientRule}
use Rattle.mqtt_access.specs.declared.rule.Request.{Request}
use Rattle.mqtt_access.specs.declared.rule.Request.TheVariants as requests
use Rattle.mqtt_access.specs.declared.rule.Scope.{Scope}
use Rattle.mqtt_access.specs.declared.rule.Scope.TheVariants.{Nameless, User, Pattern}
use Rattle.mqtt_access.specs.declared.rule.TopicRule.{TopicRule}
use Rattle.mqtt_access.specs.Comparing.{matches_topic, covers, meets}
use Rattle.mqtt_access.specs.Filled.{client_place, filled, has_level, is_level_name, user_place}

-- what a client asks for: to publish to a topic, to receive a message of one, to subscribe to a filter
pub data Asked : Type 0 where
  ToWrite : (topic : List ℕ) → Asked
  ToRead : (topic : List ℕ) → Asked
  ToSubscribe : (filter : List ℕ) → Asked

abbrev pub asked_of : Request → Asked
asked_of (requests.Write topic) = ToWrite topic.now
asked_of (requests.Read topic) = ToRead topic.now
asked_of (requests.Subscribe filter) = ToSubscribe filter.now

-- a rule of this kind gives it
abbrev pub suits : Access → Asked → Bool
suits Read (ToWrite topic) = false
suits Read (ToRead topic) = true
suits Read (ToSubscribe filter) = true
suits Write (ToWrite topic) = true
suits Write (ToRead topic) = false
suits Write (ToSubscribe filter) = false
suits ReadWrite asked = true
suits Deny asked = false

-- all of it is in what these levels match
abbrev pub passes : List (List ℕ) → Asked → Bool
passes rule (ToWrite topic) = matches_topic rule topic
passes rule (ToRead topic) = matches_topic rule topic
passes rule (ToSubscribe filter) = covers rule (levels (filter_part filter))

-- some of it is
abbrev pub meets_asked : List (List ℕ) → Asked → Bool
meets_asked rule (ToWrite topic) = matches_topic rule topic
meets_asked rule (ToRead topic) = matches_topic rule topic
meets_asked rule (ToSubscribe filter) = meets rule (levels (filter_part filter))

-- a client has each name that a pattern has a place for, and it may stand there
abbrev pub can_fill : List (List ℕ) → Option (List ℕ) → List ℕ → Bool
can_fill pattern user client =
    (option_map_or is_level_name user false || not (has_level user_place pattern)) && (is_level_name client || not (has_level client_place pattern))

-- a client has a name that a pattern has a place for, and it may not stand there
abbrev pub cannot_fill : List (List ℕ) → Option (List ℕ) → List ℕ → Bool
cannot_fill pattern user client =
    (option_map_or (λ name. not (is_level_name name)) user false && has_level user_place pattern) || (not (is_level_name client) && has_level client_place pattern)

-- the levels of a rule for a client; none where it says nothing of that client
abbrev pub levels_for : Scope → List (List ℕ) → Option (List ℕ) → List ℕ → Option (List (List ℕ))
levels_for Nameless filter None client = Some filter
levels_for Nameless filter (Some user) client = None
levels_for (User owner) filter None client = None
levels_for (User owner) filter (Some user) client = if bytes_eq user owner then Some filter else None
levels_for Pattern filter user client = if can_fill filter user client then Some (map (filled (unwrap_or user []) client) filter) else None

abbrev pub rule_levels : TopicRule → Option (List ℕ) → List ℕ → Option (List (List ℕ))
rule_levels rule user client = levels_for rule.scope (levels rule.filter) user client

-- a rule gives a client what it asks for
abbrev pub allows : TopicRule → Option (List ℕ) → List ℕ → Asked → Bool
allows rule user client asked = suits rule.access asked && option_map_or (λ ls. passes ls asked) (rule_levels rule user client) false

-- a pattern whose places a client's names can't fill
abbrev pub is_unfit : Scope → List (List ℕ) → Option (List ℕ) → List ℕ → Bool
is_unfit Nameless filter user client = false
is_unfit (User owner) filter user client = false
is_unfit Pattern filter user client = cannot_fill filter user client

abbrev pub is_deny : Access → Bool
is_deny Deny = true
is_deny _ = false

-- a rule forbids a client some of it; a pattern that can't be filled forbids all
abbrev pub denies : TopicRule → Option (List ℕ) → List ℕ → Asked → Bool
denies rule user client asked =
    is_deny rule.access && option_map_or (λ ls. meets_asked ls asked) (rule_levels rule user client) (is_unfit rule.scope (levels rule.filter) user client)

-- some rule gives it all, and none forbids some of it
abbrev pub may : List TopicRule → Option (List ℕ) → List ℕ → Asked → Bool
may rules user client asked = list_any (λ rule. allows rule user client asked) rules && not (list_any (λ rule. denies rule user client asked) rules)

abbrev pub same_user : Option (List ℕ) → Option (List ℕ) → Bool
same_user None None = true
same_user None (Some user) = false
same_user (Some owner) None = false
same_user (Some owner) (Some user) = bytes_eq owner user

-- an identifier is that of a rule, or begins with it
abbrev pub holds : ClientRule → List ℕ → Bool
holds rule client = if rule.is_prefix then starts_with nat_eq client rule.identifier else bytes_eq client rule.identifier

-- a rule lets this user connect under an identifier
abbrev pub admits : ClientRule → Option (List ℕ) → List ℕ → Bool
admits rule user client = same_user rule.user user && holds rule client

-- a user that no rule speaks of may connect under any identifier
abbrev pub may_connect : List ClientRule → Option (List ℕ) → List ℕ → Bool
may_connect rules user client = not (list_any (λ rule. same_user rule.user user) rules) || list_any (λ rule. admits rule user client) rules
