-- The rules of a file by the users that they are for.
use Rattle.std.specs.Prelude.{◌≡◌, ◌&&◌, ◌||◌, not, ℕ, List, Bool, Option, Some, None}
use Rattle.std.specs.List.{list_any}
use Rattle.mqtt_access.specs.Named.{rules_of}
use Rattle.mqtt_access.specs.Own.{forbids_at, gives_at}
use Rattle.mqtt_access.specs.Rules.{Asked, allows, denies, may, may_connect}
use Rattle.mqtt_access.specs.declared.index.RuleIndex.{RuleIndex}
use Rattle.mqtt_access.specs.declared.own.OwnRules.{OwnRules}
use Rattle.mqtt_access.specs.declared.patterns.Patterns.{Patterns}
use Rattle.mqtt_access.specs.declared.permissions.Permissions.{Permissions}
use Rattle.mqtt_access.specs.declared.rule.TopicRule.{TopicRule}

-- some pattern gives a client what it asks for
abbrev pub gives : Patterns → Option (List ℕ) → List ℕ → Asked → Bool
gives g user client asked = list_any (λ rule. allows rule user client asked) g.giving.items

-- some pattern forbids it some of that
abbrev pub forbids : Patterns → Option (List ℕ) → List ℕ → Asked → Bool
forbids g user client asked = list_any (λ rule. denies rule user client asked) g.denying.items

-- there is one pattern more
pub record IsMorePatterns (rule : TopicRule) (g g' : Patterns) : Type 0 where
  pub gives : (user : Option (List ℕ)) (client : List ℕ) (asked : Asked) → gives g' user client asked ≡ (gives g user client asked || allows rule user client asked)
  pub forbids : (user : Option (List ℕ)) (client : List ℕ) (asked : Asked) → forbids g' user client asked ≡ (forbids g user client asked || denies rule user client asked)

-- the rules of clients without a name, or of a user
abbrev pub own : RuleIndex → Option (List ℕ) → Option OwnRules
own x None = Some x.nameless
own x (Some user) = rules_of x.named user

abbrev pub gives_in : RuleIndex → Option (List ℕ) → List ℕ → Asked → Bool
gives_in x user client asked = gives_at (own x user) asked || gives x.patterns user client asked

abbrev pub forbids_in : RuleIndex → Option (List ℕ) → List ℕ → Asked → Bool
forbids_in x user client asked = forbids_at (own x user) asked || forbids x.patterns user client asked

-- what a client may do by its own rules and by those of all
abbrev pub may_in : RuleIndex → Option (List ℕ) → List ℕ → Asked → Bool
may_in x user client asked = gives_in x user client asked && not (forbids_in x user client asked)

-- under which identifiers it may connect
abbrev pub may_connect_in : RuleIndex → Option (List ℕ) → List ℕ → Bool
may_connect_in x user client = may_connect x.clients.items user client

-- there is one rule more
pub record HasMore (rule : TopicRule) (x x' : RuleIndex) : Type 0 where
  pub gives : (user : Option (List ℕ)) (client : List ℕ) (asked : Asked) → gives_in x' user client asked ≡ (gives_in x user client asked || allows rule user client asked)
  pub forbids : (user : Option (List ℕ)) (client : List ℕ) (asked : Asked) → forbids_in x' user client asked ≡ (forbids_in x user client asked || denies rule user client asked)
  pub clients : x'.clients.items ≡ x.clients.items

-- what each client may do is what the rules of a file come to
pub record IsIndexOf (p : Permissions) (x : RuleIndex) : Type 0 where
  pub topics : (user : Option (List ℕ)) (client : List ℕ) (asked : Asked) → may_in x user client asked ≡ may p.topics.items user client asked
  pub clients : (user : Option (List ℕ)) (client : List ℕ) → may_connect_in x user client ≡ may_connect p.clients.items user client
