-- The rules for clients of one user name, or for those without one: filters without places for names, by what they give.
use Rattle.std.specs.Prelude.{◌≡◌, ◌&&◌, ◌||◌, ℕ, List, Bool, false, Option, Some, None}
use Rattle.std.specs.List.{list_any}
use Rattle.mqtt_topics.specs.Levels.{levels}
use Rattle.mqtt_access.specs.Rules.{Asked, is_deny, meets_asked, passes, suits}
use Rattle.mqtt_access.specs.Rules.Asked.{ToWrite, ToRead, ToSubscribe}
use Rattle.mqtt_access.specs.declared.own.OwnRules.{OwnRules}
use Rattle.mqtt_access.specs.declared.rule.Access.{Access}

-- the filters of those rules that may give what is asked for
abbrev pub giving : OwnRules → Asked → List (List ℕ)
giving g (ToWrite topic) = g.writing.items
giving g (ToRead topic) = g.reading.items
giving g (ToSubscribe filter) = g.reading.items

-- some rule gives it
abbrev pub own_gives : OwnRules → Asked → Bool
own_gives g asked = list_any (λ f. passes (levels f) asked) (giving g asked)

-- some rule forbids some of it
abbrev pub own_forbids : OwnRules → Asked → Bool
own_forbids g asked = list_any (λ f. meets_asked (levels f) asked) g.denying.items

abbrev pub gives_at : Option OwnRules → Asked → Bool
gives_at None asked = false
gives_at (Some g) asked = own_gives g asked

abbrev pub forbids_at : Option OwnRules → Asked → Bool
forbids_at None asked = false
forbids_at (Some g) asked = own_forbids g asked

-- there is one rule more
pub record IsAdded (access : Access) (filter : List ℕ) (g g' : Option OwnRules) : Type 0 where
  pub gives : (asked : Asked) → gives_at g' asked ≡ (gives_at g asked || (suits access asked && passes (levels filter) asked))
  pub forbids : (asked : Asked) → forbids_at g' asked ≡ (forbids_at g asked || (is_deny access && meets_asked (levels filter) asked))
