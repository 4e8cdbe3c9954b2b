-- The levels of a rule's filter, with the names of a client in the places of a pattern.
use Rattle.std.specs.Prelude.{ℕ, List, [], ◌∷◌, map, Bool, false, not, ◌&&◌, ◌||◌, ◌==◌, length, nat_eq, Option, Some, None, codes, if◌then◌else◌}
use Rattle.std.specs.List.{list_any, starts_with}
use Rattle.std.specs.Str.{bytes_eq}
use Rattle.mqtt_topics.specs.Levels.{levels, levels_left}
use Rattle.mqtt_access.specs.declared.filled.Names.{Names}
use Rattle.mqtt_access.specs.declared.filled.RuleFilter.{RuleFilter}
use Rattle.mqtt_access.specs.declared.filled.FilledLevels.{FilledLevels}

-- the level `%u` is the place of the user name, the level `%c` that of the client identifier
abbrev pub user_place : List ℕ
user_place = codes "%u"

abbrev pub client_place : List ℕ
client_place = codes "%c"

-- a level, with the name whose place it is
abbrev pub filled : List ℕ → List ℕ → List ℕ → List ℕ
filled user client level = if bytes_eq level user_place then user else (if bytes_eq level client_place then client else level)

-- the bytes `/`, `+` and `#`
abbrev pub is_special : ℕ → Bool
is_special b = (b == 47) || ((b == 43) || (b == 35))

-- a name that may fill a place: it isn't empty, has no separator and no wildcard, and doesn't begin with `$`
abbrev pub is_level_name : List ℕ → Bool
is_level_name name = not (length name == 0) && (not (starts_with nat_eq name (36 ∷ [])) && not (list_any is_special name))

abbrev pub has_level : List ℕ → List (List ℕ) → Bool
has_level wanted [] = false
has_level wanted (level ∷ later) = bytes_eq level wanted || has_level wanted later

abbrev pub first_level : List (List ℕ) → List ℕ
first_level [] = []
first_level (level ∷ later) = level

-- the same of the names that a rule's filter is filled with, where it is a pattern
abbrev pub filled_place : Option Names → List ℕ → List ℕ
filled_place None level = level
filled_place (Some names) level = filled names.user.now names.client.now level

abbrev pub filled_places : Option Names → List (List ℕ) → List (List ℕ)
filled_places None ls = ls
filled_places (Some names) ls = map (filled names.user.now names.client.now) ls

abbrev pub filter_levels : RuleFilter → List (List ℕ)
filter_levels rule = filled_places rule.names (levels rule.filter.now)

-- the levels that an iterator has left
abbrev pub filled_left : FilledLevels → List (List ℕ)
filled_left s = filled_places s.names (levels_left s.levels)
