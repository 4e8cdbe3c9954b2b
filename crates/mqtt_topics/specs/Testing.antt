-- Which texts are topic filters, as a test (MQTT 5.0, 4.7.1 and 4.8.2).
use Rattle.std.specs.Prelude.{ℕ, List, [], ◌∷◌, Bool, true, not, ◌&&◌, ◌||◌, ◌==◌, length, nat_eq, codes}
use Rattle.std.specs.List.{list_any, starts_with}
use Rattle.std.specs.Str.{bytes_eq}
use Rattle.mqtt_topics.specs.Levels.{levels, is_wildcard, single_level, multi_level}
use Rattle.mqtt_topics.specs.Topics.{share_name, share_filter, filter_part}

abbrev pub has_none : {X : Type 0} → List X → Bool
has_none xs = length xs == 0

abbrev pub has_wildcard : List ℕ → Bool
has_wildcard text = list_any is_wildcard text

-- a wildcard fills its level, and `#` is the last level
abbrev pub is_placed : List ℕ → List (List ℕ) → Bool
is_placed level later = not (has_wildcard level) || (bytes_eq level single_level || (bytes_eq level multi_level && has_none later))

abbrev pub are_placed : List (List ℕ) → Bool
are_placed [] = true
are_placed (level ∷ later) = is_placed level later && are_placed later

abbrev pub is_shared : List ℕ → Bool
is_shared text = starts_with nat_eq text (codes "$share/")

-- neither the share name nor the filter is empty, and the share name has no wildcard
abbrev pub is_share : List ℕ → Bool
is_share text = not (has_none (share_name text)) && (not (has_wildcard (share_name text)) && not (has_none (share_filter text)))

-- a text that is a topic filter, plain or shared
unfoldable pub is_filter : List ℕ → Bool
is_filter text = not (has_none text) && ((not (is_shared text) || is_share text) && are_placed (levels (filter_part text)))
