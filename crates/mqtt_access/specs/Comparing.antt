-- Levels of a rule's filter against those of a topic and of another filter, as tests (MQTT 5.0, 4.7).
use Rattle.std.specs.Prelude.{ℕ, List, [], ◌∷◌, length, Bool, true, false, not, ◌&&◌, ◌||◌, ◌==◌, nat_eq, Option, Some, None, if◌then◌else◌}
use Rattle.std.specs.List.{starts_with}
use Rattle.std.specs.Option.{option_map_or}
use Rattle.std.specs.Str.{bytes_eq}
use Rattle.mqtt_topics.specs.Levels.{is_separator, is_wildcard, levels, multi_level, single_level}
use Rattle.mqtt_access.specs.Filled.{first_level}

abbrev pub is_multi : List ℕ → Bool
is_multi level = bytes_eq level multi_level

abbrev pub is_single : List ℕ → Bool
is_single level = bytes_eq level single_level

abbrev pub is_wild : List ℕ → Bool
is_wild level = is_multi level || is_single level

abbrev pub begins_with_dollar : List ℕ → Bool
begins_with_dollar text = starts_with nat_eq text (36 ∷ [])

abbrev pub begins_wild : List ℕ → Bool
begins_wild [] = false
begins_wild (b ∷ bs) = is_wildcard b

-- the bytes of a topic are those of a filter up to its first wildcard; a separator right before that may lack
abbrev pub begins_alike : List ℕ → List ℕ → Bool
begins_alike [] [] = true
begins_alike [] (t ∷ ts) = false
begins_alike (f ∷ fs) [] = is_wildcard f || (is_separator f && begins_wild fs)
begins_alike (f ∷ fs) (t ∷ ts) = is_wildcard f || ((f == t) && begins_alike fs ts)

-- `#`, which is the last level, matches any levels, none included; `+` any one; another level only itself
abbrev pub name_matches : List (List ℕ) → List (List ℕ) → Bool
name_matches [] [] = true
name_matches [] (own ∷ later) = false
name_matches (level ∷ levels) [] = is_multi level
name_matches (level ∷ levels) (own ∷ later) = is_multi level || ((is_single level || bytes_eq level own) && name_matches levels later)

-- and no filter that begins with a wildcard matches a topic that begins with `$` (4.7.2)
abbrev pub matches_topic : List (List ℕ) → List ℕ → Bool
matches_topic rule topic = name_matches rule (levels topic) && not (is_wild (first_level rule) && begins_with_dollar topic)

-- the first levels match whatever the second ones match
abbrev pub cover : List (List ℕ) → List (List ℕ) → Bool
cover [] [] = true
cover [] (asked ∷ others) = false
cover (level ∷ levels) [] = is_multi level
cover (level ∷ levels) (asked ∷ others) =
    is_multi level || (not (is_multi asked || not (is_single level || bytes_eq level asked)) && cover levels others)

-- a topic has one level at least, so `+/#` matches what `#` matches
abbrev pub opened : List (List ℕ) → List (List ℕ)
opened [] = []
opened (level ∷ []) = if is_multi level then single_level ∷ multi_level ∷ [] else level ∷ []
opened (level ∷ second ∷ later) = level ∷ second ∷ later

-- a rule's filter matches each topic that another filter matches
abbrev pub covers : List (List ℕ) → List (List ℕ) → Bool
covers rule asked = cover rule (opened asked) && not (is_wild (first_level rule) && begins_with_dollar (first_level asked))

-- some levels are matched by both
abbrev pub meet : List (List ℕ) → List (List ℕ) → Bool
meet [] [] = true
meet [] (asked ∷ others) = is_multi asked
meet (level ∷ levels) [] = is_multi level
meet (level ∷ levels) (asked ∷ others) =
    is_multi level || (is_multi asked || (((is_single level || is_single asked) || bytes_eq level asked) && meet levels others))

-- a rule's filter matches some topic that another filter matches
abbrev pub meets : List (List ℕ) → List (List ℕ) → Bool
meets rule asked =
    meet rule asked && not (is_wild (first_level rule) && begins_with_dollar (first_level asked)) && not (begins_with_dollar (first_level rule) && is_wild (first_level asked))

abbrev pub nothing : List ℕ → Bool
nothing bs = length bs == 0

-- what follows the first level of a text, with the separator in front of it
abbrev pub after_level : List ℕ → List ℕ
after_level [] = []
after_level (t ∷ ts) = if is_separator t then t ∷ ts else after_level ts

abbrev pub behind_same : ℕ → List ℕ → Option (List ℕ)
behind_same f [] = None
behind_same f (t ∷ ts) = if f == t then Some ts else None

-- what is left of a topic behind a byte of a filter: `+` behind a separator takes the rest of a level, another byte itself
abbrev pub behind_byte : Bool → ℕ → List ℕ → Option (List ℕ)
behind_byte behind f ts = if f == 43 then (if behind then Some (after_level ts) else None) else behind_same f ts

-- byte by byte a topic is what a filter matches, and a `#` is the filter's last byte and stands behind a separator; whether a separator stands before them
abbrev pub is_surely : Bool → List ℕ → List ℕ → Bool
is_surely behind [] ts = nothing ts
is_surely behind (f ∷ fs) ts = if f == 35 then behind && nothing fs else option_map_or (is_surely (is_separator f) fs) (behind_byte behind f ts) false
