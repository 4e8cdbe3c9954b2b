-- What holds of all texts, names and filters.
use Rattle.std.specs.Prelude.{ℕ, List, ◌++◌, ◌∷◌, ◌≡◌, false, ◌⊎◌, ◌↔◌, codes}
use Rattle.std.specs.Bool.{Decides}
use Rattle.std.specs.List.{All}
use Rattle.mqtt_fields.specs.Numbers.{IsText}
use Rattle.mqtt_topics.specs.declared.fault.TopicFault.{TopicFault}
use Rattle.mqtt_topics.specs.Levels.{is_separator}
use Rattle.mqtt_topics.specs.Topics.{IsName, IsNameFault, IsFilter, IsFilterFault, IsShared}
use Rattle.mqtt_topics.specs.Matching.{Matches}
use Rattle.mqtt_topics.specs.Testing.{is_filter}

-- either P holds, or exactly one fault
abbrev pub OneVerdict : Type 0 → (TopicFault → Type 0) → Type 0
OneVerdict P IsFault =
    (P ⊎ ((fault : TopicFault) × IsFault fault))
    × (P → (fault : TopicFault) → IsFault fault → ⊥)
    × ((one other : TopicFault) → IsFault one → IsFault other → one ≡ other)

-- each text is a topic name or has exactly one fault
abbrev pub NamesOrFaults : Type 0
NamesOrFaults = (text : List ℕ) → IsText text → OneVerdict (IsName text) (IsNameFault text)

-- each text is a topic filter or has exactly one fault
abbrev pub FiltersOrFaults : Type 0
FiltersOrFaults = (text : List ℕ) → IsText text → OneVerdict (IsFilter text) (IsFilterFault text)

-- the test passes exactly the texts that are topic filters (MQTT 5.0, 4.7.1 and 4.8.2)
abbrev pub FiltersAreTested : Type 0
FiltersAreTested = (text : List ℕ) → IsText text → Decides (is_filter text) (IsFilter text)

-- `$share/{name}/{filter}` matches what the filter matches, where the filter isn't shared itself
abbrev pub SharedMatchesAlike : Type 0
SharedMatchesAlike = (share filter name : List ℕ) → All (λ b. is_separator b ≡ false) share → (IsShared filter → ⊥)
    → Matches (codes "$share/" ++ share ++ 47 ∷ filter) name ↔ Matches filter name
