-- What a text is.
use Rattle.std.specs.Prelude.{◌≡◌, ℕ, List, Option, Some, None}
use Rattle.mqtt_topics.specs.Topics.{IsFilter}

-- its filter, or none where it isn't one
abbrev pub IsFilterOf : List ℕ → Option (List ℕ) → Type 0
IsFilterOf text None = ¬ IsFilter text
IsFilterOf text (Some filter) = IsFilter text × (filter ≡ text)
