-- Topic names and topic filters: MQTT 5.0, 4.7.3 and 4.8.2.
use Rattle.std.specs.Prelude.{ℕ, List, [], ◌≡◌, ◌≢◌, IsTrue, nat_eq, drop, codes, if◌then◌else◌}
use Rattle.std.specs.List.{starts_with, before_first, after_first}
use Rattle.mqtt_fields.specs.Numbers.{IsText}
use Rattle.mqtt_topics.specs.declared.fault.TopicFault.{TopicFault}
use Rattle.mqtt_topics.specs.declared.fault.TopicFault.TheVariants.{Empty, BadShare, Wildcard, NoMemory}
use Rattle.mqtt_topics.specs.Levels.{is_separator, levels, HasWildcard, ArePlaced}

-- a topic name: at least one character, and no wildcard
pub record IsName (text : List ℕ) : Type 0 where
  pub fits : IsText text
  pub some : text ≢ []
  pub plain : HasWildcard text → ⊥

-- the one reason why a text isn't a topic name
abbrev pub IsNameFault : List ℕ → TopicFault → Type 0
IsNameFault text Empty = text ≡ []
IsNameFault text BadShare = ⊥
IsNameFault text Wildcard = (text ≢ []) × HasWildcard text
IsNameFault text NoMemory = ⊥

-- a shared subscription's filter begins with `$share/` (4.8.2)
abbrev pub IsShared : List ℕ → Type 0
IsShared text = IsTrue (starts_with nat_eq text (codes "$share/"))

-- the share name: from there to the next `/`
abbrev pub share_name : List ℕ → List ℕ
share_name text = before_first is_separator (drop 7 text)

-- the filter after that `/`; nothing where there is no such `/`
abbrev pub share_filter : List ℕ → List ℕ
share_filter text = after_first is_separator (drop 7 text)

-- neither the share name nor the filter is empty, and the share name has no wildcard
abbrev pub IsShare : List ℕ → Type 0
IsShare text = (share_name text ≢ []) × (HasWildcard (share_name text) → ⊥) × (share_filter text ≢ [])

-- the part of a filter by which it matches
abbrev pub filter_part : List ℕ → List ℕ
filter_part text = if starts_with nat_eq text (codes "$share/") then share_filter text else text

-- a topic filter, plain or shared
pub record IsFilter (text : List ℕ) : Type 0 where
  pub fits : IsText text
  pub some : text ≢ []
  pub share : IsShared text → IsShare text
  pub placed : ArePlaced (levels (filter_part text))

-- the one reason why a text isn't a topic filter
abbrev pub IsFilterFault : List ℕ → TopicFault → Type 0
IsFilterFault text Empty = text ≡ []
IsFilterFault text BadShare = IsShared text × (IsShare text → ⊥)
IsFilterFault text Wildcard = (text ≢ []) × (IsShared text → IsShare text) × (ArePlaced (levels (filter_part text)) → ⊥)
IsFilterFault text NoMemory = ⊥
