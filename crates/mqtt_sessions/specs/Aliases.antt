-- The topics that a client's aliases stand for on a connection (MQTT 5.0, 3.3.2.3.4).
use Rattle.std.specs.Prelude.{ℕ, ◌&&◌, not, Bool, false, nat_le, List, [], ◌∷◌, Option, Some, None, unwrap_or}
use Rattle.std.specs.BTreeMap.{is_at, insert_entry}
use Rattle.std.specs.Map.{lookup}
use Rattle.std.specs.Ordering.{nat_cmp}
use Rattle.mqtt_fields.specs.Properties.{first_two}
use Rattle.mqtt_packets.specs.declared.publish.Publish.{Publish}

-- the aliases that were set, by rising number, and the topic that each stands for
abbrev pub Aliases : Type 0
Aliases = List (ℕ × List ℕ)

abbrev pub topic_for : ℕ → Aliases → Option (List ℕ)
topic_for alias known = lookup (is_at (nat_cmp alias)) known

-- the alias of a PUBLISH
abbrev pub alias_of : Publish → Option ℕ
alias_of p = first_two 35 p.properties

-- 0 is none, and CONNACK announces 16 (3.2.2.3.8)
abbrev pub is_alias : ℕ → Bool
is_alias alias = nat_le 1 alias && nat_le alias 16

abbrev pub is_beyond : Option ℕ → Bool
is_beyond None = false
is_beyond (Some alias) = not (is_alias alias)

-- the topic of an alias, if one is given and stands for one
abbrev pub alias_topic : Option ℕ → Aliases → Option (List ℕ)
alias_topic None known = None
alias_topic (Some alias) known = topic_for alias known

-- the topic of a PUBLISH: its own, or where that is empty the one that its alias stands for
abbrev pub topic_by : List ℕ → Option ℕ → Aliases → Option (List ℕ)
topic_by [] alias known = alias_topic alias known
topic_by (b ∷ bs) alias known = Some (b ∷ bs)

abbrev pub topic_of : Aliases → Publish → Option (List ℕ)
topic_of known p = topic_by p.topic (alias_of p) known

-- the PUBLISH with that topic
abbrev pub filled : Aliases → Publish → Publish
filled known p = record p { topic = unwrap_or (topic_of known p) [] }

-- its alias stands for its own topic from now on
abbrev pub set_by : List ℕ → Option ℕ → Aliases → Aliases
set_by [] alias known = known
set_by (b ∷ bs) None known = known
set_by (b ∷ bs) (Some alias) known = insert_entry nat_cmp known alias (b ∷ bs)

abbrev pub set_in : Aliases → Publish → Aliases
set_in known p = set_by p.topic (alias_of p) known

-- ---- how the code keeps them: in a block, if there are any
abbrev pub aliases_in : Option Aliases → Aliases
aliases_in block = unwrap_or block []
