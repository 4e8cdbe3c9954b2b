-- Subscriptions by their clients, and by their groups.
use Rattle.std.specs.Prelude.{ℕ, List, map as map_list}
use Rattle.std.specs.List.{filter}
use Rattle.std.specs.Ordering.{eq_by_cmp}
use Rattle.std.specs.declared.cmp.Ordering.{Ordering}
use Rattle.std.specs.FinMap as map
use Rattle.mqtt_topics.specs.Topics.{share_name, share_filter}
use Rattle.subscription_set.specs.Entries.{Entry}
use Rattle.subscription_set.specs.Filing.{text_cmp, pair_cmp}

module _ {K : Type 0} (R : K → K → Ordering) (key : Entry → K) where
  -- those of some subscriptions that have a key
  abbrev pub of_key : K → List Entry → List Entry
  of_key k es = filter (λ e. eq_by_cmp R k (key e)) es

  -- the keys, in order and each once, each with its subscriptions
  abbrev pub gathered : List Entry → List (K × List Entry)
  gathered es = map.entries (map.from_entries {R = R} (map_list (λ e. (key e, of_key (key e) es)) es))

abbrev pub client_of : Entry → List ℕ
client_of e = e.client

-- the group of a shared subscription: its share name and its filter (MQTT 5.0, 4.8.2)
abbrev pub Group : Type 0
Group = List ℕ × List ℕ

abbrev pub group_of : Entry → Group
group_of e = (share_name e.filter, share_filter e.filter)

-- groups by their names, then by their filters
abbrev pub group_cmp : Group → Group → Ordering
group_cmp = pair_cmp text_cmp text_cmp

-- the clients, in the order of their bytes, each with its subscriptions
abbrev pub by_client : List Entry → List (List ℕ × List Entry)
by_client = gathered text_cmp client_of

-- the groups in order, each with its subscriptions
abbrev pub by_group : List Entry → List (Group × List Entry)
by_group = gathered group_cmp group_of
