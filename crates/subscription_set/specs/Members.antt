-- The members of shared groups (MQTT 5.0, 4.8.2).
use Rattle.std.specs.Prelude.{◌≡◌, ◌↔◌, ℕ, ◌%◌, true, List, [], map as map_list, flat_map, length, slice_get, Option, Some, None}
use Rattle.std.specs.List.{AllByRecursion, IsDistinct, filter, list_any}
use Rattle.std.specs.List.Sorted.{IsStrictlySortedBy}
use Rattle.std.specs.Ordering.{eq_by_cmp}
use Rattle.std.specs.FinMap as map
use Rattle.std.specs.FinSet as set
use Rattle.causal_context.specs.Dots.{Dot, Dots}
use Rattle.mqtt_topics.specs.Topics.{IsFilter, IsShared}
use Rattle.mqtt_topics.specs.Matching.{Matches}
use Rattle.subscription_set.specs.Entries.{Entry, same_text}
use Rattle.subscription_set.specs.Standing.{latest}
use Rattle.subscription_set.specs.Filing.{pair_cmp, text_cmp}
use Rattle.subscription_set.specs.Indexing.{ByDot, IsFilterAt, Stands, stands_to}
use Rattle.subscription_set.specs.Matching.{IsPlainMatch}

abbrev pub Clients : Type 0
Clients = set.FinSet text_cmp

-- clients under filters
abbrev pub Seats : Type 0
Seats = set.FinSet (pair_cmp text_cmp text_cmp)

-- under each shared filter the clients of which something stands to it, and no others
abbrev pub AreSeated : ByDot → Seats → Type 0
AreSeated m v = (f c : List ℕ) → (set.contains v (f, c) ≡ true) ↔ (IsShared f × Stands m c (Some f))

-- of the clients of which something stands to a filter, in the order of their bytes, the one in the place `turn` modulo their number
pub record IsInTurn (m : ByDot) (f : List ℕ) (turn : ℕ) (client : Option (List ℕ)) : Type 0 where
  pub clients : List (List ℕ)
  pub rise : IsStrictlySortedBy text_cmp clients
  pub same : (c : List ℕ) → (list_any (eq_by_cmp text_cmp c) clients ≡ true) ↔ Stands m c (Some f)
  pub place : client ≡ slice_get clients (turn % length clients)

-- of the clients of a set, in the order of their bytes, the one in that place
pub record IsTaken (s : Clients) (turn : ℕ) (client : Option (List ℕ)) : Type 0 where
  pub clients : List (List ℕ)
  pub rise : IsStrictlySortedBy text_cmp clients
  pub same : set.from_list clients ≡ s
  pub place : client ≡ slice_get clients (turn % length clients)

-- ---- of subscriptions

-- those to a filter
abbrev pub to_filter : List ℕ → List Entry → List Entry
to_filter f es = filter (λ e. same_text f e.filter) es

-- their clients, each once, in the order of their bytes
abbrev pub clients_of : List Entry → List (List ℕ)
clients_of es = map.keys (map.from_entries {R = text_cmp} (map_list (λ e. (e.client, e)) es))

-- those of a client
abbrev pub of_client : Option (List ℕ) → List Entry → List Entry
of_client None es = []
of_client (Some c) es = filter (λ e. same_text c e.client) es

-- those of the client in the place `turn` modulo the number of clients
abbrev pub in_turn : ℕ → List Entry → List Entry
in_turn turn es = of_client (slice_get (clients_of es) (turn % length (clients_of es))) es

-- the shared filters that match a name and to which there is something, each once
pub record AreGroups (IsThere : List ℕ → Type 0) (name : List ℕ) (fs : List (List ℕ)) : Type 0 where
  pub each : AllByRecursion (λ f. IsThere f × IsFilter f × IsShared f × Matches f name) fs
  pub once : IsDistinct same_text fs
  pub all : (f : List ℕ) → IsThere f → IsShared f → Matches f name → list_any (same_text f) fs ≡ true

-- one of the entries is to the filter
abbrev pub HasEntry : ByDot → List ℕ → Type 0
HasEntry m f = (d : Dot) × (stands_to f (map.get m d) ≡ true)

-- one of the subscriptions is to the filter
abbrev pub HasLive : List Entry → List ℕ → Type 0
HasLive es f = list_any (λ e. same_text f e.filter) es ≡ true

-- of each shared filter that matches a name the subscriptions of the client whose turn it is
abbrev pub AreInTurn : ℕ → List ℕ → List Entry → List Entry → Type 0
AreInTurn turn name live out = (fs : List (List ℕ)) × AreGroups (HasLive live) name fs × (out ≡ flat_map (λ f. in_turn turn (to_filter f live)) fs)

-- there is an entry, and its filter is a plain one that matches the name
abbrev pub IsPlainAt : List ℕ → Option Entry → Type 0
IsPlainAt name = IsFilterAt (IsPlainMatch name)

-- a subscription to a plain filter that matches the name
abbrev pub IsPlainFor : List ℕ → Entry → Type 0
IsPlainFor name e = IsPlainMatch name e.filter

-- the latest entries of each client and filter, without their dots
abbrev pub latest_entries : ByDot → List Entry
latest_entries m = map_list (λ x. x.1) (latest (map.entries m))

-- those of them at the dots
abbrev pub latest_of_dots : ByDot → Dots → List Entry
latest_of_dots m dots = map_list (λ x. x.1) (filter (λ x. set.contains dots x.0) (latest (map.entries m)))
