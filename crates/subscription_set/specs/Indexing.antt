-- Entries under their dots, and an index that is kept in step with them.
use Rattle.std.specs.Prelude.{◌≡◌, ℕ, Bool, false, true, List, length, nat_lt, Option, Some, None}
use Rattle.std.specs.FinMap as map
use Rattle.std.specs.FinSet as set
use Rattle.causal_context.specs.Dots.{Dot, dot_cmp}
use Rattle.mqtt_topics.specs.Matching.{Matches}
use Rattle.subscription_set.specs.Entries.{Entry, is_of, same_text, recency_cmp}
use Rattle.std.specs.Ordering.{is_lt}
use Rattle.subscription_set.specs.Filing.{Filed, Places}
use Rattle.subscription_set.specs.Standing.{latest}

abbrev pub ByDot : Type 0
ByDot = map.FinMap dot_cmp Entry

-- one entry at its dot
abbrev pub alone : Dot × Entry → ByDot
alone x = map.insert map.empty x.0 x.1

-- whether there is an entry, and it is of the client and, where one is given, to the filter
abbrev pub stands_as : List ℕ → Option (List ℕ) → Option Entry → Bool
stands_as client filter None = false
stands_as client filter (Some e) = is_of client filter e

-- a dot stands of the client and to the filter
abbrev pub Stands : ByDot → List ℕ → Option (List ℕ) → Type 0
Stands m client filter = (d : Dot) × (stands_as client filter (map.get m d) ≡ true)

-- the dots of each client, the dots of each client and filter, and how many entries are the latest
pub record IsIndexed (m : ByDot) (clients : Filed) (places : Places) (count : ℕ) : Type 0 where
  pub of_client : (c : List ℕ) (d : Dot) → set.contains clients (c, d) ≡ stands_as c None (map.get m d)
  pub of_filter : (c f : List ℕ) (d : Dot) → set.contains places (c, (f, d)) ≡ stands_as c (Some f) (map.get m d)
  pub live : count ≡ length (latest (map.entries m))

-- whether there is an entry, and it is to the filter
abbrev pub stands_to : List ℕ → Option Entry → Bool
stands_to filter None = false
stands_to filter (Some e) = same_text filter e.filter

-- the same, and the dots of each filter
pub record IsInStep (m : ByDot) (clients : Filed) (places : Places) (filters : Filed) (count : ℕ) : Type 0 where
  pub indexed : IsIndexed m clients places count
  pub matched : (f : List ℕ) (d : Dot) → set.contains filters (f, d) ≡ stands_to f (map.get m d)

-- s has the dots that stand of the client and, where one is given, to the filter, and there is one
pub record IsStanding (m : ByDot) (client : List ℕ) (filter : Option (List ℕ)) (s : set.FinSet dot_cmp) : Type 0 where
  pub same : (d : Dot) → set.contains s d ≡ stands_as client filter (map.get m d)
  pub some : Stands m client filter

-- the entry at the other dot is later
abbrev pub later_at : Dot × Entry → Dot → Option Entry → Bool
later_at x d None = false
later_at x d (Some e) = is_lt (recency_cmp x (d, e))

-- there is an entry, and it was made under a version below this one
abbrev pub below_at : ℕ → Option Entry → Bool
below_at version None = false
below_at version (Some e) = nat_lt e.version version

-- there is an entry, and its filter has the property
abbrev pub IsFilterAt : (List ℕ → Type 0) → Option Entry → Type 0
IsFilterAt P None = ⊥
IsFilterAt P (Some e) = P e.filter

-- there is an entry, and its filter matches the name
abbrev pub MatchesName : List ℕ → Option Entry → Type 0
MatchesName name = IsFilterAt (λ f. Matches f name)
