-- What rows say, one after the other, as a state is read from them.
use Rattle.std.specs.Prelude.{◌≡◌, ◌≢◌, ◌⊎◌, ℕ, cond, List, [], ◌∷◌, Option, Some, None, option_map, if◌then◌else◌, ◌==◌}
use Rattle.std.specs.Str.{bytes_eq}
use Rattle.std.specs.List.{AllByRecursion}
use Rattle.std.specs.Ordering.{eq_by_cmp}
use Rattle.std.specs.FinSet as set
use Rattle.std.specs.FinMap as map
use Rattle.mqtt_fields.specs.Numbers.{IsText}
use Rattle.mqtt_message.specs.Parts.{name}
use Rattle.causal_context.specs.Dots.{Dot, Dots, dot_cmp}
use Rattle.causal_context.specs.SetLattice.{IsSubset}
use Rattle.causal_context.specs.Spelling.{context, HasSpelling}
use Rattle.subscription_set.specs.declared.entry.Entry.{Entry}
use Rattle.subscription_set.specs.Indexing.{ByDot}
use Rattle.subscription_set.specs.Standing.{statuses, AreSeen}
use Rattle.replica_store.specs.declared.kept.Kept.{Kept}
use Rattle.replica_store.specs.Retained.{Retained, retained_join, one_put}
use Rattle.replica_store.specs.States.{State}
use Rattle.row_store.specs.Rows.{Key, Plain, key_cmp}
use Rattle.replica_bytes.specs.Values.{dot, subscription, subscription_in, kept}
use Rattle.replica_rows.specs.declared.reading.Parts.{Parts}
use Rattle.replica_rows.specs.Rows.{spelled, subscription_of, kept_of, dots_value, row_at}
use Rattle.replica_rows.specs.Reading.{CanStand, IsStore}
use Rattle.replica_rows.specs.Steps.{subscription_key}

-- ---- one row

pub record IsSubscription (row : Plain) (x : Dot × Entry) : Type 0 where
  pub is : row ≡ (subscription_key x.1 x.0, subscription.bytes (subscription_in x.1))
  pub dot : dot.Fits x.0
  pub client : IsText x.1.client
  pub rest : subscription.Fits (subscription_in x.1)

abbrev pub Topic : Type 0
Topic = List ℕ × Kept

pub record IsTopic (row : Plain) (x : Topic) : Type 0 where
  pub is : row ≡ ((5, (x.0, [])), (kept x.0).bytes x.1)
  pub topic : name.Fits x.0
  pub kept : (kept x.0).Fits x.1

pub record IsDots (row : Plain) (x : ℕ × Dots) : Type 0 where
  pub is : row ≡ ((6, ([], x.0 ∷ [])), context.bytes x.1)
  pub spelled : HasSpelling x.1
  pub some : x.1 ≢ set.empty

-- ---- rows that have been read

-- what they say: both sets of dots, what stands, and what is kept of topics
pub record Said : Type 0 where
  pub taken : Dots
  pub seen : Dots
  pub standing : ByDot
  pub retained : Retained

abbrev pub said : Parts → Said
said p = record { taken = p.taken; seen = p.seen; standing = map.from_entries {R = dot_cmp} p.standing.entries; retained = p.retained }

-- the rows that say it
abbrev pub standing_at : ByDot → List ℕ → Option Dot → Option (List ℕ)
standing_at m client None = None
standing_at m client (Some d) = subscription_of client (option_map (λ e. Some e) (map.get m d))

abbrev pub topic_at : Retained → List ℕ → List ℕ → Option (List ℕ)
topic_at r topic [] = kept_of topic (map.get r topic)
topic_at r topic (b ∷ place) = None

abbrev pub dots_at : Dots → Dots → List ℕ → List ℕ → Option (List ℕ)
dots_at taken seen [] place = if bytes_eq place (1 ∷ []) then dots_value taken else if bytes_eq place (2 ∷ []) then dots_value seen else None
dots_at taken seen (b ∷ owner) place = None

abbrev pub row_of : Said → Key → Option (List ℕ)
row_of x key =
    if key.0 == 4 then standing_at x.standing key.1.0 (spelled dot key.1.1)
    else if key.0 == 5 then topic_at x.retained key.1.0 key.1.1
    else if key.0 == 6 then dots_at x.taken x.seen key.1.0 key.1.1
    else None

-- what they say has a spelling
pub record IsSaid (x : Said) : Type 0 where
  pub taken : HasSpelling x.taken
  pub seen : HasSpelling x.seen
  pub dots : (q : Dot) (e : Entry) → map.get x.standing q ≡ Some e → dot.Fits q
  pub clients : (q : Dot) (e : Entry) → map.get x.standing q ≡ Some e → IsText e.client
  pub entries : (q : Dot) (e : Entry) → map.get x.standing q ≡ Some e → subscription.Fits (subscription_in e)
  pub topics : (topic : List ℕ) (k : Kept) → map.get x.retained topic ≡ Some k → name.Fits topic
  pub kept : (topic : List ℕ) (k : Kept) → map.get x.retained topic ≡ Some k → (kept topic).Fits k

-- one more row says more
pub record SaysMore (row : Plain) (old new : Said) : Type 0 where
  pub sound : IsSaid old → IsSaid new
  pub rows : (key : Key) → row_of new key ≡ cond (eq_by_cmp key_cmp key row.0) (Some row.1) (row_of old key)

-- the state has the rows that say this
abbrev pub Agrees : Said → State → Type 0
Agrees x s = (key : Key) (v : List ℕ) → row_of x key ≡ Some v → row_at s key ≡ Some v

-- no store has this row and those that say the rest
abbrev pub Contradicts : Plain → Said → Type 0
Contradicts row x = row_of x row.0 ≡ None → (s : State) → IsStore s → Agrees x s → row_at s row.0 ≡ Some row.1 → ⊥

-- these rows say it
pub record AreSaid (all : List Plain) (x : Said) : Type 0 where
  pub sound : IsSaid x
  pub rows : (key : Key) → map.find key_cmp key all ≡ row_of x key

-- the state that it makes, where each dot of what stands was seen, and each that was taken
abbrev pub state_of : Said → State
state_of x = record { taken = x.taken; subscriptions = statuses x.seen (map.entries x.standing); retained = x.retained }

pub record AreSeenThere (x : Said) : Type 0 where
  pub standing : AreSeen x.seen (map.entries x.standing)
  pub taken : IsSubset x.taken x.seen

-- a subscription at a dot that had none
pub record TakesSubscription (row : Plain) (old new : ByDot) : Type 0 where
  pub value : Dot × Entry
  pub says : IsSubscription row value
  pub fresh : map.get old value.0 ≡ None
  pub is : new ≡ map.insert old value.0 value.1

abbrev pub NoSubscription : Plain → ByDot → Type 0
NoSubscription row old = (x : Dot × Entry) → IsSubscription row x → map.get old x.0 ≡ None → ⊥

-- what is kept of a topic
pub record TakesTopic (row : Plain) (old new : Retained) : Type 0 where
  pub value : Topic
  pub says : IsTopic row value
  pub is : new ≡ retained_join old (one_put value.0 value.1)

-- dots of one of the sets, or of the other
abbrev pub TakesDots : Plain → Said → Said → Type 0
TakesDots row old new = ((d : Dots) × IsDots row (1, d) × (new ≡ record { taken = d; seen = old.seen; standing = old.standing; retained = old.retained }))
    ⊎ ((d : Dots) × IsDots row (2, d) × (new ≡ record { taken = old.taken; seen = d; standing = old.standing; retained = old.retained }))

abbrev pub NoDots : Plain → Type 0
NoDots row = (d : Dots) → (IsDots row (1, d) ⊎ IsDots row (2, d)) → ⊥

-- ---- what stands and what is kept in a store

abbrev pub AllCanStand : List (Dot × Entry) → Type 0
AllCanStand es = AllByRecursion (λ x. dot.Fits x.0 × IsText x.1.client × CanStand x.1) es

abbrev pub AllHaveSpellings : List Topic → Type 0
AllHaveSpellings es = AllByRecursion (λ x. name.Fits x.0 × (kept x.0).Fits x.1) es
