-- How the changes that a merge makes are gathered, part by part.
use Rattle.std.specs.Prelude.{◌≡◌, ◌≢◌, ◌⊎◌, ℕ, true, List, [], ◌∷◌, ◌++◌, Some, None}
use Rattle.std.specs.List.{AllByRecursion}
use Rattle.std.specs.FinSet as set
use Rattle.std.specs.FinMap as map
use Rattle.causal_context.specs.Dots.{Dot, Dots}
use Rattle.causal_context.specs.Spelling.{context, HasSpelling}
use Rattle.subscription_set.specs.declared.entry.Entry.{Entry}
use Rattle.subscription_set.specs.Joining.{is_leaving}
use Rattle.replica_store.specs.declared.kept.Kept.{Kept}
use Rattle.replica_store.specs.Merging.{is_newer}
use Rattle.replica_store.specs.States.{State, state_join}
use Rattle.row_store.specs.declared.row.Row.{Row}
use Rattle.row_store.specs.declared.row.Change.{Change}
use Rattle.row_store.specs.declared.row.Change.TheVariants.{Put}
use Rattle.row_store.specs.Rows.{Key, entry_of}
use Rattle.replica_bytes.specs.Values.{dot}
use Rattle.replica_rows.specs.Changes.{names, IsNeeded}

-- what was named stays so, and where each was needed each is
pub record Adds (s t : State) (old new : List Change) : Type 0 where
  pub keeps : (key : Key) → names key old ≡ true → names key new ≡ true
  pub needed : AllByRecursion (IsNeeded s t) old → AllByRecursion (IsNeeded s t) new

-- and where it is due, this key is named
pub record AddsDue (s t : State) (Due : Type 0) (key : Key) (old new : List Change) : Type 0 where
  pub adds : Adds s t old new
  pub named : Due → names key new ≡ true

-- the key of a subscription's row
abbrev pub subscription_key : Entry → Dot → Key
subscription_key e d = (4, (e.client, dot.bytes d))

-- each subscription of the delta whose dot is new here is named
pub record AddsSubscriptions (s d : State) (old new : List Change) : Type 0 where
  pub adds : Adds s (state_join s d) old new
  pub named : (q : Dot) (e : Entry) → map.get d.subscriptions q ≡ Some (Some e) → map.get s.subscriptions q ≡ None → names (subscription_key e q) new ≡ true

-- the subscription at the dot stands here, and not after the join
abbrev pub Leaves : State → State → Dot → Type 0
Leaves s d q = is_leaving (map.get s.subscriptions q) (map.get d.subscriptions q) ≡ true

pub record AddsLeaving (s d : State) (q : Dot) (old new : List Change) : Type 0 where
  pub adds : Adds s (state_join s d) old new
  pub named : (e : Entry) → map.get s.subscriptions q ≡ Some (Some e) → names (subscription_key e q) new ≡ true

-- each subscription that leaves is named
pub record AddsRemovals (s d : State) (old new : List Change) : Type 0 where
  pub adds : Adds s (state_join s d) old new
  pub named : (q : Dot) (e : Entry) → map.get s.subscriptions q ≡ Some (Some e) → Leaves s d q → names (subscription_key e q) new ≡ true

-- each topic of which the delta keeps more is named
pub record AddsTopics (s d : State) (old new : List Change) : Type 0 where
  pub adds : Adds s (state_join s d) old new
  pub named : (topic : List ℕ) (k : Kept) → map.get d.retained topic ≡ Some k → is_newer (map.get s.retained topic) k ≡ true → names (5, (topic, [])) new ≡ true

-- a put of the dots of both at the place
pub record PutsBoth (place : ℕ) (own other : Dots) (old new : List Change) : Type 0 where
  pub more : set.union own other ≢ own
  pub spelled : HasSpelling own
  pub row : Row
  pub is : entry_of row ≡ ((6, ([], place ∷ [])), context.bytes (set.union own other))
  pub pushed : new ≡ old ++ Put row ∷ []
  pub joined : HasSpelling (set.union own other)

-- one where there are more, and else nothing
abbrev pub AddsContext : ℕ → Dots → Dots → List Change → List Change → Type 0
AddsContext place own other old new = ((set.union own other ≡ own) × (new ≡ old)) ⊎ PutsBoth place own other old new
