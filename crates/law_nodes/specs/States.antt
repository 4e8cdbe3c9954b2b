-- Which rows a replicated state has.
use Rattle.std.specs.Prelude.{◌≡◌, ◌≢◌, ◌⊎◌, ◌↔◌, ℕ, List, [], ◌∷◌, Some}
use Rattle.std.specs.FinMap as map
use Rattle.std.specs.FinSet as set
use Rattle.causal_context.specs.Dots.{Dot, Dots}
use Rattle.causal_context.specs.Spelling.{context}
use Rattle.subscription_set.specs.declared.entry.Entry.{Entry}
use Rattle.subscription_set.specs.Standing.{seen_of}
use Rattle.replica_store.specs.declared.kept.Kept.{Kept}
use Rattle.replica_store.specs.States.{State}
use Rattle.row_store.specs.Rows.{Key}
use Rattle.replica_bytes.specs.Values.{dot, subscription, subscription_in, kept}
use Rattle.replica_rows.specs.Rows.{row_at}
use Rattle.replica_rows.specs.Reading.{IsStore}

-- kind 4: a row for each subscription that stands, at its client and its dot, with the subscription without the client
pub record IsSubscriptionRow (s : State) (key : Key) (value : List ℕ) : Type 0 where
  pub at : Dot
  pub entry : Entry
  pub stands : map.get s.subscriptions at ≡ Some (Some entry)
  pub names : key ≡ (4, (entry.client, dot.bytes at))
  pub is : value ≡ subscription.bytes (subscription_in entry)

-- kind 5: a row for each topic of which something is kept, at the topic
pub record IsTopicRow (s : State) (key : Key) (value : List ℕ) : Type 0 where
  pub topic : List ℕ
  pub entry : Kept
  pub keeps : map.get s.retained topic ≡ Some entry
  pub names : key ≡ (5, (topic, []))
  pub is : value ≡ (kept topic).bytes entry

-- kind 6: a row for dots at a place, where there are any
pub record IsDotsRow (place : ℕ) (dots : Dots) (key : Key) (value : List ℕ) : Type 0 where
  pub some : dots ≢ set.empty
  pub names : key ≡ (6, ([], place ∷ []))
  pub is : value ≡ context.bytes dots

-- those that were taken stand at the place 1, those that were seen at the place 2
abbrev pub IsStateRow : State → Key → List ℕ → Type 0
IsStateRow s key value = IsSubscriptionRow s key value ⊎ (IsTopicRow s key value ⊎ (IsDotsRow 1 s.taken key value ⊎ IsDotsRow 2 (seen_of s.subscriptions) key value))

-- a state has these rows and no others
abbrev pub RowsAreOfStates : Type 0
RowsAreOfStates = (s : State) → IsStore s → (key : Key) (value : List ℕ) → (row_at s key ≡ Some value) ↔ IsStateRow s key value
