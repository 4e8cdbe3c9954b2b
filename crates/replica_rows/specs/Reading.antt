-- Which state rows are those of, in the order of their keys.
use Rattle.std.specs.Prelude.{◌≡◌, ℕ, T, List, map as map_list, Some}
use Rattle.std.specs.FinMap as map
use Rattle.mqtt_fields.specs.Numbers.{IsText}
use Rattle.mqtt_message.specs.Parts.{name}
use Rattle.causal_context.specs.Dots.{Dot}
use Rattle.causal_context.specs.Spelling.{HasSpelling}
use Rattle.subscription_set.specs.declared.entry.Entry.{Entry}
use Rattle.subscription_set.specs.Standing.{seen_of}
use Rattle.replica_store.specs.declared.kept.Kept.{Kept}
use Rattle.replica_store.specs.States.{State, TakenIsSeen}
use Rattle.row_store.specs.declared.row.Row.{Row}
use Rattle.row_store.specs.Rows.{Key, key_cmp, entry_of, content_of}
use Rattle.replica_bytes.specs.Values.{dot, subscription, subscription_in, kept}
use Rattle.replica_rows.specs.Rows.{AreRowsOf, row_at}

-- the rows of the state, in the order of their keys, each once
pub record AreAllRowsOf (rows : List Row) (s : State) : Type 0 where
  pub rise : T (map.is_sorted key_cmp (map_list entry_of rows))
  pub are : AreRowsOf (content_of rows) s

-- a filter, options, an identifier and a version that a subscription can have
abbrev pub CanStand : Entry → Type 0
CanStand e = subscription.Fits (subscription_in e)

-- what holds of each store: each dot that was taken was seen, and its sets, its subscriptions and what it keeps of topics have spellings
pub record IsStore (s : State) : Type 0 where
  pub all_seen : TakenIsSeen s
  pub taken : HasSpelling s.taken
  pub seen : HasSpelling (seen_of s.subscriptions)
  pub dots : (q : Dot) (e : Entry) → map.get s.subscriptions q ≡ Some (Some e) → dot.Fits q
  pub clients : (q : Dot) (e : Entry) → map.get s.subscriptions q ≡ Some (Some e) → IsText e.client
  pub entries : (q : Dot) (e : Entry) → map.get s.subscriptions q ≡ Some (Some e) → CanStand e
  pub topics : (topic : List ℕ) (k : Kept) → map.get s.retained topic ≡ Some k → name.Fits topic
  pub kept : (topic : List ℕ) (k : Kept) → map.get s.retained topic ≡ Some k → (kept topic).Fits k

-- they are those of no store
abbrev pub AreOfNone : List Row → Type 0
AreOfNone rows = (s : State) → IsStore s → AreAllRowsOf rows s → ⊥

-- the rows of a store tell all of it
abbrev pub TellAll : Type 0
TellAll = (s t : State) → IsStore s → IsStore t → ((key : Key) → row_at s key ≡ row_at t key) → s ≡ t

-- so what is read of the rows of a store is the store
abbrev pub HaveOneReading : Type 0
HaveOneReading = (rows : List Row) (s t : State) → IsStore s → IsStore t → AreAllRowsOf rows s → AreAllRowsOf rows t → s ≡ t
