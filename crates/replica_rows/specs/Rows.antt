-- The rows of a state.
use Rattle.std.specs.Prelude.{◌≡◌, ◌==◌, ℕ, List, [], ◌∷◌, Option, Some, None, Result, Ok, Err, if◌then◌else◌}
use Rattle.std.specs.Str.{bytes_eq}
use Rattle.std.specs.FinSet as set
use Rattle.std.specs.FinMap as map
use Rattle.mqtt_fields.specs.declared.fault.FieldFault.{FieldFault}
use Rattle.mqtt_fields.specs.Field.{Field}
use Rattle.causal_context.specs.Dots.{Dot, Dots}
use Rattle.causal_context.specs.Spelling.{context}
use Rattle.subscription_set.specs.Statuses.{Status}
use Rattle.subscription_set.specs.Standing.{seen_of}
use Rattle.replica_store.specs.declared.kept.Kept.{Kept}
use Rattle.replica_store.specs.States.{State}
use Rattle.row_store.specs.Rows.{Key, Content}
use Rattle.replica_bytes.specs.Values.{dot, subscription, subscription_in, kept}

-- the value whose spelling the bytes are, if there is one
abbrev pub spelled_by : {A : Type 0} → Field A → List ℕ → A → List ℕ → Option A
spelled_by f bs a [] = if bytes_eq (f.bytes a) bs then Some a else None
spelled_by f bs a (b ∷ rest) = None

abbrev pub spelled_in : {A : Type 0} → Field A → List ℕ → Result (A × List ℕ) FieldFault → Option A
spelled_in f bs (Ok x) = spelled_by f bs x.0 x.1
spelled_in f bs (Err e) = None

unfoldable pub spelled : {A : Type 0} → Field A → List ℕ → Option A
spelled f bs = spelled_in f bs (f.at bs)

-- kind 4: at a client and a dot, the subscription that stands there and is the client's, without the client
abbrev pub subscription_of : List ℕ → Option Status → Option (List ℕ)
subscription_of client None = None
subscription_of client (Some None) = None
subscription_of client (Some (Some e)) = if bytes_eq client e.client then Some (subscription.bytes (subscription_in e)) else None

abbrev pub subscription_at : State → List ℕ → Option Dot → Option (List ℕ)
subscription_at s client None = None
subscription_at s client (Some d) = subscription_of client (map.get s.subscriptions d)

-- kind 5: at a topic, what is kept of it
abbrev pub kept_of : List ℕ → Option Kept → Option (List ℕ)
kept_of topic None = None
kept_of topic (Some k) = Some ((kept topic).bytes k)

abbrev pub retained_at : State → List ℕ → List ℕ → Option (List ℕ)
retained_at s topic [] = kept_of topic (map.get s.retained topic)
retained_at s topic (b ∷ place) = None

-- kind 6: at the place 1 the dots that were taken, at the place 2 those that were seen; no dots have no row
abbrev pub dots_value : Dots → Option (List ℕ)
dots_value dots = if set.len dots == 0 then None else Some (context.bytes dots)

abbrev pub context_at : State → List ℕ → List ℕ → Option (List ℕ)
context_at s [] place = if bytes_eq place (1 ∷ []) then dots_value s.taken else if bytes_eq place (2 ∷ []) then dots_value (seen_of s.subscriptions) else None
context_at s (b ∷ owner) place = None

-- the value of the row at a kind, an owner and a place, if there is one
abbrev pub row_at : State → Key → Option (List ℕ)
row_at s key =
    if key.0 == 4 then subscription_at s key.1.0 (spelled dot key.1.1)
    else if key.0 == 5 then retained_at s key.1.0 key.1.1
    else if key.0 == 6 then context_at s key.1.0 key.1.1
    else None

-- the content has the rows of the state and no others
abbrev pub AreRowsOf : Content → State → Type 0
AreRowsOf c s = (key : Key) → map.get c key ≡ row_at s key
