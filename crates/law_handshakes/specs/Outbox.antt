-- Which entries may be those of a session, beside the place of the next one and the identifiers of what it receives.
use Rattle.std.specs.Prelude.{◌≡◌, ◌≢◌, ◌↔◌, ◌⊎◌, ℕ, ◌<◌, ◌≤◌, ◌^◌, false, List, length, Some, IsSomeAnd}
use Rattle.std.specs.List.{AllByRecursion}
use Rattle.std.specs.List.Sorted.{IsStrictlySortedBy}
use Rattle.std.specs.Map.{keys_of}
use Rattle.std.specs.Ordering.{nat_cmp}
use Rattle.mqtt_fields.specs.declared.options.Qos.TheVariants.{AtLeastOnce, ExactlyOnce}
use Rattle.qos_handshakes.specs.declared.copies.Entry.{Entry}
use Rattle.qos_handshakes.specs.declared.copies.Stage.{Stage}
use Rattle.qos_handshakes.specs.declared.copies.Stage.TheVariants.{Waiting, Published, Released}
use Rattle.qos_handshakes.specs.Entries.{Entries, at_place}
use Rattle.qos_handshakes.specs.Outbox.{waiting}
use Rattle.session_rows.specs.Durable.{Durable, HasForm, IsDurable, IsSound}

-- the exchange of a Packet Identifier: its PUBLISH was sent, or its PUBREC came
abbrev pub IsExchange : ℕ → Stage → Type 0
IsExchange id Waiting = ⊥
IsExchange id (Published i) = i ≡ id
IsExchange id (Released i order) = i ≡ id

-- its PUBREC came in this order
abbrev pub IsReleasedAs : ℕ → Stage → Type 0
IsReleasedAs order Waiting = ⊥
IsReleasedAs order (Published id) = ⊥
IsReleasedAs order (Released id o) = o ≡ order

-- what holds of each entry by itself; no connection has sent it, and a PUBREC came for a PUBLISH at QoS 2 alone (MQTT 5.0, 4.3.3)
pub record FitsAt (next place : ℕ) (x : Entry) : Type 0 where
  pub first : 1 ≤ place
  pub last : place < next
  pub asked : (x.delivery.qos ≡ AtLeastOnce) ⊎ (x.delivery.qos ≡ ExactlyOnce)
  pub away : x.here ≡ false
  pub identifier : (id : ℕ) → IsExchange id x.stage → id ≢ 0
  pub order : (order : ℕ) → IsReleasedAs order x.stage → (1 ≤ order) × (order < 2 ^ 62) × (x.delivery.qos ≡ ExactlyOnce)

-- Places rise, and where an entry waits, one waits at each later place up to the next; no more than 65,536 wait. Exchanges have distinct
-- identifiers, and distinct orders of release.
pub record MakeASession (next : ℕ) (es : Entries) : Type 0 where
  pub least : 1 ≤ next
  pub most : next ≤ 2 ^ 62
  pub rise : IsStrictlySortedBy nat_cmp (keys_of es)
  pub each : (place : ℕ) (x : Entry) → at_place place es ≡ Some x → FitsAt next place x
  pub queue : (place : ℕ) (x : Entry) → at_place place es ≡ Some x → x.stage ≡ Waiting → (later : ℕ) → place ≤ later → later < next → IsSomeAnd (at_place later es) (λ y. y.stage ≡ Waiting)
  pub few : length (waiting es) ≤ 65536
  pub identifiers : (p q id : ℕ) (x y : Entry) → at_place p es ≡ Some x → at_place q es ≡ Some y → IsExchange id x.stage → IsExchange id y.stage → p ≡ q
  pub orders : (p q order : ℕ) (x y : Entry) → at_place p es ≡ Some x → at_place q es ≡ Some y → IsReleasedAs order x.stage → IsReleasedAs order y.stage → p ≡ q

-- the Packet Identifiers of exchanges in which a session receives, each once and none of them 0 (2.2.1)
pub record AreReceiving (ids : List ℕ) : Type 0 where
  pub rise : IsStrictlySortedBy nat_cmp ids
  pub each : AllByRecursion (λ id. (1 ≤ id) × (id < 65536)) ids

-- what is kept of a session in rows of the right form, with a will that can be published and a moment below 2^62: it is taken back exactly
-- where it may be that of a session
abbrev pub KeptWhereTheyMakeASession : Type 0
KeptWhereTheyMakeASession = (d : Durable) → HasForm d → IsSound d.main → IsDurable d ↔ (AreReceiving d.main.incoming × MakeASession d.main.next_place d.copies)
