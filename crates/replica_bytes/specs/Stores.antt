-- The bytes of a state.
use Rattle.std.specs.Prelude.{◌&&◌, ◌<◌, ◌^◌, ℕ, Bool, List, length, Result, Ok, Err, if◌then◌else◌}
use Rattle.std.specs.Int.{w32}
use Rattle.std.specs.List.{list_all}
use Rattle.std.specs.FinSet as set
use Rattle.std.specs.FinMap as map
use Rattle.mqtt_fields.specs.declared.fault.FieldFault.{FieldFault}
use Rattle.mqtt_fields.specs.declared.fault.FieldFault.TheVariants.{Malformed}
use Rattle.mqtt_fields.specs.Field.{Field, after, tested, seen}
use Rattle.causal_context.specs.Dots.{Dot, Dots, dot_cmp}
use Rattle.causal_context.specs.Spelling.{context}
use Rattle.subscription_set.specs.declared.entry.Entry.{Entry}
use Rattle.subscription_set.specs.Standing.{statuses, seen_of, standing}
use Rattle.subscription_set.specs.Statuses.{Statuses}
use Rattle.replica_store.specs.declared.kept.Kept.{Kept}
use Rattle.replica_store.specs.Retained.{Retained, topic_cmp}
use Rattle.replica_store.specs.States.{State}
use Rattle.replica_bytes.specs.Spelling.{listed_by}
use Rattle.replica_bytes.specs.Values.{dot_entry, topic_entry}

-- the dots rise, and each was seen
unfoldable pub is_set : Dots → List (Dot × Entry) → Bool
is_set seen es = map.is_sorted dot_cmp es && list_all (λ e. set.contains seen e.0) es

-- what stands, by the dots: how many there are, in four bytes, and each after its dot
abbrev pub entries : Dots → Field (List (Dot × Entry))
entries seen = tested (is_set seen) Malformed (listed_by w32 dot_entry)

abbrev pub set_in : Dots → List (Dot × Entry) → Result Statuses FieldFault
set_in seen es = if is_set seen es then Ok (statuses seen es) else Err Malformed

-- subscriptions: the dots that were seen, and what stands
unfoldable pub subscriptions : Field Statuses
subscriptions = seen (λ x. statuses x.0 x.1) (λ m. (seen_of m, standing m)) (after context entries)

abbrev pub retained_in : List (List ℕ × Kept) → Result Retained FieldFault
retained_in es = if map.is_sorted topic_cmp es then Ok (map.from_sorted es) else Err Malformed

-- retained messages, by the bytes of the topics: how many topics there are, in four bytes, and each with what is kept of it
unfoldable pub retained : Field Retained
retained = seen map.from_sorted map.entries (tested (map.is_sorted topic_cmp) Malformed (listed_by w32 topic_entry))

-- each of the dots was seen
unfoldable pub have_seen : Dots → Statuses → Bool
have_seen dots m = list_all (set.contains (seen_of m)) (set.items dots)

-- subscriptions, where each of these dots was seen
unfoldable pub seeing : Dots → Field Statuses
seeing dots = tested (have_seen dots) Malformed subscriptions

-- a state: the dots that were taken, the subscriptions, where each of these dots was seen, and the retained messages
unfoldable pub state : Field State
state = seen (λ x. record { taken = x.0; subscriptions = x.1.0; retained = x.1.1 }) (λ s. (s.taken, (s.subscriptions, s.retained))) (after context (λ taken. after (seeing taken) (λ _. retained)))

-- there are no more subscriptions, and no more topics, than four bytes can count
pub record IsCounted (s : State) : Type 0 where
  pub subscriptions : length (standing s.subscriptions) < 2 ^ 32
  pub topics : map.len s.retained < 2 ^ 32
