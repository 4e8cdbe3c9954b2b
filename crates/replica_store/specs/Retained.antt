-- Retained messages: of each topic the entry with the greatest stamp.
use Rattle.std.specs.Prelude.{◌≡◌, ℕ, Bool, false, max, is_some, List, option_and_then, [], ◌∷◌, Option, Some, None, refl}
use Rattle.std.specs.List.{filter}
use Rattle.std.specs.Option.{option_cmp}
use Rattle.std.specs.Coded.{Coded, code_by, coded×, coded_ℕ, coded_list, coded_option}
use Rattle.std.specs.declared.cmp.Ordering.{Ordering}
use Rattle.std.specs.Ordering.{nat_cmp, then_cmp, on}
use Rattle.std.specs.Cmp.Lexicographic.{slice_cmp}
use Rattle.std.specs.FinMap.{FinMap}
use Rattle.std.specs.FinMap as map
use Rattle.causal_context.specs.MapLattice.{merge, MapBelow}
use Rattle.causal_context.specs.OrderLattice.{NotAbove, greater}
use Rattle.mqtt_message.specs.declared.message.Message.{Message}
use Rattle.mqtt_message.specs.Expiry.{IsBefore}
use Rattle.mqtt_message.specs.Order.{message_cmp}
use Rattle.mqtt_message.specs.Codes.{coded_message}
use Rattle.replica_store.specs.Stamps.{Stamp, stamp_cmp, coded_stamp}
use Rattle.replica_store.specs.declared.kept.Kept.{Kept}

-- a tombstone is below each message
abbrev pub content_cmp : Option Message → Option Message → Ordering
content_cmp = option_cmp message_cmp

-- which of two entries is the greater: by the stamp, and for equal stamps by the content
abbrev pub kept_cmp : Kept → Kept → Ordering
kept_cmp = then_cmp (on (λ k. k.stamp) stamp_cmp) (on (λ k. k.message) content_cmp)

-- by the bytes
abbrev pub topic_cmp : List ℕ → List ℕ → Ordering
topic_cmp = slice_cmp nat_cmp

-- of each topic that was put, its entry
abbrev pub Retained : Type 0
Retained = FinMap topic_cmp Kept

-- the greater entry of each topic, an absent one being least
unfoldable pub retained_join : Retained → Retained → Retained
retained_join = merge (greater kept_cmp)

-- each topic's entry is at most the other's
abbrev pub RetainedBelow : Retained → Retained → Type 0
RetainedBelow = MapBelow (NotAbove kept_cmp)

-- one entry of one topic
unfoldable pub one_put : List ℕ → Kept → Retained
one_put topic kept = map.insert map.empty topic kept

-- alive: there is no deadline, or it hasn't come
abbrev pub IsAlive : Message → ℕ → Type 0
IsAlive m now = IsBefore now m.deadline

-- the message of an entry, if there is one and it is alive
pub record HasAlive (kept : Option Kept) (now : ℕ) (m : Message) : Type 0 where
  pub message : option_and_then (λ k. k.message) kept ≡ Some m
  pub alive : IsAlive m now

-- each message is under its own topic
abbrev pub HaveOwnTopics : Retained → Type 0
HaveOwnTopics r = (topic : List ℕ) (m : Message) → option_and_then (λ k. k.message) (map.get r topic) ≡ Some m → m.topic ≡ topic

-- there is an entry with a message
abbrev pub holds_message : Option Kept → Bool
holds_message None = false
holds_message (Some kept) = is_some kept.message

-- the topics that have a message, alive or not
abbrev pub with_message : List (List ℕ × Kept) → List (List ℕ × Kept)
with_message es = filter (λ e. is_some e.1.message) es

-- the greatest count of a stamp, 0 where there is none
abbrev pub greatest_count : List (List ℕ × Kept) → ℕ
greatest_count [] = 0
greatest_count (e ∷ es) = max e.1.stamp.count (greatest_count es)

abbrev pub coded_kept : Coded Kept
coded_kept = code_by (Stamp × Option Message) (coded× coded_stamp (coded_option coded_message)) (λ k. (k.stamp, k.message)) (λ p. record { stamp = p.0; message = p.1 }) (λ _. refl)

abbrev pub coded_retained : Coded Retained
coded_retained = map.code (coded_list coded_ℕ) coded_kept
