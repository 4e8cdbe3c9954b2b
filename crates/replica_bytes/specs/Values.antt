-- The bytes of dots, of subscriptions, and of what is kept of a topic.
use Rattle.std.specs.Prelude.{ℕ, ◌^◌, ◌&&◌, nat_le, nat_lt, List, Bool, true, Option, Some, None, Result, Ok, Err, if◌then◌else◌, IsTrue}
use Rattle.std.specs.Int.{w8, w16, w32, w64}
use Rattle.std.specs.Str.{bytes_eq}
use Rattle.mqtt_fields.specs.declared.fault.FieldFault.{FieldFault}
use Rattle.mqtt_fields.specs.declared.fault.FieldFault.TheVariants.{Malformed}
use Rattle.mqtt_fields.specs.Field.{Field, after, tested, seen}
use Rattle.mqtt_fields.specs.Numbers.{number, text}
use Rattle.mqtt_message.specs.declared.message.Message.{Message}
use Rattle.mqtt_message.specs.Spelling.{optional}
use Rattle.mqtt_message.specs.Parts.{name}
use Rattle.mqtt_message.specs.Spellings.{message}
use Rattle.causal_context.specs.Dots.{Dot}
use Rattle.subscription_set.specs.declared.entry.Entry.{Entry}
use Rattle.subscription_set.specs.Entries.{can_be_asked}
use Rattle.replica_store.specs.declared.kept.Kept.{Kept}
use Rattle.replica_store.specs.Stamps.{Stamp}
use Rattle.mqtt_topics.specs.Testing.{is_filter}

-- a number that dots have, and counts of stamps
abbrev pub is_number : ℕ → Bool
is_number n = nat_le 1 n && nat_lt n (2 ^ 62)

abbrev pub dot_in : ℕ → ℕ → Result Dot FieldFault
dot_in node n = if is_number n then Ok (record { node = node; number = n }) else Err Malformed

-- its node in two bytes, and its number, from 1 to 2^62 - 1, in eight
abbrev pub dot : Field Dot
dot = seen (λ x. record { node = x.0; number = x.1 }) (λ d. (d.node, d.number)) (tested (λ x. is_number x.1) Malformed (after (number w16) (λ _. number w64)))

-- a string that is a topic filter
abbrev pub filter : Field (List ℕ)
filter = tested is_filter Malformed text

abbrev pub filter_in : List ℕ → Result (List ℕ) FieldFault
filter_in t = if is_filter t then Ok t else Err Malformed

-- options in a byte and a Subscription Identifier in four (0: none), such as a SUBSCRIBE can have, and the version of the home
-- table in four
abbrev pub asked : Field ((ℕ × ℕ) × ℕ)
asked = tested (λ x. can_be_asked x.0.0 x.0.1) Malformed (after (after (number w8) (λ _. number w32)) (λ _. number w32))

-- what follows the client of a subscription: its filter, options, identifier and version
abbrev pub Subscription : Type 0
Subscription = List ℕ × ((ℕ × ℕ) × ℕ)

abbrev pub subscription_in : Entry → Subscription
subscription_in e = (e.filter, ((e.options, e.identifier), e.version))

abbrev pub entry_in : List ℕ × Subscription → Entry
entry_in x = record { client = x.0; filter = x.1.0; options = x.1.1.0.0; identifier = x.1.1.0.1; version = x.1.1.1 }

abbrev pub subscription : Field Subscription
subscription = after filter (λ _. asked)

-- a client's subscription, without the client
abbrev pub entry_of_client : List ℕ → Field Entry
entry_of_client client = seen (λ x. entry_in (client, x)) subscription_in subscription

-- a subscription: its client, and what follows
unfoldable pub entry : Field Entry
entry = seen entry_in (λ e. (e.client, subscription_in e)) (after text (λ _. subscription))

-- there is no message, or one of this topic
abbrev pub has_topic : List ℕ → Option Message → Bool
has_topic topic None = true
has_topic topic (Some m) = bytes_eq m.topic topic

abbrev pub stamp_in : ℕ → ℕ → Result Stamp FieldFault
stamp_in count node = if is_number count then Ok (record { count = count; node = node }) else Err Malformed

-- its count, from 1 to 2^62 - 1, in eight bytes, and its node in two
abbrev pub stamp : Field Stamp
stamp = seen (λ x. record { count = x.0; node = x.1 }) (λ s. (s.count, s.node)) (tested (λ x. is_number x.0) Malformed (after (number w64) (λ _. number w16)))

abbrev pub kept_in : Stamp × Option Message → Kept
kept_in x = record { stamp = x.0; message = x.1 }

-- what is kept of a topic: its stamp, and the message, if there is one
unfoldable pub kept : List ℕ → Field Kept
kept topic = seen kept_in (λ k. (k.stamp, k.message)) (after stamp (λ _. tested (has_topic topic) Malformed (optional message)))

-- a topic, and what is kept of it
abbrev pub topic_entry : Field (List ℕ × Kept)
topic_entry = after name kept

-- a dot, and the subscription at it
abbrev pub dot_entry : Field (Dot × Entry)
dot_entry = after dot (λ _. entry)

-- what is kept of a topic is a message of it, or none
abbrev pub IsOwn : List ℕ × Kept → Type 0
IsOwn x = IsTrue (has_topic x.0 x.1.message)
