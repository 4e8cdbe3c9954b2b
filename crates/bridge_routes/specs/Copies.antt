-- Which clients get a copy of a message by their plain subscriptions (MQTT 5.0, 3.3.4 and 3.8.3.1).
use Rattle.std.specs.Prelude.{◌≡◌, ℕ, true, List, map as map_list}
use Rattle.mqtt_fields.specs.Options.{no_local_of}
use Rattle.mqtt_message.specs.declared.message.Message.{Message}
use Rattle.mqtt_topics.specs.Topics.{IsShared}
use Rattle.mqtt_topics.specs.Matching.{Matches}
use Rattle.filter_trie.specs.Selected.{IsSelected}
use Rattle.subscription_set.specs.Entries.{Entry}
use Rattle.subscription_set.specs.Standing.{Entries}
use Rattle.bridge_routes.specs.declared.plain.PlainCopy.{PlainCopy}
use Rattle.bridge_routes.specs.Deliveries.{copy_for}
use Rattle.bridge_routes.specs.Gathered.{by_client}

-- a subscription that matches
abbrev pub IsFor : Message → Entry → Type 0
IsFor m e = Matches e.filter m.topic

-- a plain one that does
abbrev pub IsPlainFor : Message → Entry → Type 0
IsPlainFor m e = (IsShared e.filter → ⊥) × IsFor m e

-- No Local leaves out what the client published itself (3.8.3.1)
abbrev pub IsOwnLocal : Message → Entry → Type 0
IsOwnLocal m e = (no_local_of e.options ≡ true) × (e.client ≡ m.publisher)

abbrev pub Counts : Message → Entry → Type 0
Counts m e = IsPlainFor m e × (IsOwnLocal m e → ⊥)

-- subscriptions without their dots
abbrev pub entries_in : Entries → List Entry
entries_in live = map_list (λ x. x.1) live

-- the live subscriptions with a property
abbrev pub AreLive : (Entry → Type 0) → Entries → List Entry → Type 0
AreLive P live out = IsSelected P (entries_in live) out

abbrev pub plain_copy : Message → List ℕ × List Entry → PlainCopy
plain_copy m x = record { client = x.0; delivery = copy_for m x.1 }

-- a plain one that counts where it matches
abbrev pub MayCount : Message → Entry → Type 0
MayCount m e = (IsShared e.filter → ⊥) × (IsOwnLocal m e → ⊥)

-- one copy for each client with one that counts of some subscriptions that match, in the order of the clients' bytes
abbrev pub AreCopiesAmong : List Entry → Message → List PlainCopy → Type 0
AreCopiesAmong found m out = (counted : List Entry) × IsSelected (MayCount m) found counted × (out ≡ map_list (plain_copy m) (by_client counted))

-- one copy for each client with a live subscription that counts, in the order of the clients' bytes
abbrev pub AreCopies : Entries → Message → List PlainCopy → Type 0
AreCopies live m out = (counted : List Entry) × AreLive (Counts m) live counted × (out ≡ map_list (plain_copy m) (by_client counted))
