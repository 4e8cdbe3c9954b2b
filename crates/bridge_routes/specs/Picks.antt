-- Which member of each shared group gets a message (MQTT 5.0, 4.8.2).
use Rattle.std.specs.Prelude.{◌≡◌, ℕ, ◌%◌, List, [], ◌∷◌, length, slice_get, Option, Some, None}
use Rattle.std.specs.List.{flat_map, AllByRecursion}
use Rattle.mqtt_message.specs.declared.message.Message.{Message}
use Rattle.mqtt_topics.specs.Topics.{IsShared}
use Rattle.subscription_set.specs.Entries.{Entry}
use Rattle.subscription_set.specs.Standing.{Entries}
use Rattle.bridge_routes.specs.declared.groups.GroupPick.{GroupPick}
use Rattle.bridge_routes.specs.Copies.{AreLive, IsFor}
use Rattle.bridge_routes.specs.Deliveries.{copy_for}
use Rattle.bridge_routes.specs.Gathered.{by_client, by_group}

-- a shared subscription that matches
abbrev pub IsSharedFor : Message → Entry → Type 0
IsSharedFor m e = IsShared e.filter × IsFor m e

-- a client of a group with what it has there: its copy by its own subscription
abbrev pub pick_by : Message → List ℕ → List Entry → List GroupPick
pick_by m client [] = []
pick_by m client (e ∷ es) = record { client = client; filter = e.filter; delivery = copy_for m (e ∷ es) } ∷ []

abbrev pub pick_of : Message → Option (List ℕ × List Entry) → List GroupPick
pick_of m None = []
pick_of m (Some x) = pick_by m x.0 x.1

-- of a group's members, in the order of their clients' bytes, the one in the place `turn mod size`
abbrev pub picked : ℕ → List Entry → Option (List ℕ × List Entry)
picked turn es = slice_get (by_client es) (turn % length (by_client es))

-- the filters are those of shared subscriptions
abbrev pub AreShared : List GroupPick → Type 0
AreShared picks = AllByRecursion (λ x. IsShared x.filter) picks

-- one pick for each group with a live subscription that matches, in the order of the groups' names and then of their filters
abbrev pub ArePicks : ℕ → Entries → Message → List GroupPick → Type 0
ArePicks turn live m out = (shared : List Entry) × AreLive (IsSharedFor m) live shared × (out ≡ flat_map (λ g. pick_of m (picked turn g.1)) (by_group shared))
