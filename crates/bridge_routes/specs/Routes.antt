-- Which other nodes get a message, and what of it: the message itself, whether clients there have plain subscriptions that
-- match, with No Local too, and which of their clients are picked for shared groups.
use Rattle.std.specs.Prelude.{◌≡◌, ℕ, ◌+◌, ◌&&◌, ◌||◌, nat_eq, nat_le, Bool, true, false, if◌then◌else◌, List, [], ◌∷◌, length}
use Rattle.std.specs.List.{list_any}
use Rattle.bridge_frames.specs.declared.forward.Forward.{Forward}
use Rattle.bridge_frames.specs.declared.pick.Pick.{Pick}
use Rattle.bridge_frames.specs.Forwards.{forward}
use Rattle.home_table.specs.Homes.{IsHome}
use Rattle.home_table.specs.Table.{Table}
use Rattle.bridge_routes.specs.declared.groups.GroupPick.{GroupPick}
use Rattle.mqtt_message.specs.declared.message.Message.{Message}
use Rattle.bridge_routes.specs.declared.destinations.Destinations.{Destinations}
use Rattle.bridge_routes.specs.declared.destinations.HomedPick.{HomedPick}
use Rattle.bridge_routes.specs.declared.destinations.Route.{Route}
use Rattle.bridge_routes.specs.declared.destinations.Route.TheVariants.{Nothing, Lane, TooLarge}
use Rattle.subscription_set.specs.Entries.{Entry}

-- two lists of one length, with a relation at each place
abbrev pub Pairwise : {A B : Type 0} → (A → B → Type 0) → List A → List B → Type 0
Pairwise P [] [] = Unit {0}
Pairwise P [] (y ∷ ys) = ⊥
Pairwise P (x ∷ xs) [] = ⊥
Pairwise P (x ∷ xs) (y ∷ ys) = P x y × Pairwise P xs ys

-- the home of a subscription's client
abbrev pub IsHomeOf : Table → Entry → ℕ → Type 0
IsHomeOf t e home = IsHome t e.client home

-- a pick as another node is told of it: the client, and the whole filter of its shared subscription
abbrev pub pick_to : GroupPick → Pick
pick_to x = record { client = x.client; filter = x.filter }

abbrev pub IsHomed : Table → GroupPick → HomedPick → Type 0
IsHomed t x y = (y.pick ≡ pick_to x) × IsHome t x.client y.home

-- the homes of the clients of plain subscriptions that match, and of the clients that are picked
abbrev pub AreFor : Table → List Entry → List GroupPick → Destinations → Type 0
AreFor t matching picks d = Pairwise (IsHomeOf t) matching d.homes.items × Pairwise (IsHomed t) picks d.picks.items

-- one of the homes is the node
abbrev pub is_at : ℕ → List ℕ → Bool
is_at node homes = list_any (λ home. nat_eq home node) homes

-- the picks whose clients have their home at the node
abbrev pub picks_at : ℕ → List HomedPick → List Pick
picks_at node [] = []
picks_at node (x ∷ xs) = if nat_eq x.home node then x.pick ∷ picks_at node xs else picks_at node xs

-- what the node is to get of a message
abbrev pub forward_at : ℕ → Message → Destinations → Forward
forward_at node m d = record { plain = is_at node d.homes.items; picks = picks_at node d.picks.items; message = m }

abbrev pub has_pick : List Pick → Bool
has_pick [] = false
has_pick (x ∷ xs) = true

-- a client there is to have it
abbrev pub is_wanted : Forward → Bool
is_wanted f = f.plain || has_pick f.picks

-- the bytes of its frame after the length: the kind in one, the two nodes in two each, the number in eight, and the message
abbrev pub frame_length : Forward → ℕ
frame_length f = 13 + length (forward.bytes f)

-- at most 65,535 picks and 2,097,152 bytes
abbrev pub fits : Forward → Bool
fits f = nat_le (length f.picks) 65535 && nat_le (frame_length f) 2097152

abbrev pub route_of : Forward → Route
route_of f = if is_wanted f then (if fits f then Lane f else TooLarge) else Nothing
