-- How a message is passed on (MQTT 5.0, 3.3.1.3, 3.3.2.3.3, 3.3.4 and 4.8.2).
use Rattle.std.specs.Prelude.{ℕ, Bool, ◌&&◌, not, List, map as map_list, Option}
use Rattle.bridge_frames.specs.declared.forward.Forward.{Forward}
use Rattle.bridge_routes.specs.declared.destinations.Destinations.{Destinations}
use Rattle.bridge_routes.specs.declared.destinations.Route.{Route}
use Rattle.bridge_routes.specs.Routes.{forward_at, route_of}
use Rattle.mqtt_message.specs.declared.message.Message.{Message}
use Rattle.mqtt_message.specs.Expiry.{IsBefore}
use Rattle.bridge_routes.specs.declared.plain.PlainCopy.{PlainCopy as Copy}
use Rattle.node_work.specs.Acts.{Bridge, Passed, Dropped}
use Rattle.node_work.specs.Calling.{Queues}
use Rattle.node_work.specs.Doings.{MakesPut, Routes}
use Rattle.node_work.specs.Handed.{IsHanded}
use Rattle.node_work.specs.Held.Bridge.{Took}
use Rattle.node_work.specs.Passing.{IsPassed, others, turn_at_end, content_given, has_room}
use Rattle.node_work.specs.View.{Place, HeldView}
use Rattle.node_work.specs.Working.{Doing, Returns, Acting, Numbered, Looks, FindsWhere, If, Where, Then, Each}

-- with RETAIN its topic is given the message, or with an empty payload none
abbrev pub Retains : Message → Option (Unit {0}) → Doing
Retains m = If m.retain (MakesPut (content_given m)) (Returns tt)

-- what is made of a message: its copies here, how many picks are lost, and what goes to each other node
abbrev pub Made : Type 0
Made = List Copy × (ℕ × List (ℕ × Route))

abbrev pub AreMade : Message → Place → HeldView → Made → Type 0
AreMade m p h x = IsPassed p h m x.0 x.1.0 x.1.1

-- what goes to a node, and to each other node of the cluster
abbrev pub route_to : Message → Destinations → ℕ → ℕ × Route
route_to m d peer = (peer, route_of (forward_at peer m d))

abbrev pub routes_to : Place → Message → Destinations → List (ℕ × Route)
routes_to p m d = map_list (route_to m d) (others p)

-- the copies join their sessions one by one, and then what goes to other nodes joins their lanes
abbrev pub MakesCopies : Message → Made → Option (Unit {0}) → Doing
MakesCopies m x = Then (Numbered turn_at_end (λ p h. Passed m x.0 x.1.0 x.1.1)) (λ _. Then (Queues x.0) (λ _. Each Routes x.1.1))

abbrev pub Copies : Message → Option (Unit {0}) → Doing
Copies m = FindsWhere (AreMade m) (MakesCopies m)

-- a message whose deadline has passed goes no further
abbrev pub CopiesAt : Message → ℕ → Option (Unit {0}) → Doing
CopiesAt m at = Where (IsBefore at m.deadline) (Copies m) (Returns tt)

abbrev pub Passes : Message → Option (Unit {0}) → Doing
Passes m = Then (Retains m) (λ _. Looks (λ p h. h.at) (CopiesAt m))

-- a retained message for whose topic there is no room is dropped, and counted
abbrev pub Drops : Option (Unit {0}) → Doing
Drops = Acting (λ p h. Dropped)

abbrev pub lacks_room : Message → HeldView → Bool
lacks_room m h = m.retain && not (has_room m.topic h.store)

-- a will is dropped where there is no room for it
abbrev pub PassesWill : Message → Option (Unit {0}) → Doing
PassesWill m = Looks (λ p h. lacks_room m h) (λ lacks. If lacks Drops (Passes m))

-- ---- a message from another node: it is taken, and its copies join their sessions
abbrev pub IsHandedOver : Forward → Place → HeldView → List Copy × ℕ → Type 0
IsHandedOver m p h x = IsHanded h m x.0 x.1

abbrev pub TakesCopies : ℕ → ℕ → Forward → List Copy × ℕ → Option (Unit {0}) → Doing
TakesCopies from number m x = Then (Acting (λ p h. Bridge (Took from number m x.0 x.1))) (λ _. Queues x.0)

abbrev pub TakesForward : ℕ → ℕ → Forward → Option (Unit {0}) → Doing
TakesForward from number m = FindsWhere (IsHandedOver m) (TakesCopies from number m)
