-- What nodes tell one another.
use Rattle.std.specs.Prelude.{ℕ, List, Option, Some, None}
use Rattle.bridge_deltas.specs.Lane.{first_frames}
use Rattle.bridge_deltas.specs.More.{frames_after}
use Rattle.bridge_frames.specs.declared.body.FrameBody.{FrameBody}
use Rattle.bridge_frames.specs.declared.body.FrameBody.TheVariants.{Hello, Delta, Know, Forward, Got}
use Rattle.bridge_frames.specs.declared.forward.Forward.{Forward as Message}
use Rattle.bridge_frames.specs.declared.frame.BridgeFrame.{BridgeFrame}
use Rattle.bridge_frames.specs.declared.greeting.Greeting.{Greeting}
use Rattle.bridge_frames.specs.Frames.{frame_in}
use Rattle.node_bridge.specs.View.{IsToShip, is_next, lane_to}
use Rattle.replica_store.specs.States.{State}
use Rattle.node_work.specs.declared.counts.Missed.TheVariants.{BadFrame}
use Rattle.node_work.specs.Acts.{Store, Merged, Bridge}
use Rattle.node_work.specs.Doings.{GivesBody, GivesFrame, Misses}
use Rattle.node_work.specs.Frames.{is_for_node, is_other}
use Rattle.node_work.specs.Held.Bridge.{Believed, Greeted, Got as GotBy, hello_to}
use Rattle.node_work.specs.View.{Place, HeldView}
use Rattle.node_work.specs.Working.{Doing, Returns, Acting, Looks, FindsWhere, If, Then, Each}
use Rattle.node_clients.specs.Passing.{TakesForward}

-- ---- of its own accord

-- a new link to another node of the cluster begins with what this node says of itself
abbrev pub Greets : ℕ → Option (Unit {0}) → Doing
Greets peer = Looks (λ p h. is_other p peer) (λ other. If other (GivesBody peer (hello_to peer)) (Returns tt))

-- what another node may lack of the state goes to it, if there is any
abbrev pub AreShipped : ℕ → Place → HeldView → Option State → Type 0
AreShipped peer p h s = IsToShip peer h.bridge h.store s

abbrev pub GivesState : ℕ → Option State → Option (Unit {0}) → Doing
GivesState peer None = Returns tt
GivesState peer (Some s) = GivesBody peer (λ h. Delta s)

abbrev pub ShipsState : ℕ → Option (Unit {0}) → Doing
ShipsState peer = FindsWhere (AreShipped peer) (GivesState peer)

-- and then the first 64 messages that wait for it
abbrev pub ShipsMessages : ℕ → Option (Unit {0}) → Doing
ShipsMessages peer = Looks (λ p h. first_frames p.id peer (lane_to h.bridge peer)) (Each GivesFrame)

abbrev pub ShipsTo : ℕ → Option (Unit {0}) → Doing
ShipsTo peer = Then (ShipsState peer) (λ _. ShipsMessages peer)

abbrev pub Ships : ℕ → Option (Unit {0}) → Doing
Ships peer = Looks (λ p h. is_other p peer) (λ other. If other (ShipsTo peer) (Returns tt))

-- in place of these those that wait under numbers above one
abbrev pub ShipsLater : ℕ → ℕ → Option (Unit {0}) → Doing
ShipsLater peer after = Looks (λ p h. frames_after p.id peer after (lane_to h.bridge peer)) (Each GivesFrame)

abbrev pub ShipsMoreTo : ℕ → ℕ → Option (Unit {0}) → Doing
ShipsMoreTo peer after = Then (ShipsState peer) (λ _. ShipsLater peer after)

abbrev pub ShipsMore : ℕ → ℕ → Option (Unit {0}) → Doing
ShipsMore peer after = Looks (λ p h. is_other p peer) (λ other. If other (ShipsMoreTo peer after) (Returns tt))

-- ---- frames that come

-- the dots that are taken now are told
abbrev pub TellsTaken : ℕ → Option (Unit {0}) → Doing
TellsTaken from = GivesBody from (λ h. Know h.store.taken)

-- a delta is merged, and answered with the dots that are taken then
abbrev pub Merges : ℕ → State → Option (Unit {0}) → Doing
Merges from s = Then (Acting (λ p h. Store (Merged s))) (λ _. TellsTaken from)

-- a message is taken where its number is the next of its lane; any is answered with the number of the last one that was taken
abbrev pub TakesNext : ℕ → ℕ → Message → Option (Unit {0}) → Doing
TakesNext from number m = Looks (λ p h. is_next from number h.bridge) (λ next. If next (TakesForward from number m) (Returns tt))

abbrev pub TakesMessage : ℕ → ℕ → Message → Option (Unit {0}) → Doing
TakesMessage from number m = Then (TakesNext from number m) (λ _. GivesBody from (λ h. Got (lane_to h.bridge from).took))

-- what another node says that it has stands in place of what was known of it, and is answered with the dots that are taken here
abbrev pub TakesHello : ℕ → Greeting → Option (Unit {0}) → Doing
TakesHello from g = Then (Acting (λ p h. Bridge (Greeted from g))) (λ _. TellsTaken from)

abbrev pub TakesBody : ℕ → FrameBody → Option (Unit {0}) → Doing
TakesBody from (Hello g) = TakesHello from g
TakesBody from (Delta s) = Merges from s
TakesBody from (Know dots) = Acting (λ p h. Bridge (Believed from dots))
TakesBody from (Forward number m) = TakesMessage from number m
TakesBody from (Got number) = Acting (λ p h. Bridge (GotBy from number))

-- a frame for this node from another one is taken; another frame, also one that names a node that the cluster lacks, and bytes that are no
-- frame, are dropped and counted
abbrev pub HearsFrame : Option BridgeFrame → Option (Unit {0}) → Doing
HearsFrame None = Misses BadFrame
HearsFrame (Some frame) = Looks (λ p h. is_for_node p frame) (λ here. If here (TakesBody frame.from frame.body) (Misses BadFrame))

abbrev pub Hears : List ℕ → Option (Unit {0}) → Doing
Hears bytes = HearsFrame (frame_in bytes)
