-- Laws of what is sent to a peer.
use Rattle.std.specs.Prelude.{◌≡◌, ◌≢◌, ◌⊎◌, ◌+◌, ◌<◌, max, ℕ, suc, true, List, [], length, slice_get, Some}
use Rattle.std.specs.FinSet as set
use Rattle.causal_context.specs.Dots.{Dot, Dots}
use Rattle.replica_store.specs.States.{State}
use Rattle.bridge_frames.specs.declared.body.FrameBody.TheVariants as bodies
use Rattle.bridge_frames.specs.declared.forward.Forward.{Forward}
use Rattle.bridge_frames.specs.declared.frame.BridgeFrame.{BridgeFrame}
use Rattle.bridge_lanes.specs.Lanes.{Waits}
use Rattle.bridge_lanes.specs.Rows.{Messages}
use Rattle.bridge_deltas.specs.More.{frames_after}
use Rattle.bridge_deltas.specs.Shipped.{IsShipped}

-- the store, the deltas and what the peer is known to have taken determine it
abbrev pub ShippedIsOne : Type 0
ShippedIsOne = (belief : Dots) (deltas : List State) (store s t : State) → IsShipped belief deltas store s → IsShipped belief deltas store t → s ≡ t

-- the peer is known to have taken each dot of the store, or is sent it
abbrev pub ShippedIsEnough : Type 0
ShippedIsEnough = (belief : Dots) (deltas : List State) (store s : State) → IsShipped belief deltas store s → (q : Dot) → set.contains store.taken q ≡ true → (set.contains belief q ≡ true) ⊎ (set.contains s.taken q ≡ true)

-- the frames after a number have the messages that wait under the numbers after it, or after the last one that is gone, one after another
abbrev pub MoreFollows : Type 0
MoreFollows =
    (from to after k : ℕ) (l : Messages) (f : BridgeFrame) → slice_get (frames_after from to after l) k ≡ Some f
    → (m : Forward) × (f ≡ record { from = from; to = to; body = bodies.Forward (suc (max l.gone after + k)) m }) × Waits l (suc (max l.gone after + k)) m

-- and there is one as long as one waits
abbrev pub MoreGoesOn : Type 0
MoreGoesOn = (from to after : ℕ) (l : Messages) → max l.gone after < l.gone + length l.waiting → frames_after from to after l ≢ []
