-- What a frame of a run says that its sender has taken, and what that comes to.
use Rattle.std.specs.Prelude.{◌≡◌, ◌≢◌, ℕ, ◌<◌, List, true, length, Some}
use Rattle.std.specs.FinSet as set
use Rattle.bridge_frames.specs.declared.body.FrameBody.TheVariants.{Hello, Know}
use Rattle.bridge_frames.specs.declared.frame.BridgeFrame.{BridgeFrame}
use Rattle.bridge_frames.specs.declared.greeting.Greeting.{Greeting}
use Rattle.bridge_frames.specs.Frames.{frame_in}
use Rattle.causal_context.specs.Dots.{Dot, Dots}
use Rattle.node_bridge.specs.View.{belief_of}
use Rattle.node_work.specs.declared.frame.Frame.{Frame}
use Rattle.node_work.specs.View.{HeldView}
use Rattle.cluster_play.specs.Agreement.{Holds}
use Rattle.cluster_play.specs.Worlds.{World, nth_from_one}
use Rattle.cluster_play.specs.Runs.{Played}
use Rattle.cluster_play.specs.Histories.{Reached}
use Rattle.cluster_play.specs.CatchingUp.{FrameArrives}

-- a Know frame that was released
pub record IsKnow (w : World) (f : BridgeFrame) (dots : Dots) : Type 0 where
  pub number : ℕ
  pub sent : Frame
  pub released : nth_from_one w.frames number ≡ Some sent
  pub read : frame_in sent.bytes ≡ Some f
  pub body : f.body ≡ Know dots

-- it names none but nodes of the cluster
abbrev pub KnowsNameNodes : Type 0
KnowsNameNodes =
    (run : List Played) (w : World) → Reached run w → (f : BridgeFrame) (dots : Dots) → IsKnow w f dots
    → (f.from < length w.sites) × ((d : Dot) → set.contains dots d ≡ true → d.node < length w.sites)

-- a node believes what it did, and of one node that it has taken these dots too; and it counts no frame as bad
pub record HasBelieved (before after : HeldView) (from : ℕ) (dots : Dots) : Type 0 where
  pub belief : belief_of after.bridge from ≡ set.union (belief_of before.bridge from) dots
  pub others : (peer : ℕ) → peer ≢ from → belief_of after.bridge peer ≡ belief_of before.bridge peer
  pub counted : after.counts.bad_frames ≡ before.counts.bad_frames

-- once it comes to its receiver, another node than its sender, that has started
abbrev pub KnowsAreBelieved : Type 0
KnowsAreBelieved =
    (run : List Played) (w w' : World) (m : Played) → Reached run w → (f : BridgeFrame) (dots : Dots) → IsKnow w f dots → f.from ≢ f.to
    → (a : FrameArrives w f m w') (after : HeldView) → Holds w' f.to after → HasBelieved a.held after f.from dots

-- ---- where a link begins
-- a Hello frame that was released
pub record IsHello (w : World) (f : BridgeFrame) (g : Greeting) : Type 0 where
  pub number : ℕ
  pub sent : Frame
  pub released : nth_from_one w.frames number ≡ Some sent
  pub read : frame_in sent.bytes ≡ Some f
  pub body : f.body ≡ Hello g

abbrev pub HellosNameNodes : Type 0
HellosNameNodes =
    (run : List Played) (w : World) → Reached run w → (f : BridgeFrame) (g : Greeting) → IsHello w f g
    → (f.from < length w.sites) × ((d : Dot) → set.contains g.dots d ≡ true → d.node < length w.sites)

-- a node believes of one node that it has taken these dots and no others, and of another one what it did; and it counts no frame as bad
pub record HasHeard (before after : HeldView) (from : ℕ) (dots : Dots) : Type 0 where
  pub belief : belief_of after.bridge from ≡ dots
  pub others : (peer : ℕ) → peer ≢ from → belief_of after.bridge peer ≡ belief_of before.bridge peer
  pub bad : after.counts.bad_frames ≡ before.counts.bad_frames

abbrev pub HellosAreBelieved : Type 0
HellosAreBelieved =
    (run : List Played) (w w' : World) (m : Played) → Reached run w → (f : BridgeFrame) (g : Greeting) → IsHello w f g → f.from ≢ f.to
    → (a : FrameArrives w f m w') (after : HeldView) → Holds w' f.to after → HasHeard a.held after f.from g.dots
