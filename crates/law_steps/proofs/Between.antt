-- What holds of frames that come and go, by what holds of their parts.
use Rattle.std.proofs.Common.{ℕ, List, Option, Some, None}
use Rattle.bridge_deltas.specs.Lane.{first_frames}
use Rattle.bridge_deltas.specs.More.{frames_after}
use Rattle.bridge_frames.specs.declared.body.FrameBody.{FrameBody}
use Rattle.bridge_frames.specs.declared.body.FrameBody.TheVariants.{Hello, Delta, Know, Forward as Carried, Got}
use Rattle.bridge_frames.specs.declared.forward.Forward.{Forward}
use Rattle.bridge_frames.specs.declared.frame.BridgeFrame.{BridgeFrame}
use Rattle.bridge_frames.specs.declared.greeting.Greeting.{Greeting}
use Rattle.bridge_frames.specs.Frames.{frame_in}
use Rattle.causal_context.specs.Dots.{Dots}
use Rattle.bridge_routes.specs.declared.plain.PlainCopy.{PlainCopy as Copy}
use Rattle.node_bridge.specs.View.{is_next, lane_to}
use Rattle.replica_store.specs.States.{State}
use Rattle.node_work.specs.declared.counts.Missed.TheVariants.{BadFrame, FrameTooLarge}
use Rattle.node_work.specs.Acts.{Store, Bridge, Merged}
use Rattle.node_work.specs.Calling.{Queues}
use Rattle.node_work.specs.Doings.{GivesBody, GivesFrame, Misses, is_small}
use Rattle.node_work.specs.Frames.{is_for_node, is_other}
use Rattle.node_work.specs.Held.Bridge.{Took, Got as GotBy, Believed, Greeted, Gave, hello_to}
use Rattle.node_work.specs.View.{HeldView}
use Rattle.node_work.specs.Working.{Doing, Returns, Acting, If, Each}
use Rattle.node_clients.specs.Passing as passing
use Rattle.broker_node.specs.Bridge as bridge
use Rattle.law_steps.proofs.Below.{Low, each, queues_all}

pub record Mid (K : (A : Type 0) → (Option A → Doing) → Type 0) : Type 0 where
  pub gave : (f : BridgeFrame) → K (Unit {0}) (Acting (λ p h. Bridge (Gave f)))
  pub took : (from number : ℕ) (m : Forward) (copies : List Copy) (lost : ℕ) → K (Unit {0}) (Acting (λ p h. Bridge (Took from number m copies lost)))
  pub merged : (s : State) → K (Unit {0}) (Acting (λ p h. Store (Merged s)))
  pub believed : (from : ℕ) (dots : Dots) → K (Unit {0}) (Acting (λ p h. Bridge (Believed from dots)))
  pub greeted : (from : ℕ) (g : Greeting) → K (Unit {0}) (Acting (λ p h. Bridge (Greeted from g)))
  pub got : (from number : ℕ) → K (Unit {0}) (Acting (λ p h. Bridge (GotBy from number)))
  pub bad : K (Unit {0}) (Misses BadFrame)

module _ (K : (A : Type 0) → (Option A → Doing) → Type 0) (w : Low K) (b : Mid K) where
  abbrev Does : (Option (Unit {0}) → Doing) → Type 0
  Does P = K (Unit {0}) P

  gives_frame : (f : BridgeFrame) → Does (GivesFrame f)
  gives_frame f = w.by_test (is_small f) (Acting (λ p h. Bridge (Gave f))) (Misses FrameTooLarge) (b.gave f) (w.missed FrameTooLarge tt)

  gives : (peer : ℕ) (body : HeldView → FrameBody) → Does (GivesBody peer body)
  gives peer body = w.looks (λ p h. record { from = p.id; to = peer; body = body h }) GivesFrame gives_frame

  pub greets : (peer : ℕ) → Does (bridge.Greets peer)
  greets peer =
      w.looks (λ p h. is_other p peer) (λ other. If other (GivesBody peer (hello_to peer)) (Returns tt))
      (λ other. w.by_test other (GivesBody peer (hello_to peer)) (Returns tt) (gives peer (hello_to peer)) (w.returns tt))

  gives_state : (peer : ℕ) (s : Option State) → Does (bridge.GivesState peer s)
  gives_state peer None = w.returns tt
  gives_state peer (Some s) = gives peer (λ h. Delta s)

  pub ships : (peer : ℕ) → Does (bridge.Ships peer)
  ships peer =
      w.looks (λ p h. is_other p peer) (λ other. If other (bridge.ShipsTo peer) (Returns tt))
      (λ other. w.by_test other (bridge.ShipsTo peer) (Returns tt)
      (w.join (bridge.ShipsState peer) (λ _. bridge.ShipsMessages peer) (w.finds (bridge.AreShipped peer) (bridge.GivesState peer) (gives_state peer))
      (λ _. w.looks (λ p h. first_frames p.id peer (lane_to h.bridge peer)) (Each GivesFrame) (λ fs. each K w GivesFrame fs gives_frame))) (w.returns tt))

  pub ships_more : (peer after : ℕ) → Does (bridge.ShipsMore peer after)
  ships_more peer after =
      w.looks (λ p h. is_other p peer) (λ other. If other (bridge.ShipsMoreTo peer after) (Returns tt))
      (λ other. w.by_test other (bridge.ShipsMoreTo peer after) (Returns tt)
      (w.join (bridge.ShipsState peer) (λ _. bridge.ShipsLater peer after) (w.finds (bridge.AreShipped peer) (bridge.GivesState peer) (gives_state peer))
      (λ _. w.looks (λ p h. frames_after p.id peer after (lane_to h.bridge peer)) (Each GivesFrame) (λ fs. each K w GivesFrame fs gives_frame))) (w.returns tt))

  takes_forward : (from number : ℕ) (m : Forward) → Does (passing.TakesForward from number m)
  takes_forward from number m =
      w.finds (passing.IsHandedOver m) (passing.TakesCopies from number m)
      (λ x. w.join (Acting (λ p h. Bridge (Took from number m x.0 x.1))) (λ _. Queues x.0) (b.took from number m x.0 x.1) (λ _. queues_all K w x.0))

  takes_body : (from : ℕ) (body : FrameBody) → Does (bridge.TakesBody from body)
  takes_body from (Hello g) = w.join (Acting (λ p h. Bridge (Greeted from g))) (λ _. bridge.TellsTaken from) (b.greeted from g) (λ _. gives from (λ h. Know h.store.taken))
  takes_body from (Delta s) = w.join (Acting (λ p h. Store (Merged s))) (λ _. bridge.TellsTaken from) (b.merged s) (λ _. gives from (λ h. Know h.store.taken))
  takes_body from (Know dots) = b.believed from dots
  takes_body from (Carried number m) =
      w.join (bridge.TakesNext from number m) (λ _. GivesBody from (λ h. Got (lane_to h.bridge from).took))
      (w.looks (λ p h. is_next from number h.bridge) (λ next. If next (passing.TakesForward from number m) (Returns tt))
      (λ next. w.by_test next (passing.TakesForward from number m) (Returns tt) (takes_forward from number m) (w.returns tt))) (λ _. gives from (λ h. Got (lane_to h.bridge from).took))
  takes_body from (Got number) = b.got from number

  hears_frame : (frame : Option BridgeFrame) → Does (bridge.HearsFrame frame)
  hears_frame None = b.bad
  hears_frame (Some frame) =
      w.looks (λ p h. is_for_node p frame) (λ here. If here (bridge.TakesBody frame.from frame.body) (Misses BadFrame))
      (λ here. w.by_test here (bridge.TakesBody frame.from frame.body) (Misses BadFrame) (takes_body frame.from frame.body) b.bad)

  pub hears : (bytes : List ℕ) → Does (bridge.Hears bytes)
  hears bytes = hears_frame (frame_in bytes)
