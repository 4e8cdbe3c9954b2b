-- What comes of other nodes is determined.
use Rattle.std.proofs.Common.{◌≡◌, ℕ, Bool, true, false, cond, List, [], ◌∷◌, ◌++◌, Option, Some, None, sym, ap, ◌∙◌, subst}
use Rattle.bridge_deltas.specs.Lane.{first_frames}
use Rattle.bridge_deltas.specs.More.{frames_after}
use Rattle.bridge_frames.specs.declared.body.FrameBody.{FrameBody}
use Rattle.bridge_frames.specs.declared.body.FrameBody.TheVariants.{Hello, Delta, Know, Forward, Got}
use Rattle.bridge_frames.specs.declared.forward.Forward.{Forward as Message}
use Rattle.bridge_frames.specs.declared.frame.BridgeFrame.{BridgeFrame}
use Rattle.home_table.specs.Table.{IsTable}
use Rattle.bridge_routes.specs.declared.plain.PlainCopy.{PlainCopy as Copy}
use Rattle.node_bridge.specs.View.{is_next, lane_to}
use Rattle.node_bridge.proofs.Shipping.{to_ship_one}
use Rattle.replica_store.specs.States.{State}
use Rattle.node_work.specs.declared.counts.Missed.TheVariants.{BadFrame}
use Rattle.node_work.specs.Acts.{Act, Bridge, Runs, next}
use Rattle.node_work.specs.Frames.{is_for_node, is_other}
use Rattle.node_work.specs.Held.Bridge.{Took, Left_out}
use Rattle.node_work.specs.View.{Place, HeldView}
use Rattle.node_clients.proofs.Determined.{handed_alone, runs_determined}
use Rattle.law_runs.specs.StepPublishing.{CopiesAreQueued}
use Rattle.law_steps.specs.Frames.{deltas_to}
use Rattle.law_steps.specs.Bridging.{FrameAlone, HearsAlone, IsBrought, IsSentMore, IsSentTo, MoreAlone, ShipsAlone, TakesOfLane, all_out, answered}
use Rattle.law_steps.proofs.Calls.{after_head, two_heads, two_parts}
use Rattle.law_steps.proofs.Passing.{queued_fixed}

-- ---- of its own accord
shipped_fixed : (other : Bool) (p : Place) (h : HeldView) (peer : ℕ) (xs ys : List Act) → cond other (IsSentTo p h peer xs) (xs ≡ []) → cond other (IsSentTo p h peer ys) (ys ≡ []) → xs ≡ ys
shipped_fixed true p h peer xs ys x y =
    x.2 ∙ ap (λ (s : Option State). all_out (deltas_to p peer s ++ first_frames p.id peer (lane_to h.bridge peer))) (to_ship_one peer h.bridge h.store x.0 y.0 x.1 y.1) ∙ sym y.2
shipped_fixed false p h peer xs ys x y = x ∙ sym y

pub ships_fixed : (p : Place) (h : HeldView) (peer : ℕ) (xs ys : List Act) → ShipsAlone p h peer xs → ShipsAlone p h peer ys → xs ≡ ys
ships_fixed p h peer xs ys x y = shipped_fixed (is_other p peer) p h peer xs ys x y

sent_fixed : (other : Bool) (p : Place) (h : HeldView) (peer after : ℕ) (xs ys : List Act) → cond other (IsSentMore p h peer after xs) (xs ≡ []) → cond other (IsSentMore p h peer after ys) (ys ≡ []) → xs ≡ ys
sent_fixed true p h peer after xs ys x y =
    x.2 ∙ ap (λ (s : Option State). all_out (deltas_to p peer s ++ frames_after p.id peer after (lane_to h.bridge peer))) (to_ship_one peer h.bridge h.store x.0 y.0 x.1 y.1) ∙ sym y.2
sent_fixed false p h peer after xs ys x y = x ∙ sym y

pub more_fixed : (p : Place) (h : HeldView) (peer after : ℕ) (xs ys : List Act) → MoreAlone p h peer after xs → MoreAlone p h peer after ys → xs ≡ ys
more_fixed p h peer after xs ys x y = sent_fixed (is_other p peer) p h peer after xs ys x y

-- ---- a frame that comes
module _ (p : Place) (h m n : HeldView) (xs ys : List Act) (sound : IsTable h.homes) (r : Runs p h xs m) (s : Runs p h ys n) where
  lane_fixed : (from number : ℕ) (f : Message) → TakesOfLane h from number f xs → TakesOfLane h from number f ys → xs ≡ ys
  lane_fixed from number f x y =
      let u = Bridge (Took from number f x.copies x.lost) in
      let v = Bridge (Took from number f y.copies y.lost) in
      let made : List Copy × ℕ = (x.copies, x.lost) in
      let made' : List Copy × ℕ = (y.copies, y.lost) in
      let a = after_head p h m xs u x.calls x.is r in
      let b = after_head p h n ys v y.calls y.is s in
      let one : made ≡ made' = handed_alone f p h made made' sound a.0.1 b.0.1 in
      let queued : CopiesAreQueued h.at x.copies y.calls = subst (λ cs. CopiesAreQueued h.at cs y.calls) (sym (ap (λ (w : List Copy × ℕ). w.0) one)) y.queued in
      two_heads p h m n xs ys u v x.calls y.calls x.is y.is (ap (λ (w : List Copy × ℕ). Bridge (Took from number f w.0 w.1)) one) r s
      (λ r2 s2. queued_fixed h.at x.copies p (next h u) m n x.calls y.calls r2 s2 x.queued queued)

  next_fixed : (is : Bool) (from number : ℕ) (f : Message) → cond is (TakesOfLane h from number f xs) (xs ≡ []) → cond is (TakesOfLane h from number f ys) (ys ≡ []) → xs ≡ ys
  next_fixed true from number f x y = lane_fixed from number f x y
  next_fixed false from number f x y = x ∙ sym y

  brought_fixed : (body : FrameBody) (from : ℕ) → IsBrought h from body xs → IsBrought h from body ys → xs ≡ ys
  brought_fixed (Hello g) from x y = x ∙ sym y
  brought_fixed (Delta t) from x y = x ∙ sym y
  brought_fixed (Know dots) from x y = x ∙ sym y
  brought_fixed (Forward number f) from x y = next_fixed (is_next from number h.bridge) from number f x y
  brought_fixed (Got number) from x y = x ∙ sym y

hears_fixed : (p : Place) (h last last' : HeldView) (from : ℕ) (body : FrameBody) (xs ys : List Act) → IsTable h.homes → Runs p h xs last → Runs p h ys last' → HearsAlone p h from body xs → HearsAlone p h from body ys → xs ≡ ys
hears_fixed p h last last' from body xs ys sound r s x y =
    two_parts p h last last' xs ys x.own (answered p x.left from body) y.own (answered p y.left from body) x.is y.is r s
    (λ m n ra rb. brought_fixed p h m n x.own y.own sound ra rb body from x.brings y.brings)
    (λ mid ra rb rc rd. ap (λ (v : HeldView). answered p v from body) (runs_determined p x.own h x.left mid x.leaves ra ∙ sym (runs_determined p y.own h y.left mid y.leaves rb)))

heard_fixed : (here : Bool) (p : Place) (h last last' : HeldView) (f : BridgeFrame) (xs ys : List Act) → IsTable h.homes → Runs p h xs last → Runs p h ys last'
    → cond here (HearsAlone p h f.from f.body xs) (xs ≡ Bridge (Left_out BadFrame) ∷ []) → cond here (HearsAlone p h f.from f.body ys) (ys ≡ Bridge (Left_out BadFrame) ∷ []) → xs ≡ ys
heard_fixed true p h last last' f xs ys sound r s x y = hears_fixed p h last last' f.from f.body xs ys sound r s x y
heard_fixed false p h last last' f xs ys sound r s x y = x ∙ sym y

pub frame_fixed : (found : Option BridgeFrame) (p : Place) (h last last' : HeldView) (xs ys : List Act) → IsTable h.homes → Runs p h xs last → Runs p h ys last' → FrameAlone p h found xs → FrameAlone p h found ys → xs ≡ ys
frame_fixed None p h last last' xs ys sound r s x y = x ∙ sym y
frame_fixed (Some f) p h last last' xs ys sound r s x y = heard_fixed (is_for_node p f) p h last last' f xs ys sound r s x y
