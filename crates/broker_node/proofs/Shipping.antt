-- What a node sends of its own accord is what it holds.
use Rattle.std.proofs.Common.{◌≡◌, ℕ, ◌+◌, zero, suc, arith, add-zero, Bool, true, false, cond, List, [], ◌∷◌, take, drop, Option, Some, refl, sym, ap, subst, ◌∙◌}
use Rattle.std.specs.List.{slice_get}
use Rattle.bridge_deltas.specs.Lane.{first_frames, frames_from}
use Rattle.bridge_deltas.specs.More.{fitting, frames_after}
use Rattle.bridge_frames.specs.declared.body.FrameBody.{FrameBody}
use Rattle.bridge_frames.specs.declared.body.FrameBody.TheVariants as bodies
use Rattle.bridge_frames.specs.declared.forward.Forward.{Forward}
use Rattle.bridge_frames.specs.declared.frame.BridgeFrame.{BridgeFrame}
use Rattle.bridge_lanes.proofs.LaneLists.{get-drop}
use Rattle.bridge_lanes.specs.Lanes.{Waits, up_to}
use Rattle.node_bridge.specs.View.{BridgeView, IsToShip, lane_to}
use Rattle.replica_store.specs.States.{State}
use Rattle.node_work.specs.declared.counts.Missed.TheVariants.{FrameTooLarge}
use Rattle.node_work.specs.Acts.{Act, Bridge, Runs}
use Rattle.node_work.specs.Doings.{GivesFrame, Misses, is_small}
use Rattle.node_work.specs.Held.Bridge.{Carries, Gave}
use Rattle.node_work.specs.View.{HeldView, Place, WorkView}
use Rattle.node_work.specs.Working.{Acting, Did, Doing, Each, If, Looks}
use Rattle.node_work.proofs.Working.{Reaches, did_as}
use Rattle.broker_node.specs.Bridge.{ShipsLater, ShipsMessages}

-- ---- the state

pub to_ship_here : (peer : ℕ) (h v : HeldView) (b : BridgeView) (s : State) (x y : Option State) → v ≡ h → b ≡ v.bridge → s ≡ v.store → x ≡ y → IsToShip peer b s x → IsToShip peer h.bridge h.store y
to_ship_here peer h v b s x y held bridge store is d =
    subst (λ z. IsToShip peer h.bridge h.store z) is
    (subst (λ z. IsToShip peer h.bridge z x) (store ∙ ap (λ (u : HeldView). u.store) held) (subst (λ z. IsToShip peer z s x) (bridge ∙ ap (λ (u : HeldView). u.bridge) held) d))

-- ---- the messages

-- frames from the node that carry what it holds
abbrev pub AreOwn : Place → HeldView → List BridgeFrame → Type 0
AreOwn p h [] = Unit {0}
AreOwn p h (f ∷ fs) = (f.from ≡ p.id) × Carries h f.to f.body × AreOwn p h fs

own_from : (p : Place) (h : HeldView) (peer n count : ℕ) (rest : List Forward) → ((j : ℕ) (m : Forward) → slice_get rest j ≡ Some m → Waits (lane_to h.bridge peer) (n + j) m) → AreOwn p h (frames_from p.id peer n (take count rest))
own_from p h peer n zero rest waits = tt
own_from p h peer n (suc count) [] waits = tt
own_from p h peer n (suc count) (m ∷ ms) waits = (
  refl,
  subst (λ i. Waits (lane_to h.bridge peer) i m) (add-zero n) (waits 0 m refl),
  own_from p h peer (suc n) count ms (λ j x e. let later : n + suc j ≡ suc n + j = omega arith in subst (λ i. Waits (lane_to h.bridge peer) i x) later (waits (suc j) x e)),
)

first_own : (p : Place) (h : HeldView) (peer : ℕ) → AreOwn p h (first_frames p.id peer (lane_to h.bridge peer))
first_own p h peer =
    let l = lane_to h.bridge peer in
    own_from p h peer (suc l.gone) 64 l.waiting (λ j m e. let number : suc l.gone + j ≡ suc (l.gone + j) = omega arith in (j, number, e))

later_own : (p : Place) (h : HeldView) (peer after : ℕ) → AreOwn p h (frames_after p.id peer after (lane_to h.bridge peer))
later_own p h peer after =
    let l = lane_to h.bridge peer in
    let passed = up_to after l in
    let left = drop passed l.waiting in
    own_from p h peer (suc (l.gone + passed)) (fitting 4096 4194304 left) left
    (λ j m e. let number : suc (l.gone + passed) + j ≡ suc (l.gone + (passed + j)) = omega arith in (passed + j, number, sym (get-drop passed l.waiting j) ∙ e))

-- what a frame that goes out leaves as it was
carries_still : (h k : HeldView) (to : ℕ) (body : FrameBody) → k.bridge ≡ h.bridge → k.store ≡ h.store → Carries h to body → Carries k to body
carries_still h k to (bodies.Hello g) bridge store d = d ∙ ap (λ b. record { gone = (lane_to b to).gone; took = (lane_to b to).took; dots = h.store.taken }) (sym bridge) ∙ ap (λ (s : State). record { gone = (lane_to k.bridge to).gone; took = (lane_to k.bridge to).took; dots = s.taken }) (sym store)
carries_still h k to (bodies.Delta t) bridge store d = subst (λ b. IsToShip to b k.store (Some t)) (sym bridge) (subst (λ s. IsToShip to h.bridge s (Some t)) (sym store) d)
carries_still h k to (bodies.Know dots) bridge store d = d ∙ ap (λ (s : State). s.taken) (sym store)
carries_still h k to (bodies.Forward number m) bridge store d = subst (λ b. Waits (lane_to b to) number m) (sym bridge) d
carries_still h k to (bodies.Got number) bridge store d = d ∙ ap (λ b. (lane_to b to).took) (sym bridge)

own_still : (p q : Place) (h k : HeldView) (fs : List BridgeFrame) → q ≡ p → k.bridge ≡ h.bridge → k.store ≡ h.store → AreOwn p h fs → AreOwn q k fs
own_still p q h k [] place bridge store own = tt
own_still p q h k (f ∷ fs) place bridge store own = (
  own.0 ∙ ap (λ (r : Place). r.id) (sym place),
  carries_still h k f.to f.body bridge store own.1,
  own_still p q h k fs place bridge store own.2,
)

abbrev Stays : HeldView → HeldView → Type 0
Stays h k = (k.bridge ≡ h.bridge) × (k.store ≡ h.store)

stays_by : (small : Bool) (f : BridgeFrame) (p : Place) (h k : HeldView) (acts : List Act) → If small (Acting (λ p h. Bridge (Gave f))) (Misses FrameTooLarge) (Some tt) p h acts → Runs p h acts k → Stays h k
stays_by true f p h k acts d r =
    let s = subst (λ xs. Runs p h xs k) d.1 r in
    let same = s.2 ∙ s.1.1 in
    (ap (λ (v : HeldView). v.bridge) same, ap (λ (v : HeldView). v.store) same)
stays_by false f p h k acts d r =
    let s = subst (λ xs. Runs p h xs k) d.1 r in
    let same = s.2 ∙ s.1.1 in
    (ap (λ (v : HeldView). v.bridge) same, ap (λ (v : HeldView). v.store) same)

pub own_next : (w m : WorkView) (f : BridgeFrame) (fs : List BridgeFrame) → Did w m (GivesFrame f (Some tt)) → AreOwn w.place w.held (f ∷ fs) → AreOwn m.place m.held fs
own_next w m f fs d own =
    let stays = stays_by (is_small f) f w.place w.held m.held d.acts d.does d.runs in
    own_still w.place m.place w.held m.held fs d.place stays.0 stays.1 own.2

-- by what is seen of what is held
looks_reached : {A B : Type 0} (w : WorkView) (see : Place → HeldView → A) (P : A → Option B → Doing) (x : A) → see w.place w.held ≡ x → Reaches w (Looks see P) w (P x)
looks_reached w see P x e out w' d = did_as w w' (P x out) (Looks see P out) (λ acts q. subst (λ y. P y out w.place w.held acts) (sym e) q) d

pub ships_begin : (peer : ℕ) (w : WorkView) (fs : List BridgeFrame) → fs ≡ first_frames w.place.id peer (lane_to w.held.bridge peer) → Reaches w (ShipsMessages peer) w (Each GivesFrame fs) × AreOwn w.place w.held fs
ships_begin peer w fs e = (
  looks_reached w (λ p h. first_frames p.id peer (lane_to h.bridge peer)) (Each GivesFrame) fs (sym e),
  subst (AreOwn w.place w.held) (sym e) (first_own w.place w.held peer),
)

pub more_begins : (peer after : ℕ) (w : WorkView) (fs : List BridgeFrame) → fs ≡ frames_after w.place.id peer after (lane_to w.held.bridge peer) → Reaches w (ShipsLater peer after) w (Each GivesFrame fs) × AreOwn w.place w.held fs
more_begins peer after w fs e = (
  looks_reached w (λ p h. frames_after p.id peer after (lane_to h.bridge peer)) (Each GivesFrame) fs (sym e),
  subst (AreOwn w.place w.held) (sym e) (later_own w.place w.held peer after),
)
