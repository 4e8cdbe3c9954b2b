-- Where something comes of other nodes, nothing else is done.
use Rattle.std.proofs.Common.{◌≡◌, inl, inr, ℕ, Bool, true, false, cond, List, [], ◌∷◌, ◌++◌, Option, Some, None, refl, sym, ap, ◌∙◌, subst}
use Rattle.bridge_deltas.specs.Lane.{first_frames}
use Rattle.bridge_deltas.specs.More.{frames_after}
use Rattle.bridge_frames.specs.declared.body.FrameBody.{FrameBody}
use Rattle.bridge_frames.specs.declared.body.FrameBody.TheVariants.{Hello, Delta, Know, Forward, Got}
use Rattle.bridge_frames.specs.declared.forward.Forward.{Forward as Message}
use Rattle.bridge_frames.specs.declared.frame.BridgeFrame.{BridgeFrame}
use Rattle.bridge_routes.specs.declared.plain.PlainCopy.{PlainCopy as Copy}
use Rattle.node_bridge.specs.View.{BridgeView, is_next, lane_to}
use Rattle.replica_store.specs.States.{State}
use Rattle.node_work.specs.declared.counts.Missed.TheVariants.{BadFrame, FrameTooLarge}
use Rattle.node_work.specs.Acts.{Act, Bridge, Runs, next}
use Rattle.node_work.specs.Doings.{GivesBody, GivesFrame, Misses, is_small}
use Rattle.node_work.specs.Frames.{is_for_node, is_other}
use Rattle.node_work.specs.Handed.{IsHanded, found}
use Rattle.node_work.specs.Held.Bridge.{Took, Believed, Greeted, Gave, Left_out, Got as GotBy, hello_to}
use Rattle.node_work.specs.Passing.{seated}
use Rattle.node_work.specs.View.{Place, HeldView}
use Rattle.node_work.specs.Working.{Returns, Acting, If, Each}
use Rattle.node_clients.specs.Passing as passing
use Rattle.broker_node.specs.Bridge as bridge
use Rattle.law_runs.specs.StepPublishing.{CopiesAreQueued}
use Rattle.law_runs.proofs.Keeping.{none_some}
use Rattle.law_runs.proofs.Passing.{HaveAll, each_queued, have_both, have_seated}
use Rattle.law_runs.proofs.Splits.{left_by}
use Rattle.law_steps.specs.Frames.{deltas_to, frame_to}
use Rattle.law_steps.proofs.Giving.{gives_one}
use Rattle.law_steps.specs.Bridging.{FrameAlone, GreetsAlone, HearsAlone, IsSentMore, IsSentTo, MoreAlone, ShipsAlone, TakesOfLane, all_out, gives_out}

-- ---- frames that go out
gave_by : (small : Bool) (f : BridgeFrame) (x : Unit {0}) (p : Place) (h : HeldView) (acts : List Act) → If small (Acting (λ p h. Bridge (Gave f))) (Misses FrameTooLarge) (Some x) p h acts → acts ≡ cond small (Bridge (Gave f)) (Bridge (Left_out FrameTooLarge)) ∷ []
gave_by true f x p h acts d = d.1
gave_by false f x p h acts d = d.1

pub gave : (f : BridgeFrame) (x : Unit {0}) (p : Place) (h : HeldView) (acts : List Act) → GivesFrame f (Some x) p h acts → acts ≡ gives_out f ∷ []
gave f x p h acts d = gave_by (is_small f) f x p h acts d

each_out : (fs : List BridgeFrame) (x : Unit {0}) (p : Place) (h : HeldView) (acts : List Act) → Each GivesFrame fs (Some x) p h acts → acts ≡ all_out fs
each_out [] x p h acts d = d.1
each_out (f ∷ fs) x p h acts (inl d) = none_some (sym d.0)
each_out (f ∷ fs) x p h acts (inr (y, own, mid, rest, one, ran, more, is)) = is ∙ (λ i. gave f y p h own one i ++ each_out fs x p mid rest more i)

out_both : (fs gs : List BridgeFrame) → all_out fs ++ all_out gs ≡ all_out (fs ++ gs)
out_both [] gs = refl
out_both (f ∷ fs) gs = ap (λ zs. gives_out f ∷ zs) (out_both fs gs)

-- ---- of its own accord
greeted_if : (other : Bool) (peer : ℕ) (x : Unit {0}) (p : Place) (h : HeldView) (acts : List Act) → If other (GivesBody peer (hello_to peer)) (Returns tt) (Some x) p h acts → acts ≡ cond other (all_out (frame_to p peer (hello_to peer h) ∷ [])) []
greeted_if true peer x p h acts d = gave (frame_to p peer (hello_to peer h)) x p h acts d
greeted_if false peer x p h acts d = d.1

pub greeted : (peer : ℕ) (x : Unit {0}) (p : Place) (h : HeldView) (acts : List Act) → bridge.Greets peer (Some x) p h acts → GreetsAlone p h peer acts
greeted peer x p h acts d = greeted_if (is_other p peer) peer x p h acts d

state_out : (s : Option State) (peer : ℕ) (x : Unit {0}) (p : Place) (h mid : HeldView) (acts : List Act) → bridge.GivesState peer s (Some x) p h acts → Runs p h acts mid → (acts ≡ all_out (deltas_to p peer s)) × (mid.bridge ≡ h.bridge)
state_out None peer x p h mid acts d runs = (d.1, ap (λ (v : HeldView). v.bridge) (subst (λ zs. Runs p h zs mid) d.1 runs))
state_out (Some s) peer x p h mid acts d runs = (gave (frame_to p peer (Delta s)) x p h acts d, (gives_one (frame_to p peer (Delta s)) x p h mid acts d runs).bridge)

shipped_if : (other : Bool) (peer : ℕ) (x : Unit {0}) (p : Place) (h : HeldView) (acts : List Act) → If other (bridge.ShipsTo peer) (Returns tt) (Some x) p h acts → cond other (IsSentTo p h peer acts) (acts ≡ [])
shipped_if true peer x p h acts (inl d) = none_some (sym d.0)
shipped_if true peer x p h acts (inr (y, own, mid, rest, (s, to_ship, one), ran, more, is)) =
    let first = state_out s peer y p h mid own one ran in
    let frames : BridgeView → List BridgeFrame = λ b. first_frames p.id peer (lane_to b peer) in
    let second : rest ≡ all_out (frames mid.bridge) = each_out (frames mid.bridge) x p mid rest more in
    (s, to_ship, is ∙ (λ i. first.0 i ++ second i) ∙ ap (λ (b : BridgeView). all_out (deltas_to p peer s) ++ all_out (frames b)) first.1 ∙ out_both (deltas_to p peer s) (frames h.bridge))
shipped_if false peer x p h acts d = d.1

pub shipped : (peer : ℕ) (x : Unit {0}) (p : Place) (h : HeldView) (acts : List Act) → bridge.Ships peer (Some x) p h acts → ShipsAlone p h peer acts
shipped peer x p h acts d = shipped_if (is_other p peer) peer x p h acts d

more_if : (other : Bool) (peer after : ℕ) (x : Unit {0}) (p : Place) (h : HeldView) (acts : List Act) → If other (bridge.ShipsMoreTo peer after) (Returns tt) (Some x) p h acts → cond other (IsSentMore p h peer after acts) (acts ≡ [])
more_if true peer after x p h acts (inl d) = none_some (sym d.0)
more_if true peer after x p h acts (inr (y, own, mid, rest, (s, to_ship, one), ran, more, is)) =
    let first = state_out s peer y p h mid own one ran in
    let frames : BridgeView → List BridgeFrame = λ b. frames_after p.id peer after (lane_to b peer) in
    let second : rest ≡ all_out (frames mid.bridge) = each_out (frames mid.bridge) x p mid rest more in
    (s, to_ship, is ∙ (λ i. first.0 i ++ second i) ∙ ap (λ (b : BridgeView). all_out (deltas_to p peer s) ++ all_out (frames b)) first.1 ∙ out_both (deltas_to p peer s) (frames h.bridge))
more_if false peer after x p h acts d = d.1

pub shipped_more : (peer after : ℕ) (x : Unit {0}) (p : Place) (h : HeldView) (acts : List Act) → bridge.ShipsMore peer after (Some x) p h acts → MoreAlone p h peer after acts
shipped_more peer after x p h acts d = more_if (is_other p peer) peer after x p h acts d

-- ---- a message of a lane
have_handed : (h : HeldView) (m : Message) (copies : List Copy) (lost : ℕ) → IsHanded h m copies lost → HaveAll h copies
have_handed h m copies lost (inl d) =
    let made = d.1 in
    subst (HaveAll h) (sym made.copies_are) (have_both h (seated h made.plain) (seated h (found made.picked)) (have_seated h made.plain) (have_seated h (found made.picked)))
have_handed h m copies lost (inr d) = subst (HaveAll h) (sym d.1) tt

taken_next : (is_it : Bool) (from number : ℕ) (m : Message) (x : Unit {0}) (p : Place) (h : HeldView) (acts : List Act) → If is_it (passing.TakesForward from number m) (Returns tt) (Some x) p h acts → cond is_it (TakesOfLane h from number m acts) (acts ≡ [])
taken_next true from number m x p h acts (made, handed, (inl d)) = none_some (sym d.0)
taken_next true from number m x p h acts (made, handed, (inr (y, own, mid, rest, one, ran, more, is))) =
    let a = Bridge (Took from number m made.0 made.1) in
    let left : mid ≡ next h a = left_by p h mid a own one.1 ran in
    let there : HaveAll mid made.0 = subst (λ v. HaveAll v made.0) (sym left) (have_handed h m made.0 made.1 handed) in
    let queued : CopiesAreQueued mid.at made.0 rest = each_queued made.0 x p mid rest there more in
    record {
      copies = made.0;
      lost = made.1;
      calls = rest;
      is = is ∙ ap (λ zs. zs ++ rest) one.1;
      queued = subst (λ n. CopiesAreQueued n made.0 rest) (ap (λ (v : HeldView). v.at) left) queued;
    }
taken_next false from number m x p h acts d = d.1

-- ---- a frame that comes
heard : (body : FrameBody) (from : ℕ) (x : Unit {0}) (p : Place) (h : HeldView) (acts : List Act) → bridge.TakesBody from body (Some x) p h acts → HearsAlone p h from body acts
heard (Hello g) from x p h acts (inl d) = none_some (sym d.0)
heard (Hello g) from x p h acts (inr (y, own, mid, rest, one, ran, more, is)) =
    record { own = own; brings = one.1; left = mid; leaves = ran; is = is ∙ ap (λ zs. own ++ zs) (gave (frame_to p from (Know mid.store.taken)) x p mid rest more) }
heard (Delta s) from x p h acts (inl d) = none_some (sym d.0)
heard (Delta s) from x p h acts (inr (y, own, mid, rest, one, ran, more, is)) =
    record { own = own; brings = one.1; left = mid; leaves = ran; is = is ∙ ap (λ zs. own ++ zs) (gave (frame_to p from (Know mid.store.taken)) x p mid rest more) }
heard (Know dots) from x p h acts d =
    let a = Bridge (Believed from dots) in record { own = a ∷ []; brings = refl; left = next h a; leaves = (next h a, (tt, refl), refl); is = d.1 }
heard (Forward number m) from x p h acts (inl d) = none_some (sym d.0)
heard (Forward number m) from x p h acts (inr (y, own, mid, rest, one, ran, more, is)) =
    record {
      own = own;
      brings = taken_next (is_next from number h.bridge) from number m y p h own one;
      left = mid;
      leaves = ran;
      is = is ∙ ap (λ zs. own ++ zs) (gave (frame_to p from (Got (lane_to mid.bridge from).took)) x p mid rest more);
    }
heard (Got number) from x p h acts d =
    let a = Bridge (GotBy from number) in record { own = a ∷ []; brings = refl; left = next h a; leaves = (next h a, (tt, refl), refl); is = d.1 }

heard_if : (here : Bool) (f : BridgeFrame) (x : Unit {0}) (p : Place) (h : HeldView) (acts : List Act) → If here (bridge.TakesBody f.from f.body) (Misses BadFrame) (Some x) p h acts → cond here (HearsAlone p h f.from f.body acts) (acts ≡ Bridge (Left_out BadFrame) ∷ [])
heard_if true f x p h acts d = heard f.body f.from x p h acts d
heard_if false f x p h acts d = d.1

pub frame_heard : (found : Option BridgeFrame) (x : Unit {0}) (p : Place) (h : HeldView) (acts : List Act) → bridge.HearsFrame found (Some x) p h acts → FrameAlone p h found acts
frame_heard None x p h acts d = d.1
frame_heard (Some f) x p h acts d = heard_if (is_for_node p f) f x p h acts d
