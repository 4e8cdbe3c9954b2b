-- What the acts of a step do to the lanes of its node.
use Rattle.std.specs.List.{slice_get}
use Rattle.std.proofs.Common.{◌≡◌, ℕ, zero, suc, ◌≤◌, ◌<◌, Bool, true, false, nat_eq, ◌&&◌, List, [], ◌∷◌, ◌++◌, refl, sym, ap, ◌∙◌, inl, inr, subst, length, length-append, append_assoc, arith, eqb→eq, Option, Some, None, if◌then◌else◌}
use lib.Dec.{T}
use Rattle.std.proofs.Math.ListN.{set}
use Rattle.std.proofs.lemmas.Bool.{cases_lt, ltb-true}
use Rattle.std.proofs.lemmas.List.{append-nil}
use Rattle.bridge_deltas.specs.declared.offer.Offer.{Offer}
use Rattle.bridge_deltas.specs.declared.offer.Offer.TheVariants.{Queued, Full}
use Rattle.bridge_deltas.specs.Lane.{offer_of}
use Rattle.bridge_frames.specs.declared.body.FrameBody.{FrameBody}
use Rattle.bridge_frames.specs.declared.body.FrameBody.TheVariants as bodies
use Rattle.bridge_frames.specs.declared.forward.Forward.{Forward}
use Rattle.bridge_frames.specs.declared.frame.BridgeFrame.{BridgeFrame}
use Rattle.bridge_lanes.specs.Lanes.{Lanes, Put as PutInto, Took as TookOf, Got as GotBy, DoesLane, lane_of, with_got, Begins, IsNumbered}
use Rattle.bridge_lanes.proofs.LaneLists.{numbered_longer}
use Rattle.bridge_lanes.proofs.Keeping.{AreKept, act_keeps, act_begins, waits_numbered}
use Rattle.node_bridge.specs.View.{BridgeView, has_lanes, is_next, lane_to, offer_to}
use Rattle.node_work.specs.Acts.{Act, MomentTaken, Began, Moved, Store, Connection, Session, Bridge, Out, Named, Acknowledged, Passed, Dropped, Runs, gather, heard_in}
use Rattle.node_work.specs.Held.Bridge.{BridgeAct, Put, Took, Got, Believed, Greeted, Gave, Left_out, Carries}
use Rattle.node_work.specs.Held.Connections.{Opened, Fed, Accepted, Roomed, Closed}
use Rattle.node_work.specs.Held.Sessions.{Begun, Called, Over}
use Rattle.node_work.specs.View.{Place, HeldView}
use Rattle.law_runs.specs.LaneHistories.{by_bridge, put_by, took_by}

-- the frames that are given out
abbrev pub given_by : BridgeAct → List BridgeFrame
given_by (Put peer m) = []
given_by (Took peer number m copies lost) = []
given_by (Got peer number) = []
given_by (Believed peer dots) = []
given_by (Greeted peer g) = []
given_by (Gave f) = f ∷ []
given_by (Left_out what) = []

-- what a frame says of the lanes between its sender and its receiver, by what the sender put in and took
abbrev pub SaysOf : List Forward → List Forward → FrameBody → Type 0
SaysOf put took (bodies.Hello g) = Unit {0}
SaysOf put took (bodies.Delta s) = Unit {0}
SaysOf put took (bodies.Know dots) = Unit {0}
SaysOf put took (bodies.Forward number m) = IsNumbered put number m
SaysOf put took (bodies.Got number) = number ≤ length took

pub says_later : (put took more others : List Forward) (b : FrameBody) → SaysOf put took b → SaysOf (put ++ more) (took ++ others) b
says_later put took more others (bodies.Hello g) x = tt
says_later put took more others (bodies.Delta s) x = tt
says_later put took more others (bodies.Know dots) x = tt
says_later put took more others (bodies.Forward number m) x = numbered_longer put more number m x
says_later put took more others (bodies.Got number) x = let n = length-append took others in omega arith

-- what is taken from another node was put in there, or is no more than it has taken
abbrev pub IsTold : (ℕ → List Forward) → (ℕ → List Forward) → BridgeAct → Type 0
IsTold puts others (Put peer m) = Unit {0}
IsTold puts others (Took peer number m copies lost) = IsNumbered (puts peer) number m
IsTold puts others (Got peer number) = number ≤ length (others peer)
IsTold puts others (Believed peer dots) = Unit {0}
IsTold puts others (Greeted peer g) = Unit {0}
IsTold puts others (Gave f) = Unit {0}
IsTold puts others (Left_out what) = Unit {0}

abbrev pub AllTold : (ℕ → List Forward) → (ℕ → List Forward) → List BridgeAct → Type 0
AllTold puts others [] = Unit {0}
AllTold puts others (a ∷ acts) = IsTold puts others a × AllTold puts others acts

-- a node has these lanes after it put these in and took these, and gave out these frames meanwhile; puts has what the other nodes put in
-- for it, and others what they have taken
pub record LanesGrow (id : ℕ) (lanes : Lanes Forward) (put took others puts : ℕ → List Forward) (frames : List BridgeFrame) : Type 0 where
  pub kept : AreKept lanes put took others
  pub begins : (j : ℕ) → Begins (took j) (puts j)
  pub sent : (f : BridgeFrame) (n : ℕ) → slice_get frames n ≡ Some f → (f.from ≡ id) × SaysOf (put f.to) (took f.to) f.body

some_is : {A : Type 0} {x y : A} → Some x ≡ Some y → x ≡ y
some_is e = cc

none-some : {A P : Type 0} {x : A} → ◌≡◌ {A = Option A} None (Some x) → P
none-some e = cc

set_past : {A : Type 0} (xs : List A) (i : ℕ) (v : A) → length xs ≤ i → set xs i v ≡ xs
set_past [] i v le = refl
set_past (x ∷ xs) zero v le = absurd (omega arith)
set_past (x ∷ xs) (suc i) v le = ap (λ ys. x ∷ ys) (set_past xs i v (omega arith))

-- a message that is queued is for a node with lanes
queued_by : (b : Bool) (o : Offer) (n : ℕ) → (if b then o else Full) ≡ Queued n → b ≡ true
queued_by true o n e = refl
queued_by false o n e = absurd cc

queued_lane : (b : BridgeView) (peer n : ℕ) → offer_to peer b ≡ Queued n → peer < length b.lanes
queued_lane b peer n e = ltb-true peer (length b.lanes) (queued_by (has_lanes b peer) (offer_of (lane_to b peer)) n e)

both_true : (a b : Bool) → (a && b) ≡ true → (a ≡ true) × (b ≡ true)
both_true true true e = (refl, refl)
both_true true false e = absurd cc
both_true false true e = absurd cc
both_true false false e = absurd cc

next_lane : (b : BridgeView) (peer number : ℕ) → is_next peer number b ≡ true → (peer < length b.lanes) × (number ≡ suc (lane_of b.lanes peer).took)
next_lane b peer number e =
    let x = both_true (has_lanes b peer) (nat_eq number (suc (lane_to b peer).took)) e in
    (ltb-true peer (length b.lanes) x.0, eqb→eq number (suc (lane_of b.lanes peer).took) (subst T (sym x.1) tt))

module _ (p : Place) (others puts : ℕ → List Forward) where
  -- a frame that goes out
  carried : (h : HeldView) (put took : ℕ → List Forward) → AreKept h.bridge.lanes put took others → (to : ℕ) (b : FrameBody) → Carries h to b → SaysOf (put to) (took to) b
  carried h put took k to (bodies.Hello g) c = tt
  carried h put took k to (bodies.Delta s) c = tt
  carried h put took k to (bodies.Know dots) c = tt
  carried h put took k to (bodies.Forward number m) c = waits_numbered (lane_of h.bridge.lanes to) (put to) (took to) (others to) number m (k to) c
  carried h put took k to (bodies.Got number) c = let t = (k to).taken in omega arith

  abbrev Grow : (ℕ → List Forward) → (ℕ → List Forward) → List Act → HeldView → Type 0
  Grow put took acts h' = LanesGrow p.id h'.bridge.lanes (λ j. put j ++ gather (by_bridge (put_by j)) acts) (λ j. took j ++ gather (by_bridge (took_by j)) acts) others puts (gather (by_bridge given_by) acts)

  given_grow : (h h' : HeldView) (put took : ℕ → List Forward) (f : BridgeFrame) (acts : List Act) → AreKept h.bridge.lanes put took others → f.from ≡ p.id → Carries h f.to f.body
      → Grow put took acts h' → Grow put took (Bridge (Gave f) ∷ acts) h'
  given_grow h h' put took f acts k from c g = record { kept = g.kept; begins = g.begins; sent = out } where
    out : (x : BridgeFrame) (n : ℕ) → slice_get (f ∷ gather (by_bridge given_by) acts) n ≡ Some x
        → (x.from ≡ p.id) × SaysOf (put x.to ++ gather (by_bridge (put_by x.to)) acts) (took x.to ++ gather (by_bridge (took_by x.to)) acts) x.body
    out x zero at = subst (λ (y : BridgeFrame). (y.from ≡ p.id) × SaysOf (put y.to ++ gather (by_bridge (put_by y.to)) acts) (took y.to ++ gather (by_bridge (took_by y.to)) acts) y.body) (some_is at)
        (from, says_later (put f.to) (took f.to) _ _ f.body (carried h put took k f.to f.body c))
    out x (suc n) at = g.sent x n at

  -- what an act does to one lane, and then the others
  module _ (h mid h' : HeldView) (put took : ℕ → List Forward) (a : BridgeAct) (acts : List Act) (k : AreKept h.bridge.lanes put took others) (le : (j : ℕ) → length (others j) ≤ length (put j)) (begins : (j : ℕ) → Begins (took j) (puts j)) where
    abbrev put' : ℕ → List Forward
    put' j = put j ++ put_by j a

    abbrev took' : ℕ → List Forward
    took' j = took j ++ took_by j a

    le' : (j : ℕ) → length (others j) ≤ length (put' j)
    le' j = let n = length-append (put j) (put_by j a) in let l = le j in omega arith

    grown_on : Grow put' took' acts h' → gather (by_bridge given_by) (Bridge a ∷ acts) ≡ gather (by_bridge given_by) acts → Grow put took (Bridge a ∷ acts) h'
    grown_on g same =
        subst (λ (q : ℕ → List Forward). LanesGrow p.id h'.bridge.lanes q (λ j. took j ++ gather (by_bridge (took_by j)) (Bridge a ∷ acts)) others puts (gather (by_bridge given_by) (Bridge a ∷ acts))) (λ i j. append_assoc (put j) (put_by j a) (gather (by_bridge (put_by j)) acts) i)
        (subst (λ (t : ℕ → List Forward). LanesGrow p.id h'.bridge.lanes (λ j. put' j ++ gather (by_bridge (put_by j)) acts) t others puts (gather (by_bridge given_by) (Bridge a ∷ acts))) (λ i j. append_assoc (took j) (took_by j a) (gather (by_bridge (took_by j)) acts) i)
        (subst (λ (fs : List BridgeFrame). LanesGrow p.id h'.bridge.lanes (λ j. put' j ++ gather (by_bridge (put_by j)) acts) (λ j. took' j ++ gather (by_bridge (took_by j)) acts) others puts fs) (sym same) g))

  -- an act that leaves the lanes
  same_lanes : (h g : HeldView) (put took : ℕ → List Forward) → h ≡ g → AreKept g.bridge.lanes put took others → AreKept h.bridge.lanes put took others
  same_lanes h g put took e k = subst (λ (v : HeldView). AreKept v.bridge.lanes put took others) (sym e) k

  pub lanes_grow : (acts : List Act) (h h' : HeldView) (put took : ℕ → List Forward) → AreKept h.bridge.lanes put took others → ((j : ℕ) → length (others j) ≤ length (put j))
      → ((j : ℕ) → Begins (took j) (puts j)) → Runs p h acts h' → AllTold puts others (gather heard_in acts) → Grow put took acts h'
  lanes_grow [] h h' put took k le begins r all =
      subst (λ (q : ℕ → List Forward). LanesGrow p.id h'.bridge.lanes q (λ j. took j ++ []) others puts []) (λ i j. sym (append-nil (put j)) i)
      (subst (λ (t : ℕ → List Forward). LanesGrow p.id h'.bridge.lanes put t others puts []) (λ i j. sym (append-nil (took j)) i)
      (record { kept = subst (λ (v : HeldView). AreKept v.bridge.lanes put took others) (sym r) k; begins = begins; sent = λ f n at. none-some at }))
  lanes_grow (MomentTaken at ∷ acts) h h' put took k le begins r all = lanes_grow acts r.0 h' put took (same_lanes r.0 _ put took r.1.1 k) le begins r.2 all
  lanes_grow (Began ∷ acts) h h' put took k le begins r all = lanes_grow acts r.0 h' put took (same_lanes r.0 _ put took r.1.1 k) le begins r.2 all
  lanes_grow (Moved homes ∷ acts) h h' put took k le begins r all = lanes_grow acts r.0 h' put took (same_lanes r.0 _ put took r.1.1 k) le begins r.2 all
  lanes_grow (Store a ∷ acts) h h' put took k le begins r all = lanes_grow acts r.0 h' put took (same_lanes r.0 _ put took r.1.1 k) le begins r.2 all
  lanes_grow (Connection (Opened c) ∷ acts) h h' put took k le begins r all = lanes_grow acts r.0 h' put took (same_lanes r.0 _ put took r.1.1 k) le begins r.2 all
  lanes_grow (Connection (Fed c piece) ∷ acts) h h' put took k le begins r all = lanes_grow acts r.0 h' put took (same_lanes r.0 _ put took r.1.1 k) le begins r.2 all
  lanes_grow (Connection (Accepted c client) ∷ acts) h h' put took k le begins r all = lanes_grow acts r.0 h' put took (same_lanes r.0 _ put took r.1.1 k) le begins r.2 all
  lanes_grow (Connection (Roomed c bytes) ∷ acts) h h' put took k le begins r all = lanes_grow acts r.0 h' put took (same_lanes r.0 _ put took r.1.1 k) le begins r.2 all
  lanes_grow (Connection (Closed c) ∷ acts) h h' put took k le begins r all = lanes_grow acts r.0 h' put took (same_lanes r.0 _ put took r.1.1 k) le begins r.2 all
  lanes_grow (Session (Begun client) ∷ acts) h h' put took k le begins r all = lanes_grow acts r.0 h' put took (same_lanes r.0 _ put took r.1.1 k) le begins r.2 all
  lanes_grow (Session (Called s) ∷ acts) h h' put took k le begins r all = lanes_grow acts r.0 h' put took (same_lanes r.0 _ put took r.1.1 k) le begins r.2 all
  lanes_grow (Session (Over client) ∷ acts) h h' put took k le begins r all = lanes_grow acts r.0 h' put took (same_lanes r.0 _ put took r.1.1 k) le begins r.2 all
  lanes_grow (Out o ∷ acts) h h' put took k le begins r all = lanes_grow acts r.0 h' put took (same_lanes r.0 _ put took r.1.1 k) le begins r.2 all
  lanes_grow (Named number ∷ acts) h h' put took k le begins r all = lanes_grow acts r.0 h' put took (same_lanes r.0 _ put took r.1.1 k) le begins r.2 all
  lanes_grow (Acknowledged client packet at grants offers ∷ acts) h h' put took k le begins r all = lanes_grow acts r.0 h' put took (same_lanes r.0 _ put took r.1.1 k) le begins r.2 all
  lanes_grow (Passed m copies lost routes ∷ acts) h h' put took k le begins r all = lanes_grow acts r.0 h' put took (same_lanes r.0 _ put took r.1.1 k) le begins r.2 all
  lanes_grow (Dropped ∷ acts) h h' put took k le begins r all = lanes_grow acts r.0 h' put took (same_lanes r.0 _ put took r.1.1 k) le begins r.2 all
  lanes_grow (Bridge (Believed peer dots) ∷ acts) h h' put took k le begins r all = lanes_grow acts r.0 h' put took (same_lanes r.0 _ put took r.1.1 k) le begins r.2 all.1
  lanes_grow (Bridge (Greeted peer g) ∷ acts) h h' put took k le begins r all = lanes_grow acts r.0 h' put took (same_lanes r.0 _ put took r.1.1 k) le begins r.2 all.1
  lanes_grow (Bridge (Left_out what) ∷ acts) h h' put took k le begins r all = lanes_grow acts r.0 h' put took (same_lanes r.0 _ put took r.1.1 k) le begins r.2 all
  lanes_grow (Bridge (Gave f) ∷ acts) h h' put took k le begins r all =
      given_grow h h' put took f acts k r.1.0.from r.1.0.carries (lanes_grow acts r.0 h' put took (same_lanes r.0 _ put took r.1.1 k) le begins r.2 all)
  lanes_grow (Bridge (Put peer m) ∷ acts) h h' put took k le begins r all =
      let does : DoesLane h.bridge.lanes (PutInto peer m) r.0.bridge.lanes = (queued_lane h.bridge peer r.1.0.0 r.1.0.1, ap (λ (v : HeldView). v.bridge.lanes) r.1.1) in
      let kept = act_keeps h.bridge.lanes r.0.bridge.lanes put took others puts (PutInto peer m) k le tt does in
      grown_on h r.0 h' put took (Put peer m) acts k le begins
      (lanes_grow acts r.0 h' (put' h r.0 h' put took (Put peer m) acts k le begins) (took' h r.0 h' put took (Put peer m) acts k le begins) kept (le' h r.0 h' put took (Put peer m) acts k le begins)
      (act_begins h.bridge.lanes r.0.bridge.lanes put took others puts (PutInto peer m) k tt does begins) r.2 all) refl
  lanes_grow (Bridge (Took peer number m copies lost) ∷ acts) h h' put took k le begins r all =
      let x = next_lane h.bridge peer number r.1.0.0 in
      let does : DoesLane h.bridge.lanes (TookOf peer number m) r.0.bridge.lanes = (x.0, x.1, ap (λ (v : HeldView). v.bridge.lanes) r.1.1) in
      let kept = act_keeps h.bridge.lanes r.0.bridge.lanes put took others puts (TookOf peer number m) k le all.0 does in
      grown_on h r.0 h' put took (Took peer number m copies lost) acts k le begins
      (lanes_grow acts r.0 h' (put' h r.0 h' put took (Took peer number m copies lost) acts k le begins) (took' h r.0 h' put took (Took peer number m copies lost) acts k le begins) kept (le' h r.0 h' put took (Took peer number m copies lost) acts k le begins)
      (act_begins h.bridge.lanes r.0.bridge.lanes put took others puts (TookOf peer number m) k all.0 does begins) r.2 all.1) refl
  lanes_grow (Bridge (Got peer number) ∷ acts) h h' put took k le begins r all = elim (cases_lt peer (length h.bridge.lanes)) [
    | inl below ↦ (
        let does : DoesLane h.bridge.lanes (GotBy peer number) r.0.bridge.lanes = (below, ap (λ (v : HeldView). v.bridge.lanes) r.1.1) in
        let kept = act_keeps h.bridge.lanes r.0.bridge.lanes put took others puts (GotBy peer number) k le all.0 does in
        grown_on h r.0 h' put took (Got peer number) acts k le begins
        (lanes_grow acts r.0 h' (put' h r.0 h' put took (Got peer number) acts k le begins) (took' h r.0 h' put took (Got peer number) acts k le begins) kept (le' h r.0 h' put took (Got peer number) acts k le begins)
        (act_begins h.bridge.lanes r.0.bridge.lanes put took others puts (GotBy peer number) k all.0 does begins) r.2 all.1) refl)
    | inr past ↦ lanes_grow acts r.0 h' put took
        (subst (λ (l : Lanes Forward). AreKept l put took others) (sym (ap (λ (v : HeldView). v.bridge.lanes) r.1.1 ∙ set_past h.bridge.lanes peer (with_got number (lane_of h.bridge.lanes peer)) past)) k) le begins r.2 all.1
  ]
