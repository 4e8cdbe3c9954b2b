-- What an event brings, and what the acts of its node come to, in a world that is explained.
use Rattle.std.proofs.Common.{◌≡◌, ℕ, ◌<◌, Bool, true, false, cond, List, [], ◌++◌, Some, refl, sym, ap, ◌∙◌, inl, inr, subst, length}
use Rattle.std.specs.List.{slice_get}
use Rattle.std.specs.FinSet as set
use Rattle.causal_context.specs.Dots.{Dot}
use Rattle.replica_store.specs.States.{State}
use Rattle.broker_node.specs.declared.event.Event.{Event}
use Rattle.broker_node.specs.declared.event.EventKind.{EventKind}
use Rattle.broker_node.specs.declared.event.EventKind.TheVariants as kinds
use Rattle.bridge_frames.specs.declared.body.FrameBody.{FrameBody}
use Rattle.bridge_frames.specs.declared.body.FrameBody.TheVariants.{Hello, Delta, Know, Forward, Got}
use Rattle.bridge_frames.specs.declared.frame.BridgeFrame.{BridgeFrame}
use Rattle.bridge_frames.specs.Frames.{frame_in, spelling}
use Rattle.node_work.specs.declared.frame.Frame.{Frame}
use Rattle.node_work.specs.declared.outcome.Output.{Output}
use Rattle.node_work.specs.Acts.{Act, Runs, gather, heard_in, op_in, merge_in}
use Rattle.node_work.specs.Frames.{is_for_node, states_in}
use Rattle.node_work.specs.Held.Bridge.{BridgeAct}
use Rattle.node_work.specs.View.{Place, HeldView}
use Rattle.broker_node.specs.Step.{Steps, IsHeard, IsHeardOf, IsHeardIn, brought, brought_in}
use Rattle.cluster_play.specs.Worlds.{Site, World}
use Rattle.cluster_play.specs.Runs.{IsKnown}
use Rattle.cluster_play.proofs.Bridging.{AreSo, IsKept, IsSo, acts_kept}
use Rattle.cluster_play.proofs.Sites.{get_within}
use Rattle.cluster_play.proofs.Rows.{Committed}
use Rattle.cluster_play.proofs.Sound.{Sound, lists}
use Rattle.cluster_play.proofs.Growing.{AllSound, Grows, Holding, acts_grow}
use Rattle.cluster_play.proofs.Plain.{AllPlain, acts_plain}
use Rattle.cluster_play.proofs.Splits.{all_front, gather_both}
use Rattle.cluster_play.proofs.Telling.{IsTold, dots_in, given_read, told}
use Rattle.cluster_play.proofs.Explaining.{Past, Explains}

-- ---- what an event brings was in a frame that was released
-- the frame that its bytes are
pub record Brings (p : Past) (count : ℕ) (bytes : List ℕ) : Type 0 where
  pub frame : BridgeFrame
  pub is : bytes ≡ spelling frame
  pub read : frame_in bytes ≡ Some frame
  pub told : IsTold count p.ops p.took frame

pub brings : (p : Past) (w : World) → Explains p w → (bytes : List ℕ) → IsKnown w.frames (kinds.Frame bytes) → Brings p (length w.sites) bytes
brings p w e bytes known =
    let g = e.frames known.0 known.1 known.2 in
    record { frame = g.frame; is = known.3 ∙ ap (λ (f : Frame). f.bytes) g.is; read = ap frame_in known.3 ∙ given_read (length w.sites) p.ops p.took known.1 g; told = g.told }

module _ (p : Past) (w : World) (e : Explains p w) where
  all_in : (b : FrameBody) → ((t : State) → b ≡ Delta t → Sound p.ops t) → AllSound p.ops (states_in b)
  all_in (Hello g) h = tt
  all_in (Delta t) h = (h t refl, tt)
  all_in (Know dots) h = tt
  all_in (Forward number m) h = tt
  all_in (Got number) h = tt

  all_if : (b : Bool) (ts : List State) → AllSound p.ops ts → AllSound p.ops (cond b ts [])
  all_if true ts h = h
  all_if false ts h = tt

  all_brought : (q : Place) (k : EventKind) → IsKnown w.frames k → AllSound p.ops (brought q k)
  all_brought q kinds.Started known = tt
  all_brought q (kinds.Opened c) known = tt
  all_brought q (kinds.Piece c bytes) known = tt
  all_brought q (kinds.Closed c) known = tt
  all_brought q (kinds.Room c bytes) known = tt
  all_brought q (kinds.Frame bytes) known =
      let b = brings p w e bytes known in
      subst (λ o. AllSound p.ops (brought_in q o)) (sym b.read) (all_if (is_for_node q b.frame) (states_in b.frame.body) (all_in b.frame.body b.told.sound))
  all_brought q (kinds.Linked peer) known = tt
  all_brought q (kinds.Ship peer) known = tt
  all_brought q (kinds.More peer after) known = tt
  all_brought q kinds.Tick known = tt
  all_brought q (kinds.Evict client) known = tt
  all_brought q (kinds.Table homes) known = tt

  pub all_merged : (q : Place) (h h' : HeldView) (v : Event) (acts : List Act) (outputs : List Output) → IsKnown w.frames v.kind → Steps q h v acts outputs h' → AllSound p.ops (gather merge_in acts)
  all_merged q h h' v acts outputs known s = subst (AllSound p.ops) (sym s.merged) (all_if h.started (brought q v.kind) (all_brought q v.kind known))

  -- and what it tells of dots is so
  none_so : (bs : List BridgeAct) → bs ≡ [] → AreSo p.took bs
  none_so bs is = subst (AreSo p.took) (sym is) tt

  so_in : (from : ℕ) (b : FrameBody) (bs : List BridgeAct) → ((d : Dot) → set.contains (dots_in b) d ≡ true → p.took from d ≡ true) → IsHeardOf from b bs → AreSo p.took bs
  so_in from (Hello g) bs told is = subst (AreSo p.took) (sym is) (told, tt)
  so_in from (Delta t) bs told is = none_so bs is
  so_in from (Know dots) bs told is = subst (AreSo p.took) (sym is) (told, tt)
  so_in from (Forward number m) bs told (inl is) = none_so bs is
  so_in from (Forward number m) bs told (inr x) = subst (AreSo p.took) (sym x.2) (tt, tt)
  so_in from (Got number) bs told is = subst (AreSo p.took) (sym is) (tt, tt)

  so_if : (b : Bool) (X : Type 0) (bs : List BridgeAct) → (X → AreSo p.took bs) → cond b X (bs ≡ []) → AreSo p.took bs
  so_if true X bs f h = f h
  so_if false X bs f h = none_so bs h

  so_brought : (q : Place) (k : EventKind) (bs : List BridgeAct) → IsKnown w.frames k → IsHeard q k bs → AreSo p.took bs
  so_brought q kinds.Started bs known h = none_so bs h
  so_brought q (kinds.Opened c) bs known h = none_so bs h
  so_brought q (kinds.Piece c bytes) bs known h = none_so bs h
  so_brought q (kinds.Closed c) bs known h = none_so bs h
  so_brought q (kinds.Room c bytes) bs known h = none_so bs h
  so_brought q (kinds.Frame bytes) bs known h =
      let b = brings p w e bytes known in
      so_if (is_for_node q b.frame) (IsHeardOf b.frame.from b.frame.body bs) bs (so_in b.frame.from b.frame.body bs b.told.lists) (subst (λ o. IsHeardIn q o bs) b.read h)
  so_brought q (kinds.Linked peer) bs known h = none_so bs h
  so_brought q (kinds.Ship peer) bs known h = none_so bs h
  so_brought q (kinds.More peer after) bs known h = none_so bs h
  so_brought q kinds.Tick bs known h = none_so bs h
  so_brought q (kinds.Evict client) bs known h = none_so bs h
  so_brought q (kinds.Table homes) bs known h = none_so bs h

  pub all_so : (q : Place) (h h' : HeldView) (v : Event) (acts : List Act) (outputs : List Output) → IsKnown w.frames v.kind → Steps q h v acts outputs h' → AreSo p.took (gather heard_in acts)
  all_so q h h' v acts outputs known s = so_if h.started (IsHeard q v.kind (gather heard_in acts)) (gather heard_in acts) (so_brought q v.kind (gather heard_in acts) known) s.heard

-- ---- a node commits acts
-- what the acts of a step do, or those at its front: what they make, and what the node holds then
pub record Acted (p : Past) (count i : ℕ) (h : HeldView) (acts : List Act) (h' : HeldView) : Type 0 where
  pub grows : Grows i p.ops h acts h'
  pub plain : AllPlain count (p.ops ++ gather op_in acts)
  pub kept : IsKept count p.took h'.bridge

pub site_acts : (p : Past) (w : World) → Explains p w → (i : ℕ) (s : Site) → slice_get w.sites i ≡ Some s → (h h' : HeldView) (acts : List Act) → s.node.up ≡ Some h → Runs s.node.place h acts h'
    → AllSound p.ops (gather merge_in acts) → AreSo p.took (gather heard_in acts) → Acted p (length w.sites) i h acts h'
site_acts p w e i s at h h' acts up runs all so =
    let x = e.sites i s at in
    let count = length w.sites in
    let same : x.held ≡ h = sym (x.up h up) in
    let place = s.node.place in
    let holding : Holding place.id p.ops h = subst (λ j. Holding j p.ops h) (sym x.id) (subst (Holding i p.ops) same x.holding) in
    record {
      grows = subst (λ j. Grows j p.ops h acts h') x.id (acts_grow place acts p.ops h h' holding runs all);
      plain = acts_plain place count acts p.ops h h' (subst (λ j. j < count) (sym x.id) (get_within w.sites i s at)) holding runs all e.plain;
      kept = acts_kept count p.took place acts h h' (subst (λ (v : HeldView). IsKept count p.took v.bridge) same x.kept) runs so;
    }

-- after some acts of a step that was committed
pub site_amid : (p : Past) (w : World) (x : Explains p w) (i : ℕ) (e : Event) (acts : List Act) (w' : World) (c : Committed w i e acts w') → IsKnown w.frames e.kind
    → (before rest : List Act) (mid : HeldView) → acts ≡ before ++ rest → Runs c.was.node.place c.before before mid → Acted p (length w.sites) i c.before before mid
site_amid p w x i e acts w' c known before rest mid is runs =
    let all = all_merged p w x c.was.node.place c.before c.after e acts c.outputs known c.steps in
    let so = all_so p w x c.was.node.place c.before c.after e acts c.outputs known c.steps in
    site_acts p w x i c.was c.at c.before mid before c.up runs
    (all_front (Sound p.ops) (gather merge_in before) (gather merge_in rest) (subst (AllSound p.ops) (ap (gather merge_in) is ∙ gather_both merge_in before rest) all)).0
    (all_front (IsSo p.took) (gather heard_in before) (gather heard_in rest) (subst (AreSo p.took) (ap (gather heard_in) is ∙ gather_both heard_in before rest) so)).0
