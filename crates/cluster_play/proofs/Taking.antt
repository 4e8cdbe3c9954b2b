-- What a node takes is what it makes and what is brought to it.
use Rattle.std.proofs.Common.{◌≡◌, ◌↔◌, ℕ, Bool, true, false, cond, ◌||◌, ◌&&◌, not, nat_eq, nat_lt, List, [], ◌∷◌, ◌++◌, Option, Some, None, refl, sym, ap, ◌∙◌, ◌⊎◌, inl, inr, subst, eq-eqb, append_assoc, length}
use Rattle.std.proofs.lemmas.List.{append-nil}
use Rattle.std.specs.List.{slice_get}
use Rattle.std.specs.FinSet as set
use Rattle.causal_context.specs.Dots.{Dot}
use Rattle.replica_store.specs.declared.operation.Operation.{Operation}
use Rattle.replica_store.specs.Operations.{dot_of, Among}
use Rattle.replica_store.specs.States.{State}
use Rattle.bridge_frames.specs.declared.body.FrameBody.{FrameBody}
use Rattle.bridge_frames.specs.declared.body.FrameBody.TheVariants.{Hello, Delta, Know, Forward, Got}
use Rattle.bridge_frames.specs.declared.frame.BridgeFrame.{BridgeFrame}
use Rattle.bridge_frames.specs.Frames.{frame_in, spelling}
use Rattle.bridge_frames.proofs.FrameLaws.{read_again}
use Rattle.broker_node.specs.declared.event.Event.{Event}
use Rattle.broker_node.specs.declared.event.EventKind.{EventKind}
use Rattle.broker_node.specs.declared.event.EventKind.TheVariants as kinds
use Rattle.node_work.specs.declared.frame.Frame.{Frame}
use Rattle.node_work.specs.Acts.{Act, MomentTaken, Began, Moved, Store, Connection, Session, Bridge, Out, Named, Acknowledged, Passed, Dropped, Made, Merged, gather, op_in, merge_in}
use Rattle.broker_node.specs.Step.{brought, brought_in}
use Rattle.node_work.specs.Frames.{is_for_node, names_nodes, states_in}
use Rattle.node_work.specs.View.{Place, nodes_of}
use Rattle.cluster_play.specs.Worlds.{World, Fate, Released, Lost, Cut, Faulted, Was_down, Restarted}
use Rattle.cluster_play.specs.Runs.{Played, Run, frames_released, IsKnown}
use Rattle.cluster_play.specs.Histories.{Reached, site, event_committed, acts_of, made, gained, gains, taken, same_dot}
use Rattle.cluster_play.specs.MadeOperations.{MakesDot, BringsDot}
use Rattle.cluster_play.proofs.Bools.{or_true, or_left, or_right, and_true, nat_is, dot_is, dot_same, some_is}
use Rattle.cluster_play.proofs.Brought.{brings}
use Rattle.cluster_play.proofs.Explaining.{Explains, Past, past}
use Rattle.cluster_play.proofs.Kept.{explained}
use Rattle.cluster_play.proofs.Paths.{known_event, step_frames, taken_both, midway}
use Rattle.cluster_play.proofs.Rows.{committed}
use Rattle.cluster_play.proofs.Catching.{any_lists, takes_all}
use Rattle.cluster_play.proofs.Plain.{sound_among}
use Rattle.cluster_play.proofs.Telling.{IsTold, dots_in}

-- what acts take is made or merged by them
gained_from : (acts : List Act) (d : Dot) → gained acts d ≡ true → ((o : Operation) × Among o (gather op_in acts) × (dot_of o ≡ d)) ⊎ (any_lists (gather merge_in acts) d ≡ true)
gained_from [] d h = cc
gained_from (MomentTaken at ∷ acts) d h = gained_from acts d h
gained_from (Began ∷ acts) d h = gained_from acts d h
gained_from (Moved homes ∷ acts) d h = gained_from acts d h
gained_from (Store (Made o) ∷ acts) d h = elim (or_true (same_dot (dot_of o) d) (gained acts d) h) [
  | inl a ↦ inl (o, inl refl, dot_is (dot_of o) d a)
  | inr b ↦ elim (gained_from acts d b) [ inl r ↦ inl (r.0, inr r.1, r.2) | inr r ↦ inr r ]
]
gained_from (Store (Merged t) ∷ acts) d h = elim (or_true (set.contains t.taken d) (gained acts d) h) [
  | inl a ↦ inr (or_left (set.contains t.taken d) (any_lists (gather merge_in acts) d) a)
  | inr b ↦ elim (gained_from acts d b) [ inl r ↦ inl r | inr r ↦ inr (or_right (set.contains t.taken d) (any_lists (gather merge_in acts) d) r) ]
]
gained_from (Connection a ∷ acts) d h = gained_from acts d h
gained_from (Session a ∷ acts) d h = gained_from acts d h
gained_from (Bridge a ∷ acts) d h = gained_from acts d h
gained_from (Out o ∷ acts) d h = gained_from acts d h
gained_from (Named number ∷ acts) d h = gained_from acts d h
gained_from (Acknowledged client packet at grants offers ∷ acts) d h = gained_from acts d h
gained_from (Passed m copies lost routes ∷ acts) d h = gained_from acts d h
gained_from (Dropped ∷ acts) d h = gained_from acts d h

made_gains : (acts : List Act) (o : Operation) (d : Dot) → Among o (gather op_in acts) → dot_of o ≡ d → gained acts d ≡ true
made_gains [] o d a e = absurd a
made_gains (MomentTaken at ∷ acts) o d a e = made_gains acts o d a e
made_gains (Began ∷ acts) o d a e = made_gains acts o d a e
made_gains (Moved homes ∷ acts) o d a e = made_gains acts o d a e
made_gains (Store (Made p) ∷ acts) o d (inl s) e = or_left (same_dot (dot_of p) d) (gained acts d) (dot_same (dot_of p) d (ap dot_of (sym s) ∙ e))
made_gains (Store (Made p) ∷ acts) o d (inr b) e = or_right (same_dot (dot_of p) d) (gained acts d) (made_gains acts o d b e)
made_gains (Store (Merged t) ∷ acts) o d a e = or_right (set.contains t.taken d) (gained acts d) (made_gains acts o d a e)
made_gains (Connection c ∷ acts) o d a e = made_gains acts o d a e
made_gains (Session c ∷ acts) o d a e = made_gains acts o d a e
made_gains (Bridge c ∷ acts) o d a e = made_gains acts o d a e
made_gains (Out x ∷ acts) o d a e = made_gains acts o d a e
made_gains (Named number ∷ acts) o d a e = made_gains acts o d a e
made_gains (Acknowledged client packet at grants offers ∷ acts) o d a e = made_gains acts o d a e
made_gains (Passed m copies lost routes ∷ acts) o d a e = made_gains acts o d a e
made_gains (Dropped ∷ acts) o d a e = made_gains acts o d a e

-- the step that takes a dot
taken_at : (i : ℕ) (run : List Played) (d : Dot) → taken i run d ≡ true
    → (before : List Played) × (m : Played) × (later : List Played) × (run ≡ before ++ m ∷ later) × (gains i m.fate d ≡ true)
taken_at i [] d h = cc
taken_at i (m ∷ run) d h = elim (or_true (gains i m.fate d) (taken i run d) h) [
  | inl a ↦ ([], m, run, refl, a)
  | inr b ↦ (let r = taken_at i run d b in (m ∷ r.0, r.1, r.2, ap (λ ms. m ∷ ms) r.3, r.4))
]

gains_means : (i : ℕ) (fate : Fate) (d : Dot) → gains i fate d ≡ true → (site fate ≡ i) × (gained (acts_of fate) d ≡ true)
gains_means i fate d h = let both = and_true (nat_eq (site fate) i) (gained (acts_of fate) d) h in (nat_is (site fate) i both.0, both.1)

taken_there : (i : ℕ) (before later : List Played) (m : Played) (d : Dot) → site m.fate ≡ i → gained (acts_of m.fate) d ≡ true → taken i (before ++ m ∷ later) d ≡ true
taken_there i before later m d at h =
    taken_both i before (m ∷ later) d ∙ or_right (taken i before d) (gains i m.fate d || taken i later d) (or_left (gains i m.fate d) (taken i later d) (λ k. eq-eqb (site m.fate) i at k && h k))

gaining_commits : (fate : Fate) (d : Dot) → gained (acts_of fate) d ≡ true → (e : Event) × (event_committed fate ≡ Some e)
gaining_commits (Released i e acts outputs) d h = (e, refl)
gaining_commits (Lost i e acts) d h = (e, refl)
gaining_commits (Cut i) d h = cc
gaining_commits (Faulted i fault) d h = cc
gaining_commits (Was_down i) d h = cc
gaining_commits (Restarted i homes) d h = cc

-- the bytes that an event brings are read as a frame for the node, which lists the dot
pub record FrameLists (id : ℕ) (e : EventKind) (d : Dot) : Type 0 where
  pub bytes : List ℕ
  pub brings : e ≡ kinds.Frame bytes
  pub frame : BridgeFrame
  pub reads : frame_in bytes ≡ Some frame
  pub to : frame.to ≡ id
  pub state : State
  pub is_delta : frame.body ≡ Delta state
  pub lists : set.contains state.taken d ≡ true

body_lists : (b : FrameBody) (d : Dot) → any_lists (states_in b) d ≡ true → (t : State) × (b ≡ Delta t) × (set.contains t.taken d ≡ true)
body_lists (Hello g) d h = cc
body_lists (Delta t) d h = elim (or_true (set.contains t.taken d) false h) [ inl a ↦ (t, refl, a) | inr b ↦ cc ]
body_lists (Know dots) d h = cc
body_lists (Forward number m) d h = cc
body_lists (Got number) d h = cc

if_lists : (b : Bool) (ts : List State) (d : Dot) → any_lists (cond b ts []) d ≡ true → (b ≡ true) × (any_lists ts d ≡ true)
if_lists true ts d h = (refl, h)
if_lists false ts d h = cc

read_lists : (p : Place) (bytes : List ℕ) (d : Dot) (o : Option BridgeFrame) → frame_in bytes ≡ o → any_lists (brought_in p o) d ≡ true → FrameLists p.id (kinds.Frame bytes) d
read_lists p bytes d None is h = cc
read_lists p bytes d (Some f) is h =
    let taken = if_lists (is_for_node p f) (states_in f.body) d h in
    let t = body_lists f.body d taken.1 in
    let named = and_true (nat_eq f.to p.id && not (nat_eq f.from p.id) && nat_lt f.from (nodes_of p)) (names_nodes (nodes_of p) f.body) taken.0 in
    let parts = and_true (nat_eq f.to p.id && not (nat_eq f.from p.id)) (nat_lt f.from (nodes_of p)) named.0 in
    record { bytes = bytes; brings = refl; frame = f; reads = is; to = nat_is f.to p.id (and_true (nat_eq f.to p.id) (not (nat_eq f.from p.id)) parts.0).0; state = t.0; is_delta = t.1; lists = t.2 }

frame_lists : (p : Place) (e : EventKind) (d : Dot) → any_lists (brought p e) d ≡ true → FrameLists p.id e d
frame_lists p kinds.Started d h = cc
frame_lists p (kinds.Opened c) d h = cc
frame_lists p (kinds.Piece c bytes) d h = cc
frame_lists p (kinds.Closed c) d h = cc
frame_lists p (kinds.Room c bytes) d h = cc
frame_lists p (kinds.Frame bytes) d h = read_lists p bytes d (frame_in bytes) refl h
frame_lists p (kinds.Linked peer) d h = cc
frame_lists p (kinds.Ship peer) d h = cc
frame_lists p (kinds.More peer after) d h = cc
frame_lists p kinds.Tick d h = cc
frame_lists p (kinds.Evict client) d h = cc
frame_lists p (kinds.Table homes) d h = cc

-- a frame that bytes which were released are read as is one that was given out
pub record IsGivenOut (p : Past) (count : ℕ) (bytes : List ℕ) (f : BridgeFrame) : Type 0 where
  pub told : IsTold count p.ops p.took f
  pub is : bytes ≡ spelling f

given_out : (p : Past) (w : World) → Explains p w → (bytes : List ℕ) (f : BridgeFrame) → IsKnown w.frames (kinds.Frame bytes) → frame_in bytes ≡ Some f → IsGivenOut p (length w.sites) bytes f
given_out p w e bytes f known reads =
    let b = brings p w e bytes known in
    let same : b.frame ≡ f = some_is (sym b.read ∙ reads) in
    record { told = subst (IsTold (length w.sites) p.ops p.took) same b.told; is = b.is ∙ ap spelling same }

-- what a step merges came with its frame
brings_dot : (run before later : List Played) (m : Played) (w : World) → run ≡ before ++ m ∷ later → Reached run w → (i : ℕ) (d : Dot) → site m.fate ≡ i
    → gained (acts_of m.fate) d ≡ true → any_lists (gather merge_in (acts_of m.fate)) d ≡ true → BringsDot i run d
brings_dot run before later m w is r i d at gain merged =
    let half = midway before (m ∷ later) w (subst (λ ms. Reached ms w) is r) in
    let j = site m.fate in
    let e = gaining_commits m.fate d gain in
    let c = committed half.mid m.step m.fate half.path.0 e.0 half.path.1 e.1 in
    let place = c.was.node.place in
    let came = if_lists c.before.started (brought place e.0.kind) d (ap (λ ts. any_lists ts d) (sym c.steps.merged) ∙ merged) in
    let f = frame_lists place e.0.kind d came.1 in
    let x = explained before half.mid half.reached in
    let known = known_event half.mid m.step m.fate half.path.0 e.0 half.honest.0 half.path.1 e.1 in
    let g = given_out (past half.reached.start before) half.mid x f.bytes f.frame (subst (IsKnown half.mid.frames) f.brings known) f.reads in
    let here : place.id ≡ j = (x.sites j c.was c.at).id in
    let to : f.frame.to ≡ j = f.to ∙ here in
    record {
      before = before;
      m = m;
      later = later;
      run_is = is;
      mid = half.mid;
      after = half.path.0;
      reached = half.reached;
      frame = f.frame;
      spelled = g.told.spelled;
      to = to ∙ at;
      arrives = record {
        held = c.before;
        holds = record { site = c.was; at = subst (λ k. slice_get half.mid.sites k ≡ Some c.was) (sym to) c.at; up = c.up };
        started = came.0;
        happens = half.path.1;
        at = sym to;
        event = e.0;
        commits = e.1;
        brings = f.brings ∙ ap kinds.Frame g.is;
      };
      state = f.state;
      is_delta = f.is_delta;
      lists = f.lists;
    }

-- the frames of a world that a run reaches
all_released : List Played → List Frame
all_released [] = []
all_released (m ∷ run) = frames_released m.fate ++ all_released run

run_frames : (run : List Played) (w w' : World) → Run w run w' → w'.frames ≡ w.frames ++ all_released run
unfolding all_released
run_frames [] w w' r = ap (λ (v : World). v.frames) r ∙ sym (append-nil w.frames)
run_frames (m ∷ run) w w' r =
    run_frames run r.0 w' r.2 ∙ ap (λ fs. fs ++ all_released run) (step_frames w m.step m.fate r.0 r.1) ∙ append_assoc w.frames (frames_released m.fate) (all_released run)

same_frames : (run : List Played) (w v : World) → Reached run w → Reached run v → w.frames ≡ v.frames
same_frames run w v r q =
    run_frames run r.start w r.path ∙ ap (λ fs. fs ++ all_released run) (r.is_start.frames ∙ sym q.is_start.frames) ∙ sym (run_frames run q.start v q.path)

-- a frame that was brought lists what its sender had taken
dot_brought : (run : List Played) (w : World) → Reached run w → (i : ℕ) (d : Dot) → BringsDot i run d → taken i run d ≡ true
dot_brought run w r i d b =
    let half = midway b.before (b.m ∷ b.later) w (subst (λ ms. Reached ms w) b.run_is r) in
    let a = b.arrives in
    let known : IsKnown half.mid.frames a.event.kind = known_event half.mid b.m.step b.m.fate half.path.0 a.event half.honest.0 half.path.1 a.commits in
    let there : IsKnown b.mid.frames a.event.kind = subst (λ fs. IsKnown fs a.event.kind) (same_frames b.before half.mid b.mid half.reached b.reached) known in
    let g = given_out (past b.reached.start b.before) b.mid (explained b.before b.mid b.reached) (spelling b.frame) b.frame (subst (IsKnown b.mid.frames) a.brings there) (read_again b.frame b.spelled) in
    let had : taken b.frame.from b.before d ≡ true = g.told.lists d (ap (λ body. set.contains (dots_in body) d) b.is_delta ∙ b.lists) in
    let among = sound_among (length b.mid.sites) (made b.before) b.state (g.told.sound b.state b.is_delta) (explained b.before b.mid b.reached).plain in
    let has = takes_all b.before b.mid b.after b.reached b.m b.frame a b.state b.is_delta b.later b.spelled g.told.from among d had b.lists in
    subst (λ ms. taken i ms d ≡ true) (sym b.run_is) (subst (λ k. taken k (b.before ++ b.m ∷ b.later) d ≡ true) b.to has)

pub takes_what_is_brought : (run : List Played) (w : World) → Reached run w → (i : ℕ) (d : Dot) → (taken i run d ≡ true) ↔ (MakesDot i run d ⊎ BringsDot i run d)
takes_what_is_brought run w r i d = (
  λ h. (let s = taken_at i run d h in
      let g = gains_means i s.1.fate d s.4 in
      elim (gained_from (acts_of s.1.fate) d g.1) [
        | inl o ↦ inl (record { before = s.0; m = s.1; later = s.2; run_is = s.3; at = g.0; operation = o.0; among = o.1; dot = o.2 })
        | inr b ↦ inr (brings_dot run s.0 s.2 s.1 w s.3 r i d g.0 g.1 b)
      ]),
  λ x. elim x [
    | inl m ↦ subst (λ ms. taken i ms d ≡ true) (sym m.run_is) (taken_there i m.before m.later m.m d m.at (made_gains (acts_of m.m.fate) m.operation d m.among m.dot))
    | inr b ↦ dot_brought run w r i d b
  ],
)
