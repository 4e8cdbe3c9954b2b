-- What nodes put into lanes and took of them explains what they hold and the frames.
use Rattle.std.proofs.Common.{◌≡◌, ◌≢◌, ℕ, ◌≤◌, Bool, true, false, cond, not, ◌&&◌, nat_eq, nat_lt, List, [], ◌∷◌, ◌++◌, Option, Some, None, refl, sym, ap, ◌∙◌, inl, inr, subst, length, length-append, append_assoc, eq-eqb, arith}
use Rattle.std.proofs.lemmas.List.{append-nil}
use Rattle.std.specs.List.{slice_get}
use Rattle.bridge_frames.specs.declared.body.FrameBody.{FrameBody}
use Rattle.bridge_frames.specs.declared.body.FrameBody.TheVariants as bodies
use Rattle.bridge_frames.specs.declared.forward.Forward.{Forward}
use Rattle.bridge_frames.specs.declared.frame.BridgeFrame.{BridgeFrame}
use Rattle.bridge_frames.specs.Frames.{HasSpelling, frame_in}
use Rattle.bridge_frames.proofs.FrameLaws.{read_again}
use Rattle.bridge_lanes.specs.Lanes.{lane_of, Begins}
use Rattle.bridge_lanes.proofs.LaneLists.{begins_length, begins_longer}
use Rattle.bridge_lanes.proofs.Keeping.{AreKept, IsKept, kept_new, kept_later}
use Rattle.bridge_lanes.proofs.Tables.{lane_new}
use Rattle.broker_node.specs.declared.event.Event.{Event}
use Rattle.broker_node.specs.declared.event.EventKind.{EventKind}
use Rattle.broker_node.specs.declared.event.EventKind.TheVariants as kinds
use Rattle.broker_node.specs.Step.{IsHeard, IsHeardIn, IsHeardOf}
use Rattle.node_work.specs.declared.frame.Frame.{Frame}
use Rattle.node_work.specs.Acts.{Act, Bridge, Runs, gather, heard_in}
use Rattle.node_work.specs.Frames.{is_for_node, names_nodes}
use Rattle.node_work.specs.Held.Bridge.{BridgeAct, Gave}
use Rattle.home_table.specs.Table.{Table}
use Rattle.node_work.specs.View.{Place, HeldView, NodeView, fresh, nodes_of}
use Rattle.law_nodes.specs.Moves.{Move, Moves, Reopened, did}
use Rattle.law_nodes.proofs.MoveLaws.{moves_join, acts_are_moves, moves_lead_to_one}
use Rattle.cluster_play.specs.declared.step.Step.{Step}
use Rattle.cluster_play.specs.Worlds.{Site, World, Fate, Released, Lost, Cut, Faulted, Was_down, Restarted, Happens, frames_in}
use Rattle.cluster_play.specs.Runs.{Played, IsKnown, IsHonestStep}
use Rattle.cluster_play.specs.Histories.{site, moves_of, moves_at, IsStart, Reached}
use Rattle.cluster_play.proofs.Bools.{and_true, nat_is, nat_other, nat_cases, some_is, none-some}
use Rattle.cluster_play.proofs.Brought.{site_amid}
use Rattle.cluster_play.proofs.Explaining.{Seated, first_in, led_by, past}
use Rattle.cluster_play.proofs.Giving.{given_out}
use Rattle.cluster_play.proofs.Kept.{explained}
use Rattle.cluster_play.proofs.Paths.{along_from, known_event, moves_more}
use Rattle.cluster_play.proofs.Rows.{Committed, Rests, Woke, came}
use Rattle.cluster_play.proofs.Sites.{get-set_same, get-set_other}
use Rattle.cluster_play.proofs.Splits.{gather_both, runs_split}
use Rattle.cluster_play.proofs.Telling.{given_spelled}
use Rattle.law_runs.specs.LaneHistories.{at_node, by_bridge, put, put_by, took, took_by}
use Rattle.law_runs.proofs.LaneActs.{SaysOf, says_later, AllTold, LanesGrow, given_by, lanes_grow}

abbrev pub Histories : Type 0
Histories = ℕ → ℕ → List Forward

-- node i holds this, or held it last, since it was first opened
pub record HeldLast (start : World) (run : List Played) (w : World) (i : ℕ) (h : HeldView) : Type 0 where
  pub node : Site
  pub at : slice_get w.sites i ≡ Some node
  pub first : Table
  pub was : first_in start i ≡ Some first
  pub moves : Moves node.node.place (fresh first) (moves_at i run) h

-- put i j has what node i put into its lane to node j, and took i j what node i took of the lane from node j
pub record LanesExplain (start : World) (put took : Histories) (run : List Played) (w : World) : Type 0 where
  pub begins : (i j : ℕ) → Begins (took j i) (put i j)
  pub sites : (i : ℕ) (h : HeldView) → HeldLast start run w i h → AreKept h.bridge.lanes (put i) (took i) (λ j. took j i)
  pub frames : (n : ℕ) (sent : Frame) (f : BridgeFrame) → slice_get w.frames n ≡ Some sent → frame_in sent.bytes ≡ Some f → SaysOf (put f.from f.to) (took f.from f.to) f.body

moves_split : (p : Place) (xs ys : List Move) (a b : HeldView) → Moves p a (xs ++ ys) b → (m : HeldView) × Moves p a xs m × Moves p m ys b
moves_split p [] ys a b r = (a, refl, r)
moves_split p (x ∷ xs) ys a b r = let s = moves_split p xs ys r.0 b r.2 in (s.0, (r.0, r.1, s.1), s.2)

-- moves of a node are those of another one with its place, from the same table on
led_from : (p p' : Place) (first first' : Table) (ms : List Move) (h : HeldView) → p ≡ p' → first ≡ first' → Moves p (fresh first) ms h → Moves p' (fresh first') ms h
led_from p p' first first' ms h place table moves = subst (λ t. Moves p' (fresh t) ms h) table (led_by p p' first ms h (sym place) moves)

-- lanes last
lanes_last : (p : Place) (homes : Table) (a b : HeldView) → Moves p a (Reopened homes ∷ []) b → b.bridge.lanes ≡ a.bridge.lanes
lanes_last p homes a b r = ap (λ (v : HeldView). v.bridge.lanes) r.2 ∙ ap (λ (v : HeldView). v.bridge.lanes) r.1.2

-- one more moment, of this node or of another one
own_more : (i : ℕ) (run : List Played) (m : Played) → site m.fate ≡ i → moves_at i (run ++ m ∷ []) ≡ moves_at i run ++ moves_of m.fate
own_more i run m own = sym (moves_more i run m) ∙ ap (λ b. moves_at i run ++ cond b (moves_of m.fate) []) (eq-eqb (site m.fate) i own)

other_more : (i : ℕ) (run : List Played) (m : Played) → site m.fate ≢ i → moves_at i (run ++ m ∷ []) ≡ moves_at i run
other_more i run m ne = sym (moves_more i run m) ∙ ap (λ b. moves_at i run ++ cond b (moves_of m.fate) []) (nat_other (site m.fate) i ne) ∙ append-nil (moves_at i run)

none_more : (i : ℕ) (run : List Played) (m : Played) → moves_of m.fate ≡ [] → moves_at i (run ++ m ∷ []) ≡ moves_at i run
none_more i run m none = elim (nat_cases (site m.fate) i) [
  | inl own ↦ own_more i run m own ∙ ap (λ ms. moves_at i run ++ ms) none ∙ append-nil (moves_at i run)
  | inr ne ↦ other_more i run m ne
]

get_behind : {A : Type 0} (xs : List A) (y : A) (ys : List A) → slice_get (xs ++ y ∷ ys) (length xs) ≡ Some y
get_behind [] y ys = refl
get_behind (x ∷ xs) y ys = get_behind xs y ys

given_at : (acts before after : List Act) (f : BridgeFrame) → acts ≡ before ++ Bridge (Gave f) ∷ after → slice_get (gather (by_bridge given_by) acts) (length (gather (by_bridge given_by) before)) ≡ Some f
given_at acts before after f e =
    ap (λ xs. slice_get xs (length (gather (by_bridge given_by) before))) (ap (gather (by_bridge given_by)) e ∙ gather_both (by_bridge given_by) before (Bridge (Gave f) ∷ after))
    ∙ get_behind (gather (by_bridge given_by) before) f (gather (by_bridge given_by) after)

-- ---- what an event brings was in a frame that was released
module _ (put took : Histories) (i : ℕ) where
  abbrev All : List BridgeAct → Type 0
  All bs = AllTold (λ j. put j i) (λ j. took j i) bs

  all_none : (bs : List BridgeAct) → bs ≡ [] → All bs
  all_none bs e = subst All (sym e) tt

  all_of : (from : ℕ) (b : FrameBody) (bs : List BridgeAct) → SaysOf (put from i) (took from i) b → IsHeardOf from b bs → All bs
  all_of from (bodies.Hello g) bs s h = subst All (sym h) (tt, tt)
  all_of from (bodies.Delta t) bs s h = all_none bs h
  all_of from (bodies.Know dots) bs s h = subst All (sym h) (tt, tt)
  all_of from (bodies.Forward number m) bs s (inl h) = all_none bs h
  all_of from (bodies.Forward number m) bs s (inr h) = subst All (sym h.2) (s, tt)
  all_of from (bodies.Got number) bs s h = subst All (sym h) (s, tt)

  all_for : (p : Place) (f : BridgeFrame) (bs : List BridgeAct) (b : Bool) → p.id ≡ i → is_for_node p f ≡ b → SaysOf (put f.from f.to) (took f.from f.to) f.body → cond b (IsHeardOf f.from f.body bs) (bs ≡ []) → All bs
  all_for p f bs true own e s h =
      let named = and_true (nat_eq f.to p.id && not (nat_eq f.from p.id) && nat_lt f.from (nodes_of p)) (names_nodes (nodes_of p) f.body) e in
      let to : f.to ≡ i = nat_is f.to p.id (and_true (nat_eq f.to p.id) (not (nat_eq f.from p.id)) (and_true (nat_eq f.to p.id && not (nat_eq f.from p.id)) (nat_lt f.from (nodes_of p)) named.0).0).0 ∙ own in
      all_of f.from f.body bs (subst (λ k. SaysOf (put f.from k) (took f.from k) f.body) to s) h
  all_for p f bs false own e s h = all_none bs h

  module _ (sent : List Frame) (says : (n : ℕ) (g : Frame) (f : BridgeFrame) → slice_get sent n ≡ Some g → frame_in g.bytes ≡ Some f → SaysOf (put f.from f.to) (took f.from f.to) f.body) (p : Place) (own : p.id ≡ i) where
    all_in : (bytes : List ℕ) (bs : List BridgeAct) (n : ℕ) (g : Frame) (o : Option BridgeFrame) → slice_get sent n ≡ Some g → bytes ≡ g.bytes → frame_in bytes ≡ o → IsHeardIn p o bs → All bs
    all_in bytes bs n g None at is e h = all_none bs h
    all_in bytes bs n g (Some f) at is e h = all_for p f bs (is_for_node p f) own refl (says n g f at (ap frame_in (sym is) ∙ e)) h

    all_heard : (k : EventKind) (bs : List BridgeAct) → IsKnown sent k → IsHeard p k bs → All bs
    all_heard kinds.Started bs known h = all_none bs h
    all_heard (kinds.Opened c) bs known h = all_none bs h
    all_heard (kinds.Piece c bytes) bs known h = all_none bs h
    all_heard (kinds.Closed c) bs known h = all_none bs h
    all_heard (kinds.Room c bytes) bs known h = all_none bs h
    all_heard (kinds.Frame bytes) bs known h = all_in bytes bs known.0 known.1 (frame_in bytes) known.2 known.3 refl h
    all_heard (kinds.Linked peer) bs known h = all_none bs h
    all_heard (kinds.Ship peer) bs known h = all_none bs h
    all_heard (kinds.More peer after) bs known h = all_none bs h
    all_heard kinds.Tick bs known h = all_none bs h
    all_heard (kinds.Evict client) bs known h = all_none bs h
    all_heard (kinds.Table homes) bs known h = all_none bs h

    all_if : (b : Bool) (k : EventKind) (bs : List BridgeAct) → IsKnown sent k → cond b (IsHeard p k bs) (bs ≡ []) → All bs
    all_if true k bs known h = all_heard k bs known h
    all_if false k bs known h = all_none bs h

-- what a step at node i adds to a history
abbrev added : ℕ → (BridgeAct → List Forward) → List Act → ℕ → List Forward
added i f acts k = cond (nat_eq i k) (gather (by_bridge f) acts) []

added_here : (i : ℕ) (f : BridgeAct → List Forward) (acts : List Act) (xs : List Forward) → xs ++ gather (by_bridge f) acts ≡ xs ++ added i f acts i
added_here i f acts xs = ap (λ b. xs ++ cond b (gather (by_bridge f) acts) []) (sym (eq-eqb i i refl))

added_there : (i k : ℕ) (f : BridgeAct → List Forward) (acts : List Act) (xs : List Forward) → i ≢ k → xs ≡ xs ++ added i f acts k
added_there i k f acts xs ne = sym (append-nil xs) ∙ ap (λ b. xs ++ cond b (gather (by_bridge f) acts) []) (sym (nat_other i k ne))

longer : (xs ys : List Forward) → length xs ≤ length (xs ++ ys)
longer xs ys = let n = length-append xs ys in omega arith

-- ---- a node commits acts
module _ (put took : Histories) (run : List Played) (w : World) (r : Reached run w) (x : LanesExplain r.start put took run w) (i : ℕ) (e : Event) (acts : List Act) (w' : World) (c : Committed w i e acts w') (m : Played)
    (own : site m.fate ≡ i) (moves : moves_of m.fate ≡ did acts) (known : IsKnown w.frames e.kind) where
  abbrev put' : Histories
  put' k j = put k j ++ added i (put_by j) acts k

  abbrev took' : Histories
  took' k j = took k j ++ added i (took_by j) acts k

  abbrev here : Seated (past r.start run) (length w.sites) i c.was
  here = (explained run w r).sites i c.was c.at

  abbrev place : Place
  place = c.was.node.place

  abbrev first : HeldView
  first = fresh here.first

  moved : Moves place first (moves_at i run) c.before
  moved = subst (Moves place first (moves_at i run)) (sym (here.up c.before c.up)) here.moves

  own_acts : LanesGrow place.id c.after.bridge.lanes (λ j. put i j ++ gather (by_bridge (put_by j)) acts) (λ j. took i j ++ gather (by_bridge (took_by j)) acts) (λ j. took j i) (λ j. put j i) (gather (by_bridge given_by) acts)
  own_acts =
      lanes_grow place (λ j. took j i) (λ j. put j i) acts c.before c.after (put i) (took i) (x.sites i c.before (record { node = c.was; at = c.at; first = here.first; was = here.was; moves = moved }))
      (λ j. begins_length (took j i) (put i j) (x.begins i j)) (λ j. x.begins j i) c.steps.runs
      (all_if put took i w.frames x.frames place here.id c.before.started e.kind (gather heard_in acts) known c.steps.heard)

  -- what the node holds afterwards
  after_is : (h : HeldView) → HeldLast r.start (run ++ m ∷ []) w' i h → h ≡ c.after
  after_is h l =
      let at : slice_get w'.sites i ≡ Some c.later = ap (λ ss. slice_get ss i) c.sites ∙ get-set_same w.sites i c.later c.was c.at in
      let there : l.node ≡ c.later = some_is (sym l.at ∙ at) in
      let same : l.node.node.place ≡ place = ap (λ (s : Site). s.node.place) there ∙ c.place in
      let table : l.first ≡ here.first = some_is (sym l.was ∙ here.was) in
      let mine : moves_at i (run ++ m ∷ []) ≡ moves_at i run ++ did acts = own_more i run m own ∙ ap (λ ms. moves_at i run ++ ms) moves in
      let all : Moves place first (moves_at i run ++ did acts) c.after = moves_join place (moves_at i run) (did acts) first c.before c.after moved (acts_are_moves place c.before c.after acts c.steps.runs) in
      moves_lead_to_one place first h c.after (moves_at i run ++ did acts)
      (subst (λ ms. Moves place first ms h) mine (led_from l.node.node.place place l.first here.first (moves_at i (run ++ m ∷ [])) h same table l.moves)) all

  -- another node goes on
  other_was : (k : ℕ) (h : HeldView) → i ≢ k → HeldLast r.start (run ++ m ∷ []) w' k h → HeldLast r.start run w k h
  other_was k h ne l = record {
    node = l.node;
    at = sym (get-set_other w.sites i k c.later ne) ∙ ap (λ ss. slice_get ss k) (sym c.sites) ∙ l.at;
    first = l.first;
    was = l.was;
    moves = subst (λ ms. Moves l.node.node.place (fresh l.first) ms h) (other_more k run m (λ q. ne (sym own ∙ q))) l.moves;
  }

  -- a frame that goes out has a spelling
  spelled : (before after : List Act) (f : BridgeFrame) → acts ≡ before ++ Bridge (Gave f) ∷ after → HasSpelling f
  spelled before after f is =
      let rest = Bridge (Gave f) ∷ after in
      let parts = runs_split place before rest c.before c.after (subst (λ xs. Runs place c.before xs c.after) is c.steps.runs) in
      let g = site_amid (past r.start run) w (explained run w r) i e acts w' c known before rest parts.0 is parts.1 in
      given_spelled (length w.sites) i _ (past r.start run).took parts.0 g.grows.holding g.kept place f parts.2.1.0

  new_says : (k : ℕ) (sent : Frame) (f : BridgeFrame) → slice_get (frames_in c.outputs) k ≡ Some sent → frame_in sent.bytes ≡ Some f → SaysOf (put' f.from f.to) (took' f.from f.to) f.body
  new_says k sent f at read =
      let o = given_out place acts c.before c.after c.steps.runs k sent (subst (λ os. slice_get (frames_in os) k ≡ Some sent) c.steps.given at) in
      let is : o.frame ≡ f = some_is (sym (read_again o.frame (spelled o.before o.after o.frame o.acts_are)) ∙ ap (λ (g : Frame). frame_in g.bytes) (sym o.is) ∙ read) in
      let s = own_acts.sent o.frame (length (gather (by_bridge given_by) o.before)) (given_at acts o.before o.after o.frame o.acts_are) in
      subst (λ (g : BridgeFrame). SaysOf (put' g.from g.to) (took' g.from g.to) g.body) is
      (subst (λ k. SaysOf (put' k o.frame.to) (took' k o.frame.to) o.frame.body) (sym (s.0 ∙ here.id))
      (subst (λ xs. SaysOf xs (took' i o.frame.to) o.frame.body) (added_here i (put_by o.frame.to) acts (put i o.frame.to))
      (subst (λ ys. SaysOf (put i o.frame.to ++ gather (by_bridge (put_by o.frame.to)) acts) ys o.frame.body) (added_here i (took_by o.frame.to) acts (took i o.frame.to)) s.1)))

  later_kept : (k : ℕ) (h : HeldView) (ps ts : ℕ → List Forward) → AreKept h.bridge.lanes ps ts (λ j. took j k) → AreKept h.bridge.lanes ps ts (λ j. took' j k)
  later_kept k h ps ts y j = kept_later (lane_of h.bridge.lanes j) (ps j) (ts j) (took j k) (took' j k) (longer (took j k) (added i (took_by k) acts j)) (y j)

  pub lanes_committed : LanesExplain r.start put' took' (run ++ m ∷ []) w'
  lanes_committed = record {
    begins = λ a b. begins_longer (took' b a) (put a b) (added i (put_by b) acts a) (elim (nat_cases i b) [
      | inl q ↦ subst (λ k. Begins (took' k a) (put a k)) q (subst (λ xs. Begins xs (put a i)) (added_here i (took_by a) acts (took i a)) (own_acts.begins a))
      | inr ne ↦ subst (λ xs. Begins xs (put a b)) (added_there i b (took_by a) acts (took b a) ne) (x.begins a b)
    ]);
    sites = λ k h l. elim (nat_cases i k) [
      | inl q ↦ subst (λ n. AreKept h.bridge.lanes (put' n) (took' n) (λ j. took' j n)) q (own_kept h (subst (λ n. HeldLast r.start (run ++ m ∷ []) w' n h) (sym q) l))
      | inr ne ↦ later_kept k h (put' k) (took' k)
          (subst (λ (ps : ℕ → List Forward). AreKept h.bridge.lanes ps (took' k) (λ j. took j k)) (λ n j. added_there i k (put_by j) acts (put k j) ne n)
          (subst (λ (ts : ℕ → List Forward). AreKept h.bridge.lanes (put k) ts (λ j. took j k)) (λ n j. added_there i k (took_by j) acts (took k j) ne n) (x.sites k h (other_was k h ne l))))
    ];
    frames = λ n sent f at read. elim (c.frames n sent at) [
      | inl old ↦ says_later (put f.from f.to) (took f.from f.to) (added i (put_by f.to) acts f.from) (added i (took_by f.to) acts f.from) f.body (x.frames n sent f old read)
      | inr new ↦ new_says new.0 sent f new.1 read
    ];
  } where
    own_kept : (h : HeldView) → HeldLast r.start (run ++ m ∷ []) w' i h → AreKept h.bridge.lanes (put' i) (took' i) (λ j. took' j i)
    own_kept h l = later_kept i h (put' i) (took' i)
        (subst (λ (v : HeldView). AreKept v.bridge.lanes (put' i) (took' i) (λ j. took j i)) (sym (after_is h l))
        (subst (λ (ps : ℕ → List Forward). AreKept c.after.bridge.lanes ps (took' i) (λ j. took j i)) (λ n j. added_here i (put_by j) acts (put i j) n)
        (subst (λ (ts : ℕ → List Forward). AreKept c.after.bridge.lanes (λ j. put i j ++ gather (by_bridge (put_by j)) acts) ts (λ j. took j i)) (λ n j. added_here i (took_by j) acts (took i j) n) own_acts.kept)))

-- ---- a step that commits nothing
nothing : (b : Bool) → ◌≡◌ {A = List Forward} (cond b [] []) []
nothing true = refl
nothing false = refl

module _ (start : World) (put took : Histories) (run : List Played) (w : World) (x : LanesExplain start put took run w) (w' : World) (m : Played) where
  same_histories : (k : ℕ) → LanesExplain start put took (run ++ m ∷ []) w' → LanesExplain start (λ i j. put i j ++ cond (nat_eq k i) [] []) (λ i j. took i j ++ cond (nat_eq k i) [] []) (run ++ m ∷ []) w'
  same_histories k y =
      let same : (xs : List Forward) (b : Bool) → xs ≡ xs ++ cond b [] [] = λ xs b. sym (append-nil xs) ∙ ap (λ ys. xs ++ ys) (sym (nothing b)) in
      subst (λ (p : Histories). LanesExplain start p (λ i j. took i j ++ cond (nat_eq k i) [] []) (run ++ m ∷ []) w') (λ n i j. same (put i j) (nat_eq k i) n)
      (subst (λ (t : Histories). LanesExplain start put t (run ++ m ∷ []) w') (λ n i j. same (took i j) (nat_eq k i) n) y)

  lanes_rest : moves_of m.fate ≡ [] → Rests w w' → LanesExplain start put took (run ++ m ∷ []) w'
  lanes_rest none s = record {
    begins = x.begins;
    sites = λ i h l. (let k = s.sites i l.node l.at in
        x.sites i h (record {
          node = k.0;
          at = k.1;
          first = l.first;
          was = l.was;
          moves = subst (λ ms. Moves k.0.node.place (fresh l.first) ms h) (none_more i run m none) (led_by l.node.node.place k.0.node.place l.first (moves_at i (run ++ m ∷ [])) h (sym k.2.place) l.moves);
        }));
    frames = λ n sent f at read. x.frames n sent f (subst (λ fs. slice_get fs n ≡ Some sent) s.frames at) read;
  }

  -- a node is opened again: its lanes last
  lanes_woke : (i : ℕ) (homes : Table) → Woke w i homes w' → site m.fate ≡ i → moves_of m.fate ≡ Reopened homes ∷ [] → LanesExplain start put took (run ++ m ∷ []) w'
  lanes_woke i homes c own moves = record {
    begins = x.begins;
    sites = λ k h l. elim (nat_cases i k) [
      | inl q ↦ subst (λ n. AreKept h.bridge.lanes (put n) (took n) (λ j. took j n)) q (own_kept h (subst (λ n. HeldLast start (run ++ m ∷ []) w' n h) (sym q) l))
      | inr ne ↦ x.sites k h (record {
        node = l.node;
        at = sym (get-set_other w.sites i k c.later ne) ∙ ap (λ ss. slice_get ss k) (sym c.sites) ∙ l.at;
        first = l.first;
        was = l.was;
        moves = subst (λ ms. Moves l.node.node.place (fresh l.first) ms h) (other_more k run m (λ q. ne (sym own ∙ q))) l.moves;
      })
    ];
    frames = λ n sent f at read. x.frames n sent f (subst (λ fs. slice_get fs n ≡ Some sent) c.frames at) read;
  } where
    own_kept : (h : HeldView) → HeldLast start (run ++ m ∷ []) w' i h → AreKept h.bridge.lanes (put i) (took i) (λ j. took j i)
    own_kept h l =
        let place = c.was.node.place in
        let at : slice_get w'.sites i ≡ Some c.later = ap (λ ss. slice_get ss i) c.sites ∙ get-set_same w.sites i c.later c.was c.at in
        let first = fresh l.first in
        let there : l.node ≡ c.later = some_is (sym l.at ∙ at) in
        let same : l.node.node.place ≡ place = ap (λ (s : Site). s.node.place) there ∙ ap (λ (n : NodeView). n.place) c.reopens.node.is in
        let mine : moves_at i (run ++ m ∷ []) ≡ moves_at i run ++ Reopened homes ∷ [] = own_more i run m own ∙ ap (λ ms. moves_at i run ++ ms) moves in
        let all : Moves place first (moves_at i run ++ Reopened homes ∷ []) h = subst (λ ms. Moves place first ms h) mine (led_by l.node.node.place place l.first (moves_at i (run ++ m ∷ [])) h (sym same) l.moves) in
        let parts = moves_split place (moves_at i run) (Reopened homes ∷ []) first h all in
        subst (λ ls. AreKept ls (put i) (took i) (λ j. took j i)) (sym (lanes_last place homes parts.0 h parts.2)) (x.sites i parts.0 (record { node = c.was; at = c.at; first = l.first; was = l.was; moves = parts.1 }))

-- ---- a step
module _ (run : List Played) (w w' : World) (step : Step) (r : Reached run w) (x : LanesExplain r.start (λ i j. put i j run) (λ i j. took i j run) run w) where
  abbrev After : Fate → Type 0
  After fate = LanesExplain r.start (λ i j. put i j run ++ at_node i (by_bridge (put_by j)) fate) (λ i j. took i j run ++ at_node i (by_bridge (took_by j)) fate) (run ++ record { step = step; fate = fate } ∷ []) w'

  after : (fate : Fate) → IsHonestStep w.frames step → Happens w step fate w' → After fate
  after (Released i e acts outputs) honest h =
      let fate = Released i e acts outputs in
      lanes_committed (λ i j. put i j run) (λ i j. took i j run) run w r x i e acts w' (came w step fate w' h) (record { step = step; fate = fate }) refl refl (known_event w step fate w' e honest h refl)
  after (Lost i e acts) honest h =
      let fate = Lost i e acts in
      lanes_committed (λ i j. put i j run) (λ i j. took i j run) run w r x i e acts w' (came w step fate w' h) (record { step = step; fate = fate }) refl refl (known_event w step fate w' e honest h refl)
  after (Cut i) honest h =
      let m : Played = record { step = step; fate = Cut i } in
      same_histories r.start (λ i j. put i j run) (λ i j. took i j run) run w x w' m i (lanes_rest r.start (λ i j. put i j run) (λ i j. took i j run) run w x w' m refl (came w step (Cut i) w' h))
  after (Faulted i fault) honest h =
      let m : Played = record { step = step; fate = Faulted i fault } in
      same_histories r.start (λ i j. put i j run) (λ i j. took i j run) run w x w' m i (lanes_rest r.start (λ i j. put i j run) (λ i j. took i j run) run w x w' m refl (came w step (Faulted i fault) w' h))
  after (Was_down i) honest h =
      let m : Played = record { step = step; fate = Was_down i } in
      same_histories r.start (λ i j. put i j run) (λ i j. took i j run) run w x w' m i (lanes_rest r.start (λ i j. put i j run) (λ i j. took i j run) run w x w' m refl (came w step (Was_down i) w' h))
  after (Restarted i homes) honest h =
      let m : Played = record { step = step; fate = Restarted i homes } in
      same_histories r.start (λ i j. put i j run) (λ i j. took i j run) run w x w' m i (lanes_woke r.start (λ i j. put i j run) (λ i j. took i j run) run w x w' m i homes (came w step (Restarted i homes) w' h) refl refl)

lanes_start : (w : World) → IsStart w → LanesExplain w (λ i j. []) (λ i j. []) [] w
lanes_start w s = record {
  begins = λ i j. ([], refl);
  sites = λ i h l j. subst (λ (v : HeldView). IsKept (lane_of v.bridge.lanes j) [] [] []) (sym l.moves)
      (subst (λ lane. IsKept {A = Forward} lane [] [] []) (sym (lane_new (length l.first.nodes) j)) (kept_new []));
  frames = λ n sent f at read. none-some (subst (λ fs. slice_get fs n ≡ Some sent) s.frames at);
}

-- ---- histories go on
pub put_both : (i j : ℕ) (ms ns : List Played) → put i j (ms ++ ns) ≡ put i j ms ++ put i j ns
put_both i j [] ns = refl
put_both i j (m ∷ ms) ns = ap (λ xs. at_node i (by_bridge (put_by j)) m.fate ++ xs) (put_both i j ms ns) ∙ sym (append_assoc (at_node i (by_bridge (put_by j)) m.fate) (put i j ms) (put i j ns))

pub took_both : (i j : ℕ) (ms ns : List Played) → took i j (ms ++ ns) ≡ took i j ms ++ took i j ns
took_both i j [] ns = refl
took_both i j (m ∷ ms) ns = ap (λ xs. at_node i (by_bridge (took_by j)) m.fate ++ xs) (took_both i j ms ns) ∙ sym (append_assoc (at_node i (by_bridge (took_by j)) m.fate) (took i j ms) (took i j ns))

put_more : (i j : ℕ) (run : List Played) (m : Played) → put i j run ++ at_node i (by_bridge (put_by j)) m.fate ≡ put i j (run ++ m ∷ [])
put_more i j run m = ap (λ xs. put i j run ++ xs) (sym (append-nil (at_node i (by_bridge (put_by j)) m.fate))) ∙ sym (put_both i j run (m ∷ []))

took_more : (i j : ℕ) (run : List Played) (m : Played) → took i j run ++ at_node i (by_bridge (took_by j)) m.fate ≡ took i j (run ++ m ∷ [])
took_more i j run m = ap (λ xs. took i j run ++ xs) (sym (append-nil (at_node i (by_bridge (took_by j)) m.fate))) ∙ sym (took_both i j run (m ∷ []))

pub lanes_explained : (run : List Played) (w : World) (r : Reached run w) → LanesExplain r.start (λ i j. put i j run) (λ i j. took i j run) run w
lanes_explained = along_from (λ start run w. LanesExplain start (λ i j. put i j run) (λ i j. took i j run) run w)
    (λ run m w w' r x honest h.
    subst (λ (p : Histories). LanesExplain r.start p (λ i j. took i j (run ++ m ∷ [])) (run ++ m ∷ []) w') (λ n i j. put_more i j run m n)
    (subst (λ (t : Histories). LanesExplain r.start (λ i j. put i j run ++ at_node i (by_bridge (put_by j)) m.fate) t (run ++ m ∷ []) w') (λ n i j. took_more i j run m n) (after run w w' m.step r x m.fate honest h)))
    lanes_start
