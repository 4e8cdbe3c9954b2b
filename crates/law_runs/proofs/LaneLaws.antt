-- What holds of the lanes between nodes in every run.
use Rattle.std.proofs.Common.{◌≡◌, ℕ, ◌≤◌, List, ◌∷◌, ◌++◌, Some, refl, sym, ◌∙◌, subst, length, drop}
use Rattle.std.specs.List.{slice_get}
use Rattle.bridge_frames.specs.declared.body.FrameBody.TheVariants as bodies
use Rattle.bridge_frames.specs.declared.forward.Forward.{Forward}
use Rattle.bridge_frames.specs.declared.frame.BridgeFrame.{BridgeFrame}
use Rattle.bridge_frames.specs.Frames.{frame_in}
use Rattle.bridge_lanes.specs.Lanes.{Begins, IsNumbered, lane_of}
use Rattle.bridge_lanes.proofs.Keeping.{IsKept}
use Rattle.node_keeper.specs.Keeping.{AreLasting}
use Rattle.node_rows.specs.Reading.{IsLasting}
use Rattle.node_rows.specs.Rows.{Lasting}
use Rattle.node_rows.proofs.OneNode.{rows_tell_all}
use Rattle.node_work.specs.declared.frame.Frame.{Frame}
use Rattle.node_work.specs.Acts.{Act, Bridge, Runs}
use Rattle.node_work.specs.Handed.{IsHanded}
use Rattle.node_work.specs.Held.Bridge.{Took}
use Rattle.node_work.specs.Lasting.{lasting}
use Rattle.node_work.specs.View.{HeldView, fresh}
use Rattle.law_nodes.proofs.MoveLaws.{acts_are_moves}
use Rattle.broker_node.specs.declared.event.Event.{Event}
use Rattle.broker_node.specs.Turns.{Decides}
use Rattle.law_runs.proofs.HandingLaws.{handed_is_queued}
use Rattle.replica_store.specs.Operations.{dot_of}
use Rattle.replica_store.proofs.Views.{live_is}
use Rattle.cluster_play.specs.Worlds.{Site, World, Happens, nth_from_one}
use Rattle.cluster_play.specs.Runs.{Played, IsHonestStep}
use Rattle.cluster_play.specs.Histories.{Reached, site, acts_of, taken_amid, operations_amid, moves_amid}
use Rattle.cluster_play.specs.Agreement.{HoldsAmid, AnswersByOperations}
use Rattle.cluster_play.proofs.Amid.{amid_acts}
use Rattle.cluster_play.proofs.Explaining.{Seated, lasts_here, past}
use Rattle.cluster_play.proofs.Kept.{explained}
use Rattle.cluster_play.proofs.Lives.{amid_moves, led}
use Rattle.cluster_play.proofs.Moments.{moves_moment}
use Rattle.cluster_play.proofs.Operations.{own_some}
use Rattle.cluster_play.proofs.Paths.{commits_acts, midway}
use Rattle.cluster_play.proofs.Rows.{committed}
use Rattle.cluster_play.proofs.Showing.{node_holds_amid}
use Rattle.cluster_play.proofs.Sites.{number_is}
use Rattle.cluster_play.proofs.Splits.{runs_split}
use Rattle.law_runs.specs.LaneHistories.{put, took}
use Rattle.law_runs.specs.Lanes.{TakesFromLane, MakesHanded, JoinsHanded}
use Rattle.law_runs.proofs.LaneActs.{SaysOf}
use Rattle.law_runs.proofs.LaneRuns.{lanes_explained, put_both, took_both}

module _ (run : List Played) (w : World) (r : Reached run w) where
  pub takes_in_order : (i j : ℕ) → Begins (took j i run) (put i j run)
  takes_in_order = (lanes_explained run w r).begins

  -- the lane that the rows of a node have
  own_lane : (i j : ℕ) (s : Site) (said : Lasting) → slice_get w.sites i ≡ Some s → AreLasting s.node.place s.rows said → IsKept (lane_of said.lanes j) (put i j run) (took i j run) (took j i run)
  own_lane i j s said at are =
      let e = explained run w r in
      let x : Seated (past r.start run) (length w.sites) i s = e.sites i s at in
      let place = s.node.place in
      let can : IsLasting place.id place.nodes (lasting x.held) = lasts_here (past r.start run) w e i s at x in
      let same : said ≡ lasting x.held = rows_tell_all place.nodes place.id said (lasting x.held) are.0 can (λ key. sym (are.1 key) ∙ x.rows key) in
      subst (λ (l : Lasting). IsKept (lane_of l.lanes j) (put i j run) (took i j run) (took j i run)) (sym same)
      ((lanes_explained run w r).sites i x.held (record { node = s; at = at; first = x.first; was = x.was; moves = x.moves }) j)

  pub waits_past : (i j : ℕ) (s : Site) (said : Lasting) → slice_get w.sites i ≡ Some s → AreLasting s.node.place s.rows said
      → (k : ℕ) × (k ≤ length (took j i run)) × ((lane_of said.lanes j).waiting ≡ drop k (put i j run)) × ((lane_of said.lanes j).gone ≡ k)
  waits_past i j s said at are = let l = own_lane i j s said at are in ((lane_of said.lanes j).gone, l.gone, l.waits, refl)

  pub counts_taken : (i j : ℕ) (s : Site) (said : Lasting) → slice_get w.sites i ≡ Some s → AreLasting s.node.place s.rows said → (lane_of said.lanes j).took ≡ length (took i j run)
  counts_taken i j s said at are = (own_lane i j s said at are).taken

  pub forward_frames : (number : ℕ) (sent : Frame) (f : BridgeFrame) (n : ℕ) (m : Forward) → nth_from_one w.frames number ≡ Some sent → frame_in sent.bytes ≡ Some f → f.body ≡ bodies.Forward n m
      → IsNumbered (put f.from f.to run) n m
  forward_frames number sent f n m at read is =
      let k = number_is w.frames number sent at in
      subst (SaysOf (put f.from f.to run) (took f.from f.to run)) is ((lanes_explained run w r).frames k.0 sent f k.1 read)

  pub got_frames : (number : ℕ) (sent : Frame) (f : BridgeFrame) (n : ℕ) → nth_from_one w.frames number ≡ Some sent → frame_in sent.bytes ≡ Some f → f.body ≡ bodies.Got n → n ≤ length (took f.from f.to run)
  got_frames number sent f n at read is =
      let k = number_is w.frames number sent at in
      subst (SaysOf (put f.from f.to run) (took f.from f.to run)) is ((lanes_explained run w r).frames k.0 sent f k.1 read)

pub lanes_go_on : (i j : ℕ) (ms ns : List Played) → Begins (put i j ms) (put i j (ms ++ ns)) × Begins (took i j ms) (took i j (ms ++ ns))
lanes_go_on i j ms ns = ((put i j ns, sym (put_both i j ms ns)), (took i j ns, sym (took_both i j ms ns)))

-- ---- copies

-- a step that takes a message: what its event came to, and what the node holds there
record TakenAt (run : List Played) (m : Played) (before : List Act) (s : TakesFromLane m before) : Type 0 where
  world : World
  reached : Reached run world
  held : HeldView
  there : HoldsAmid world m (site m.fate) before held
  made : IsHanded held s.message s.copies s.lost
  event : Event
  decides : Decides event (Some tt) there.holds.site.node.place there.held (acts_of m.fate)
  next : World
  happens : Happens world m.step m.fate next
  honest : IsHonestStep world.frames m.step

taken_at : (run later : List Played) (m : Played) (w : World) → Reached (run ++ m ∷ later) w → (before : List Act) (s : TakesFromLane m before) → TakenAt run m before s
taken_at run later m w r before s =
    let a = Bridge (Took s.from s.number s.message s.copies s.lost) in
    let rest = a ∷ s.after in
    let half = midway run (m ∷ later) w r in
    let e = commits_acts m.fate before s.after a s.acts in
    let c = committed half.mid m.step m.fate half.path.0 e.0 half.path.1 e.1 in
    let place = c.was.node.place in
    let parts = runs_split place before rest c.before c.after (subst (λ acts. Runs place c.before acts c.after) s.acts c.steps.runs) in
    record {
      world = half.mid;
      reached = half.reached;
      held = parts.0;
      there = record {
        event = e.0;
        commits = e.1;
        at = refl;
        rest = rest;
        acts = s.acts;
        held = c.before;
        holds = record { site = c.was; at = c.at; up = c.up };
        runs = parts.1;
      };
      made = parts.2.1.0.1;
      event = e.0;
      decides = c.steps.does;
      next = half.path.0;
      happens = half.path.1;
      honest = half.honest.0;
    }

module _ (run later : List Played) (m : Played) (w : World) (r : Reached (run ++ m ∷ later) w) (before : List Act) (s : TakesFromLane m before) where
  abbrev here : TakenAt run m before s
  here = taken_at run later m w r before s

  pub handed_as_taken : MakesHanded run m before s
  handed_as_taken =
      let i = site m.fate in
      let a = Bridge (Took s.from s.number s.message s.copies s.lost) in
      let by : AnswersByOperations (operations_amid i run before) here.held = node_holds_amid run here.world here.next m here.reached here.honest here.happens i before here.held here.there in
      let own = own_some _ (λ o. taken_amid i run before (dot_of o)) (amid_acts run later m w r before s.after a s.acts).grown.own_dots in
      record { world = here.world; reached = here.reached; held = here.held; there = here.there; made = here.made; live = live_is (operations_amid i run before) here.held.store own by.state }

  pub joins_as_taken : JoinsHanded run m before s
  joins_as_taken =
      let i = site m.fate in
      let node = here.there.holds.site.node in
      let place = node.place in
      let was = here.there.held in
      let l = led run here.world here.reached i was here.there.holds in
      let first = fresh l.first in
      let moves = amid_moves place first run i before was here.held l.moves (acts_are_moves place was here.held before here.there.runs) in
      record {
        world = here.world;
        reached = here.reached;
        held = here.held;
        there = here.there;
        moment = moves_moment place (moves_amid i run before) first here.held moves;
        joins = handed_is_queued here.event place was here.held (acts_of m.fate) here.decides before s.after s.from s.number s.message s.copies s.lost s.acts here.there.runs;
      }
