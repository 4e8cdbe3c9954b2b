-- A Forward frame that comes to its receiver in a run.
use Rattle.std.specs.List.{slice_get}
use Rattle.std.proofs.Common.{◌≡◌, ◌≢◌, ◌<◌, ℕ, suc, ◌&&◌, not, Bool, true, false, List, [], ◌∷◌, ◌++◌, length, length-append, cond, Some, refl, sym, ap, ◌∙◌, subst, eq-eqb, lt-ltb, arith}
use Rattle.std.proofs.lemmas.List.{append-nil}
use Rattle.bridge_frames.specs.declared.body.FrameBody.TheVariants.{Forward as Carried, Got}
use Rattle.bridge_frames.specs.declared.forward.Forward.{Forward}
use Rattle.bridge_frames.specs.declared.frame.BridgeFrame.{BridgeFrame}
use Rattle.bridge_frames.specs.Frames.{frame_in, spelling}
use Rattle.bridge_frames.proofs.FrameLaws.{read_again}
use Rattle.node_bridge.specs.View.{is_next, lane_to, has_lanes}
use Rattle.node_work.specs.declared.frame.Frame.{Frame}
use Rattle.node_work.specs.Acts.{gather}
use Rattle.node_work.specs.Frames.{is_for_node, names_nodes}
use Rattle.node_work.specs.View.{Place, HeldView, nodes_of}
use Rattle.cluster_play.specs.Worlds.{Site, World, nth_from_one}
use Rattle.cluster_play.specs.Runs.{Played}
use Rattle.cluster_play.specs.Histories.{Reached, site, acts_of}
use Rattle.cluster_play.specs.CatchingUp.{FrameArrives}
use Rattle.cluster_play.proofs.Bools.{nat_other, not_true, and_true, nat_is, some_is}
use Rattle.cluster_play.proofs.Explaining.{Seated, past}
use Rattle.cluster_play.proofs.Kept.{explained}
use Rattle.cluster_play.proofs.Rows.{Committed, committed}
use Rattle.cluster_play.proofs.Sites.{number_is}
use Rattle.cluster_play.proofs.Telling.{WasGiven, given_read}
use Rattle.law_runs.specs.LaneHistories.{by_bridge, took_by, took}
use Rattle.law_runs.proofs.LaneRuns.{lanes_explained, took_both}
use Rattle.law_steps.specs.Forwards.{BringsForward, IsTakenThere, ForwardsAreTaken}
use Rattle.law_steps.proofs.Arriving.{Forwarding, Tells, forwarding, forward_tells, frames}

module _ (run : List Played) (w w' : World) (m : Played) (r : Reached run w) (k : ℕ) (sent : Frame) (f : BridgeFrame) (number : ℕ) (x : Forward) (there : nth_from_one w.frames k ≡ Some sent) (read : frame_in sent.bytes ≡ Some f)
    (body : f.body ≡ Carried number x) (apart : f.from ≢ f.to) (a : FrameArrives w f m w') where
  here : Committed w (site m.fate) a.event (acts_of m.fate) w'
  here = committed w m.step m.fate w' a.event a.happens a.commits

  at : slice_get w.sites f.to ≡ Some here.was
  at = subst (λ j. slice_get w.sites j ≡ Some here.was) a.at here.at

  seated : Seated (past r.start run) (length w.sites) f.to here.was
  seated = (explained run w r).sites f.to here.was at

  given : WasGiven (length w.sites) (past r.start run).ops (past r.start run).took sent
  given = (let n = number_is w.frames k sent there in (explained run w r).frames n.0 sent n.1)

  -- the frame is that which was released, and has a sender
  same : given.frame ≡ f
  same = some_is (sym (given_read (length w.sites) (past r.start run).ops (past r.start run).took sent given) ∙ read)

  within : f.from < length w.sites
  within = subst (λ (g : BridgeFrame). g.from < length w.sites) same given.told.from

  again : frame_in (spelling f) ≡ Some f
  again = subst (λ (g : BridgeFrame). frame_in (spelling g) ≡ Some g) same (read_again given.frame given.told.spelled)

  held : here.before ≡ a.held
  held = some_is (sym here.up ∙ ap (λ (s : Site). s.node.up) (some_is (sym at ∙ a.holds.at)) ∙ a.holds.up)

  abbrev place : Place
  place = here.was.node.place

  here_for : is_for_node place f ≡ true
  here_for = λ i. eq-eqb f.to place.id (sym seated.id) i && not (nat_other f.from place.id (λ e. apart (e ∙ seated.id)) i) && lt-ltb f.from (nodes_of place) (subst (λ n. f.from < n) (sym seated.nodes) within) i && names_nodes (nodes_of place) (body i)

  shape : f ≡ record { from = f.from; to = f.to; body = Carried number x }
  shape = λ i. record { from = f.from; to = f.to; body = body i }

  brings : BringsForward place here.before a.event f.from number x
  brings = record {
    started = ap (λ (v : HeldView). v.started) held ∙ a.started;
    bytes = spelling f;
    event = a.brings;
    to = f.to;
    read = again ∙ ap Some shape;
    here = subst (λ (g : BridgeFrame). is_for_node place g ≡ true) shape here_for;
  }

  step : Forwarding place here.before here.after (acts_of m.fate) f.from number x
  step = forwarding a.event place here.before here.after (acts_of m.fate) here.steps.does here.steps.runs f.from number x brings

  tells : Tells place here.before here.after (acts_of m.fate) f.from number x
  tells = forward_tells f.from number x place here.before here.after (acts_of m.fate) step

  -- how many were taken before
  count : (lane_to here.before.bridge f.from).took ≡ length (took f.to f.from run)
  count = ap (λ (v : HeldView). (lane_to v.bridge f.from).took) (here_held)
      ∙ ((lanes_explained run w r).sites f.to seated.held (record { node = here.was; at = at; first = seated.first; was = seated.was; moves = seated.moves }) f.from).taken
    where
      here_held : here.before ≡ seated.held
      here_held = seated.up here.before here.up

  -- the lane is there
  lanes : has_lanes here.before.bridge f.from ≡ true
  lanes = ap (λ (v : HeldView). has_lanes v.bridge f.from) (seated.up here.before here.up) ∙ lt-ltb f.from (length seated.held.bridge.lanes) (subst (λ n. f.from < n) (sym seated.kept.lanes) within)

  more : took f.to f.from (run ++ m ∷ []) ≡ took f.to f.from run ++ gather (by_bridge (took_by f.from)) (acts_of m.fate)
  more = took_both f.to f.from run (m ∷ []) ∙ ap (λ b. took f.to f.from run ++ (cond b (gather (by_bridge (took_by f.from)) (acts_of m.fate)) [] ++ [])) (eq-eqb (site m.fate) f.to a.at)
      ∙ ap (λ xs. took f.to f.from run ++ xs) (append-nil (gather (by_bridge (took_by f.from)) (acts_of m.fate)))

  once : number ≡ suc (length (took f.to f.from run)) → is_next f.from number here.before.bridge ≡ true
  once e = λ i. lanes i && eq-eqb number (suc (lane_to here.before.bridge f.from).took) (e ∙ ap suc (sym count)) i

  never : number ≢ suc (length (took f.to f.from run)) → is_next f.from number here.before.bridge ≡ false
  never ne = not_true _ (λ e. ne (nat_is number (suc (lane_to here.before.bridge f.from).took) (and_true (has_lanes here.before.bridge f.from) _ e).1 ∙ ap suc count))

  last_count : (b : Bool) → is_next f.from number here.before.bridge ≡ b → (lane_to here.after.bridge f.from).took ≡ length (took f.to f.from (run ++ m ∷ []))
  last_count true e =
      let t = tells.next e in
      let is : number ≡ suc (lane_to here.before.bridge f.from).took = nat_is number (suc (lane_to here.before.bridge f.from).took) (and_true (has_lanes here.before.bridge f.from) _ e).1 in
      t.1 ∙ is ∙ ap suc count ∙ sym (ap length (more ∙ ap (λ xs. took f.to f.from run ++ xs) t.0) ∙ one_longer (took f.to f.from run) x)
    where
      one_longer : (xs : List Forward) (y : Forward) → length (xs ++ y ∷ []) ≡ suc (length xs)
      one_longer xs y = let n = length-append xs (y ∷ []) in omega arith
  last_count false e =
      let t = tells.other e in t.1 ∙ count ∙ sym (ap length (more ∙ ap (λ xs. took f.to f.from run ++ xs) t.0 ∙ append-nil (took f.to f.from run)))

  is_taken : IsTakenThere run m f number x
  is_taken = record {
    next = λ e. more ∙ ap (λ xs. took f.to f.from run ++ xs) (tells.next (once e)).0;
    other = λ ne. more ∙ ap (λ xs. took f.to f.from run ++ xs) (tells.other (never ne)).0 ∙ append-nil (took f.to f.from run);
    answered = frames place here.before here.after (acts_of m.fate) f.from number x step
        ∙ (λ i. record { from = seated.id i; to = f.from; body = Got (last_count (is_next f.from number here.before.bridge) refl i) } ∷ []);
  }

pub forwards_are_taken : ForwardsAreTaken
forwards_are_taken = λ run w w' m r k sent f number x there read body apart a. is_taken run w w' m r k sent f number x there read body apart a
