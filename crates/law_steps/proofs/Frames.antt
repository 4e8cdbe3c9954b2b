-- The frames of each event.
use Rattle.std.proofs.Common.{◌≡◌, inl, inr, ℕ, Bool, true, false, cond, List, [], ◌∷◌, ◌++◌, map as map_list, Option, Some, None, refl, sym, ap, ◌∙◌, subst}
use Rattle.bridge_deltas.specs.Lane.{first_frames}
use Rattle.bridge_deltas.specs.More.{frames_after}
use Rattle.bridge_frames.specs.declared.body.FrameBody.{FrameBody}
use Rattle.bridge_frames.specs.declared.body.FrameBody.TheVariants.{Hello, Delta, Know, Forward as Carried, Got}
use Rattle.bridge_frames.specs.declared.frame.BridgeFrame.{BridgeFrame}
use Rattle.bridge_frames.specs.Frames.{frame_in}
use Rattle.node_bridge.specs.View.{lane_to}
use Rattle.replica_store.specs.States.{State}
use Rattle.node_work.specs.declared.counts.Missed.TheVariants.{BadFrame}
use Rattle.node_work.specs.Acts.{Act, Runs}
use Rattle.node_work.specs.Doings.{GivesBody, Misses}
use Rattle.node_work.specs.Frames.{is_for_node, is_other}
use Rattle.node_work.specs.Held.Bridge.{hello_to}
use Rattle.node_work.specs.View.{Place, HeldView}
use Rattle.node_work.specs.Working.{Returns, If}
use Rattle.node_work.proofs.Working.{gather-append}
use Rattle.node_clients.proofs.Determined.{runs_determined}
use Rattle.broker_node.specs.declared.event.Event.{Event}
use Rattle.broker_node.specs.declared.event.EventKind.{EventKind}
use Rattle.broker_node.specs.declared.event.EventKind.TheVariants as kinds
use Rattle.broker_node.specs.Bridge as bridge
use Rattle.broker_node.specs.Turns.{AnswersEvent, Decides}
use Rattle.law_runs.proofs.Keeping.{none_some}
use Rattle.law_runs.proofs.Splits.{runs_split}
use Rattle.law_steps.specs.Frames.{given_in, frames_given, frame_to, those_small, deltas_to, ShippedFrames, MoreFrames, answer_to, answers_to, AreOfEvent, GivesFrames, FramesAreOfEvents}
use Rattle.law_steps.proofs.Giving.{gives_one, small_both, each_given}
use Rattle.law_steps.proofs.Silent.{answering_of, silent_before, silent_of, none_given}
use Rattle.law_steps.proofs.TakingLaws.{takes_next, gives_none}

-- ---- of its own accord
shipped_then : (s : Option State) (peer : ℕ) (x : Unit {0}) (p : Place) (h h' : HeldView) (acts : List Act) → bridge.GivesState peer s (Some x) p h acts → Runs p h acts h' → (frames_given acts ≡ those_small (deltas_to p peer s)) × (h'.bridge ≡ h.bridge)
shipped_then None peer x p h h' acts d runs = (ap frames_given d.1, ap (λ (v : HeldView). v.bridge) (subst (λ xs. Runs p h xs h') d.1 runs))
shipped_then (Some s) peer x p h h' acts d runs = let g = gives_one (frame_to p peer (Delta s)) x p h h' acts d runs in (g.frames, g.bridge)

ships_to : (peer : ℕ) (x : Unit {0}) (p : Place) (h : HeldView) (acts : List Act) → bridge.ShipsTo peer (Some x) p h acts → ShippedFrames p h peer (frames_given acts)
ships_to peer x p h acts (inl d) = none_some (sym d.0)
ships_to peer x p h acts (inr (y, own, mid, rest, (s, ships, one), runs, more, is)) =
    let first = shipped_then s peer y p h mid own one runs in
    let others : frames_given rest ≡ those_small (first_frames p.id peer (lane_to h.bridge peer)) =
    each_given (first_frames p.id peer (lane_to mid.bridge peer)) x p mid rest more ∙ ap (λ b. those_small (first_frames p.id peer (lane_to b peer))) first.1 in
    (s, ships, ap frames_given is ∙ gather-append given_in own rest ∙ (λ i. first.0 i ++ others i) ∙ sym (small_both (deltas_to p peer s) (first_frames p.id peer (lane_to h.bridge peer))))

ships_by : (other : Bool) (peer : ℕ) (p : Place) (h : HeldView) (acts : List Act) → If other (bridge.ShipsTo peer) (Returns tt) (Some tt) p h acts → cond other (ShippedFrames p h peer (frames_given acts)) (frames_given acts ≡ [])
ships_by true peer p h acts d = ships_to peer tt p h acts d
ships_by false peer p h acts d = ap frames_given d.1

more_to : (peer after : ℕ) (x : Unit {0}) (p : Place) (h : HeldView) (acts : List Act) → bridge.ShipsMoreTo peer after (Some x) p h acts → MoreFrames p h peer after (frames_given acts)
more_to peer after x p h acts (inl d) = none_some (sym d.0)
more_to peer after x p h acts (inr (y, own, mid, rest, (s, ships, one), runs, more, is)) =
    let first = shipped_then s peer y p h mid own one runs in
    let others : frames_given rest ≡ those_small (frames_after p.id peer after (lane_to h.bridge peer)) =
    each_given (frames_after p.id peer after (lane_to mid.bridge peer)) x p mid rest more ∙ ap (λ b. those_small (frames_after p.id peer after (lane_to b peer))) first.1 in
    (s, ships, ap frames_given is ∙ gather-append given_in own rest ∙ (λ i. first.0 i ++ others i) ∙ sym (small_both (deltas_to p peer s) (frames_after p.id peer after (lane_to h.bridge peer))))

more_by : (other : Bool) (peer after : ℕ) (p : Place) (h : HeldView) (acts : List Act) → If other (bridge.ShipsMoreTo peer after) (Returns tt) (Some tt) p h acts → cond other (MoreFrames p h peer after (frames_given acts)) (frames_given acts ≡ [])
more_by true peer after p h acts d = more_to peer after tt p h acts d
more_by false peer after p h acts d = ap frames_given d.1

greets_by : (other : Bool) (peer : ℕ) (p : Place) (h last : HeldView) (acts : List Act) → If other (GivesBody peer (hello_to peer)) (Returns tt) (Some tt) p h acts → Runs p h acts last → frames_given acts ≡ cond other (those_small (frame_to p peer (hello_to peer h) ∷ [])) []
greets_by true peer p h last acts d runs = (gives_one (frame_to p peer (hello_to peer h)) tt p h last acts d runs).frames
greets_by false peer p h last acts d runs = ap frames_given d.1

-- ---- in answer to a frame
tells : (from : ℕ) (x : Unit {0}) (p : Place) (h last : HeldView) (acts : List Act) → bridge.TellsTaken from (Some x) p h acts → Runs p h acts last → frames_given acts ≡ those_small (frame_to p from (Know last.store.taken) ∷ [])
tells from x p h last acts d runs =
    let g = gives_one (frame_to p from (Know h.store.taken)) x p h last acts d runs in
    g.frames ∙ ap (λ (s : State). those_small (frame_to p from (Know s.taken) ∷ [])) (sym g.store)

answers_by : (from : ℕ) (body : FrameBody) (p : Place) (h last : HeldView) (acts : List Act) → bridge.TakesBody from body (Some tt) p h acts → Runs p h acts last → frames_given acts ≡ those_small (map_list (frame_to p from) (answer_to last from body))
answers_by from (Hello g) p h last acts (inl d) runs = none_some (sym d.0)
answers_by from (Hello g) p h last acts (inr (x, own, mid, rest, one, ran, more, is)) runs =
    let both = runs_split p own rest h last (subst (λ xs. Runs p h xs last) is runs) in
    let same : both.0 ≡ mid = runs_determined p own h both.0 mid both.1 ran in
    ap frames_given is ∙ gather-append given_in own rest ∙ ap (λ xs. frames_given xs ++ frames_given rest) one.1 ∙ tells from tt p mid last rest more (subst (λ v. Runs p v rest last) same both.2)
answers_by from (Delta s) p h last acts (inl d) runs = none_some (sym d.0)
answers_by from (Delta s) p h last acts (inr (x, own, mid, rest, one, ran, more, is)) runs =
    let both = runs_split p own rest h last (subst (λ xs. Runs p h xs last) is runs) in
    let same : both.0 ≡ mid = runs_determined p own h both.0 mid both.1 ran in
    ap frames_given is ∙ gather-append given_in own rest ∙ ap (λ xs. frames_given xs ++ frames_given rest) one.1 ∙ tells from tt p mid last rest more (subst (λ v. Runs p v rest last) same both.2)
answers_by from (Know dots) p h last acts d runs = ap frames_given d.1
answers_by from (Carried number m) p h last acts d runs =
    let t = takes_next from number m tt p h last acts d runs in
    ap frames_given t.is ∙ gather-append given_in t.taken t.rest ∙ (λ i. gives_none from number m p h last acts t i ++ t.got.frames i) ∙ ap (λ n. those_small (frame_to p from (Got n) ∷ [])) (sym t.took)
answers_by from (Got number) p h last acts d runs = ap frames_given d.1

hears_by : (here : Bool) (f : BridgeFrame) (p : Place) (h last : HeldView) (acts : List Act) → If here (bridge.TakesBody f.from f.body) (Misses BadFrame) (Some tt) p h acts → Runs p h acts last
    → frames_given acts ≡ cond here (those_small (map_list (frame_to p f.from) (answer_to last f.from f.body))) []
hears_by true f p h last acts d runs = answers_by f.from f.body p h last acts d runs
hears_by false f p h last acts d runs = ap frames_given d.1

hears : (frame : Option BridgeFrame) (p : Place) (h last : HeldView) (acts : List Act) → bridge.HearsFrame frame (Some tt) p h acts → Runs p h acts last → frames_given acts ≡ answers_to p last frame
hears None p h last acts d runs = ap frames_given d.1
hears (Some f) p h last acts d runs = hears_by (is_for_node p f) f p h last acts d runs

-- ---- of an event
of_event : (kind : EventKind) (p : Place) (h last : HeldView) (acts : List Act) → AnswersEvent kind (Some tt) p h acts → Runs p h acts last → AreOfEvent p h last kind (frames_given acts)
of_event (kinds.Frame bytes) p h last acts d runs = hears (frame_in bytes) p h last acts d runs
of_event (kinds.Linked peer) p h last acts d runs = greets_by (is_other p peer) peer p h last acts d runs
of_event (kinds.Ship peer) p h last acts d runs = ships_by (is_other p peer) peer p h acts d
of_event (kinds.More peer after) p h last acts d runs = more_by (is_other p peer) peer after p h acts d
of_event kind p h last acts d runs = none_given acts (silent_of kind p h acts tt d)

by_started : (e : Event) (p : Place) (h last : HeldView) (acts : List Act) (b : Bool) → h.started ≡ b → Decides e (Some tt) p h acts → Runs p h acts last → GivesFrames p h last e acts
by_started e p h last acts true started d runs =
    let a = answering_of e p h acts started d in
    let both = runs_split p a.first a.rest h last (subst (λ xs. Runs p h xs last) a.is runs) in
    let same : both.0 ≡ a.mid = runs_determined p a.first h both.0 a.mid both.1 a.runs in
    record {
      first = a.first;
      rest = a.rest;
      mid = a.mid;
      is = a.is;
      runs = a.runs;
      none = none_given a.first a.silent;
      frames = subst (λ b. cond b (AreOfEvent p a.mid last e.kind (frames_given a.rest)) (frames_given a.rest ≡ [])) (sym started) (of_event e.kind p a.mid last a.rest a.does (subst (λ v. Runs p v a.rest last) same both.2));
    }
by_started e p h last acts false started d runs = record {
  first = [];
  rest = acts;
  mid = h;
  is = refl;
  runs = refl;
  none = refl;
  frames = subst (λ b. cond b (AreOfEvent p h last e.kind (frames_given acts)) (frames_given acts ≡ [])) (sym started) (none_given acts (silent_before e p h acts started d));
}

pub frames_are_of_events : FramesAreOfEvents
frames_are_of_events = λ e p h last acts d runs. by_started e p h last acts h.started refl d runs
