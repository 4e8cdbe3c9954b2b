-- A frame that says what its sender has taken, and that comes to its receiver in a run.
use Rattle.std.specs.List.{slice_get}
use Rattle.std.proofs.Common.{◌≡◌, ◌≢◌, ◌<◌, ◌⊎◌, inl, inr, ℕ, zero, suc, ◌&&◌, not, cond, Bool, true, false, List, [], ◌∷◌, ◌++◌, length, get_or, slice_set, Option, Some, refl, sym, ap, ◌∙◌, subst, eq-eqb, lt-ltb, arith}
use Rattle.std.proofs.lemmas.List.{get_or-set_same, get_or-set_other}
use Rattle.std.specs.FinSet as set
use Rattle.bridge_frames.specs.declared.body.FrameBody.{FrameBody}
use Rattle.bridge_frames.specs.declared.body.FrameBody.TheVariants.{Hello, Delta, Know, Forward, Got}
use Rattle.bridge_frames.specs.declared.frame.BridgeFrame.{BridgeFrame}
use Rattle.bridge_frames.specs.declared.greeting.Greeting.{Greeting}
use Rattle.bridge_frames.specs.Frames.{frame_in, spelling}
use Rattle.bridge_frames.proofs.FrameLaws.{read_again}
use Rattle.causal_context.specs.Dots.{Dot, Dots}
use Rattle.node_bridge.specs.View.{belief_of}
use Rattle.node_rows.specs.Naming.{dots_among}
use Rattle.node_rows.proofs.Naming.{dots_tested}
use Rattle.node_work.specs.declared.frame.Frame.{Frame}
use Rattle.node_work.specs.declared.counts.Missed.TheVariants.{BadFrame, FrameTooLarge}
use Rattle.node_work.specs.Acts.{Act, Bridge, Runs, next}
use Rattle.node_work.specs.Doings.{Misses, is_small}
use Rattle.node_work.specs.Frames.{is_for_node, names_nodes}
use Rattle.node_work.specs.Held.Bridge.{BridgeAct, Believed, Greeted, Gave, Left_out, bridged}
use Rattle.node_work.specs.View.{Place, HeldView, fresh, nodes_of}
use Rattle.node_work.specs.Working.{If}
use Rattle.node_clients.proofs.Determined.{runs_determined}
use Rattle.broker_node.specs.declared.event.EventKind.TheVariants as kinds
use Rattle.broker_node.specs.Bridge as bridge
use Rattle.broker_node.specs.Turns.{AnswersEvent}
use Rattle.law_runs.proofs.Keeping.{none_some}
use Rattle.law_runs.proofs.Splits.{runs_split, left_by}
use Rattle.cluster_play.specs.Agreement.{Holds}
use Rattle.cluster_play.specs.Worlds.{Site, World, nth_from_one}
use Rattle.cluster_play.specs.Runs.{Played}
use Rattle.cluster_play.specs.Histories.{Reached, site, acts_of, moves_at}
use Rattle.cluster_play.specs.CatchingUp.{FrameArrives}
use Rattle.cluster_play.proofs.Bools.{nat_other, some_is}
use Rattle.cluster_play.proofs.Explaining.{Explains, Past, Seated, past}
use Rattle.cluster_play.proofs.Kept.{explained}
use Rattle.cluster_play.proofs.Plain.{sound_among}
use Rattle.cluster_play.proofs.Rows.{Committed, committed}
use Rattle.cluster_play.proofs.Sites.{get-set_same, number_is}
use Rattle.cluster_play.proofs.Telling.{IsTold, WasGiven, dots_in, given_read}
use Rattle.law_steps.specs.Bridging.{gives_out}
use Rattle.law_steps.specs.Frames.{frame_to}
use Rattle.law_steps.specs.Knows.{IsKnow, HasBelieved, KnowsAreBelieved, KnowsNameNodes, IsHello, HasHeard, HellosAreBelieved, HellosNameNodes}
use Rattle.law_steps.proofs.Beliefs.{BelievesAlike, HasBeliefs, believes_alike, fresh_beliefs, moves_beliefs}
use Rattle.law_steps.proofs.Bridged.{gave}
use Rattle.law_steps.proofs.Silent.{Answering, answering_of}

found : {A : Type 0} (xs : List A) (i : ℕ) → i < length xs → (x : A) × (slice_get xs i ≡ Some x)
found [] i h = absurd (omega (arith, h))
found (x ∷ xs) zero h = (x, refl)
found (x ∷ xs) (suc i) h = found xs i (omega (arith, h))

-- a Know says that its sender has taken these dots, and so does a Hello
abbrev SaysTaken : FrameBody → Dots → Type 0
SaysTaken (Hello g) dots = g.dots ≡ dots
SaysTaken (Delta s) dots = ⊥
SaysTaken (Know taken) dots = taken ≡ dots
SaysTaken (Forward number m) dots = ⊥
SaysTaken (Got number) dots = ⊥

-- such a frame, that was released
record Says (w : World) (f : BridgeFrame) (dots : Dots) : Type 0 where
  pub number : ℕ
  pub sent : Frame
  pub released : nth_from_one w.frames number ≡ Some sent
  pub read : frame_in sent.bytes ≡ Some f
  pub says : SaysTaken f.body dots

know_says : (w : World) (f : BridgeFrame) (dots : Dots) → IsKnow w f dots → Says w f dots
know_says w f dots k = record { number = k.number; sent = k.sent; released = k.released; read = k.read; says = subst (λ b. SaysTaken b dots) (sym k.body) refl }

hello_says : (w : World) (f : BridgeFrame) (g : Greeting) → IsHello w f g → Says w f g.dots
hello_says w f g k = record { number = k.number; sent = k.sent; released = k.released; read = k.read; says = subst (λ b. SaysTaken b g.dots) (sym k.body) refl }

-- the dots that it lists are those, and it names nodes as they do
says_dots : (b : FrameBody) (dots : Dots) → SaysTaken b dots → dots_in b ≡ dots
says_dots (Hello g) dots says = says
says_dots (Delta s) dots says = absurd says
says_dots (Know taken) dots says = says
says_dots (Forward number m) dots says = absurd says
says_dots (Got number) dots says = absurd says

says_nodes : (nodes : ℕ) (b : FrameBody) (dots : Dots) → SaysTaken b dots → dots_among nodes dots ≡ true → names_nodes nodes b ≡ true
says_nodes nodes (Hello g) dots says among = ap (dots_among nodes) says ∙ among
says_nodes nodes (Delta s) dots says among = absurd says
says_nodes nodes (Know taken) dots says among = ap (dots_among nodes) says ∙ among
says_nodes nodes (Forward number m) dots says among = absurd says
says_nodes nodes (Got number) dots says among = absurd says

-- ---- what such a frame says
module _ (run : List Played) (w : World) (r : Reached run w) (f : BridgeFrame) (dots : Dots) (k : Says w f dots) where
  abbrev before : Past
  before = past r.start run

  all : Explains before w
  all = explained run w r

  -- what it tells is so
  told : IsTold (length w.sites) before.ops before.took f
  told =
      let n = number_is w.frames k.number k.sent k.released in
      let g = all.frames n.0 k.sent n.1 in
      subst (IsTold (length w.sites) before.ops before.took) (some_is (sym (given_read (length w.sites) before.ops before.took k.sent g) ∙ k.read)) g.told

  -- its sender has taken the dots, and what that has taken is of nodes of the cluster
  among : (d : Dot) → set.contains dots d ≡ true → d.node < length w.sites
  among d h =
      let s = found w.sites f.from told.from in
      let seat = all.sites f.from s.0 s.1 in
      let taken = told.lists d (ap (λ (s : Dots). set.contains s d) (says_dots f.body dots k.says) ∙ h) in
      (sound_among (length w.sites) before.ops seat.held.store seat.holding.grown.sound all.plain).taken d (seat.listed d ∙ taken)

  again : frame_in (spelling f) ≡ Some f
  again = read_again f told.spelled

name_nodes : (run : List Played) (w : World) → Reached run w → (f : BridgeFrame) (dots : Dots) → Says w f dots → (f.from < length w.sites) × ((d : Dot) → set.contains dots d ≡ true → d.node < length w.sites)
name_nodes run w r f dots k = ((told run w r f dots k).from, λ d h. among run w r f dots k d h)

pub knows_name_nodes : KnowsNameNodes
knows_name_nodes = λ run w r f dots k. name_nodes run w r f dots (know_says w f dots k)

pub hellos_name_nodes : HellosNameNodes
hellos_name_nodes = λ run w r f g k. name_nodes run w r f g.dots (hello_says w f g k)

-- ---- the frame is for this node, and so it is believed
-- after it at most one frame goes out, or is too large
abbrev AtMostOut : List Act → Type 0
AtMostOut acts = (acts ≡ []) ⊎ ((f : BridgeFrame) × (acts ≡ gives_out f ∷ []))

-- the act of such a frame
abbrev taken_act : ℕ → FrameBody → BridgeAct
taken_act from (Hello g) = Greeted from g
taken_act from (Delta s) = Left_out BadFrame
taken_act from (Know dots) = Believed from dots
taken_act from (Forward number m) = Left_out BadFrame
taken_act from (Got number) = Left_out BadFrame

record IsBelieved (from : ℕ) (body : FrameBody) (acts : List Act) : Type 0 where
  pub out : List Act
  pub is : acts ≡ Bridge (taken_act from body) ∷ out
  pub most : AtMostOut out

body_believed : (from : ℕ) (dots : Dots) (body : FrameBody) (p : Place) (h : HeldView) (acts : List Act) → SaysTaken body dots → bridge.TakesBody from body (Some tt) p h acts → IsBelieved from body acts
body_believed from dots (Hello g) p h acts says (inl d) = none_some (sym d.0)
body_believed from dots (Hello g) p h acts says (inr (x, own, mid, rest, one, ran, more, is)) =
    let told = frame_to p from (Know mid.store.taken) in
    record { out = rest; is = is ∙ ap (λ zs. zs ++ rest) one.1; most = inr (told, gave told tt p mid rest more) }
body_believed from dots (Delta s) p h acts says d = absurd says
body_believed from dots (Know taken) p h acts says d = record { out = []; is = d.1; most = inl refl }
body_believed from dots (Forward number m) p h acts says d = absurd says
body_believed from dots (Got number) p h acts says d = absurd says

believed_by : (here : Bool) (from : ℕ) (dots : Dots) (body : FrameBody) (p : Place) (h : HeldView) (acts : List Act) → here ≡ true → SaysTaken body dots → If here (bridge.TakesBody from body) (Misses BadFrame) (Some tt) p h acts
    → IsBelieved from body acts
believed_by true from dots body p h acts is says d = body_believed from dots body p h acts says d
believed_by false from dots body p h acts is says d = absurd (let z : false ≡ true = is in cc)

-- what goes out leaves what is believed, and how many frames are counted as bad
out_alike : (small : Bool) (f : BridgeFrame) (h : HeldView) → BelievesAlike h (next h (cond small (Bridge (Gave f)) (Bridge (Left_out FrameTooLarge))))
out_alike true f h = record { beliefs = refl; bad = refl }
out_alike false f h = record { beliefs = refl; bad = refl }

most_alike : (p : Place) (h h' : HeldView) (acts : List Act) → AtMostOut acts → Runs p h acts h' → BelievesAlike h h'
most_alike p h h' acts (inl none) r =
    let same : h' ≡ h = subst (λ xs. Runs p h xs h') none r in
    subst (BelievesAlike h) (sym same) (record { beliefs = refl; bad = refl })
most_alike p h h' acts (inr (f, is)) r = subst (BelievesAlike h) (sym (left_by p h h' (gives_out f) acts is r)) (out_alike (is_small f) f h)

module _ (run : List Played) (w w' : World) (m : Played) (r : Reached run w) (f : BridgeFrame) (dots : Dots) (k : Says w f dots) (apart : f.from ≢ f.to) (a : FrameArrives w f m w') where
  here : Committed w (site m.fate) a.event (acts_of m.fate) w'
  here = committed w m.step m.fate w' a.event a.happens a.commits

  at : slice_get w.sites f.to ≡ Some here.was
  at = subst (λ j. slice_get w.sites j ≡ Some here.was) a.at here.at

  seated : Seated (past r.start run) (length w.sites) f.to here.was
  seated = (all run w r f dots k).sites f.to here.was at

  within : f.from < length w.sites
  within = (told run w r f dots k).from

  held : here.before ≡ a.held
  held = some_is (sym here.up ∙ ap (λ (s : Site). s.node.up) (some_is (sym at ∙ a.holds.at)) ∙ a.holds.up)

  abbrev place : Place
  place = here.was.node.place

  named : names_nodes (nodes_of place) f.body ≡ true
  named = says_nodes (nodes_of place) f.body dots k.says (subst (λ n. dots_among n dots ≡ true) (sym seated.nodes) ((dots_tested (length w.sites) dots).1 (λ d h. among run w r f dots k d h)))

  here_for : is_for_node place f ≡ true
  here_for = λ i. eq-eqb f.to place.id (sym seated.id) i && not (nat_other f.from place.id (λ e. apart (e ∙ seated.id)) i) && lt-ltb f.from (nodes_of place) (subst (λ n. f.from < n) (sym seated.nodes) within) i && named i

  answers : Answering place here.before a.event.kind (acts_of m.fate)
  answers = answering_of a.event place here.before (acts_of m.fate) (ap (λ (v : HeldView). v.started) held ∙ a.started) here.steps.does

  -- after what is due the dots are believed, and nothing else is done but that a frame goes out
  rest_is : IsBelieved f.from f.body answers.rest
  rest_is =
      let does : AnswersEvent (kinds.Frame (spelling f)) (Some tt) place answers.mid answers.rest = subst (λ e. AnswersEvent e (Some tt) place answers.mid answers.rest) a.brings answers.does in
      let hears : bridge.HearsFrame (Some f) (Some tt) place answers.mid answers.rest =
      subst (λ (x : Option BridgeFrame). bridge.HearsFrame x (Some tt) place answers.mid answers.rest) (again run w r f dots k) does in
      believed_by (is_for_node place f) f.from dots f.body place answers.mid answers.rest here_for k.says hears

  abbrev last : HeldView
  last = bridged answers.mid (taken_act f.from f.body)

  left : BelievesAlike last here.after
  left =
      let both = runs_split place answers.first answers.rest here.before here.after (subst (λ xs. Runs place here.before xs here.after) answers.is here.steps.runs) in
      let same : both.0 ≡ answers.mid = runs_determined place answers.first here.before both.0 answers.mid both.1 answers.runs in
      let runs : Runs place answers.mid (Bridge (taken_act f.from f.body) ∷ rest_is.out) here.after = subst (λ xs. Runs place answers.mid xs here.after) rest_is.is (subst (λ v. Runs place v answers.rest here.after) same both.2) in
      let first : runs.0 ≡ last = runs.1.1 in
      most_alike place last here.after rest_is.out rest_is.most (subst (λ v. Runs place v rest_is.out here.after) first runs.2)

  alike : BelievesAlike here.before answers.mid
  alike = believes_alike place answers.first here.before answers.mid answers.silent answers.runs

  -- there is a belief of the sender
  believes : HasBeliefs here.before
  believes = subst HasBeliefs (sym (seated.up here.before here.up)) (moves_beliefs place (moves_at f.to run) (fresh seated.first) seated.held seated.moves (fresh_beliefs seated.first))

  long : f.from < length answers.mid.bridge.beliefs
  long = subst (λ n. f.from < n) (sym (ap length alike.beliefs ∙ believes ∙ ap (λ (v : HeldView). length v.bridge.lanes) (seated.up here.before here.up) ∙ seated.kept.lanes)) within

  abbrev old : ℕ → Dots
  old peer = belief_of here.before.bridge peer

  mid_is : (peer : ℕ) → belief_of answers.mid.bridge peer ≡ old peer
  mid_is peer = ap (λ (xs : List Dots). get_or xs peer set.empty) alike.beliefs

  -- what is believed then
  belief_then : (peer : ℕ) → belief_of here.after.bridge peer ≡ belief_of last.bridge peer
  belief_then peer = ap (λ (xs : List Dots). get_or xs peer set.empty) left.beliefs

  set_then : (peer : ℕ) (s : Dots) → last.bridge.beliefs ≡ slice_set answers.mid.bridge.beliefs f.from s → peer ≢ f.from → belief_of here.after.bridge peer ≡ old peer
  set_then peer s e ne = belief_then peer ∙ ap (λ (xs : List Dots). get_or xs peer set.empty) e ∙ get_or-set_other answers.mid.bridge.beliefs f.from peer s set.empty ne ∙ mid_is peer

  own_then : (s : Dots) → last.bridge.beliefs ≡ slice_set answers.mid.bridge.beliefs f.from s → belief_of here.after.bridge f.from ≡ s
  own_then s e = belief_then f.from ∙ ap (λ (xs : List Dots). get_or xs f.from set.empty) e ∙ get_or-set_same answers.mid.bridge.beliefs f.from s set.empty long

  abbrev IsAct : BridgeAct → Type 0
  IsAct a = taken_act f.from f.body ≡ a

  beliefs_then : (a : BridgeAct) → IsAct a → last.bridge.beliefs ≡ (bridged answers.mid a).bridge.beliefs
  beliefs_then a e = ap (λ x. (bridged answers.mid x).bridge.beliefs) e

  bad_then : (a : BridgeAct) → IsAct a → (bridged answers.mid a).counts.bad_frames ≡ answers.mid.counts.bad_frames → here.after.counts.bad_frames ≡ here.before.counts.bad_frames
  bad_then a e same = left.bad ∙ ap (λ x. (bridged answers.mid x).counts.bad_frames) e ∙ same ∙ alike.bad

  has_believed : f.body ≡ Know dots → HasBelieved here.before here.after f.from dots
  has_believed know =
      let act : IsAct (Believed f.from dots) = ap (taken_act f.from) know in
      let both = set.union (belief_of answers.mid.bridge f.from) dots in
      record {
        belief = own_then both (beliefs_then (Believed f.from dots) act) ∙ ap (λ (s : Dots). set.union s dots) (mid_is f.from);
        others = λ peer ne. set_then peer both (beliefs_then (Believed f.from dots) act) ne;
        counted = bad_then (Believed f.from dots) act refl;
      }

  has_heard : (g : Greeting) → f.body ≡ Hello g → HasHeard here.before here.after f.from g.dots
  has_heard g hello =
      let act : IsAct (Greeted f.from g) = ap (taken_act f.from) hello in
      record {
        belief = own_then g.dots (beliefs_then (Greeted f.from g) act);
        others = λ peer ne. set_then peer g.dots (beliefs_then (Greeted f.from g) act) ne;
        bad = bad_then (Greeted f.from g) act refl;
      }

  -- it holds that afterwards
  holds_it : (after : HeldView) → Holds w' f.to after → after ≡ here.after
  holds_it after x =
      let there : slice_get w'.sites f.to ≡ Some here.later =
      subst (λ j. slice_get w'.sites j ≡ Some here.later) a.at (ap (λ (ss : List Site). slice_get ss (site m.fate)) here.sites ∙ get-set_same w.sites (site m.fate) here.later here.was here.at) in
      here.is after (ap (λ (s : Site). s.node.up) (some_is (sym there ∙ x.at)) ∙ x.up)

pub knows_are_believed : KnowsAreBelieved
knows_are_believed = λ run w w' m r f dots k apart a after x.
    let s = know_says w f dots k in
    subst (λ v. HasBelieved v after f.from dots) (held run w w' m r f dots s apart a)
    (subst (λ v. HasBelieved (here run w w' m r f dots s apart a).before v f.from dots) (sym (holds_it run w w' m r f dots s apart a after x)) (has_believed run w w' m r f dots s apart a k.body))

pub hellos_are_believed : HellosAreBelieved
hellos_are_believed = λ run w w' m r f g k apart a after x.
    let s = hello_says w f g k in
    subst (λ v. HasHeard v after f.from g.dots) (held run w w' m r f g.dots s apart a)
    (subst (λ v. HasHeard (here run w w' m r f g.dots s apart a).before v f.from g.dots) (sym (holds_it run w w' m r f g.dots s apart a after x)) (has_heard run w w' m r f g.dots s apart a g k.body))
