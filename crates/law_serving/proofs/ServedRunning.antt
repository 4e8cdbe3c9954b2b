-- Events that a node handles one after another are a run.
use Rattle.std.proofs.Common.{◌≡◌, ℕ, zero, suc, List, [], ◌∷◌, ◌++◌, None, Some, refl, sym, ap, subst, ◌∙◌, append_assoc}
use Rattle.std.proofs.lemmas.List.{append-nil}
use Rattle.std.proofs.Math.ListN.{set}
use Rattle.std.specs.List.{slice_get}
use Rattle.broker_node.specs.declared.event.EventKind.{EventKind}
use Rattle.broker_node.specs.declared.event.EventKind.TheVariants as kinds
use Rattle.cluster_play.specs.declared.step.Step.TheVariants as steps
use Rattle.cluster_play.specs.Runs.{IsHonest, IsKnown, Played, Run}
use Rattle.cluster_play.specs.Worlds.{Happens, Released, Site, World, world_with, frames_in}
use Rattle.cluster_play.proofs.Paths.{run_join}
use Rattle.cluster_play.proofs.Sites.{get-set_same, set_own}
use Rattle.node_keeper.specs.Batches.{Answered, AreHandled, IsHandled}
use Rattle.node_work.specs.View.{HeldView, NodeView}
use Rattle.node_work.specs.declared.frame.Frame.{Frame}
use Rattle.row_store.specs.Rows.{Content}
use Rattle.law_serving.specs.Turns.{AreKnown, AreReleased, CrashIsRun, CutAfter, CutBefore, IsRunOf, TurnIsRun, crash_at, down, frames_of}

-- ---- one seat, changed twice

set-twice : {A : Type 0} (xs : List A) (i : ℕ) (x y : A) → set (set xs i x) i y ≡ set xs i y
set-twice [] i x y = refl
set-twice (z ∷ xs) zero x y = refl
set-twice (z ∷ xs) (suc i) x y = ap (λ ys. z ∷ ys) (set-twice xs i x y)

pub changed_twice : (w : World) (i : ℕ) (s t : Site) (fs gs : List Frame) → world_with (world_with w i s fs) i t gs ≡ world_with w i t (fs ++ gs)
changed_twice w i s t fs gs =
    let sites = set-twice w.sites i s t in
    let frames = append_assoc w.frames fs gs in
    λ j. record { sites = sites j; frames = frames j }

unchanged : (w : World) (i : ℕ) (s : Site) → slice_get w.sites i ≡ Some s → world_with w i s [] ≡ w
unchanged w i s at =
    let sites = set_own w.sites i s at in
    let frames = append-nil w.frames in
    λ j. record { sites = sites j; frames = frames j }

-- ---- what was released stays so

get_left : {A : Type 0} (xs ys : List A) (n : ℕ) (x : A) → slice_get xs n ≡ Some x → slice_get (xs ++ ys) n ≡ Some x
get_left [] ys n x h = cc
get_left (z ∷ xs) ys zero x h = h
get_left (z ∷ xs) ys (suc n) x h = get_left xs ys n x h

pub known_later : (sent more : List Frame) (kind : EventKind) → IsKnown sent kind → IsKnown (sent ++ more) kind
known_later sent more kinds.Started h = tt
known_later sent more (kinds.Opened c) h = tt
known_later sent more (kinds.Piece c bytes) h = tt
known_later sent more (kinds.Room c n) h = tt
known_later sent more (kinds.Closed c) h = tt
known_later sent more (kinds.Frame bytes) h = (h.0, h.1, get_left sent more h.0 h.1 h.2, h.3)
known_later sent more (kinds.Linked peer) h = tt
known_later sent more (kinds.Ship peer) h = tt
known_later sent more (kinds.More peer after) h = tt
known_later sent more kinds.Tick h = tt
known_later sent more (kinds.Evict client) h = tt
known_later sent more (kinds.Table homes) h = tt

pub all_later : (sent more : List Frame) (answered : List Answered) → AreKnown sent answered → AreKnown (sent ++ more) answered
all_later sent more [] h = tt
all_later sent more (a ∷ rest) h = (known_later sent more a.0.kind h.0, all_later sent more rest h.1)

-- ---- events

-- the moment of an event that is released
abbrev played : (i : ℕ) (n m : NodeView) (rows between : Content) (a : Answered) → IsHandled n rows a.0 a.1 m between → Played
played i n m rows between a h = record { step = steps.Event i a.0; fate = Released i a.0 h.commits.done.acts a.1 }

pub turn_is_run : TurnIsRun
turn_is_run w i s [] n rows at same =
    let Here : Site → Type 0 = λ t. IsRunOf w i [] t in
    let is : record { node = n; rows = rows } ≡ s = λ j. record { node = same.0 j; rows = same.1 j } in
    subst Here (sym is) (record { run = []; released = tt; leads = unchanged w i s at; honest = λ _. tt })
turn_is_run w i s (a ∷ more) n rows at handled =
    let m = handled.0 in
    let between = handled.1 in
    let first = handled.2 in
    let mid : Site = record { node = m; rows = between } in
    let next = world_with w i mid (frames_in a.1) in
    let later = turn_is_run next i mid more n rows (get-set_same w.sites i mid s at) handled.3 in
    let end : Site = record { node = n; rows = rows } in
    let Led : World → Type 0 = λ v. Run next later.run v in
    record {
      run = played i s.node m s.rows between a first ∷ later.run;
      released = (refl, (first.commits.done.acts, refl), later.released);
      leads = (
        next,
        (s, at, refl, (refl, (mid, record { commits = first.commits; does = refl; place = first.place }, refl))),
        subst Led (changed_twice w i mid end (frames_in a.1) (frames_of more)) later.leads,
      );
      honest = λ known. (known.0, later.honest (all_later w.frames (frames_in a.1) more known.1));
    }

-- ---- a crash

-- a node that runs goes on running
pub runs_on : (n n' : NodeView) (rows rows' : Content) (answered : List Answered) (h : HeldView) → n.up ≡ Some h → AreHandled n rows answered n' rows' → (g : HeldView) × (n'.up ≡ Some g)
runs_on n n' rows rows' [] h up same = (h, ap (λ (m : NodeView). m.up) same.0 ∙ up)
runs_on n n' rows rows' (a ∷ more) h up handled = runs_on handled.0 n' handled.1 rows' more handled.2.commits.done.after handled.2.commits.done.is handled.3

cut : (w : World) (i : ℕ) (s : Site) (h : HeldView) → slice_get w.sites i ≡ Some s → s.node.up ≡ Some h → CutBefore w i (down s.node s.rows)
cut w i s h at up = (world_with w i (down s.node s.rows) [], (s, at, tt, (refl, (h, up), refl)), refl)

honest_end : (sent : List Frame) (i : ℕ) (run : List Played) → IsHonest sent run → IsHonest sent (run ++ crash_at i ∷ [])
honest_end sent i [] h = (tt, tt)
honest_end sent i (m ∷ run) h = (h.0, honest_end _ i run h.1)

cut_after : (w : World) (i : ℕ) (s : Site) (h : HeldView) (answered : List Answered) (n : NodeView) (rows : Content)
    → slice_get w.sites i ≡ Some s → s.node.up ≡ Some h → AreHandled s.node s.rows answered n rows → CutAfter w i answered (down n rows)
cut_after w i s h answered n rows at up handled =
    let turn = turn_is_run w i s answered n rows at handled in
    let end : Site = record { node = n; rows = rows } in
    let led = world_with w i end (frames_of answered) in
    let on = runs_on s.node n s.rows rows answered h up handled in
    let last = cut led i end on.0 (get-set_same w.sites i end s at) on.1 in
    let gone = down n rows in
    let Led : World → Type 0 = λ v. Run w (turn.run ++ crash_at i ∷ []) v in
    let twice : world_with led i gone [] ≡ world_with w i gone (frames_of answered) =
    changed_twice w i end gone (frames_of answered) [] ∙ ap (λ fs. world_with w i gone fs) (append-nil (frames_of answered)) in
    record {
      run = turn.run;
      released = turn.released;
      leads = subst Led twice (run_join turn.run (crash_at i ∷ []) w led (world_with led i gone []) turn.leads last);
      honest = λ known. honest_end w.frames i turn.run (turn.honest known);
    }

pub crash_is_run : CrashIsRun
crash_is_run w i s h answered n rows at up handled = (cut w i s h at up, cut_after w i s h answered n rows at up handled)
