-- Outputs go to the connections that they are for, in every run.
use Rattle.std.specs.FinMap as map
use Rattle.std.specs.List.{slice_get}
use Rattle.std.proofs.Common.{◌≡◌, inl, inr, ℕ, List, ◌∷◌, ◌++◌, Option, Some, None, refl, sym, ap, ◌∙◌, subst}
use Rattle.std.specs.Option.{option_map}
use Rattle.node_rows.specs.Sessions.{opened_seat}
use Rattle.node_rows.specs.Rows.{Lasting}
use Rattle.session_rows.specs.Durable.{Durable}
use Rattle.session_table.specs.Seats.{Seat}
use Rattle.home_table.specs.Table.{Table}
use Rattle.node_work.specs.Acts.{Act, Runs}
use Rattle.node_work.specs.Lasting.{IsWoken}
use Rattle.node_work.specs.View.{HeldView, NodeView, fresh}
use Rattle.broker_node.specs.declared.event.Event.{Event}
use Rattle.cluster_play.specs.Worlds.{Site, World, Fate, Released, Lost, Cut, Faulted, Was_down, Restarted}
use Rattle.cluster_play.specs.Runs.{Played}
use Rattle.cluster_play.specs.Histories.{Reached, IsStart, site, acts_of}
use Rattle.cluster_play.proofs.Bools.{nat_cases, some_is, none-some}
use Rattle.cluster_play.proofs.Paths.{along, commits_acts, midway}
use Rattle.cluster_play.proofs.Rows.{Came, Committed, Rests, Woke, came, committed}
use Rattle.cluster_play.proofs.Sites.{get-set_same, get-set_other}
use Rattle.cluster_play.proofs.Splits.{runs_split}
use Rattle.law_steps.specs.Outputs.{SessionsAreOnTheirs, OutputsGoRight, SessionsStayOnTheirs, ActGoesRight, OutputsOfRunsGoRight}
use Rattle.law_steps.proofs.OutputLaws.{step_right}

pub outputs_go_right : OutputsGoRight
outputs_go_right = λ e p h last acts on d runs. (let s = step_right e p h last acts on d runs in (s.1, s.0))

-- ---- every running node
abbrev AllOn : World → Type 0
AllOn w = (i : ℕ) (s : Site) (h : HeldView) → slice_get w.sites i ≡ Some s → s.node.up ≡ Some h → SessionsAreOnTheirs h

-- a new node, and one that was opened again, has no session on a connection
none_on : (h : HeldView) → ((client : List ℕ) (seat : Seat) → map.get h.sessions client ≡ Some seat → seat.connection ≡ None) → SessionsAreOnTheirs h
none_on h none client seat c found at = none-some (sym (none client seat found) ∙ at)

opened_none : (o : Option Durable) (seat : Seat) → option_map opened_seat o ≡ Some seat → seat.connection ≡ None
opened_none None seat e = none-some e
opened_none (Some d) seat e = ap (λ (s : Seat). s.connection) (sym (some_is e))

woken_on : (homes : Table) (x : Lasting) (h : HeldView) → IsWoken homes x h → SessionsAreOnTheirs h
woken_on homes x h w =
    none_on h (λ client seat found. opened_none (x.sessions client) seat (sym (w.1 client) ∙ ap (λ (v : HeldView). map.get v.sessions client) (sym w.2) ∙ found))

fresh_on : (homes : Table) → SessionsAreOnTheirs (fresh homes)
fresh_on homes client seat c found at = none-some (sym (map.get-empty _ client) ∙ found)

-- ---- a step
committed_on : (w w' : World) (i : ℕ) (e : Event) (acts : List Act) → Committed w i e acts w' → AllOn w → AllOn w'
committed_on w w' i e acts c on j s h at up = elim (nat_cases i j) [
  | inl q ↦ (
      let here : slice_get w'.sites i ≡ Some s = subst (λ n. slice_get w'.sites n ≡ Some s) (sym q) at in
      let there : c.later ≡ s = some_is (sym (get-set_same w.sites i c.later c.was c.at) ∙ sym (ap (λ ss. slice_get ss i) c.sites) ∙ here) in
      let is : h ≡ c.after = c.is h (ap (λ (v : Site). v.node.up) there ∙ up) in
      subst SessionsAreOnTheirs (sym is) (step_right e c.was.node.place c.before c.after acts (on i c.was c.before c.at c.up) c.steps.does c.steps.runs).1)
  | inr ne ↦ on j s h (sym (get-set_other w.sites i j c.later ne) ∙ sym (ap (λ ss. slice_get ss j) c.sites) ∙ at) up
]

rests_on : (w w' : World) → Rests w w' → AllOn w → AllOn w'
rests_on w w' r on j s h at up = let k = r.sites j s at in on j k.0 h k.1 (k.2.up h up)

woke_on : (w w' : World) (i : ℕ) (homes : Table) → Woke w i homes w' → AllOn w → AllOn w'
woke_on w w' i homes c on j s h at up = elim (nat_cases i j) [
  | inl q ↦ (
      let here : slice_get w'.sites i ≡ Some s = subst (λ n. slice_get w'.sites n ≡ Some s) (sym q) at in
      let there : c.later ≡ s = some_is (sym (get-set_same w.sites i c.later c.was c.at) ∙ sym (ap (λ ss. slice_get ss i) c.sites) ∙ here) in
      let is : c.reopens.node.held ≡ h = some_is (sym (ap (λ (n : NodeView). n.up) c.reopens.node.is) ∙ ap (λ (v : Site). v.node.up) there ∙ up) in
      subst SessionsAreOnTheirs is (woken_on homes c.reopens.node.lasting c.reopens.node.held c.reopens.node.woken))
  | inr ne ↦ on j s h (sym (get-set_other w.sites i j c.later ne) ∙ sym (ap (λ ss. slice_get ss j) c.sites) ∙ at) up
]

came_on : (w w' : World) (fate : Fate) → Came w fate w' → AllOn w → AllOn w'
came_on w w' (Released i e acts outputs) c on = committed_on w w' i e acts c on
came_on w w' (Lost i e acts) c on = committed_on w w' i e acts c on
came_on w w' (Cut i) c on = rests_on w w' c on
came_on w w' (Faulted i fault) c on = rests_on w w' c on
came_on w w' (Was_down i) c on = rests_on w w' c on
came_on w w' (Restarted i homes) c on = woke_on w w' i homes c on

start_on : (w : World) → IsStart w → AllOn w
start_on w s i x h at up =
    let new = s.sites i x at in
    subst SessionsAreOnTheirs (some_is (sym (ap (λ (n : NodeView). n.up) new.node) ∙ up)) (fresh_on new.homes)

all_on : (run : List Played) (w : World) → Reached run w → AllOn w
all_on = along (λ run w. AllOn w) (λ run m w w' r on honest happens. came_on w w' m.fate (came w m.step m.fate w' happens) on) start_on

pub sessions_stay_on : SessionsStayOnTheirs
sessions_stay_on = λ run w r i h holds. all_on run w r i holds.site h holds.at holds.up

-- ---- the acts of a step
act_right : (run later : List Played) (m : Played) (w : World) → Reached (run ++ m ∷ later) w → (before after : List Act) (a : Act) → acts_of m.fate ≡ before ++ a ∷ after → ActGoesRight run m before after a
act_right run later m w r before after a is =
    let i = site m.fate in
    let half = midway run (m ∷ later) w r in
    let e = commits_acts m.fate before after a is in
    let c = committed half.mid m.step m.fate half.path.0 e.0 half.path.1 e.1 in
    let place = c.was.node.place in
    let parts = runs_split place before (a ∷ after) c.before c.after (subst (λ acts. Runs place c.before acts c.after) is c.steps.runs) in
    record {
      world = half.mid;
      reached = half.reached;
      held = parts.0;
      there = record {
        event = e.0;
        commits = e.1;
        at = refl;
        rest = a ∷ after;
        acts = is;
        held = c.before;
        holds = record { site = c.was; at = c.at; up = c.up };
        runs = parts.1;
      };
      right = (step_right e.0 place c.before c.after (acts_of m.fate) (all_on run half.mid half.reached i c.was c.before c.at c.up) c.steps.does c.steps.runs).0 before after a parts.0 is parts.1;
    }

pub outputs_of_runs_go_right : OutputsOfRunsGoRight
outputs_of_runs_go_right = λ run later m w r before after a is. act_right run later m w r before after a is
