-- Who has a session at a node, in every run.
use Rattle.std.specs.FinMap as map
use Rattle.std.specs.List.{slice_get}
use Rattle.std.specs.Option.{option_map}
use Rattle.std.proofs.Common.{◌≡◌, ◌≢◌, inl, inr, ℕ, ◌<◌, nat_eq, Bool, true, false, cond, List, [], ◌∷◌, ◌++◌, length, Option, Some, None, refl, sym, ap, ◌∙◌, subst, eq-eqb}
use Rattle.std.proofs.lemmas.List.{append-nil}
use Rattle.std.proofs.Math.ListN.{set}
use Rattle.home_table.specs.Homes.{IsHome}
use Rattle.home_table.specs.Table.{Table}
use Rattle.mqtt_sessions.specs.Saved.{durable_of}
use Rattle.node_rows.specs.Rows.{Lasting}
use Rattle.node_rows.specs.Sessions.{opened_seat}
use Rattle.session_table.specs.Seats.{Seat, IsElsewhere}
use Rattle.node_work.specs.Acts.{Act, Session, Runs, moved_in}
use Rattle.node_work.specs.Held.Sessions.{Begun}
use Rattle.node_work.specs.Lasting.{lasting, IsWoken}
use Rattle.node_work.specs.View.{Place, HeldView, NodeView, nodes_of, fresh}
use Rattle.law_nodes.specs.Moves.{Move, Acted, Reopened, Moves, did}
use Rattle.law_nodes.proofs.MoveLaws.{acts_are_moves, moves_join, moves_lead_to_one}
use Rattle.broker_node.specs.declared.event.Event.{Event}
use Rattle.broker_node.proofs.Tables.{nodes_stay}
use Rattle.law_runs.proofs.Passing.{has_of}
use Rattle.cluster_play.specs.Worlds.{Site, World, Fate, Released, Lost, Cut, Faulted, Was_down, Restarted, MayReopen}
use Rattle.cluster_play.specs.Runs.{Played}
use Rattle.cluster_play.specs.Histories.{IsFirst, IsStart, Reached, site, acts_of, homes_after, last_table, moves_at, moves_of, own_moves}
use Rattle.cluster_play.proofs.Bools.{nat_cases, nat_other, some_is}
use Rattle.cluster_play.proofs.Explaining.{first_in}
use Rattle.cluster_play.proofs.Kept.{explained}
use Rattle.cluster_play.proofs.Lives.{led, moves_homes}
use Rattle.cluster_play.proofs.Paths.{along, along_from, commits_acts, midway, moves_more}
use Rattle.cluster_play.proofs.Rows.{Came, Committed, Rests, Woke, came, committed}
use Rattle.cluster_play.proofs.Sites.{get_within, get-set_same, get-set_other}
use Rattle.cluster_play.proofs.Splits.{runs_split}
use Rattle.law_steps.specs.Sessions.{IsInItsTable, NoneElsewhere, HasItsOwn, OpensWithItsOwn, SessionsStayAtHome, SessionsLastAtHome, BeginsAtHome, SessionsBeginAtHome}
use Rattle.law_steps.proofs.Calm.{Has}
use Rattle.law_steps.proofs.Having.{has_is, sessions_are_at_home}

-- ---- what is so of each node
pub record Sits (i : ℕ) (s : Site) : Type 0 where
  pub id : s.node.place.id ≡ i
  pub number : s.node.place.id < nodes_of s.node.place
  pub nodes : length s.node.homes.nodes ≡ nodes_of s.node.place
  pub placed : (h : HeldView) → s.node.up ≡ Some h → length h.homes.nodes ≡ nodes_of s.node.place

abbrev AllSit : World → Type 0
AllSit w = (i : ℕ) (s : Site) → slice_get w.sites i ≡ Some s → Sits i s

pub placed_in : (s : Site) (i : ℕ) (h : HeldView) → Sits i s → s.node.up ≡ Some h → IsInItsTable s.node.place h
placed_in s i h sits up = record { number = sits.number; nodes = sits.placed h up }

-- ---- a step
module _ (w w' : World) (i : ℕ) (e : Event) (acts : List Act) (c : Committed w i e acts w') (all : AllSit w) where
  before : Sits i c.was
  before = all i c.was c.at

  abbrev place : Place
  place = c.was.node.place

  step_nodes : length c.after.homes.nodes ≡ nodes_of place
  step_nodes = nodes_stay place acts c.before c.after c.steps.runs (before.placed c.before c.up)

  later_sits : Sits i c.later
  later_sits = record {
    id = ap (λ (q : Place). q.id) c.place ∙ before.id;
    number = subst (λ (q : Place). q.id < nodes_of q) (sym c.place) before.number;
    nodes = ap (λ (t : Table). length t.nodes) c.homes ∙ step_nodes ∙ ap nodes_of (sym c.place);
    placed = λ h up. ap (λ (v : HeldView). length v.homes.nodes) (c.is h up) ∙ step_nodes ∙ ap nodes_of (sym c.place);
  }

  committed_sits : AllSit w'
  committed_sits j s at = elim (nat_cases i j) [
    | inl q ↦ (
        let here : slice_get w'.sites i ≡ Some s = subst (λ n. slice_get w'.sites n ≡ Some s) (sym q) at in
        let there : c.later ≡ s = some_is (sym (get-set_same w.sites i c.later c.was c.at) ∙ sym (ap (λ ss. slice_get ss i) c.sites) ∙ here) in
        subst (λ n. Sits n s) q (subst (Sits i) there later_sits))
    | inr ne ↦ all j s (sym (get-set_other w.sites i j c.later ne) ∙ sym (ap (λ ss. slice_get ss j) c.sites) ∙ at)
  ]

rests_sits : (w w' : World) → Rests w w' → AllSit w → AllSit w'
rests_sits w w' r all j s at =
    let k = r.sites j s at in
    let was = all j k.0 k.1 in
    record {
      id = ap (λ (q : Place). q.id) k.2.place ∙ was.id;
      number = subst (λ (q : Place). q.id < nodes_of q) (sym k.2.place) was.number;
      nodes = ap (λ (t : Table). length t.nodes) k.2.homes ∙ was.nodes ∙ ap nodes_of (sym k.2.place);
      placed = λ h up. was.placed h (k.2.up h up) ∙ ap nodes_of (sym k.2.place);
    }

-- a table with which a node is opened again is for as many nodes
fits : (s : Site) (homes : Table) (x : Lasting) (i : ℕ) → Sits i s → MayReopen s x homes → length homes.nodes ≡ nodes_of s.node.place
fits s homes x i was (inl same) = ap (λ (t : Table). length t.nodes) same ∙ was.nodes
fits s homes x i was (inr after) = after.nodes

woken_sits : (w w' : World) (i : ℕ) (homes : Table) (c : Woke w i homes w') → Sits i c.was → Sits i c.later
woken_sits w w' i homes c was =
    let n = c.reopens.node in
    let place : c.later.node.place ≡ c.was.node.place = ap (λ (v : NodeView). v.place) n.is in
    let now : c.later.node.homes ≡ homes = ap (λ (v : NodeView). v.homes) n.is in
    let many : length homes.nodes ≡ nodes_of c.was.node.place = fits c.was homes n.lasting i was c.reopens.table in
    let held : (h : HeldView) → c.later.node.up ≡ Some h → h ≡ n.held = λ h up. some_is (sym up ∙ ap (λ (v : NodeView). v.up) n.is) in
    let table : n.held.homes ≡ homes = ap (λ (v : HeldView). v.homes) n.woken.2 in
    record {
      id = ap (λ (q : Place). q.id) place ∙ was.id;
      number = subst (λ (q : Place). q.id < nodes_of q) (sym place) was.number;
      nodes = ap (λ (t : Table). length t.nodes) now ∙ many ∙ ap nodes_of (sym place);
      placed = λ h up. ap (λ (v : HeldView). length v.homes.nodes) (held h up) ∙ ap (λ (t : Table). length t.nodes) table ∙ many ∙ ap nodes_of (sym place);
    }

woke_sits : (w w' : World) (i : ℕ) (homes : Table) → Woke w i homes w' → AllSit w → AllSit w'
woke_sits w w' i homes c all j s at = elim (nat_cases i j) [
  | inl q ↦ (
      let here : slice_get w'.sites i ≡ Some s = subst (λ n. slice_get w'.sites n ≡ Some s) (sym q) at in
      let there : c.later ≡ s = some_is (sym (get-set_same w.sites i c.later c.was c.at) ∙ sym (ap (λ ss. slice_get ss i) c.sites) ∙ here) in
      subst (λ n. Sits n s) q (subst (Sits i) there (woken_sits w w' i homes c (all i c.was c.at))))
  | inr ne ↦ all j s (sym (get-set_other w.sites i j c.later ne) ∙ sym (ap (λ ss. slice_get ss j) c.sites) ∙ at)
]

came_sits : (w w' : World) (fate : Fate) → Came w fate w' → AllSit w → AllSit w'
came_sits w w' (Released i e acts outputs) c all = committed_sits w w' i e acts c all
came_sits w w' (Lost i e acts) c all = committed_sits w w' i e acts c all
came_sits w w' (Cut i) c all = rests_sits w w' c all
came_sits w w' (Faulted i fault) c all = rests_sits w w' c all
came_sits w w' (Was_down i) c all = rests_sits w w' c all
came_sits w w' (Restarted i homes) c all = woke_sits w w' i homes c all

start_sits : (w : World) → IsStart w → AllSit w
start_sits w s i x at =
    let new = s.sites i x at in
    let place : x.node.place ≡ record { id = i; nodes = length new.homes.nodes } = ap (λ (v : NodeView). v.place) new.node in
    let table : x.node.homes ≡ new.homes = ap (λ (v : NodeView). v.homes) new.node in
    let many : nodes_of x.node.place ≡ length new.homes.nodes = ap nodes_of place in
    record {
      id = ap (λ (q : Place). q.id) place;
      number = subst (λ (q : Place). q.id < nodes_of q) (sym place) (subst (λ n. i < n) (sym new.fits) (get_within w.sites i x at));
      nodes = ap (λ (t : Table). length t.nodes) table ∙ sym many;
      placed = λ h up. ap (λ (v : HeldView). length v.homes.nodes) (sym (some_is (sym (ap (λ (v : NodeView). v.up) new.node) ∙ up))) ∙ sym many;
    }

pub all_sit : (run : List Played) (w : World) → Reached run w → AllSit w
all_sit = along (λ run w. AllSit w) (λ run m w w' r all honest happens. came_sits w w' m.fate (came w m.step m.fate w' happens) all) start_sits

-- ---- what moves lead to
moves_parts : (p : Place) (xs ys : List Move) (a b : HeldView) → Moves p a (xs ++ ys) b → (mid : HeldView) × Moves p a xs mid × Moves p mid ys b
moves_parts p [] ys a b r = (a, refl, r)
moves_parts p (x ∷ xs) ys a b r = let s = moves_parts p xs ys r.0 b r.2 in (s.0, (r.0, r.1, s.1), s.2)

-- a node that was opened again hasn't started
woken_own : (p : Place) (homes : Table) (x : Lasting) (h : HeldView) → IsWoken homes x h → HasItsOwn p.id h
woken_own p homes x h w started = absurd (let no : false ≡ true = sym (ap (λ (v : HeldView). v.started) w.2) ∙ started in cc)

-- a session of a node that was opened again was there
woken_has : (homes : Table) (h h' : HeldView) → IsWoken homes (lasting h) h' → (q : List ℕ) → Has q h' → Has q h
woken_has homes h h' w q has = by (map.get h.sessions q) refl (sym (w.1 q) ∙ ap (λ (v : HeldView). map.get v.sessions q) (sym w.2) ∙ has.1)
  where
    by : (o : Option Seat) → map.get h.sessions q ≡ o → option_map opened_seat (option_map (λ (s : Seat). durable_of s.session) o) ≡ Some has.0 → Has q h
    by None at e = absurd (let z : None ≡ Some has.0 = e in cc)
    by (Some seat) at e = (seat, at)

-- and with the table that it had it's at home still
woken_none : (id : ℕ) (homes : Table) (h h' : HeldView) → homes ≡ h.homes → IsWoken homes (lasting h) h' → NoneElsewhere id h → NoneElsewhere id h'
woken_none id homes h h' same w none q has elsewhere =
    let was = woken_has homes h h' w q (has_of q h' has) in
    none q (has_is q h was) (subst (λ (t : Table). IsElsewhere t id q) (ap (λ (v : HeldView). v.homes) w.2 ∙ same) elsewhere)

-- the first of some moves, and the last
opens_front : (t : Table) (xs ys : List Move) → OpensWithItsOwn t (xs ++ ys) → OpensWithItsOwn t xs
opens_front t [] ys o = tt
opens_front t (Acted a ∷ xs) ys o = opens_front (last_table t (moved_in a)) xs ys o
opens_front t (Reopened homes ∷ xs) ys o = (o.0, opens_front homes xs ys o.1)

opens_last : (t : Table) (xs : List Move) (homes : Table) → OpensWithItsOwn t (xs ++ Reopened homes ∷ []) → homes ≡ homes_after t xs
opens_last t [] homes o = o.0
opens_last t (Acted a ∷ xs) homes o = opens_last (last_table t (moved_in a)) xs homes o
opens_last t (Reopened u ∷ xs) homes o = opens_last u xs homes o.1

-- what moves lead to, from a first table on
abbrev IsAtHome : ℕ → Table → List Move → HeldView → Type 0
IsAtHome id first moves h = HasItsOwn id h × (OpensWithItsOwn first moves → NoneElsewhere id h)

-- what a run's acts and losses lead to has no session of a client whose home is elsewhere, but where it hasn't started since it was opened with another table
abbrev IsOwn : World → List Played → World → Type 0
IsOwn start run w =
    (i : ℕ) (s : Site) (first : Table) (h : HeldView) → slice_get w.sites i ≡ Some s → first_in start i ≡ Some first → Moves s.node.place (fresh first) (moves_at i run) h
    → IsAtHome s.node.place.id first (moves_at i run) h

-- ---- of the node of a step
module _ (start : World) (run : List Played) (m : Played) (w w' : World) (r : Reached run w) (from : r.start ≡ start) (own : IsOwn start run w) where
  -- what the node of a seat held before the step
  record Was (i : ℕ) (s : Site) (first : Table) : Type 0 where
    held : HeldView
    moves : Moves s.node.place (fresh first) (moves_at i run) held
    up : (h : HeldView) → s.node.up ≡ Some h → h ≡ held
    none : IsAtHome s.node.place.id first (moves_at i run) held

  was : (i : ℕ) (s : Site) (first : Table) → slice_get w.sites i ≡ Some s → first_in start i ≡ Some first → Was i s first
  was i s first at is =
      let x = (explained run w r).sites i s at in
      let same : x.first ≡ first = some_is (sym x.was ∙ ap (λ (v : World). first_in v i) from ∙ is) in
      let moves : Moves s.node.place (fresh first) (moves_at i run) x.held = subst (λ t. Moves s.node.place (fresh t) (moves_at i run) x.held) same x.moves in
      record { held = x.held; moves = moves; up = x.up; none = own i s first x.held at is moves }

  committed_own : (i : ℕ) (e : Event) (acts : List Act) (c : Committed w i e acts w') (first : Table) (h : HeldView) → first_in start i ≡ Some first → Moves c.was.node.place (fresh first) (moves_at i run ++ did acts) h
      → IsAtHome c.was.node.place.id first (moves_at i run ++ did acts) h
  committed_own i e acts c first h is moves =
      let p = c.was.node.place in
      let x = was i c.was first c.at is in
      let same : c.before ≡ x.held = x.up c.before c.up in
      let there : Moves p (fresh first) (moves_at i run ++ did acts) c.after =
      moves_join p (moves_at i run) (did acts) (fresh first) x.held c.after x.moves (acts_are_moves p x.held c.after acts (subst (λ v. Runs p v acts c.after) same c.steps.runs)) in
      let one : h ≡ c.after = moves_lead_to_one p (fresh first) h c.after (moves_at i run ++ did acts) moves there in
      let law = sessions_are_at_home e p c.before c.after acts (placed_in c.was i c.before (all_sit run w r i c.was c.at) c.up) c.steps.does c.steps.runs in (
        subst (HasItsOwn p.id) (sym one) (law.1 (subst (HasItsOwn p.id) (sym same) x.none.0)),
        λ opens. subst (NoneElsewhere p.id) (sym one) (law.0 (subst (NoneElsewhere p.id) (sym same) (x.none.1 (opens_front first (moves_at i run) (did acts) opens)))),
      )

  woke_own : (i : ℕ) (s : Site) (homes first : Table) (h : HeldView) → slice_get w.sites i ≡ Some s → first_in start i ≡ Some first → Moves s.node.place (fresh first) (moves_at i run ++ Reopened homes ∷ []) h
      → IsAtHome s.node.place.id first (moves_at i run ++ Reopened homes ∷ []) h
  woke_own i s homes first h at is moves =
      let p = s.node.place in
      let x = was i s first at is in
      let parts = moves_parts p (moves_at i run) (Reopened homes ∷ []) (fresh first) h moves in
      let same : parts.0 ≡ x.held = moves_lead_to_one p (fresh first) parts.0 x.held (moves_at i run) parts.1 x.moves in
      let had : parts.0.homes ≡ homes_after first (moves_at i run) = moves_homes p (moves_at i run) (fresh first) parts.0 parts.1 in (
        subst (HasItsOwn p.id) (sym parts.2.2) (woken_own p homes (lasting parts.0) parts.2.0 parts.2.1),
        λ opens. (let before : NoneElsewhere p.id parts.0 = subst (NoneElsewhere p.id) (sym same) (x.none.1 (opens_front first (moves_at i run) (Reopened homes ∷ []) opens)) in
            subst (NoneElsewhere p.id) (sym parts.2.2) (woken_none p.id homes parts.0 parts.2.0 (opens_last first (moves_at i run) homes opens ∙ sym had) parts.2.1 before)),
      )

  -- moves that a step adds to those of a node
  all_moves : (i : ℕ) (xs : List Move) → own_moves i m.fate ≡ xs → moves_at i (run ++ m ∷ []) ≡ moves_at i run ++ xs
  all_moves i xs is = sym (moves_more i run m) ∙ ap (λ ys. moves_at i run ++ ys) is

  added : (i : ℕ) (p : Place) (first : Table) (h : HeldView) (xs : List Move) → own_moves i m.fate ≡ xs → Moves p (fresh first) (moves_at i (run ++ m ∷ [])) h → Moves p (fresh first) (moves_at i run ++ xs) h
  added i p first h xs is moves = subst (λ ms. Moves p (fresh first) ms h) (all_moves i xs is) moves

  -- the node of another seat
  rest_own : (i : ℕ) (s : Site) (first : Table) (h : HeldView) → own_moves i m.fate ≡ [] → slice_get w.sites i ≡ Some s → first_in start i ≡ Some first → Moves s.node.place (fresh first) (moves_at i (run ++ m ∷ [])) h
      → IsAtHome s.node.place.id first (moves_at i (run ++ m ∷ [])) h
  rest_own i s first h none at is moves =
      let same : moves_at i (run ++ m ∷ []) ≡ moves_at i run = all_moves i [] none ∙ append-nil (moves_at i run) in
      subst (λ ms. IsAtHome s.node.place.id first ms h) (sym same) (own i s first h at is (subst (λ ms. Moves s.node.place (fresh first) ms h) same moves))

  -- ---- by what the step comes to
  mine : (i : ℕ) (xs : List Move) → cond (nat_eq i i) xs [] ≡ xs
  mine i xs = ap (λ b. cond b xs []) (eq-eqb i i refl)

  other_moves : (i j : ℕ) (xs : List Move) → i ≢ j → cond (nat_eq i j) xs [] ≡ []
  other_moves i j xs ne = ap (λ b. cond b xs []) (nat_other i j ne)

  changed_own : (i : ℕ) (xs : List Move) (old later : Site) → slice_get w.sites i ≡ Some old → w'.sites ≡ set w.sites i later → later.node.place ≡ old.node.place → site m.fate ≡ i → moves_of m.fate ≡ xs
      → ((first : Table) (h : HeldView) → first_in start i ≡ Some first → Moves old.node.place (fresh first) (moves_at i run ++ xs) h → IsAtHome old.node.place.id first (moves_at i run ++ xs) h) → IsOwn start (run ++ m ∷ []) w'
  changed_own i xs old later at_old sites place site_is moves_is step j s first h at is moves = elim (nat_cases i j) [
    | inl q ↦ subst (λ n. slice_get w'.sites n ≡ Some s → first_in start n ≡ Some first → Moves s.node.place (fresh first) (moves_at n (run ++ m ∷ [])) h → IsAtHome s.node.place.id first (moves_at n (run ++ m ∷ [])) h) q here at is moves
    | inr ne ↦ (
        let none : own_moves j m.fate ≡ [] = ap (λ n. cond (nat_eq n j) (moves_of m.fate) []) site_is ∙ other_moves i j (moves_of m.fate) ne in
        rest_own j s first h none (sym (get-set_other w.sites i j later ne) ∙ sym (ap (λ ss. slice_get ss j) sites) ∙ at) is moves)
  ]
    where
      here : slice_get w'.sites i ≡ Some s → first_in start i ≡ Some first → Moves s.node.place (fresh first) (moves_at i (run ++ m ∷ [])) h → IsAtHome s.node.place.id first (moves_at i (run ++ m ∷ [])) h
      here at_i is_i moves_i =
          let there : later ≡ s = some_is (sym (get-set_same w.sites i later old at_old) ∙ sym (ap (λ ss. slice_get ss i) sites) ∙ at_i) in
          let same : s.node.place ≡ old.node.place = ap (λ (v : Site). v.node.place) (sym there) ∙ place in
          let all : own_moves i m.fate ≡ xs = ap (λ n. cond (nat_eq n i) (moves_of m.fate) []) site_is ∙ mine i (moves_of m.fate) ∙ moves_is in
          let now : IsAtHome old.node.place.id first (moves_at i run ++ xs) h = step first h is_i (subst (λ (q : Place). Moves q (fresh first) (moves_at i run ++ xs) h) same (added i s.node.place first h xs all moves_i)) in
          subst (λ (q : Place). IsAtHome q.id first (moves_at i (run ++ m ∷ [])) h) (sym same) (subst (λ ms. IsAtHome old.node.place.id first ms h) (sym (all_moves i xs all)) now)

  resting : (b : Bool) (xs : List Move) → xs ≡ [] → cond b xs [] ≡ []
  resting true xs is = is
  resting false xs is = refl

  rests_own : moves_of m.fate ≡ [] → Rests w w' → IsOwn start (run ++ m ∷ []) w'
  rests_own none rests j s first h at is moves =
      let k = rests.sites j s at in
      let same : s.node.place ≡ k.0.node.place = k.2.place in
      subst (λ (q : Place). IsAtHome q.id first (moves_at j (run ++ m ∷ [])) h) (sym same) (rest_own j k.0 first h (resting (nat_eq (site m.fate) j) (moves_of m.fate) none) k.1 is (subst (λ (q : Place). Moves q (fresh first) (moves_at j (run ++ m ∷ [])) h) same moves))

  came_own : (fate : Fate) → m.fate ≡ fate → Came w fate w' → IsOwn start (run ++ m ∷ []) w'
  came_own (Released i e acts outputs) is c = changed_own i (did acts) c.was c.later c.at c.sites c.place (ap site is) (ap moves_of is) (λ first h first_is moves. committed_own i e acts c first h first_is moves)
  came_own (Lost i e acts) is c = changed_own i (did acts) c.was c.later c.at c.sites c.place (ap site is) (ap moves_of is) (λ first h first_is moves. committed_own i e acts c first h first_is moves)
  came_own (Cut i) is c = rests_own (ap moves_of is) c
  came_own (Faulted i fault) is c = rests_own (ap moves_of is) c
  came_own (Was_down i) is c = rests_own (ap moves_of is) c
  came_own (Restarted i homes) is c =
      changed_own i (Reopened homes ∷ []) c.was c.later c.at c.sites (ap (λ (v : NodeView). v.place) c.reopens.node.is) (ap site is) (ap moves_of is) (λ first h first_is moves. woke_own i c.was homes first h c.at first_is moves)

start_own : (w : World) → IsStart w → IsOwn w [] w
start_own w s i x first h at is moves = ((λ started. none), (λ opens. none))
  where
    none : NoneElsewhere x.node.place.id h
    none q has elsewhere =
        let there = has_of q h has in
        absurd (let z : None ≡ Some there.0 = sym (map.get-empty _ q) ∙ ap (λ (v : HeldView). map.get v.sessions q) (sym moves) ∙ there.1 in cc)

all_own : (run : List Played) (w : World) (r : Reached run w) → IsOwn r.start run w
all_own = along_from IsOwn (λ run m w w' r own honest happens. came_own r.start run m w w' r refl own m.fate refl (came w m.step m.fate w' happens)) start_own

first_there : (start : World) (i : ℕ) (homes : Table) → IsFirst start i homes → first_in start i ≡ Some homes
first_there start i homes f = ap (option_map (λ (s : Site). s.node.homes)) f.1 ∙ ap Some (sym f.2)

pub sessions_stay_at_home : SessionsStayAtHome
sessions_stay_at_home = λ run w r i h holds. (
    let l = led run w r i h holds in
    let here : IsAtHome i l.first (moves_at i run) h = subst (λ n. IsAtHome n l.first (moves_at i run) h) (all_sit run w r i holds.site holds.at).id (all_own run w r i holds.site l.first h holds.at l.was l.moves) in
    (here.0, λ first is opens. here.1 (subst (λ t. OpensWithItsOwn t (moves_at i run)) (some_is (sym (first_there r.start i first is) ∙ l.was)) opens)))

pub sessions_last_at_home : SessionsLastAtHome
sessions_last_at_home = λ run w r i s h at last.
    subst (λ n. IsAtHome n last.first (moves_at i run) h) (all_sit run w r i s at).id (all_own run w r i s last.first h at (first_there r.start i last.first last.is_first) last.moves)

-- ---- the acts of a step
begins_at_home : (run later : List Played) (m : Played) (w : World) → Reached (run ++ m ∷ later) w → (before after : List Act) (client : List ℕ) → acts_of m.fate ≡ before ++ Session (Begun client) ∷ after → BeginsAtHome run m before client
begins_at_home run later m w r before after client is =
    let i = site m.fate in
    let half = midway run (m ∷ later) w r in
    let e = commits_acts m.fate before after (Session (Begun client)) is in
    let c = committed half.mid m.step m.fate half.path.0 e.0 half.path.1 e.1 in
    let place = c.was.node.place in
    let sits = all_sit run half.mid half.reached i c.was c.at in
    let parts = runs_split place before (Session (Begun client) ∷ after) c.before c.after (subst (λ acts. Runs place c.before acts c.after) is c.steps.runs) in
    let law = sessions_are_at_home e.0 place c.before c.after (acts_of m.fate) (placed_in c.was i c.before sits c.up) c.steps.does c.steps.runs in
    record {
      world = half.mid;
      reached = half.reached;
      held = parts.0;
      there = record {
        event = e.0;
        commits = e.1;
        at = refl;
        rest = Session (Begun client) ∷ after;
        acts = is;
        held = c.before;
        holds = record { site = c.was; at = c.at; up = c.up };
        runs = parts.1;
      };
      home = subst (IsHome parts.0.homes client) sits.id (law.2 before after client parts.0 is parts.1);
    }

pub sessions_begin_at_home : SessionsBeginAtHome
sessions_begin_at_home = λ run later m w r before after client is. begins_at_home run later m w r before after client is
