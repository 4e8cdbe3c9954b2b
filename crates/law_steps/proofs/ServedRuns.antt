-- Each client that is connected is served, after every step, and in every run.
use Rattle.std.proofs.Common.{◌≡◌, ◌≢◌, ◌⊎◌, inl, inr, ℕ, Bool, true, false, List, [], ◌∷◌, ◌++◌, Option, Some, None, option_and_then, refl, sym, ap, ◌∙◌, subst}
use Rattle.std.specs.FinMap as map
use Rattle.std.specs.List.{AllByRecursion, slice_get}
use Rattle.std.specs.Ordering.{nat_cmp}
use Rattle.home_table.specs.Table.{Table}
use Rattle.node_rows.specs.Rows.{Lasting}
use Rattle.node_work.specs.declared.counts.Missed.TheVariants.{TableRefused}
use Rattle.node_work.specs.Acts.{Act, MomentTaken, Began, Moved, Store, Connection, Session, Bridge, Out, Named, Acknowledged, Passed, Dropped, Runs, next}
use Rattle.node_work.specs.Doings.{Misses}
use Rattle.node_work.specs.Held.Bridge.{BridgeAct, Put, Took, Got, Believed, Greeted, Gave, Left_out, bridged}
use Rattle.node_work.specs.Held.Connections.{ConnectionAct, Opened, Fed, Roomed, Accepted, Closed, after_connection_act, client_at, is_open}
use Rattle.node_work.specs.Held.Sessions.{SessionAct, Begun, Called, Over, called}
use Rattle.node_work.specs.Lasting.{IsWoken}
use Rattle.node_work.specs.View.{Place, HeldView, NodeView, ConnectionView, fresh}
use Rattle.node_work.specs.Working.{If}
use Rattle.broker_node.specs.declared.event.Event.{Event}
use Rattle.broker_node.specs.declared.event.EventKind.{EventKind}
use Rattle.broker_node.specs.declared.event.EventKind.TheVariants as kinds
use Rattle.broker_node.specs.Moving as tables
use Rattle.broker_node.specs.Turns as turns
use Rattle.cluster_play.specs.Worlds.{Site, World, Fate, Released, Lost, Cut, Faulted, Was_down, Restarted}
use Rattle.cluster_play.specs.Runs.{Played}
use Rattle.cluster_play.specs.Histories.{Reached, IsStart, acts_of, event_committed}
use Rattle.cluster_play.proofs.Bools.{nat_cases, some_is, none-some}
use Rattle.cluster_play.proofs.Paths.{along}
use Rattle.cluster_play.proofs.Rows.{Came, Committed, Rests, Woke, came as came_by}
use Rattle.cluster_play.proofs.Sites.{get-set_same, get-set_other}
use Rattle.law_runs.proofs.Keeping.{none_some}
use Rattle.law_runs.proofs.Splits.{left_by}
use Rattle.law_steps.proofs.ClosingLaws.{second_runs}
use Rattle.law_steps.specs.Lifted.{IsStepOf}
use Rattle.law_steps.specs.Taking.{IsServed}
use Rattle.law_steps.proofs.DueLaws.{all_wait_for_start, starts_begin}
use Rattle.law_steps.proofs.LiftedLaws.{steps_of_runs_are_steps}
use Rattle.law_steps.proofs.TakenLaws.{packets_are_taken}
use Rattle.law_steps.proofs.Turning.{came}
use Rattle.law_steps.specs.Served.{BytesOfClient, ConnectionsAreServed, ConnectionsStayServed, PacketsOfRunsAreTaken}
use Rattle.law_steps.proofs.Calls.{after_head}
use Rattle.law_steps.proofs.Gentle.{IsGentle, evicts, greets, hears, misses_of, ships, ships_more}
use Rattle.law_steps.proofs.WholeLeaving.{NoneHere, away_served, due_served, starts_served}
use Rattle.law_steps.proofs.Live.{AllServed, gently, live_in, served_gently}
use Rattle.law_steps.proofs.Coming.{leaves_if, opens_if, piece_served, rooms_if}

-- ---- what an event comes to
table_if : (b : Bool) (homes : Table) (x : Unit {0}) (p : Place) (h h' : HeldView) (acts : List Act) → If b (tables.TakesNewerTable homes) (Misses TableRefused) (Some x) p h acts → Runs p h acts h' → AllServed h → AllServed h'
table_if true homes x p h h' acts (inl d) runs s = none_some (sym d.0)
table_if true homes x p h h' acts (inr (y, own, mid, rest, one, ran, more, is)) runs s =
    let first = served_gently h mid (gently p own h mid (subst (AllByRecursion IsGentle) (sym one.1) (tt, tt)) ran) s in
    away_served x p mid h' rest more (second_runs p h mid h' own rest acts is ran runs) first.served
table_if false homes x p h h' acts d runs s = (served_gently h h' (gently p acts h h' (misses_of TableRefused x p h acts d) runs) s).served

nothing : (p : Place) (h h' : HeldView) (acts : List Act) → acts ≡ [] → Runs p h acts h' → AllServed h → AllServed h'
nothing p h h' acts none runs s = subst AllServed (sym (subst (λ zs. Runs p h zs h') none runs)) s

answers_served : (kind : EventKind) (x : Unit {0}) (p : Place) (h h' : HeldView) (acts : List Act) → turns.AnswersEvent kind (Some x) p h acts → Runs p h acts h' → AllServed h → AllServed h'
answers_served kinds.Started x p h h' acts d runs s = nothing p h h' acts d.1 runs s
answers_served (kinds.Opened c) x p h h' acts d runs s = opens_if (is_open c h) c x p h h' acts d runs s
answers_served (kinds.Piece c bytes) x p h h' acts d runs s = piece_served c bytes x p h h' acts d runs s
answers_served (kinds.Closed c) x p h h' acts d runs s = leaves_if (is_open c h) c x p h h' acts d runs s
answers_served (kinds.Room c bytes) x p h h' acts d runs s = rooms_if (is_open c h) c bytes x p h h' acts d runs s
answers_served (kinds.Frame bytes) x p h h' acts d runs s = (served_gently h h' (gently p acts h h' (hears bytes x p h acts d) runs) s).served
answers_served (kinds.Linked peer) x p h h' acts d runs s = (served_gently h h' (gently p acts h h' (greets peer x p h acts d) runs) s).served
answers_served (kinds.Ship peer) x p h h' acts d runs s = (served_gently h h' (gently p acts h h' (ships peer x p h acts d) runs) s).served
answers_served (kinds.More peer after) x p h h' acts d runs s = (served_gently h h' (gently p acts h h' (ships_more peer after x p h acts d) runs) s).served
answers_served kinds.Tick x p h h' acts d runs s = nothing p h h' acts d.1 runs s
answers_served (kinds.Evict client) x p h h' acts d runs s = (served_gently h h' (gently p acts h h' (evicts client x p h acts d) runs) s).served
answers_served (kinds.Table homes) x p h h' acts d runs s = table_if (tables.is_newer_table homes p h) homes x p h h' acts d runs s

-- ---- a node that has started stays so
connection_started : (h : HeldView) (a : ConnectionAct) → (after_connection_act h a).started ≡ h.started
connection_started h (Opened c) = refl
connection_started h (Fed c piece) = refl
connection_started h (Roomed c bytes) = refl
connection_started h (Accepted c client) = refl
connection_started h (Closed c) = refl

session_started : (h : HeldView) (a : SessionAct) → (called h a).started ≡ h.started
session_started h (Begun client) = refl
session_started h (Called s) = refl
session_started h (Over client) = refl

bridge_started : (h : HeldView) (a : BridgeAct) → (bridged h a).started ≡ h.started
bridge_started h (Put peer m) = refl
bridge_started h (Took peer number m copies lost) = refl
bridge_started h (Got peer number) = refl
bridge_started h (Believed peer dots) = refl
bridge_started h (Greeted peer g) = refl
bridge_started h (Gave f) = refl
bridge_started h (Left_out what) = refl

one_started : (h : HeldView) (a : Act) → h.started ≡ true → (next h a).started ≡ true
one_started h (MomentTaken at) so = so
one_started h Began so = refl
one_started h (Moved homes) so = so
one_started h (Store a) so = so
one_started h (Connection a) so = connection_started h a ∙ so
one_started h (Session a) so = session_started h a ∙ so
one_started h (Bridge a) so = bridge_started h a ∙ so
one_started h (Out o) so = so
one_started h (Named number) so = so
one_started h (Acknowledged client packet at given os) so = so
one_started h (Passed m copies lost routes) so = so
one_started h Dropped so = so

stays_started : (p : Place) (acts : List Act) (h h' : HeldView) → h.started ≡ true → Runs p h acts h' → h'.started ≡ true
stays_started p [] h h' so r = ap (λ (v : HeldView). v.started) r ∙ so
stays_started p (a ∷ acts) h h' so r = stays_started p acts r.0 h' (ap (λ (v : HeldView). v.started) r.1.1 ∙ one_started h a so) r.2

-- ---- a step
-- each client that is connected is served; before the node has started none is connected
record IsGood (h : HeldView) : Type 0 where
  served : AllServed h
  waits : h.started ≡ false → NoneHere h

is_start : (kind : EventKind) → (kind ≡ kinds.Started) ⊎ (kind ≢ kinds.Started)
is_start kinds.Started = inl refl
is_start (kinds.Opened c) = inr (λ q. (let z : kinds.Opened c ≡ kinds.Started = q in cc))
is_start (kinds.Piece c bytes) = inr (λ q. (let z : kinds.Piece c bytes ≡ kinds.Started = q in cc))
is_start (kinds.Room c bytes) = inr (λ q. (let z : kinds.Room c bytes ≡ kinds.Started = q in cc))
is_start (kinds.Closed c) = inr (λ q. (let z : kinds.Closed c ≡ kinds.Started = q in cc))
is_start (kinds.Frame bytes) = inr (λ q. (let z : kinds.Frame bytes ≡ kinds.Started = q in cc))
is_start (kinds.Linked peer) = inr (λ q. (let z : kinds.Linked peer ≡ kinds.Started = q in cc))
is_start (kinds.Ship peer) = inr (λ q. (let z : kinds.Ship peer ≡ kinds.Started = q in cc))
is_start (kinds.More peer after) = inr (λ q. (let z : kinds.More peer after ≡ kinds.Started = q in cc))
is_start kinds.Tick = inr (λ q. (let z : kinds.Tick ≡ kinds.Started = q in cc))
is_start (kinds.Evict client) = inr (λ q. (let z : kinds.Evict client ≡ kinds.Started = q in cc))
is_start (kinds.Table homes) = inr (λ q. (let z : kinds.Table homes ≡ kinds.Started = q in cc))

module _ (e : Event) (p : Place) (h h' : HeldView) (acts : List Act) (good : IsGood h) (d : turns.Decides e (Some tt) p h acts) (runs : Runs p h acts h') where
  abbrev now : HeldView
  now = next h (MomentTaken e.at)

  now_served : AllServed now
  now_served = record { live = λ c client at. live_in h now refl client c (good.served.live c client at) }

  -- the moment alone
  alone : acts ≡ MomentTaken e.at ∷ [] → h' ≡ now
  alone is = left_by p h h' (MomentTaken e.at) acts is runs

  step_served : AllServed h'
  step_served = elim (came e p h acts d) [
    | inl t ↦
        answers_served e.kind tt p t.first.held h' t.first.rest t.answers (second_runs p h t.first.held h' t.first.due t.first.rest acts t.first.is t.first.runs runs)
        (due_served t.answer p now t.first.held t.own t.does t.ran now_served)
    | inr (inl t) ↦ starts_served tt p now h' t.rest (good.waits t.waits) t.goes (after_head p h h' acts (MomentTaken e.at) t.rest t.is runs).1 now_served
    | inr (inr is) ↦ subst AllServed (sym (alone is)) now_served
  ]

  none_yet : h.started ≡ false → h'.started ≡ false → NoneHere h'
  none_yet waits still = elim (is_start e.kind) [
    | inl kind ↦ (
        let b = starts_begin e p h h' acts d runs kind waits in
        let rest = b.closed ++ (b.due ++ b.away) in
        let first = after_head p h h' acts (MomentTaken e.at) (Began ∷ rest) b.is runs in
        let second = after_head p now h' (Began ∷ rest) Began rest refl first.1 in
        absurd (let z : true ≡ false = sym (stays_started p rest (next now Began) h' refl second.1) ∙ still in cc))
    | inr other ↦ subst NoneHere (sym (alone (all_wait_for_start e p h acts d other waits))) (good.waits waits)
  ]

  step_waits : (b : Bool) → h.started ≡ b → h'.started ≡ false → NoneHere h'
  step_waits true so still = absurd (let z : true ≡ false = sym (stays_started p acts h h' so runs) ∙ still in cc)
  step_waits false so still = none_yet so still

  step_good : IsGood h'
  step_good = record { served = step_served; waits = step_waits h.started refl }

-- ---- every running node
abbrev AllGood : World → Type 0
AllGood w = (i : ℕ) (s : Site) (h : HeldView) → slice_get w.sites i ≡ Some s → s.node.up ≡ Some h → IsGood h

none_good : (h : HeldView) → NoneHere h → IsGood h
none_good h none = record { served = record { live = λ c client at. none_some (sym (none c) ∙ at) }; waits = λ _. none }

-- a new node, and one that was opened again, has no connections
woken_good : (homes : Table) (x : Lasting) (h : HeldView) → IsWoken homes x h → IsGood h
woken_good homes x h w = none_good h (λ c. ap (λ (v : HeldView). client_at c v) w.2 ∙ ap (option_and_then (λ (v : ConnectionView). v.client)) (map.get-empty nat_cmp c))

fresh_good : (homes : Table) → IsGood (fresh homes)
fresh_good homes = none_good (fresh homes) (λ c. ap (option_and_then (λ (v : ConnectionView). v.client)) (map.get-empty nat_cmp c))

committed_good : (w w' : World) (i : ℕ) (e : Event) (acts : List Act) → Committed w i e acts w' → AllGood w → AllGood w'
committed_good w w' i e acts c good j s h at up = elim (nat_cases i j) [
  | inl q ↦ (
      let here : slice_get w'.sites i ≡ Some s = subst (λ n. slice_get w'.sites n ≡ Some s) (sym q) at in
      let there : c.later ≡ s = some_is (sym (get-set_same w.sites i c.later c.was c.at) ∙ sym (ap (λ ss. slice_get ss i) c.sites) ∙ here) in
      let is : h ≡ c.after = c.is h (ap (λ (v : Site). v.node.up) there ∙ up) in
      subst IsGood (sym is) (step_good e c.was.node.place c.before c.after acts (good i c.was c.before c.at c.up) c.steps.does c.steps.runs))
  | inr ne ↦ good j s h (sym (get-set_other w.sites i j c.later ne) ∙ sym (ap (λ ss. slice_get ss j) c.sites) ∙ at) up
]

rests_good : (w w' : World) → Rests w w' → AllGood w → AllGood w'
rests_good w w' r good j s h at up = let k = r.sites j s at in good j k.0 h k.1 (k.2.up h up)

woke_good : (w w' : World) (i : ℕ) (homes : Table) → Woke w i homes w' → AllGood w → AllGood w'
woke_good w w' i homes c good j s h at up = elim (nat_cases i j) [
  | inl q ↦ (
      let here : slice_get w'.sites i ≡ Some s = subst (λ n. slice_get w'.sites n ≡ Some s) (sym q) at in
      let there : c.later ≡ s = some_is (sym (get-set_same w.sites i c.later c.was c.at) ∙ sym (ap (λ ss. slice_get ss i) c.sites) ∙ here) in
      let is : c.reopens.node.held ≡ h = some_is (sym (ap (λ (n : NodeView). n.up) c.reopens.node.is) ∙ ap (λ (v : Site). v.node.up) there ∙ up) in
      subst IsGood is (woken_good homes c.reopens.node.lasting c.reopens.node.held c.reopens.node.woken))
  | inr ne ↦ good j s h (sym (get-set_other w.sites i j c.later ne) ∙ sym (ap (λ ss. slice_get ss j) c.sites) ∙ at) up
]

came_good : (w w' : World) (fate : Fate) → Came w fate w' → AllGood w → AllGood w'
came_good w w' (Released i e acts outputs) c good = committed_good w w' i e acts c good
came_good w w' (Lost i e acts) c good = committed_good w w' i e acts c good
came_good w w' (Cut i) c good = rests_good w w' c good
came_good w w' (Faulted i fault) c good = rests_good w w' c good
came_good w w' (Was_down i) c good = rests_good w w' c good
came_good w w' (Restarted i homes) c good = woke_good w w' i homes c good

start_good : (w : World) → IsStart w → AllGood w
start_good w s i x h at up =
    let new = s.sites i x at in
    subst IsGood (some_is (sym (ap (λ (n : NodeView). n.up) new.node) ∙ up)) (fresh_good new.homes)

all_good : (run : List Played) (w : World) → Reached run w → AllGood w
all_good = along (λ run w. AllGood w) (λ run m w w' r good honest happens. came_good w w' m.fate (came_by w m.step m.fate w' happens) good) start_good

served_by : (h : HeldView) → AllServed h → ConnectionsAreServed h
served_by h s c client at = let was = s.live c client at in record { has = at; seat = was.seat; found = was.found; on = was.on }

pub connections_stay_served : ConnectionsStayServed
connections_stay_served = λ run w r i h holds. served_by h (all_good run w r i holds.site h holds.at holds.up).served

-- ---- bytes in a run
module _ (run : List Played) (m : Played) (e : Event) (s : IsStepOf run m e) (c : ℕ) (bytes : List ℕ) (kind : e.kind ≡ kinds.Piece c bytes) (started : s.held.started ≡ true) where
  abbrev place : Place
  place = s.holds.site.node.place

  good : IsGood s.held
  good = all_good run s.world s.reached _ s.holds.site s.held s.holds.at s.holds.up

  taken : BytesOfClient place s.held e.at c bytes (acts_of m.fate)
  taken =
      let b = packets_are_taken e place s.held (acts_of m.fate) s.does c bytes kind started in
      let tick : Event = record { at = e.at; kind = kinds.Tick } in
      let then_good = step_good tick place s.held b.first.held b.first.due good b.first.ticks b.first.runs in
      record {
        first = b.first;
        none = b.none;
        taken = λ found client there has whole.
            b.taken found client there whole
            (served_by b.first.held then_good.served c client (ap (option_and_then (λ (v : ConnectionView). v.client)) there ∙ has));
      }

pub packets_of_runs_are_taken : PacketsOfRunsAreTaken
packets_of_runs_are_taken = λ run later m w r e commits c bytes kind.
    (let s = steps_of_runs_are_steps run later m w r e commits in (s, λ started. taken run m e s c bytes kind started))
