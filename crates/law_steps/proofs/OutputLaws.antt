-- Outputs go to the connections that they are for, in every step.
use Rattle.std.proofs.Common.{◌≡◌, ◌≢◌, ◌⊎◌, inl, inr, ℕ, Bool, true, false, cond, List, [], ◌∷◌, ◌++◌, Option, Some, None, refl, sym, ap, ◌∙◌, subst}
use Rattle.std.proofs.lemmas.List.{append-nil}
use Rattle.std.specs.FinMap as map
use Rattle.std.specs.List.{AllByRecursion}
use Rattle.std.specs.Prelude.{option_and_then}
use Rattle.session_table.specs.Dues.{Due}
use Rattle.mqtt_sessions.specs.Ending.{end_due, has_run_out, is_due, ticked_if, timed_out, will_due}
use Rattle.mqtt_sessions.specs.Reaction.{Reaction}
use Rattle.mqtt_sessions.specs.State.{Link, State}
use Rattle.law_sessions.specs.Runs.{rooms, closes, ticks}
use Rattle.session_table.specs.Calls.{leaves, stays}
use Rattle.session_table.specs.Seats.{Seat, connected, ends_due, run_outs, wills_due}
use Rattle.node_work.specs.Acts.{Act, MomentTaken, Store, Connection, Bridge, Merged, Runs, next}
use Rattle.node_work.specs.Calling.{Calls, CallsAt}
use Rattle.node_work.specs.declared.counts.Missed.TheVariants.{BadFrame}
use Rattle.node_work.specs.Held.Bridge.{Took, Got as GotBy, Believed, Greeted, Gave, Left_out}
use Rattle.node_work.specs.Held.Connections.{ConnectionTable, Opened, Roomed, Closed, changed_at, client_at, is_open, new_connection, with_room}
use Rattle.node_work.specs.Held.Sessions.{seat_at}
use Rattle.node_work.specs.View.{Place, HeldView, ConnectionView}
use Rattle.node_work.specs.Working.{Acting, Doing, Each, If, Looks, Returns, Then}
use Rattle.node_clients.specs.Pieces as pieces
use Rattle.node_clients.specs.Rooms as giving
use Rattle.broker_node.specs.declared.event.Event.{Event}
use Rattle.broker_node.specs.declared.event.EventKind.{EventKind}
use Rattle.broker_node.specs.declared.event.EventKind.TheVariants as kinds
use Rattle.broker_node.specs.Due as due
use Rattle.broker_node.specs.Moving.{SendsAway}
use Rattle.broker_node.specs.Turns as turns
use Rattle.cluster_play.proofs.Bools.{nat_cases}
use Rattle.law_runs.proofs.Keeping.{none_some}
use Rattle.law_runs.proofs.Splits.{left_by}
use Rattle.law_steps.specs.Outputs.{Occasion, SessionsAreOnTheirs, MaySendAway, WhyClosed}
use Rattle.law_steps.proofs.Alone.{K, acting, calling, low, ticks_of}
use Rattle.law_steps.proofs.Below.{each, evicts}
use Rattle.law_steps.proofs.Between.{Mid, greets, hears, ships, ships_more}
use Rattle.law_steps.proofs.ClosingLaws.{AreOnBut, Done, calm_done, closed_but, closes_right, done_then, ended_by, leaves_bare, leaves_for, leaves_right, nothing_done, open_with, reacted, second_runs}
use Rattle.law_steps.proofs.Dues.{IsSeated, ClientsApart, dues_seated, dues_apart}
use Rattle.law_steps.proofs.Fewer.{Fewer, due_fewer, fewer_then}
use Rattle.law_steps.proofs.OutputMoving.{sends_away, takes_table}
use Rattle.law_steps.proofs.On.{Right, right_one, right_again, IsCalm, calm_kind, calmly, put_apart, put_here}
use Rattle.law_steps.proofs.OutputPieces.{piece_right}
use Rattle.law_steps.proofs.Silent.{turning}
use Rattle.law_steps.proofs.WillWork.{HasRunOut, LeavesOthers, runs_out, run_out_by}

-- work whose acts are all calm
abbrev Calms : (Option (Unit {0}) → Doing) → Type 0
Calms P = K IsCalm calm_kind (Unit {0}) P

-- ---- a Keep Alive that has run out
abbrev Ran : HeldView → Due → Type 0
Ran h d = (seat : Seat) × (map.get h.sessions d.1 ≡ Some seat) × (seat.connection ≡ Some d.0) × (has_run_out seat.session.link h.at ≡ true)

-- the call by which it ends has a code
timed_end : (o : Option Link) (now : ℕ) (s : State) (r : Reaction) (b : Bool) → s.link ≡ o → has_run_out o now ≡ true → b ≡ true → r ≡ (ticked_if b (is_due (will_due s.kept) now) (is_due (end_due s.kept) now) now s).reaction → (code : ℕ) × (r.end ≡ Some code)
timed_end None now s r b link out so is = absurd (let z : false ≡ true = out in cc)
timed_end (Some l) now s r true link out so is =
    (_, ap (λ (v : Reaction). v.end) (is ∙ ap (λ (o : Option Link). (timed_out o s).reaction) link))
timed_end (Some l) now s r false link out so is = absurd (let z : false ≡ true = so in cc)

ends_out : (client : List ℕ) (found : Option Seat) (seat : Seat) (r : Reaction) (p : Place) (h : HeldView) (acts : List Act) → found ≡ Some seat → has_run_out seat.session.link h.at ≡ true → CallsAt client ticks stays found (Some r) p h acts → (code : ℕ) × (r.end ≡ Some code)
ends_out client None seat r p h acts is out d = none_some is
ends_out client (Some other) seat r p h acts is out (inl d) = none_some (sym d.0)
ends_out client (Some other) seat r p h acts is out (inr (q, after, answer, reacts, acts_are)) =
    let same : other ≡ seat = (let z : Some other ≡ Some seat = is in cc) in
    let ran : has_run_out other.session.link h.at ≡ true = subst (λ (s : Seat). has_run_out s.session.link h.at ≡ true) (sym same) out in
    let one : r ≡ q = (let z : Some r ≡ Some q = answer in cc) in
    timed_end other.session.link h.at other.session r (has_run_out other.session.link h.at) refl ran ran (one ∙ reacts.0)

-- the session leaves, and nothing else is done
parts_once : (occasion : Occasion) (pre : List Act) (client : List ℕ) (x : Unit {0}) (p : Place) (h h' : HeldView) (acts : List Act) → AreOnBut client h → due.PartsFrom client (Some x) p h acts → Runs p h acts h' → Done occasion pre p h h' acts
parts_once occasion pre client x p h h' acts on (inl d) runs = none_some (sym d.0)
parts_once occasion pre client x p h h' acts on (inr (r, own, mid, rest, one, ran, more, is)) runs =
    let first = leaves_right occasion pre client (seat_at client h) r p h mid own refl on one ran in
    done_then occasion pre p h mid h' own rest acts is ran first.right (nothing_done occasion (pre ++ own) p mid h' rest more.1 first.kept.on (second_runs p h mid h' own rest acts is ran runs))

run_out : (occasion : Occasion) (pre : List Act) (d : Due) (x : Unit {0}) (p : Place) (h h' : HeldView) (acts : List Act) → SessionsAreOnTheirs h → Ran h d → due.RunsOut d (Some x) p h acts → Runs p h acts h' → Done occasion pre p h h' acts
run_out occasion pre d x p h h' acts on s (inl e) runs = none_some (sym e.0)
run_out occasion pre d x p h h' acts on s (inr (r, own, mid, rest, one, ran, (inl e), is)) runs = none_some (sym e.0)
run_out occasion pre d x p h h' acts on s (inr (r, own, mid, rest, one, ran, (inr (y, close, left, last, closing, gone, more, whole)), is)) runs =
    let first = calmly occasion pre p own h mid ((calling IsCalm calm_kind d.1 ticks stays (λ at. tt)).of r p h own one) on ran in
    let has : client_at d.0 mid ≡ Some d.1 = ap (λ (m : ConnectionTable). client_at d.0 (record h { connections = m })) first.kept.connections ∙ on d.1 s.0 d.0 s.1 s.2 in
    let end = ends_out d.1 (seat_at d.1 h) s.0 r p h own s.1 s.3 one in
    let why : WhyClosed occasion p (pre ++ own) mid d.0 = subst (λ xs. WhyClosed occasion p xs mid d.0) (append-nil (pre ++ own)) (ended_by occasion p pre own [] mid d.0 d.1 r end.0 has (reacted d.1 ticks stays (seat_at d.1 h) r p h own one) end.1) in
    let later = second_runs p h mid h' own rest acts is ran runs in
    let second = closes_right occasion (pre ++ own) d.0 y p mid left close (open_with mid d.0 d.1 has) why closing gone in
    let but : AreOnBut d.1 left = subst (AreOnBut d.1) (sym second.1) (closed_but mid d.0 d.1 first.kept.on has) in
    done_then occasion pre p h mid h' own rest acts is ran first.right
    (done_then occasion (pre ++ own) p mid left h' close last rest whole gone second.0 (parts_once occasion ((pre ++ own) ++ close) d.1 x p left h' last but more (second_runs p mid left h' close last rest whole gone later)))

still_ran : (client : List ℕ) (h h' : HeldView) (ds : List Due) → LeavesOthers client h h' → AllByRecursion (λ (x : Due). x.1 ≢ client) ds → AllByRecursion (Ran h) ds → AllByRecursion (Ran h') ds
still_ran client h h' [] same apart ran = tt
still_ran client h h' (d ∷ ds) same apart ran = (
  (ran.0.0, same.1 d.1 apart.0 ∙ ran.0.1, ran.0.2, ap (has_run_out ran.0.0.session.link) same.0 ∙ ran.0.3),
  still_ran client h h' ds same apart.1 ran.1,
)

has_out : (h : HeldView) (d : Due) → Ran h d → HasRunOut h d.1
has_out h d ran seat found = let same : ran.0 ≡ seat = (let z : Some ran.0 ≡ Some seat = sym ran.1 ∙ found in cc) in subst (λ (s : Seat). has_run_out s.session.link h.at ≡ true) same ran.3

each_out : (occasion : Occasion) (pre : List Act) (ds : List Due) (x : Unit {0}) (p : Place) (h h' : HeldView) (acts : List Act) → SessionsAreOnTheirs h → ClientsApart ds → AllByRecursion (Ran h) ds → Each due.RunsOut ds (Some x) p h acts → Runs p h acts h' → Done occasion pre p h h' acts
each_out occasion pre [] x p h h' acts on apart ran d runs = nothing_done occasion pre p h h' acts d.1 on runs
each_out occasion pre (d ∷ ds) x p h h' acts on apart ran (inl e) runs = none_some (sym e.0)
each_out occasion pre (d ∷ ds) x p h h' acts on apart ran (inr (y, own, mid, rest, one, did, more, is)) runs =
    let first = run_out occasion pre d y p h mid own on ran.0 one did in
    let others = (runs_out d y p h mid own (has_out h d ran.0) one did).others in
    done_then occasion pre p h mid h' own rest acts is did first.0
    (each_out occasion (pre ++ own) ds x p mid h' rest first.1 apart.1 (still_ran d.1 h mid ds others apart.0 ran.1) more (second_runs p h mid h' own rest acts is did runs))

ran_by : (b : Bool) (o : Option ℕ) (n : ℕ) → cond b o None ≡ Some n → o ≡ Some n
ran_by true o n e = e
ran_by false o n e = none_some e

all_ran : (h : HeldView) (ds : List Due) → AllByRecursion (IsSeated (λ (s : Seat). cond (has_run_out s.session.link h.at) s.connection None) h.sessions) ds → AllByRecursion (Ran h) ds
all_ran h [] a = tt
all_ran h (d ∷ ds) a =
    ((a.0.0, a.0.1, ran_by (has_run_out a.0.0.session.link h.at) a.0.0.connection d.0 a.0.2, run_out_by (has_run_out a.0.0.session.link h.at) a.0.0.connection d.0 a.0.2), all_ran h ds a.1)

-- ---- what is due
ticks_all : (ds : List Due) → Calms (Each due.TicksOf ds)
ticks_all ds = each (K IsCalm calm_kind) (low IsCalm calm_kind) due.TicksOf ds (λ d. ticks_of IsCalm calm_kind d.1)

due_right : (occasion : Occasion) (pre : List Act) (x : Unit {0}) (p : Place) (h h' : HeldView) (acts : List Act) → SessionsAreOnTheirs h → due.DoesDue (Some x) p h acts → Runs p h acts h' → Done occasion pre p h h' acts
due_right occasion pre x p h h' acts on (inl d) runs = none_some (sym d.0)
due_right occasion pre x p h h' acts on (inr (y, own, mid, rest, one, ran, more, is)) runs =
    let number = λ (s : Seat). cond (has_run_out s.session.link h.at) s.connection None in
    let first = each_out occasion pre (run_outs h.sessions h.at) y p h mid own on (dues_apart number h.sessions) (all_ran h (run_outs h.sessions h.at) (dues_seated number h.sessions)) one ran in
    let w = low IsCalm calm_kind in
    let calm : AllByRecursion IsCalm rest =
    (w.join due.PublishesWills (λ _. due.EndsSessions) (w.looks (λ p h. wills_due h.sessions h.at) (Each due.TicksOf) ticks_all) (λ _. w.looks (λ p h. ends_due h.sessions h.at) (Each due.TicksOf) ticks_all)).of x p mid rest more in
    done_then occasion pre p h mid h' own rest acts is ran first.0 (calm_done occasion (pre ++ own) p mid h' rest calm first.1 (second_runs p h mid h' own rest acts is ran runs))

-- at the start what is due is done, and then those go whose home is elsewhere
due_and_away : (occasion : Occasion) → MaySendAway occasion.kind → (pre : List Act) (x : Unit {0}) (p : Place) (h h' : HeldView) (acts : List Act) → SessionsAreOnTheirs h → Then due.DoesDue (λ _. SendsAway) (Some x) p h acts → Runs p h acts h' → Done occasion pre p h h' acts
due_and_away occasion may pre x p h h' acts on (inl d) runs = none_some (sym d.0)
due_and_away occasion may pre x p h h' acts on (inr (y, own, mid, rest, one, ran, more, is)) runs =
    let first = due_right occasion pre y p h mid own on one ran in
    done_then occasion pre p h mid h' own rest acts is ran first.0 (sends_away occasion may (pre ++ own) x p mid h' rest first.1 more (second_runs p h mid h' own rest acts is ran runs))

starts_right : (occasion : Occasion) → MaySendAway occasion.kind → (pre : List Act) (x : Unit {0}) (p : Place) (h h' : HeldView) (acts : List Act) → SessionsAreOnTheirs h → due.Starts (Some x) p h acts → Runs p h acts h' → Done occasion pre p h h' acts
starts_right occasion may pre x p h h' acts on (inl d) runs = none_some (sym d.0)
starts_right occasion may pre x p h h' acts on (inr (y, own, mid, rest, one, ran, (inl d), is)) runs = none_some (sym d.0)
starts_right occasion may pre x p h h' acts on (inr (y, own, mid, rest, one, ran, (inr (y2, own2, mid2, rest2, two, ran2, more, is2)), is)) runs =
    let first = calm_done occasion pre p h mid own (subst (AllByRecursion IsCalm) (sym one.1) (tt, tt)) on ran in
    let later = second_runs p h mid h' own rest acts is ran runs in
    let w = low IsCalm calm_kind in
    let parts : (client : List ℕ) → Calms (due.PartsFrom client) =
    λ client. w.join (Calls client closes leaves) (λ _. Returns tt) (calling IsCalm calm_kind client closes leaves (λ at. tt)) (λ _. w.returns tt) in
    let calm : AllByRecursion IsCalm own2 = (each (K IsCalm calm_kind) w due.PartsFrom (connected mid.sessions) parts).of y2 p mid own2 two in
    let second = calm_done occasion (pre ++ own) p mid mid2 own2 calm first.1 ran2 in
    done_then occasion pre p h mid h' own rest acts is ran first.0
    (done_then occasion (pre ++ own) p mid mid2 h' own2 rest2 rest is2 ran2 second.0 (due_and_away occasion may ((pre ++ own) ++ own2) x p mid2 h' rest2 second.1 more (second_runs p mid mid2 h' own2 rest2 rest is2 ran2 later)))

-- ---- a client or the network closes
left_by_client : (occasion : Occasion) (client : Option (List ℕ)) (pre : List Act) (c : ℕ) (x : Unit {0}) (p : Place) (h h' : HeldView) (acts : List Act) → occasion.kind ≡ kinds.Closed c → SessionsAreOnTheirs h → is_open c h ≡ true → client_at c h ≡ client → pieces.LeavesBy c client (Some x) p h acts → Runs p h acts h' → Done occasion pre p h h' acts
left_by_client occasion client pre c x p h h' acts by on there is (inl d) runs = none_some (sym d.0)
left_by_client occasion None pre c x p h h' acts by on there is (inr (y, own, mid, rest, one, ran, more, all)) runs =
    let a = Connection (Closed c) in
    let left : mid ≡ next h a = left_by p h mid a own one.1 ran in
    done_then occasion pre p h mid h' own rest acts all ran (right_again occasion pre p h (a ∷ []) own one.1 (right_one occasion pre p h a (there, inl by, inl by)))
    (nothing_done occasion (pre ++ own) p mid h' rest more.1 (subst SessionsAreOnTheirs (sym left) (leaves_bare h c on is)) (second_runs p h mid h' own rest acts all ran runs))
left_by_client occasion (Some client) pre c x p h h' acts by on there is (inr (y, own, mid, rest, one, ran, more, all)) runs =
    let a = Connection (Closed c) in
    let left : mid ≡ next h a = left_by p h mid a own one.1 ran in
    let second = leaves_for occasion (pre ++ own) c client x p h mid h' rest on is left more (second_runs p h mid h' own rest acts all ran runs) in
    done_then occasion pre p h mid h' own rest acts all ran (right_again occasion pre p h (a ∷ []) own one.1 (right_one occasion pre p h a (there, inl by, inl by))) (second.right, second.kept.on)

leaves_if : (occasion : Occasion) (b : Bool) (pre : List Act) (c : ℕ) (x : Unit {0}) (p : Place) (h h' : HeldView) (acts : List Act) → occasion.kind ≡ kinds.Closed c → SessionsAreOnTheirs h → is_open c h ≡ b → If b (Looks (λ p h. client_at c h) (pieces.LeavesBy c)) (Returns tt) (Some x) p h acts → Runs p h acts h' → Done occasion pre p h h' acts
leaves_if occasion true pre c x p h h' acts by on there d runs = left_by_client occasion (client_at c h) pre c x p h h' acts by on there refl d runs
leaves_if occasion false pre c x p h h' acts by on there d runs = nothing_done occasion pre p h h' acts d.1 on runs

-- ---- a connection is opened
opened_on : (h : HeldView) (c : ℕ) → SessionsAreOnTheirs h → is_open c h ≡ false → SessionsAreOnTheirs (next h (Connection (Opened c)))
opened_on h c on none q seat n at where_on =
    let there = on q seat n at where_on in
    let ne : n ≢ c = λ e. (let z : true ≡ false = sym (open_with h n q there) ∙ ap (λ k. is_open k h) e ∙ none in cc) in
    ap (option_and_then (λ (v : ConnectionView). v.client)) (put_apart h.connections c new_connection n ne) ∙ there

opens_if : (b : Bool) (occasion : Occasion) (pre : List Act) (c : ℕ) (x : Unit {0}) (p : Place) (h h' : HeldView) (acts : List Act) → SessionsAreOnTheirs h → is_open c h ≡ b → If b (Returns tt) (Acting (λ p h. Connection (Opened c))) (Some x) p h acts → Runs p h acts h' → Done occasion pre p h h' acts
opens_if true occasion pre c x p h h' acts on there d runs = nothing_done occasion pre p h h' acts d.1 on runs
opens_if false occasion pre c x p h h' acts on there d runs =
    let a = Connection (Opened c) in
    let left : h' ≡ next h a = left_by p h h' a acts d.1 runs in
    (right_again occasion pre p h (a ∷ []) acts d.1 (right_one occasion pre p h a tt), subst SessionsAreOnTheirs (sym left) (opened_on h c on there))

-- ---- frames, and an eviction
mid_calm : Mid (K IsCalm calm_kind)
mid_calm = record {
  gave = λ f. acting IsCalm calm_kind (λ p h. Bridge (Gave f)) (λ p h. tt);
  took = λ from number m copies lost. acting IsCalm calm_kind (λ p h. Bridge (Took from number m copies lost)) (λ p h. tt);
  merged = λ s. acting IsCalm calm_kind (λ p h. Store (Merged s)) (λ p h. tt);
  believed = λ from dots. acting IsCalm calm_kind (λ p h. Bridge (Believed from dots)) (λ p h. tt);
  greeted = λ from g. acting IsCalm calm_kind (λ p h. Bridge (Greeted from g)) (λ p h. tt);
  got = λ from number. acting IsCalm calm_kind (λ p h. Bridge (GotBy from number)) (λ p h. tt);
  bad = acting IsCalm calm_kind (λ p h. Bridge (Left_out BadFrame)) (λ p h. tt);
}

by_calm : (P : Option (Unit {0}) → Doing) → Calms P → (occasion : Occasion) (pre : List Act) (x : Unit {0}) (p : Place) (h h' : HeldView) (acts : List Act) → SessionsAreOnTheirs h → P (Some x) p h acts → Runs p h acts h' → Done occasion pre p h h' acts
by_calm P calm occasion pre x p h h' acts on d runs = calm_done occasion pre p h h' acts (calm.of x p h acts d) on runs

-- ---- room for PUBLISHes
-- a connection that changes, but for its client
same_client : (f : ConnectionView → ConnectionView) → ((v : ConnectionView) → (f v).client ≡ v.client) → (h : HeldView) (c : ℕ) (o : Option ConnectionView) → map.get h.connections c ≡ o → (n : ℕ)
    → client_at n (record h { connections = changed_at f c h.connections o }) ≡ client_at n h
same_client f keeps h c None is n = refl
same_client f keeps h c (Some found) is n = by (nat_cases n c)
  where
    after : HeldView
    after = record h { connections = map.insert h.connections c (f found) }

    by : (n ≡ c) ⊎ (n ≢ c) → client_at n after ≡ client_at n h
    by (inl e) =
        subst (λ k. client_at k after ≡ client_at k h) (sym e)
        (ap (option_and_then (λ (v : ConnectionView). v.client)) (put_here h.connections c (f found)) ∙ keeps found ∙ sym (ap (option_and_then (λ (v : ConnectionView). v.client)) is))
    by (inr ne) = ap (option_and_then (λ (v : ConnectionView). v.client)) (put_apart h.connections c (f found) n ne)

roomed_on : (h : HeldView) (c bytes : ℕ) → SessionsAreOnTheirs h → SessionsAreOnTheirs (next h (Connection (Roomed c bytes)))
roomed_on h c bytes on q seat n at where_on = same_client (with_room bytes) (λ v. refl) h c (map.get h.connections c) refl n ∙ on q seat n at where_on

rooms_by : (client : Option (List ℕ)) (occasion : Occasion) (pre : List Act) (c bytes : ℕ) (x : Unit {0}) (p : Place) (h h' : HeldView) (acts : List Act) → SessionsAreOnTheirs h → giving.MakesRoomBy c bytes client (Some x) p h acts → Runs p h acts h' → Done occasion pre p h h' acts
rooms_by None occasion pre c bytes x p h h' acts on d runs =
    let a = Connection (Roomed c bytes) in
    let left : h' ≡ next h a = left_by p h h' a acts d.1 runs in
    (right_again occasion pre p h (a ∷ []) acts d.1 (right_one occasion pre p h a tt), subst SessionsAreOnTheirs (sym left) (roomed_on h c bytes on))
rooms_by (Some client) occasion pre c bytes x p h h' acts on d runs =
    let w = low IsCalm calm_kind in
    let calm : Calms (giving.GivesRoom bytes client) =
    w.join (Calls client (rooms bytes) stays) (λ _. Returns tt) (calling IsCalm calm_kind client (rooms bytes) stays (λ at. tt)) (λ _. w.returns tt) in
    by_calm (giving.GivesRoom bytes client) calm occasion pre x p h h' acts on d runs

rooms_if : (b : Bool) (occasion : Occasion) (pre : List Act) (c bytes : ℕ) (x : Unit {0}) (p : Place) (h h' : HeldView) (acts : List Act) → SessionsAreOnTheirs h → If b (Looks (λ p h. client_at c h) (giving.MakesRoomBy c bytes)) (Returns tt) (Some x) p h acts → Runs p h acts h' → Done occasion pre p h h' acts
rooms_if true occasion pre c bytes x p h h' acts on d runs = rooms_by (client_at c h) occasion pre c bytes x p h h' acts on d runs
rooms_if false occasion pre c bytes x p h h' acts on d runs = nothing_done occasion pre p h h' acts d.1 on runs

-- ---- events
module _ (was : HeldView) where
  abbrev at_kind : EventKind → Occasion
  at_kind kind = record { kind = kind; held = was }

  answers_right : (kind : EventKind) (pre : List Act) (x : Unit {0}) (p : Place) (h h' : HeldView) (acts : List Act) → Fewer was h → SessionsAreOnTheirs h → turns.AnswersEvent kind (Some x) p h acts → Runs p h acts h' → Done (at_kind kind) pre p h h' acts
  answers_right kinds.Started pre x p h h' acts fewer on d runs = nothing_done (at_kind kinds.Started) pre p h h' acts d.1 on runs
  answers_right (kinds.Opened c) pre x p h h' acts fewer on d runs = opens_if (is_open c h) (at_kind (kinds.Opened c)) pre c x p h h' acts on refl d runs
  answers_right (kinds.Piece c bytes) pre x p h h' acts fewer on d runs = piece_right (at_kind (kinds.Piece c bytes)) c bytes refl pre x p h h' acts (fewer c) on d runs
  answers_right (kinds.Closed c) pre x p h h' acts fewer on d runs = leaves_if (at_kind (kinds.Closed c)) (is_open c h) pre c x p h h' acts refl on refl d runs
  answers_right (kinds.Room c bytes) pre x p h h' acts fewer on d runs = rooms_if (is_open c h) (at_kind (kinds.Room c bytes)) pre c bytes x p h h' acts on d runs
  answers_right (kinds.Frame bytes) pre x p h h' acts fewer on d runs = by_calm _ (hears (K IsCalm calm_kind) (low IsCalm calm_kind) mid_calm bytes) (at_kind (kinds.Frame bytes)) pre x p h h' acts on d runs
  answers_right (kinds.Linked peer) pre x p h h' acts fewer on d runs = by_calm _ (greets (K IsCalm calm_kind) (low IsCalm calm_kind) mid_calm peer) (at_kind (kinds.Linked peer)) pre x p h h' acts on d runs
  answers_right (kinds.Ship peer) pre x p h h' acts fewer on d runs = by_calm _ (ships (K IsCalm calm_kind) (low IsCalm calm_kind) mid_calm peer) (at_kind (kinds.Ship peer)) pre x p h h' acts on d runs
  answers_right (kinds.More peer after) pre x p h h' acts fewer on d runs = by_calm _ (ships_more (K IsCalm calm_kind) (low IsCalm calm_kind) mid_calm peer after) (at_kind (kinds.More peer after)) pre x p h h' acts on d runs
  answers_right kinds.Tick pre x p h h' acts fewer on d runs = nothing_done (at_kind kinds.Tick) pre p h h' acts d.1 on runs
  answers_right (kinds.Evict client) pre x p h h' acts fewer on d runs = by_calm _ (evicts (K IsCalm calm_kind) (low IsCalm calm_kind) client) (at_kind (kinds.Evict client)) pre x p h h' acts on d runs
  answers_right (kinds.Table homes) pre x p h h' acts fewer on d runs = takes_table (at_kind (kinds.Table homes)) tt homes pre x p h h' acts on d runs

  after_due : (kind : EventKind) (pre : List Act) (x : Unit {0}) (p : Place) (h h' : HeldView) (acts : List Act) → Fewer was h → SessionsAreOnTheirs h → Then due.DoesDue (λ _. turns.AnswersEvent kind) (Some x) p h acts → Runs p h acts h' → Done (at_kind kind) pre p h h' acts
  after_due kind pre x p h h' acts fewer on (inl d) runs = none_some (sym d.0)
  after_due kind pre x p h h' acts fewer on (inr (y, own, mid, rest, one, ran, more, is)) runs =
      let first = due_right (at_kind kind) pre y p h mid own on one ran in
      let still = fewer_then was h mid fewer (due_fewer y p h mid own one ran) in
      done_then (at_kind kind) pre p h mid h' own rest acts is ran first.0 (answers_right kind (pre ++ own) x p mid h' rest still first.1 more (second_runs p h mid h' own rest acts is ran runs))

  goes_right : (kind : EventKind) (pre : List Act) (x : Unit {0}) (p : Place) (h h' : HeldView) (acts : List Act) → Fewer was h → SessionsAreOnTheirs h → turns.AnswersAfterDue kind (Some x) p h acts → Runs p h acts h' → Done (at_kind kind) pre p h h' acts
  goes_right kinds.Started pre x p h h' acts fewer on d runs = nothing_done (at_kind kinds.Started) pre p h h' acts d.1 on runs
  goes_right (kinds.Opened c) pre x p h h' acts fewer on d runs = after_due (kinds.Opened c) pre x p h h' acts fewer on d runs
  goes_right (kinds.Piece c bytes) pre x p h h' acts fewer on d runs = after_due (kinds.Piece c bytes) pre x p h h' acts fewer on d runs
  goes_right (kinds.Closed c) pre x p h h' acts fewer on d runs = after_due (kinds.Closed c) pre x p h h' acts fewer on d runs
  goes_right (kinds.Room c bytes) pre x p h h' acts fewer on d runs = after_due (kinds.Room c bytes) pre x p h h' acts fewer on d runs
  goes_right (kinds.Frame bytes) pre x p h h' acts fewer on d runs = after_due (kinds.Frame bytes) pre x p h h' acts fewer on d runs
  goes_right (kinds.Linked peer) pre x p h h' acts fewer on d runs = after_due (kinds.Linked peer) pre x p h h' acts fewer on d runs
  goes_right (kinds.Ship peer) pre x p h h' acts fewer on d runs = after_due (kinds.Ship peer) pre x p h h' acts fewer on d runs
  goes_right (kinds.More peer after) pre x p h h' acts fewer on d runs = after_due (kinds.More peer after) pre x p h h' acts fewer on d runs
  goes_right kinds.Tick pre x p h h' acts fewer on d runs = after_due kinds.Tick pre x p h h' acts fewer on d runs
  goes_right (kinds.Evict client) pre x p h h' acts fewer on d runs = after_due (kinds.Evict client) pre x p h h' acts fewer on d runs
  goes_right (kinds.Table homes) pre x p h h' acts fewer on d runs = after_due (kinds.Table homes) pre x p h h' acts fewer on d runs

  first_right : (kind : EventKind) (pre : List Act) (x : Unit {0}) (p : Place) (h h' : HeldView) (acts : List Act) → SessionsAreOnTheirs h → turns.AwaitsStart kind (Some x) p h acts → Runs p h acts h' → Done (at_kind kind) pre p h h' acts
  first_right kinds.Started pre x p h h' acts on d runs = starts_right (at_kind kinds.Started) tt pre x p h h' acts on d runs
  first_right (kinds.Opened c) pre x p h h' acts on d runs = nothing_done (at_kind (kinds.Opened c)) pre p h h' acts d.1 on runs
  first_right (kinds.Piece c bytes) pre x p h h' acts on d runs = nothing_done (at_kind (kinds.Piece c bytes)) pre p h h' acts d.1 on runs
  first_right (kinds.Closed c) pre x p h h' acts on d runs = nothing_done (at_kind (kinds.Closed c)) pre p h h' acts d.1 on runs
  first_right (kinds.Room c bytes) pre x p h h' acts on d runs = nothing_done (at_kind (kinds.Room c bytes)) pre p h h' acts d.1 on runs
  first_right (kinds.Frame bytes) pre x p h h' acts on d runs = nothing_done (at_kind (kinds.Frame bytes)) pre p h h' acts d.1 on runs
  first_right (kinds.Linked peer) pre x p h h' acts on d runs = nothing_done (at_kind (kinds.Linked peer)) pre p h h' acts d.1 on runs
  first_right (kinds.Ship peer) pre x p h h' acts on d runs = nothing_done (at_kind (kinds.Ship peer)) pre p h h' acts d.1 on runs
  first_right (kinds.More peer after) pre x p h h' acts on d runs = nothing_done (at_kind (kinds.More peer after)) pre p h h' acts d.1 on runs
  first_right kinds.Tick pre x p h h' acts on d runs = nothing_done (at_kind kinds.Tick) pre p h h' acts d.1 on runs
  first_right (kinds.Evict client) pre x p h h' acts on d runs = nothing_done (at_kind (kinds.Evict client)) pre p h h' acts d.1 on runs
  first_right (kinds.Table homes) pre x p h h' acts on d runs = nothing_done (at_kind (kinds.Table homes)) pre p h h' acts d.1 on runs

  turn_right : (b : Bool) (kind : EventKind) (pre : List Act) (x : Unit {0}) (p : Place) (h h' : HeldView) (acts : List Act) → Fewer was h → SessionsAreOnTheirs h → If b (turns.AnswersAfterDue kind) (turns.AwaitsStart kind) (Some x) p h acts → Runs p h acts h' → Done (at_kind kind) pre p h h' acts
  turn_right true kind pre x p h h' acts fewer on d runs = goes_right kind pre x p h h' acts fewer on d runs
  turn_right false kind pre x p h h' acts fewer on d runs = first_right kind pre x p h h' acts on d runs

pub step_right : (e : Event) (p : Place) (h h' : HeldView) (acts : List Act) → SessionsAreOnTheirs h → turns.Decides e (Some tt) p h acts → Runs p h acts h' → Right (at_kind h e.kind) [] p h acts × SessionsAreOnTheirs h'
step_right e p h h' acts on d runs =
    let t = turning e p h acts d in
    let a = MomentTaken e.at in
    let occasion = at_kind h e.kind in
    let first = calm_done occasion [] p h t.mid (a ∷ []) (tt, tt) on t.runs in
    let fewer : Fewer h t.mid = λ c found at. subst (λ (v : HeldView). map.get v.connections c ≡ Some found) (t.runs.2 ∙ t.runs.1.1) at in
    done_then occasion [] p h t.mid h' (a ∷ []) t.rest acts t.is t.runs first.0
    (turn_right h t.mid.started e.kind (a ∷ []) tt p t.mid h' t.rest fewer first.1 t.does (second_runs p h t.mid h' (a ∷ []) t.rest acts t.is t.runs runs))
