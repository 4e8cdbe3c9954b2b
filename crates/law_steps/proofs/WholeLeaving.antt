-- What is due, and clients that go away, leave each connected client served.
use Rattle.std.proofs.Common.{◌≡◌, ◌≢◌, inl, inr, ℕ, Bool, true, false, is_some, List, [], ◌∷◌, ◌++◌, Option, Some, None, option_and_then, refl, sym, ap, ◌∙◌, subst}
use Rattle.std.specs.FinMap as map
use Rattle.session_table.specs.Dues.{Due}
use Rattle.mqtt_sessions.specs.declared.kept.Phase.{Phase}
use Rattle.mqtt_sessions.specs.declared.kept.Phase.TheVariants.{Connected}
use Rattle.mqtt_sessions.specs.Ending.{end_by, end_due, has_run_out, is_due, ticked_if, timed_out, will_due}
use Rattle.mqtt_sessions.specs.Reaction.{Reaction, nothing}
use Rattle.mqtt_sessions.specs.State.{Kept, Link, State}
use Rattle.law_sessions.specs.Runs.{Event, closes, finishes, ticks}
use Rattle.session_table.specs.Calls.{leaves, stays}
use Rattle.session_table.specs.Seats.{Seat, connected, ends_due, run_outs, wills_due}
use Rattle.node_work.specs.declared.outcome.Output.TheVariants.{Close}
use Rattle.node_work.specs.Acts.{Act, Began, Connection, Session, Out, Runs, next}
use Rattle.node_work.specs.Calling.{CallsAt}
use Rattle.node_work.specs.Held.Connections.{Closed, client_at}
use Rattle.node_work.specs.Held.Sessions.{SessionStep, Called, Over, IsOn, connection_at, end_is_due, seat_at, will_is_due}
use Rattle.node_work.specs.View.{Place, HeldView}
use Rattle.node_work.specs.Working.{Returns, If, Each}
use Rattle.node_clients.specs.Ending as ending
use Rattle.node_clients.specs.Moving as moving
use Rattle.broker_node.specs.Due as due
use Rattle.broker_node.specs.Moving as tables
use Rattle.law_runs.proofs.Keeping.{none_some}
use Rattle.law_runs.proofs.Splits.{left_by}
use Rattle.law_steps.proofs.ClosingLaws.{second_runs}
use Rattle.law_steps.specs.Due.{InOrder, TimesOut}
use Rattle.law_steps.proofs.DueDone.{call}
use Rattle.law_steps.proofs.TakenLaws.{closed}
use Rattle.law_steps.proofs.Calls.{after_head}
use Rattle.law_steps.proofs.Gentle.{IsSteady, calling, passes_asked, redirects, removes_own}
use Rattle.law_steps.proofs.Outs.{outs_in_order}
use Rattle.law_steps.proofs.Live.{AllServed, IsAway, IsLive, IsOnlyAt, LeavesServed, gently, leaves_same, leaves_then, over_served, same_at, served_gently, shut, shut_away, shut_client, shut_served, still_away, still_only, told_served}

-- ---- what follows a call that may end a session
ends_served : (client : List ℕ) (x : Unit {0}) (p : Place) (h h' : HeldView) (acts : List Act) → IsAway client h → ending.EndsSession client (Some x) p h acts → Runs p h acts h' → AllServed h → LeavesServed h h'
ends_served client x p h h' acts away (inl d) runs s = none_some (sym d.0)
ends_served client x p h h' acts away (inr (y, own, mid, rest, one, ran, more, is)) runs s =
    let first = served_gently h mid (gently p own h mid (removes_own client y p h own one) ran) s in
    let left : h' ≡ next mid (Session (Over client)) = left_by p mid h' (Session (Over client)) rest more.1 (second_runs p h mid h' own rest acts is ran runs) in
    leaves_then h mid h' first (subst (LeavesServed mid) (sym left) (over_served mid client (still_away client h mid first.same away) first.served))

follows_served : (client : List ℕ) (r : Reaction) (x : Unit {0}) (p : Place) (h h' : HeldView) (acts : List Act) → (r.over ≡ true → IsAway client h) → ending.FollowsReaction client r (Some x) p h acts → Runs p h acts h' → AllServed h → LeavesServed h h'
follows_served client r x p h h' acts away (inl d) runs s = none_some (sym d.0)
follows_served client r x p h h' acts away (inr (y, own, mid, rest, one, ran, more, is)) runs s = by r.over refl more
  where
    first : LeavesServed h mid
    first = served_gently h mid (gently p own h mid (passes_asked r.ask y p h own one) ran) s

    later : Runs p mid rest h'
    later = second_runs p h mid h' own rest acts is ran runs

    by : (b : Bool) → r.over ≡ b → If b (ending.EndsSession client) (Returns tt) (Some x) p mid rest → LeavesServed h h'
    by true e d = leaves_then h mid h' first (ends_served client x p mid h' rest (still_away client h mid first.same (away e)) d later first.served)
    by false e d = leaves_then h mid h' first (leaves_same mid h' (subst (λ zs. Runs p mid zs h') d.1 later) first.served)

-- ---- a tick
-- by which no session is over that is connected
over_by : (out will end : Bool) (now : ℕ) (s : State) (r : Reaction) → r ≡ (ticked_if out will end now s).reaction → r.over ≡ true → end ≡ true
over_by true will end now s r is over = absurd (none s.link (ap (λ (v : Reaction). v.over) (sym is) ∙ over))
  where
    none : (o : Option Link) → (timed_out o s).reaction.over ≡ true → ⊥
    none None e = (let z : false ≡ true = e in cc)
    none (Some l) e = (let z : false ≡ true = e in cc)
over_by false true end now s r is over = absurd (let z : false ≡ true = ap (λ (v : Reaction). v.over) (sym is) ∙ over in cc)
over_by false false end now s r is over = ap (λ (v : Reaction). v.over) (sym is) ∙ over

over_away : (found : Option Seat) (client : List ℕ) (r : Reaction) (p : Place) (h : HeldView) (own : List Act) → seat_at client h ≡ found → AllServed h → CallsAt client ticks stays found (Some r) p h own → r.over ≡ true → IsAway client h
over_away None client r p h own there s d over c at = (let z : Some r ≡ Some nothing = d.0 in let same : r ≡ nothing = cc in let y : false ≡ true = sym (ap (λ (v : Reaction). v.over) same) ∙ over in cc)
over_away (Some seat) client r p h own there s (inl d) over c at = none_some (sym d.0)
over_away (Some seat) client r p h own there s (inr (q, after, answer, reacts, acts_are)) over c at =
    let was = s.live c client at in
    let one : seat ≡ was.seat = (let z : Some seat ≡ Some was.seat = sym there ∙ was.found in cc) in
    let same : r ≡ q = (let z : Some r ≡ Some q = answer in cc) in
    let end : is_due (end_due seat.session.kept) h.at ≡ true = over_by (has_run_out seat.session.link h.at) (is_due (will_due seat.session.kept) h.at) (is_due (end_due seat.session.kept) h.at) h.at seat.session r (same ∙ reacts.0) over in
    let phase : seat.session.kept.phase ≡ Connected = ap (λ (v : Seat). v.session.kept.phase) one ∙ was.phase in
    (let z : false ≡ true = sym (ap (λ (f : Phase). is_due (end_by f seat.session.kept.expiry) h.at) phase) ∙ end in cc)

called_then : (client : List ℕ) (event : ℕ → Event) → ((at : ℕ) → IsSteady (event at)) → (r : Reaction) (p : Place) (h mid : HeldView) (own : List Act) → CallsAt client event stays (seat_at client h) (Some r) p h own → Runs p h own mid → AllServed h → LeavesServed h mid
called_then client event steady r p h mid own d ran s = served_gently h mid (gently p own h mid (calling client event steady r p h own d) ran) s

pub ticks_served : (client : List ℕ) (x : Unit {0}) (p : Place) (h h' : HeldView) (acts : List Act) → ending.Ticks client (Some x) p h acts → Runs p h acts h' → AllServed h → LeavesServed h h'
ticks_served client x p h h' acts (inl d) runs s = none_some (sym d.0)
ticks_served client x p h h' acts (inr (r, own, mid, rest, one, ran, more, is)) runs s =
    let first = called_then client ticks (λ at. tt) r p h mid own one ran s in
    leaves_then h mid h' first
    (follows_served client r x p mid h' rest (λ over. still_away client h mid first.same (over_away (seat_at client h) client r p h own refl s one over)) more (second_runs p h mid h' own rest acts is ran runs) first.served)

pub finishes_served : (client : List ℕ) (x : Unit {0}) (p : Place) (h h' : HeldView) (acts : List Act) → IsAway client h → ending.Finishes client (Some x) p h acts → Runs p h acts h' → AllServed h → LeavesServed h h'
finishes_served client x p h h' acts away (inl d) runs s = none_some (sym d.0)
finishes_served client x p h h' acts away (inr (r, own, mid, rest, one, ran, more, is)) runs s =
    let first = called_then client finishes (λ at. tt) r p h mid own one ran s in
    leaves_then h mid h' first (follows_served client r x p mid h' rest (λ over. still_away client h mid first.same away) more (second_runs p h mid h' own rest acts is ran runs) first.served)

-- ---- a close
tick_if : (b : Bool) (client : List ℕ) (x : Unit {0}) (p : Place) (h h' : HeldView) (acts : List Act) → ending.TicksIf b client (Some x) p h acts → Runs p h acts h' → AllServed h → LeavesServed h h'
tick_if true client x p h h' acts d runs s = ticks_served client x p h h' acts d runs s
tick_if false client x p h h' acts d runs s = leaves_same h h' (subst (λ zs. Runs p h zs h') d.1 runs) s

due_of : (client : List ℕ) (x : Unit {0}) (p : Place) (h h' : HeldView) (acts : List Act) → ending.DoesDueOf client (Some x) p h acts → Runs p h acts h' → AllServed h → LeavesServed h h'
due_of client x p h h' acts (inl d) runs s = none_some (sym d.0)
due_of client x p h h' acts (inr (y, own, mid, rest, one, ran, more, is)) runs s =
    let first = tick_if (will_is_due client h) client y p h mid own one ran s in
    leaves_then h mid h' first (tick_if (end_is_due client mid) client x p mid h' rest more (second_runs p h mid h' own rest acts is ran runs) first.served)

leaving : (found : Option Seat) (client : List ℕ) (r : Reaction) (p : Place) (h h' : HeldView) (acts : List Act) → IsAway client h → CallsAt client closes leaves found (Some r) p h acts → Runs p h acts h' → AllServed h → LeavesServed h h'
leaving None client r p h h' acts away d runs s = leaves_same h h' (subst (λ zs. Runs p h zs h') d.1 runs) s
leaving (Some seat) client r p h h' acts away d runs s =
    let a = call client closes leaves seat r p h acts d in
    let left : h' ≡ next h (Session (Called a.step)) = left_by p h h' (Session (Called a.step)) acts a.is runs in
    subst (LeavesServed h) (sym left) (told_served h a.step (subst (λ q. IsAway q h) (sym a.of) away) s)

pub parts_served : (client : List ℕ) (x : Unit {0}) (p : Place) (h h' : HeldView) (acts : List Act) → IsAway client h → ending.Parts client (Some x) p h acts → Runs p h acts h' → AllServed h → LeavesServed h h'
parts_served client x p h h' acts away (inl d) runs s = none_some (sym d.0)
parts_served client x p h h' acts away (inr (r, own, mid, rest, one, ran, more, is)) runs s =
    let first = leaving (seat_at client h) client r p h mid own away one ran s in
    leaves_then h mid h' first (due_of client x p mid h' rest more (second_runs p h mid h' own rest acts is ran runs) first.served)

pub shuts : (c : ℕ) (x : Unit {0}) (p : Place) (h h' : HeldView) (acts : List Act) → ending.ClosesConnection c (Some x) p h acts → Runs p h acts h' → h' ≡ shut h c
shuts c x p h h' acts d runs = let r = subst (λ zs. Runs p h zs h') (closed c x p h acts d) runs in r.2.2 ∙ r.2.1.1 ∙ r.1.1

-- the client of a connection that a node closes is on none then; connections go, and none comes
pub record ShutServed (client : List ℕ) (h h' : HeldView) : Type 0 where
  pub served : AllServed h'
  pub away : IsAway client h'
  pub were : (q : ℕ) (other : List ℕ) → client_at q h' ≡ Some other → client_at q h ≡ Some other

pub closes_served : (c : ℕ) (client : List ℕ) (x : Unit {0}) (p : Place) (h h' : HeldView) (acts : List Act) → IsOnlyAt c client h → ending.ClosesFor c client (Some x) p h acts → Runs p h acts h' → AllServed h → ShutServed client h h'
closes_served c client x p h h' acts only (inl d) runs s = none_some (sym d.0)
closes_served c client x p h h' acts only (inr (y, own, mid, rest, one, ran, more, is)) runs s =
    let left : mid ≡ shut h c = shuts c y p h mid own one ran in
    let away : IsAway client mid = subst (IsAway client) (sym left) (shut_away h c client only) in
    let second = parts_served client x p mid h' rest away more (second_runs p h mid h' own rest acts is ran runs) (subst AllServed (sym left) (shut_served h c s)) in
    record {
      served = second.served;
      away = still_away client mid h' second.same away;
      were = λ q other at. (shut_client h c q other (subst (λ v. client_at q v ≡ Some other) left (sym (same_at mid h' q second.same) ∙ at))).0;
    }

-- ---- a Keep Alive that has run out
times_served : (p : Place) (h h' : HeldView) (d : Due) (acts : List Act) → TimesOut h d acts → Runs p h acts h' → AllServed h → AllServed h'
times_served p h h' d acts t runs s =
    let gone = Connection (Closed d.0) in
    let out = Out (Close d.0) in
    let u = Session (Called t.call) in
    let a = after_head p h h' acts u (gone ∷ out ∷ Session (Called t.leave) ∷ []) t.is runs in
    let mid = next h u in
    let steady : IsSteady t.call.event = subst IsSteady (sym t.event) tt in
    let first = served_gently h mid (gently p (u ∷ []) h mid (steady, tt) (mid, (a.0, refl), refl)) s in
    let b = after_head p mid h' (gone ∷ out ∷ Session (Called t.leave) ∷ []) gone (out ∷ Session (Called t.leave) ∷ []) refl a.1 in
    let c = after_head p (shut mid d.0) h' (out ∷ Session (Called t.leave) ∷ []) out (Session (Called t.leave) ∷ []) refl b.1 in
    let e = after_head p (shut mid d.0) h' (Session (Called t.leave) ∷ []) (Session (Called t.leave)) [] refl c.1 in
    let was_on : a.0.seat.connection ≡ Some d.0 = sym (subst (λ (v : Event). IsOn v a.0.seat.connection t.call.on) t.event a.0.on) ∙ t.on in
    let only : IsOnlyAt d.0 d.1 h = λ q at. (
    let was = s.live q d.1 at in
    let one : a.0.seat ≡ was.seat = (let z : Some a.0.seat ≡ Some was.seat = sym a.0.found ∙ ap (map.get h.sessions) t.of ∙ was.found in cc) in
    let z : Some q ≡ Some d.0 = sym was.on ∙ ap (λ (v : Seat). v.connection) (sym one) ∙ was_on in cc) in
    let away : IsAway d.1 (shut mid d.0) = shut_away mid d.0 d.1 (still_only d.0 d.1 h mid first.same only) in
    subst AllServed (sym e.1) (told_served (shut mid d.0) t.leave (subst (λ k. IsAway k (shut mid d.0)) (sym t.leave_of) away) (shut_served mid d.0 first.served)).served

outs_served : (ds : List Due) (p : Place) (h last : HeldView) (acts : List Act) → InOrder TimesOut p ds h acts last → AllServed h → AllServed last
outs_served [] p h last acts x s = subst AllServed (sym x.1) s
outs_served (d ∷ ds) p h last acts x s = outs_served ds p x.1 last x.2 x.6 (times_served p h x.1 d x.0 x.5 x.4 s)

-- ---- what is due
each_tick : (ds : List Due) (x : Unit {0}) (p : Place) (h h' : HeldView) (acts : List Act) → Each due.TicksOf ds (Some x) p h acts → Runs p h acts h' → AllServed h → AllServed h'
each_tick [] x p h h' acts d runs s = subst AllServed (sym (subst (λ zs. Runs p h zs h') d.1 runs)) s
each_tick (d ∷ ds) x p h h' acts (inl e) runs s = none_some (sym e.0)
each_tick (d ∷ ds) x p h h' acts (inr (y, own, mid, rest, one, ran, more, is)) runs s =
    each_tick ds x p mid h' rest more (second_runs p h mid h' own rest acts is ran runs) (ticks_served d.1 y p h mid own one ran s).served

pub due_served : (x : Unit {0}) (p : Place) (h h' : HeldView) (acts : List Act) → due.DoesDue (Some x) p h acts → Runs p h acts h' → AllServed h → AllServed h'
due_served x p h h' acts (inl d) runs s = none_some (sym d.0)
due_served x p h h' acts (inr (y, own, mid, rest, one, ran, (inl d), is)) runs s = none_some (sym d.0)
due_served x p h h' acts (inr (y, own, mid, rest, one, ran, (inr (y2, own2, mid2, rest2, two, ran2, more, is2)), is)) runs s =
    let first : AllServed mid = outs_served (run_outs h.sessions h.at) p h mid own (outs_in_order y p h mid own one ran) s in
    let second : AllServed mid2 = each_tick (wills_due mid.sessions mid.at) y2 p mid mid2 own2 two ran2 first in
    each_tick (ends_due mid2.sessions mid2.at) x p mid2 h' rest2 more (second_runs p mid mid2 h' own2 rest2 rest is2 ran2 (second_runs p h mid h' own rest acts is ran runs)) second

-- ---- clients whose home is elsewhere
nowhere : (found : Option Seat) (client : List ℕ) (h : HeldView) → seat_at client h ≡ found → option_and_then (λ (v : Seat). v.connection) found ≡ None → AllServed h → IsAway client h
nowhere found client h there none s c at =
    let was = s.live c client at in
    none_some (sym none ∙ ap (option_and_then (λ (v : Seat). v.connection)) (sym there ∙ was.found) ∙ was.on)

pub away_by : (client : List ℕ) (h : HeldView) → connection_at client h ≡ None → AllServed h → IsAway client h
away_by client h none s = nowhere (seat_at client h) client h refl none s

pub only_by : (c : ℕ) (client : List ℕ) (h : HeldView) → connection_at client h ≡ Some c → AllServed h → IsOnlyAt c client h
only_by c client h on s q at =
    let was = s.live q client at in
    (let z : Some q ≡ Some c = sym was.on ∙ sym (ap (option_and_then (λ (v : Seat). v.connection)) was.found) ∙ on in cc)

parts_on : (client : List ℕ) (on : Option ℕ) (x : Unit {0}) (p : Place) (h h' : HeldView) (acts : List Act) → connection_at client h ≡ on → moving.PartsOn client on (Some x) p h acts → Runs p h acts h' → AllServed h → AllServed h' × IsAway client h'
parts_on client None x p h h' acts on d runs s =
    let same : h' ≡ h = subst (λ zs. Runs p h zs h') d.1 runs in
    (subst AllServed (sym same) s, subst (IsAway client) (sym same) (away_by client h on s))
parts_on client (Some c) x p h h' acts on (inl d) runs s = none_some (sym d.0)
parts_on client (Some c) x p h h' acts on (inr (y, own, mid, rest, one, ran, more, is)) runs s =
    let first = served_gently h mid (gently p own h mid (redirects c client y p h own one) ran) s in
    let second = closes_served c client x p mid h' rest (still_only c client h mid first.same (only_by c client h on s)) more (second_runs p h mid h' own rest acts is ran runs) first.served in
    (second.served, second.away)

each_away : (clients : List (List ℕ)) (x : Unit {0}) (p : Place) (h h' : HeldView) (acts : List Act) → Each moving.MovesAway clients (Some x) p h acts → Runs p h acts h' → AllServed h → AllServed h'
each_away [] x p h h' acts d runs s = subst AllServed (sym (subst (λ zs. Runs p h zs h') d.1 runs)) s
each_away (client ∷ clients) x p h h' acts (inl d) runs s = none_some (sym d.0)
each_away (client ∷ clients) x p h h' acts (inr (y, own, mid, rest, (inl d), ran, more, is)) runs s = none_some (sym d.0)
each_away (client ∷ clients) x p h h' acts (inr (y, own, mid, rest, (inr (y2, own2, mid2, rest2, two, ran2, more2, is2)), ran, more, is)) runs s =
    let first = parts_on client (connection_at client h) y2 p h mid2 own2 refl two ran2 s in
    let second = finishes_served client y p mid2 mid rest2 first.1 more2 (second_runs p h mid2 mid own2 rest2 own is2 ran2 ran) first.0 in
    each_away clients x p mid h' rest more (second_runs p h mid h' own rest acts is ran runs) second.served

pub away_served : (x : Unit {0}) (p : Place) (h h' : HeldView) (acts : List Act) → tables.SendsAway (Some x) p h acts → Runs p h acts h' → AllServed h → AllServed h'
away_served x p h h' acts (clients, are, d) runs s = each_away clients x p h h' acts d runs s

-- ---- a node begins its work
abbrev pub NoneHere : HeldView → Type 0
NoneHere h = (c : ℕ) → client_at c h ≡ None

each_closed : (clients : List (List ℕ)) (x : Unit {0}) (p : Place) (h h' : HeldView) (acts : List Act) → NoneHere h → Each due.PartsFrom clients (Some x) p h acts → Runs p h acts h' → AllServed h → AllServed h'
each_closed [] x p h h' acts none d runs s = subst AllServed (sym (subst (λ zs. Runs p h zs h') d.1 runs)) s
each_closed (client ∷ clients) x p h h' acts none (inl d) runs s = none_some (sym d.0)
each_closed (client ∷ clients) x p h h' acts none (inr (y, own, mid, rest, (inl d), ran, more, is)) runs s = none_some (sym d.0)
each_closed (client ∷ clients) x p h h' acts none (inr (y, own, mid, rest, (inr (r, own2, mid2, rest2, two, ran2, more2, is2)), ran, more, is)) runs s =
    let away : IsAway client h = λ c at. none_some (sym (none c) ∙ at) in
    let first = leaving (seat_at client h) client r p h mid2 own2 away two ran2 s in
    let same : mid ≡ mid2 = subst (λ zs. Runs p mid2 zs mid) more2.1 (second_runs p h mid2 mid own2 rest2 own is2 ran2 ran) in
    let kept : LeavesServed h mid = subst (LeavesServed h) (sym same) first in
    each_closed clients x p mid h' rest (λ c. same_at h mid c kept.same ∙ none c) more (second_runs p h mid h' own rest acts is ran runs) kept.served

begun_served : (h : HeldView) → AllServed h → AllServed (next h Began)
begun_served h s = record { live = λ c client at. (let was = s.live c client at in record { seat = was.seat; found = was.found; on = was.on; phase = was.phase }) }

pub starts_served : (x : Unit {0}) (p : Place) (h h' : HeldView) (acts : List Act) → NoneHere h → due.Starts (Some x) p h acts → Runs p h acts h' → AllServed h → AllServed h'
starts_served x p h h' acts here (inl d) runs s = none_some (sym d.0)
starts_served x p h h' acts here (inr (y, own, mid, rest, one, ran, (inl d), is)) runs s = none_some (sym d.0)
starts_served x p h h' acts here (inr (y, own, mid, rest, one, ran, (inr (y2, own2, mid2, rest2, two, ran2, (inl d), is2)), is)) runs s = none_some (sym d.0)
starts_served x p h h' acts here (inr (y, own, mid, rest, one, ran, (inr (y2, own2, mid2, rest2, two, ran2, (inr (y3, own3, mid3, rest3, three, ran3, more, is3)), is2)), is)) runs s =
    let left : mid ≡ next h Began = left_by p h mid Began own one.1 ran in
    let first : AllServed mid = subst AllServed (sym left) (begun_served h s) in
    let none : NoneHere mid = subst NoneHere (sym left) here in
    let later = second_runs p h mid h' own rest acts is ran runs in
    let second : AllServed mid2 = each_closed (connected mid.sessions) y2 p mid mid2 own2 none two ran2 first in
    let later2 = second_runs p mid mid2 h' own2 rest2 rest is2 ran2 later in
    let third : AllServed mid3 = due_served y3 p mid2 mid3 own3 three ran3 second in
    away_served x p mid3 h' rest3 more (second_runs p mid2 mid3 h' own3 rest3 rest2 is3 ran3 later2) third
