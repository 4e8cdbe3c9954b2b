-- The connections whose Keep Alive has run out end in order.
use Rattle.std.proofs.Common.{◌≡◌, ◌≢◌, inl, inr, ℕ, Bool, true, false, cond, List, [], ◌∷◌, ◌++◌, Option, Some, None, option_and_then, refl, sym, ap, ◌∙◌, subst}
use Rattle.std.specs.FinMap as map
use Rattle.std.specs.List.{AllByRecursion}
use Rattle.session_table.specs.Dues.{Due}
use Rattle.mqtt_sessions.specs.Answers.{disconnect}
use Rattle.mqtt_sessions.specs.Ending.{end_due, has_run_out, is_due, ticked_if, timed_out, will_due}
use Rattle.mqtt_sessions.specs.Reaction.{Reaction}
use Rattle.mqtt_sessions.specs.State.{Link, State, limit_of}
use Rattle.law_sessions.specs.Runs.{closes, ticks}
use Rattle.session_table.specs.Calls.{stays, leaves}
use Rattle.session_table.specs.Seats.{Seat, Seats, run_outs}
use Rattle.node_work.specs.Acts.{Act, Runs}
use Rattle.node_work.specs.Calling.{CallsAt}
use Rattle.node_work.specs.Held.Sessions.{fits_in, takes_disconnect}
use Rattle.node_work.specs.View.{Place, HeldView}
use Rattle.node_work.specs.Working.{Each}
use Rattle.node_clients.specs.Ending as ending
use Rattle.broker_node.specs.Due as due
use Rattle.law_runs.proofs.Keeping.{none_some}
use Rattle.law_steps.proofs.ClosingLaws.{second_runs}
use Rattle.law_steps.proofs.Dues.{IsSeated, ClientsApart, dues_seated, dues_apart}
use Rattle.law_steps.proofs.WillWork.{HasRunOut, LeavesOthers, runs_out, run_out_by}
use Rattle.law_steps.specs.Due.{InOrder, TimesOut}
use Rattle.law_steps.proofs.DueDone.{Ran, call, called_there}
use Rattle.law_steps.proofs.TakenLaws.{closed}

timed_end : (o : Option Link) (now : ℕ) (will end : Bool) (s : State) (r : Reaction) (b : Bool) → s.link ≡ o → has_run_out o now ≡ true → b ≡ true → r ≡ (ticked_if b will end now s).reaction → r.end ≡ Some (cond (fits_in (limit_of o) (disconnect 141)) 141 0)
timed_end None now will end s r b link out so is = absurd (let z : false ≡ true = out in cc)
timed_end (Some l) now will end s r true link out so is = ap (λ (v : Reaction). v.end) (is ∙ ap (λ (o : Option Link). (timed_out o s).reaction) link)
timed_end (Some l) now will end s r false link out so is = absurd (let z : false ≡ true = so in cc)

-- a connection is closed: the moment and the sessions stay
closed_same : (c : ℕ) (x : Unit {0}) (p : Place) (h mid : HeldView) (acts : List Act) → ending.ClosesConnection c (Some x) p h acts → Runs p h acts mid → (mid.at ≡ h.at) × (mid.sessions ≡ h.sessions)
closed_same c x p h mid acts d runs =
    let r = subst (λ zs. Runs p h zs mid) (closed c x p h acts d) runs in
    (ap (λ (v : HeldView). v.at) (r.2.2 ∙ r.2.1.1) ∙ ap (λ (v : HeldView). v.at) r.1.1, ap (λ (v : HeldView). v.sessions) (r.2.2 ∙ r.2.1.1) ∙ ap (λ (v : HeldView). v.sessions) r.1.1)

tick_ends : (client : List ℕ) (seat : Seat) (r : Reaction) (p : Place) (h : HeldView) (acts : List Act) → map.get h.sessions client ≡ Some seat → has_run_out seat.session.link h.at ≡ true → CallsAt client ticks stays (Some seat) (Some r) p h acts
    → r.end ≡ Some (cond (takes_disconnect client 141 h) 141 0)
tick_ends client seat r p h acts found out (inl d) = none_some (sym d.0)
tick_ends client seat r p h acts found out (inr (q, after, answer, reacts, acts_are)) =
    let same : r ≡ q = (let z : Some r ≡ Some q = answer in cc) in
    timed_end seat.session.link h.at (is_due (will_due seat.session.kept) h.at) (is_due (end_due seat.session.kept) h.at) seat.session r (has_run_out seat.session.link h.at) refl out out (same ∙ reacts.0)
    ∙ ap (λ (o : Option Seat). Some (cond (fits_in (option_and_then (λ (s : Seat). limit_of s.session.link) o) (disconnect 141)) 141 0)) (sym found)

times_out : (d : Due) (x : Unit {0}) (p : Place) (h : HeldView) (acts : List Act) → Ran h d → due.RunsOut d (Some x) p h acts → TimesOut h d acts
times_out d x p h acts s (inl e) = none_some (sym e.0)
times_out d x p h acts s (inr (r, own, mid, rest, one, ran, (inl e), is)) = none_some (sym e.0)
times_out d x p h acts s (inr (r, own, mid, rest, one, ran, (inr (y, shut, left, last, closing, gone, (inl e), whole)), is)) = none_some (sym e.0)
times_out d x p h acts s (inr (r, own, mid, rest, one, ran, (inr (y, shut, left, last, closing, gone, (inr (r2, own2, mid2, rest2, two, ran2, more, is2)), whole)), is)) =
    let first = subst (λ o. CallsAt d.1 ticks stays o (Some r) p h own) s.1 one in
    let a = call d.1 ticks stays s.0 r p h own first in
    let there = called_there d.1 ticks stays s.0 r p h mid own first ran in
    let same = closed_same d.0 y p mid left shut closing gone in
    let seat : map.get left.sessions d.1 ≡ Some there.1.0 = ap (λ (m : Seats). map.get m d.1) same.1 ∙ there.1.1 in
    let b = call d.1 closes leaves there.1.0 r2 p left own2 (subst (λ o. CallsAt d.1 closes leaves o (Some r2) p left own2) seat two) in
    let at : left.at ≡ h.at = same.0 ∙ there.0 in
    record {
      call = a.step;
      leave = b.step;
      is = is ∙ (λ i. a.is i ++ (whole ∙ (λ j. closed d.0 y p mid shut closing j ++ (is2 ∙ (λ k. b.is k ++ more.1 k)) j)) i);
      of = a.of;
      on = a.to ∙ s.2;
      event = a.event_is;
      ends = ap (λ (v : Reaction). v.end) a.reaction ∙ tick_ends d.1 s.0 r p h own s.1 s.3 first;
      leave_of = b.of;
      off = b.to;
      leave_event = b.event_is ∙ ap closes at;
    }

still_ran : (client : List ℕ) (h h' : HeldView) (ds : List Due) → LeavesOthers client h h' → AllByRecursion (λ (x : Due). x.1 ≢ client) ds → AllByRecursion (Ran h) ds → AllByRecursion (Ran h') ds
still_ran client h h' [] same apart ran = tt
still_ran client h h' (d ∷ ds) same apart ran = (
  (ran.0.0, same.1 d.1 apart.0 ∙ ran.0.1, ran.0.2, ap (has_run_out ran.0.0.session.link) same.0 ∙ ran.0.3),
  still_ran client h h' ds same apart.1 ran.1,
)

has_out : (h : HeldView) (d : Due) → Ran h d → HasRunOut h d.1
has_out h d ran seat found = let same : ran.0 ≡ seat = (let z : Some ran.0 ≡ Some seat = sym ran.1 ∙ found in cc) in subst (λ (s : Seat). has_run_out s.session.link h.at ≡ true) same ran.3

each_out : (ds : List Due) (x : Unit {0}) (p : Place) (h h' : HeldView) (acts : List Act) → ClientsApart ds → AllByRecursion (Ran h) ds → Each due.RunsOut ds (Some x) p h acts → Runs p h acts h' → InOrder TimesOut p ds h acts h'
each_out [] x p h h' acts apart ran d runs = (d.1, subst (λ xs. Runs p h xs h') d.1 runs)
each_out (d ∷ ds) x p h h' acts apart ran (inl e) runs = none_some (sym e.0)
each_out (d ∷ ds) x p h h' acts apart ran (inr (y, own, mid, rest, one, did, more, is)) runs =
    let others = (runs_out d y p h mid own (has_out h d ran.0) one did).others in
    (own, mid, rest, is, did, times_out d y p h own ran.0 one, each_out ds x p mid h' rest apart.1 (still_ran d.1 h mid ds others apart.0 ran.1) more (second_runs p h mid h' own rest acts is did runs))

ran_by : (b : Bool) (o : Option ℕ) (n : ℕ) → cond b o None ≡ Some n → o ≡ Some n
ran_by true o n e = e
ran_by false o n e = none_some e

all_ran : (h : HeldView) (ds : List Due) → AllByRecursion (IsSeated (λ (s : Seat). cond (has_run_out s.session.link h.at) s.connection None) h.sessions) ds → AllByRecursion (Ran h) ds
all_ran h [] a = tt
all_ran h (d ∷ ds) a =
    ((a.0.0, a.0.1, ran_by (has_run_out a.0.0.session.link h.at) a.0.0.connection d.0 a.0.2, run_out_by (has_run_out a.0.0.session.link h.at) a.0.0.connection d.0 a.0.2), all_ran h ds a.1)

pub outs_in_order : (x : Unit {0}) (p : Place) (h mid : HeldView) (own : List Act) → due.EndsConnections (Some x) p h own → Runs p h own mid → InOrder TimesOut p (run_outs h.sessions h.at) h own mid
outs_in_order x p h mid own d runs =
    let number = λ (s : Seat). cond (has_run_out s.session.link h.at) s.connection None in
    each_out (run_outs h.sessions h.at) x p h mid own (dues_apart number h.sessions) (all_ran h (run_outs h.sessions h.at) (dues_seated number h.sessions)) d runs
