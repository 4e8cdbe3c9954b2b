-- A Tick does what is due, and other events come after it; Started begins the work; a connection that is closed is taken out.
use Rattle.std.proofs.Common.{◌≡◌, ◌≢◌, inl, inr, ℕ, Bool, true, false, cond, is_some, List, [], ◌∷◌, ◌++◌, Option, Some, None, option_and_then, refl, sym, ap, ◌∙◌, subst}
use Rattle.std.proofs.lemmas.List.{append-nil}
use Rattle.mqtt_sessions.specs.Ending.{end_due, is_due, will_due}
use Rattle.mqtt_sessions.specs.Reaction.{Reaction}
use Rattle.law_sessions.specs.Runs.{closes}
use Rattle.session_table.specs.Calls.{leaves}
use Rattle.session_table.specs.Seats.{Seat, connected}
use Rattle.node_work.specs.Acts.{Act, MomentTaken, Began, Connection, Runs, next}
use Rattle.node_work.specs.Calling.{CallsAt}
use Rattle.node_work.specs.Held.Connections.{Closed as Shut, Opened, client_at, is_open}
use Rattle.node_work.specs.Held.Sessions.{end_is_due, has_session, seat_at, will_is_due}
use Rattle.node_work.specs.View.{Place, HeldView}
use Rattle.node_work.specs.Working.{Returns, Acting, If, Looks, Each}
use Rattle.node_clients.specs.Ending as ending
use Rattle.node_clients.specs.Pieces as pieces
use Rattle.broker_node.specs.declared.event.Event.{Event}
use Rattle.broker_node.specs.declared.event.EventKind.{EventKind}
use Rattle.broker_node.specs.declared.event.EventKind.TheVariants as kinds
use Rattle.broker_node.specs.Due as due
use Rattle.broker_node.specs.Turns as turns
use Rattle.law_runs.proofs.Keeping.{none_some}
use Rattle.law_runs.proofs.Splits.{left_by}
use Rattle.law_steps.proofs.ClosingLaws.{second_runs}
use Rattle.law_steps.proofs.Turn.{sends_away}
use Rattle.law_steps.specs.Closing.{ClosesAreTold, ConnectionsAreOpened, IsClosedLast, IsOpenedLast, IsLeft, IsTold}
use Rattle.law_steps.specs.Due.{EventsComeAfterDue, TickIsDue, TicksDoWhatIsDue}
use Rattle.law_steps.specs.Starting.{AllWaitForStart, AreClosed, BeginsAtStart, IsClosed, StartsBegin, StartsComeOnce}
use Rattle.law_steps.proofs.DueDone.{call, due_done}
use Rattle.law_steps.proofs.Turning.{IsAfterStart, Momentary, Turned, after_start, awaits, if_so, if_not, momentary, turned}

-- ---- events after Started
pub events_come_after_due : EventsComeAfterDue
events_come_after_due = λ e p h acts d started other. (turned e p h (after_start e.kind other) started acts d).first

module _ (e : Event) (p : Place) (h last : HeldView) (kind : e.kind ≡ kinds.Tick) (started : h.started ≡ true) where
  tick_is_due : (acts : List Act) → turns.Decides e (Some tt) p h acts → Runs p h acts last → TickIsDue p h e.at acts last
  tick_is_due acts d runs =
      let t = turned e p h (subst IsAfterStart (sym kind) tt) started acts d in
      let none : t.first.rest ≡ [] = (subst (λ (k : EventKind). turns.AnswersEvent k (Some tt) p t.first.held t.first.rest) kind t.answers).1 in
      let whole : acts ≡ MomentTaken e.at ∷ t.own = t.first.is ∙ (λ i. t.due_is i ++ none i) ∙ append-nil (MomentTaken e.at ∷ t.own) in
      let ran = subst (λ zs. Runs p h zs last) whole runs in
      record { own = t.own; is = whole; done = due_done t.answer p (next h (MomentTaken e.at)) last t.own t.does (subst (λ v. Runs p v t.own last) ran.1.1 ran.2) }

pub ticks_do_what_is_due : TicksDoWhatIsDue
ticks_do_what_is_due = λ e p h last acts d runs kind started. tick_is_due e p h last kind started acts d runs

-- ---- the moment alone
pub all_wait_for_start : AllWaitForStart
all_wait_for_start = λ e p h acts d other waits.
    (let m = momentary e p h acts d in
    let none : m.rest ≡ [] = awaits e.kind tt p (next h (MomentTaken e.at)) m.rest other (if_not h.started (turns.AnswersAfterDue e.kind) (turns.AwaitsStart e.kind) (Some tt) p (next h (MomentTaken e.at)) m.rest waits m.turn) in
    m.is ∙ ap (λ zs. MomentTaken e.at ∷ zs) none)

pub starts_come_once : StartsComeOnce
starts_come_once = λ e p h acts d kind started.
    (let m = momentary e p h acts d in
    let goes = if_so h.started (turns.AnswersAfterDue e.kind) (turns.AwaitsStart e.kind) (Some tt) p (next h (MomentTaken e.at)) m.rest started m.turn in
    m.is ∙ ap (λ zs. MomentTaken e.at ∷ zs) (subst (λ (k : EventKind). turns.AnswersAfterDue k (Some tt) p (next h (MomentTaken e.at)) m.rest) kind goes).1)

-- ---- Started
close_by : (found : Option Seat) (client : List ℕ) (r : Reaction) (p : Place) (h : HeldView) (own : List Act) → CallsAt client closes leaves found (Some r) p h own → cond (is_some found) (IsClosed h client own) (own ≡ [])
close_by None client r p h own d = d.1
close_by (Some seat) client r p h own d = let a = call client closes leaves seat r p h own d in record { call = a.step; is = a.is; of = a.of; off = a.to; event = a.event_is }

one_close : (client : List ℕ) (x : Unit {0}) (p : Place) (h : HeldView) (acts : List Act) → due.PartsFrom client (Some x) p h acts → cond (has_session client h) (IsClosed h client acts) (acts ≡ [])
one_close client x p h acts (inl d) = none_some (sym d.0)
one_close client x p h acts (inr (r, own, mid, rest, one, ran, more, is)) =
    let same : acts ≡ own = is ∙ ap (λ zs. own ++ zs) more.1 ∙ append-nil own in
    subst (λ zs. cond (has_session client h) (IsClosed h client zs) (zs ≡ [])) (sym same) (close_by (seat_at client h) client r p h own one)

each_closed : (clients : List (List ℕ)) (x : Unit {0}) (p : Place) (h h' : HeldView) (acts : List Act) → Each due.PartsFrom clients (Some x) p h acts → Runs p h acts h' → AreClosed p clients h acts h'
each_closed [] x p h h' acts d runs = (d.1, subst (λ xs. Runs p h xs h') d.1 runs)
each_closed (client ∷ clients) x p h h' acts (inl d) runs = none_some (sym d.0)
each_closed (client ∷ clients) x p h h' acts (inr (y, own, mid, rest, one, ran, more, is)) runs =
    (own, mid, rest, is, ran, one_close client y p h own one, each_closed clients x p mid h' rest more (second_runs p h mid h' own rest acts is ran runs))

starts : (at : ℕ) (x : Unit {0}) (p : Place) (h last : HeldView) (acts : List Act) → due.Starts (Some x) p (next h (MomentTaken at)) acts → Runs p (next h (MomentTaken at)) acts last → BeginsAtStart p h at (MomentTaken at ∷ acts) last
starts at x p h last acts (inl d) runs = none_some (sym d.0)
starts at x p h last acts (inr (y, own, mid, rest, one, ran, (inl d), is)) runs = none_some (sym d.0)
starts at x p h last acts (inr (y, own, mid, rest, one, ran, (inr (y2, own2, mid2, rest2, two, ran2, (inl d), is2)), is)) runs = none_some (sym d.0)
starts at x p h last acts (inr (y, own, mid, rest, one, ran, (inr (y2, own2, mid2, rest2, two, ran2, (inr (y3, own3, mid3, rest3, three, ran3, more, is3)), is2)), is)) runs =
    let now = next h (MomentTaken at) in
    let begun : HeldView = next now Began in
    let left : mid ≡ begun = left_by p now mid Began own one.1 ran in
    let later = second_runs p now mid last own rest acts is ran runs in
    let later2 = second_runs p mid mid2 last own2 rest2 rest is2 ran2 later in
    record {
      closed = own2;
      due = own3;
      away = rest3;
      is = ap (λ zs. MomentTaken at ∷ zs) (is ∙ (λ i. one.1 i ++ (is2 ∙ ap (λ zs. own2 ++ zs) is3) i));
      mid = mid2;
      closes_all = each_closed (connected h.sessions) y2 p begun mid2 own2 (subst (λ v. due.ClosesStored (Some y2) p v own2) left two) (subst (λ v. Runs p v own2 mid2) left ran2);
      mid2 = mid3;
      does_due = due_done y3 p mid2 mid3 own3 three ran3;
      sends = sends_away x p mid3 last rest3 more (second_runs p mid2 mid3 last own3 rest3 rest2 is3 ran3 later2);
    }

pub starts_begin : StartsBegin
starts_begin = λ e p h last acts d runs kind waits.
    (let m = momentary e p h acts d in
    let turn = if_not h.started (turns.AnswersAfterDue e.kind) (turns.AwaitsStart e.kind) (Some tt) p (next h (MomentTaken e.at)) m.rest waits m.turn in
    let ran = subst (λ zs. Runs p h zs last) m.is runs in
    subst (λ zs. BeginsAtStart p h e.at zs last) (sym m.is)
    (starts e.at tt p h last m.rest (subst (λ (k : EventKind). turns.AwaitsStart k (Some tt) p (next h (MomentTaken e.at)) m.rest) kind turn) (subst (λ v. Runs p v m.rest last) ran.1.1 ran.2)))

-- ---- a connection that is opened
opened_if : (b : Bool) (c : ℕ) (x : Unit {0}) (p : Place) (h : HeldView) (acts : List Act) → If b (Returns tt) (Acting (λ p h. Connection (Opened c))) (Some x) p h acts → cond b (acts ≡ []) (acts ≡ Connection (Opened c) ∷ [])
opened_if true c x p h acts d = d.1
opened_if false c x p h acts d = d.1

module _ (e : Event) (p : Place) (h : HeldView) (c : ℕ) (kind : e.kind ≡ kinds.Opened c) (started : h.started ≡ true) where
  opened_last : (acts : List Act) → turns.Decides e (Some tt) p h acts → IsOpenedLast p h e.at c acts
  opened_last acts d =
      let t = turned e p h (subst IsAfterStart (sym kind) tt) started acts d in
      record { first = t.first; opened = opened_if (is_open c t.first.held) c tt p t.first.held t.first.rest (subst (λ (k : EventKind). turns.AnswersEvent k (Some tt) p t.first.held t.first.rest) kind t.answers) }

pub connections_are_opened : ConnectionsAreOpened
connections_are_opened = λ e p h acts d c kind started. opened_last e p h c kind started acts d

-- ---- a connection that is closed
-- of a client without a session nothing is due
none_due_of : (client : List ℕ) (x : Unit {0}) (p : Place) (h : HeldView) (acts : List Act) → seat_at client h ≡ None → ending.DoesDueOf client (Some x) p h acts → acts ≡ []
none_due_of client x p h acts nobody (inl d) = none_some (sym d.0)
none_due_of client x p h acts nobody (inr (y, own, mid, rest, one, ran, more, is)) =
    let will : will_is_due client h ≡ false = ap (λ (o : Option Seat). is_due (option_and_then (λ s. will_due s.session.kept) o) h.at) nobody in
    let first : own ≡ [] = (if_not (will_is_due client h) (ending.Ticks client) (Returns tt) (Some y) p h own will one).1 in
    let same : mid ≡ h = subst (λ xs. Runs p h xs mid) first ran in
    let end : end_is_due client mid ≡ false = ap (λ (v : HeldView). end_is_due client v) same ∙ ap (λ (o : Option Seat). is_due (option_and_then (λ s. end_due s.session.kept) o) h.at) nobody in
    let second : rest ≡ [] = (if_not (end_is_due client mid) (ending.Ticks client) (Returns tt) (Some x) p mid rest end more).1 in
    is ∙ (λ i. first i ++ second i)

told_by : (found : Option Seat) (client : List ℕ) (c : ℕ) (r : Reaction) (x : Unit {0}) (p : Place) (h mid : HeldView) (own rest : List Act) → seat_at client h ≡ found → CallsAt client closes leaves found (Some r) p (next h (Connection (Shut c))) own
    → Runs p (next h (Connection (Shut c))) own mid → ending.DoesDueOf client (Some x) p mid rest → cond (is_some found) (IsTold h client (own ++ rest)) (own ++ rest ≡ [])
told_by None client c r x p h mid own rest nobody d ran more =
    let same : mid ≡ next h (Connection (Shut c)) = subst (λ xs. Runs p (next h (Connection (Shut c))) xs mid) d.1 ran in
    let none : rest ≡ [] = none_due_of client x p mid rest (ap (λ (v : HeldView). seat_at client v) same ∙ nobody) more in
    (λ i. d.1 i ++ none i)
told_by (Some seat) client c r x p h mid own rest there d ran more =
    let a = call client closes leaves seat r p (next h (Connection (Shut c))) own d in
    record { call = a.step; follows = rest; is = ap (λ zs. zs ++ rest) a.is; of = a.of; off = a.to; event = a.event_is }

parts_told : (client : List ℕ) (c : ℕ) (x : Unit {0}) (p : Place) (h : HeldView) (acts : List Act) → ending.Parts client (Some x) p (next h (Connection (Shut c))) acts → cond (has_session client h) (IsTold h client acts) (acts ≡ [])
parts_told client c x p h acts (inl d) = none_some (sym d.0)
parts_told client c x p h acts (inr (r, own, mid, rest, one, ran, more, is)) =
    subst (λ zs. cond (has_session client h) (IsTold h client zs) (zs ≡ [])) (sym is) (told_by (seat_at client h) client c r x p h mid own rest refl one ran more)

left_of : (client : Option (List ℕ)) (c : ℕ) (x : Unit {0}) (p : Place) (h : HeldView) (acts : List Act) → pieces.LeavesBy c client (Some x) p h acts → IsLeft h c client acts
left_of client c x p h acts (inl d) = none_some (sym d.0)
left_of None c x p h acts (inr (y, own, mid, rest, one, ran, more, is)) = is ∙ (λ i. one.1 i ++ more.1 i)
left_of (Some client) c x p h acts (inr (y, own, mid, rest, one, ran, more, is)) =
    let left : mid ≡ next h (Connection (Shut c)) = left_by p h mid (Connection (Shut c)) own one.1 ran in
    (rest, is ∙ ap (λ zs. zs ++ rest) one.1, parts_told client c x p h rest (subst (λ v. ending.Parts client (Some x) p v rest) left more))

left_if : (b : Bool) (c : ℕ) (x : Unit {0}) (p : Place) (h : HeldView) (acts : List Act) → If b (Looks (λ p h. client_at c h) (pieces.LeavesBy c)) (Returns tt) (Some x) p h acts → cond b (IsLeft h c (client_at c h) acts) (acts ≡ [])
left_if true c x p h acts d = left_of (client_at c h) c x p h acts d
left_if false c x p h acts d = d.1

module _ (e : Event) (p : Place) (h : HeldView) (c : ℕ) (kind : e.kind ≡ kinds.Closed c) (started : h.started ≡ true) where
  closed_last : (acts : List Act) → turns.Decides e (Some tt) p h acts → IsClosedLast p h e.at c acts
  closed_last acts d =
      let t = turned e p h (subst IsAfterStart (sym kind) tt) started acts d in
      record { first = t.first; left = left_if (is_open c t.first.held) c tt p t.first.held t.first.rest (subst (λ (k : EventKind). turns.AnswersEvent k (Some tt) p t.first.held t.first.rest) kind t.answers) }

pub closes_are_told : ClosesAreTold
closes_are_told = λ e p h acts d c kind started. closed_last e p h c kind started acts d
