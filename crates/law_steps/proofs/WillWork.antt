-- A will that a session asks to pass on is passed on directly after that.
use Rattle.std.proofs.Common.{◌≡◌, ◌≢◌, inl, inr, ℕ, Bool, true, false, cond, List, [], ◌∷◌, ◌++◌, Option, Some, None, refl, sym, ap, ◌∙◌, subst}
use Rattle.std.specs.FinMap as map
use Rattle.std.specs.List.{AllByRecursion}
use Rattle.std.specs.Ordering.{eq_by_cmp}
use Rattle.bridge_deltas.specs.declared.offer.Offer.{Offer}
use Rattle.bridge_deltas.specs.declared.offer.Offer.TheVariants.{Queued, Full, AtEnd}
use Rattle.bridge_frames.specs.declared.forward.Forward.{Forward}
use Rattle.session_table.specs.Dues.{Due}
use Rattle.law_maps.proofs.Texts.{same_text, get_apart}
use Rattle.mqtt_message.specs.declared.message.Message.{Message}
use Rattle.mqtt_sessions.specs.declared.reaction.Ask.{Ask}
use Rattle.mqtt_sessions.specs.declared.reaction.Ask.TheVariants as asks
use Rattle.mqtt_sessions.specs.Ending.{end_due, has_run_out, is_due, ticked_if, timed_out, will_due}
use Rattle.mqtt_sessions.specs.Reaction.{Reaction}
use Rattle.mqtt_sessions.specs.State.{Link, State}
use Rattle.replica_store.specs.Making.{put_of, subscribe_of}
use Rattle.law_sessions.specs.Runs.{Event, connects, queues, rooms, takes, answers, closes, ticks, finishes, loses}
use Rattle.session_table.specs.Calls.{stays, leaves}
use Rattle.session_table.specs.Listing.{text_cmp}
use Rattle.session_table.specs.Seats.{Seat, run_outs}
use Rattle.node_work.specs.declared.counts.Missed.TheVariants.{LaneFull}
use Rattle.node_work.specs.declared.outcome.Output.TheVariants.{Close}
use Rattle.node_work.specs.Acts.{Act, Store, Connection, Session, Bridge, Out, Acknowledged, Passed, Dropped, Made, Runs, next}
use Rattle.node_work.specs.Calling.{Calls, CallsAt}
use Rattle.node_work.specs.Doings.{PutsInLaneBy}
use Rattle.node_work.specs.Held.Bridge.{Put, Left_out}
use Rattle.node_work.specs.Held.Connections.{Closed as Closed_at}
use Rattle.node_work.specs.Held.Making.{number_at_end, put_at_end, removal, removal_below}
use Rattle.node_work.specs.Held.Sessions.{SessionStep, Called, Over, seat_at}
use Rattle.node_work.specs.Passing.{turn_at_end}
use Rattle.node_work.specs.View.{Place, HeldView}
use Rattle.node_work.specs.Working.{Doing, Returns, Acting, If, Then, Each}
use Rattle.node_clients.specs.Ending as ending
use Rattle.node_clients.specs.Passing as passing
use Rattle.node_clients.proofs.Determined.{runs_determined}
use Rattle.broker_node.specs.Due as due
use Rattle.law_runs.proofs.Keeping.{Keeps, calling_by, none_some}
use Rattle.law_runs.proofs.Passing.{passes_on, passes_more}
use Rattle.law_runs.proofs.Splits.{head_is, tail_is, none_there, alone_is, left_by, runs_split, splits}
use Rattle.law_runs.specs.StepPublishing.{BeginsWithPassingOn}
use Rattle.law_steps.specs.Wills.{MayPublishWill, AsksForWill, BeginsDropped, IsPublished}
use Rattle.law_steps.proofs.Below.{Low, IsSmall, follows}
use Rattle.law_steps.proofs.Dues.{IsSeated, ClientsApart, dues_seated, dues_apart}
use Rattle.law_steps.proofs.Joining.{Closed, j_returns, j_stops, j_acting, j_numbered, j_looks, j_finds, j_if, j_where, j_then, j_calls}

-- ---- the calls among acts
abbrev pub Told : SessionStep → HeldView → List Act → Type 0
Told s h after = (m : Message) → AsksForWill s m → IsPublished h m s.at after

published_by : (b : Bool) (m : Message) (at : ℕ) (h : HeldView) (xs ys : List Act) → cond b (BeginsDropped xs) (BeginsWithPassingOn m at h.bridge xs) → cond b (BeginsDropped (xs ++ ys)) (BeginsWithPassingOn m at h.bridge (xs ++ ys))
published_by true m at h xs ys d = (d.0 ++ ys, ap (λ zs. zs ++ ys) d.1)
published_by false m at h xs ys d = passes_more m at h.bridge xs ys d

published_more : (m : Message) (at : ℕ) (h : HeldView) (xs ys : List Act) → IsPublished h m at xs → IsPublished h m at (xs ++ ys)
published_more m at h xs ys d = published_by (passing.lacks_room m h) m at h xs ys d

abbrev pub T : Place → HeldView → List Act → Type 0
T p h acts = (before after : List Act) (s : SessionStep) (held : HeldView) → acts ≡ before ++ Session (Called s) ∷ after → Runs p h before held → Told s held after

both_told : (p : Place) (h mid : HeldView) (xs ys : List Act) → Runs p h xs mid → T p h xs → T p mid ys → T p h (xs ++ ys)
both_told p h mid xs ys runs f g before after s held is ran m asks =
    elim (splits xs ys before after (Session (Called s)) is) [
      | inl r ↦ subst (IsPublished held m s.at) (sym r.2) (published_more m s.at held r.0 ys (f before r.0 s held r.1 ran m asks))
      | inr r ↦ (
          let parts = runs_split p xs r.0 h held (subst (λ zs. Runs p h zs held) r.1 ran) in
          let same : parts.0 ≡ mid = runs_determined p xs h parts.0 mid parts.1 runs in
          g r.0 after s held r.2 (subst (λ v. Runs p v r.0 held) same parts.2) m asks)
    ]

pub c : Closed T
c = record { none = λ p h before after s held is ran. none_there before after (Session (Called s)) is; both = both_told }

-- an act that is no call, and a call that publishes no will
abbrev IsOther : Act → Type 0
IsOther (Session (Called s)) = MayPublishWill s.event → ⊥
IsOther a = Unit {0}

pub one_told : (p : Place) (h : HeldView) (a : Act) → IsOther a → T p h (a ∷ [])
one_told p h a other before after s held is ran m asks = absurd (subst IsOther (alone_is a (Session (Called s)) before after is) other asks.event)

abbrev pub K : (A : Type 0) → (Option A → Doing) → Type 0
K A P = Keeps T P

puts_by : (peer : ℕ) (m : Forward) (o : Offer) → K (Unit {0}) (PutsInLaneBy peer m o)
puts_by peer m (Queued n) = j_acting T c (λ p h. Bridge (Put peer m)) (λ p h. one_told p h (Bridge (Put peer m)) tt)
puts_by peer m Full = j_acting T c (λ p h. Bridge (Left_out LaneFull)) (λ p h. one_told p h (Bridge (Left_out LaneFull)) tt)
puts_by peer m AtEnd = j_stops T c

small_other : (e : Event) → IsSmall e → MayPublishWill e → ⊥
small_other (connects q continued room now) small will = small
small_other (queues d now) small will = will
small_other (rooms bytes now) small will = will
small_other (takes k now room) small will = small
small_other (answers id codes) small will = will
small_other (closes now) small will = will
small_other (ticks now) small will = small
small_other (finishes now) small will = small
small_other loses small will = small

pub call_other : (event : ℕ → Event) → ((at : ℕ) → MayPublishWill (event at) → ⊥) → (p : Place) (h : HeldView) (s : SessionStep) → s.event ≡ event h.at → T p h (Session (Called s) ∷ [])
call_other event other p h s is = one_told p h (Session (Called s)) (λ will. other h.at (subst MayPublishWill is will))

pub low : Low K
low = record {
  returns = j_returns T c;
  stops = j_stops T c;
  looks = j_looks T c;
  finds = j_finds T c;
  by_test = j_if T c;
  by_whether = j_where T c;
  join = j_then T c;
  calls = λ client event on small. j_calls T c client event on (call_other event (λ at. small_other (event at) (small at)));
  put = λ content. j_numbered T c (λ p h. put_at_end p.id h) (λ p h. Store (Made (put_of p.id content h.store))) (λ p h. one_told p h (Store (Made (put_of p.id content h.store))) tt);
  subscribe = λ entry. j_numbered T c (λ p h. number_at_end p.id h) (λ p h. Store (Made (subscribe_of p.id entry h.store))) (λ p h. one_told p h (Store (Made (subscribe_of p.id entry h.store))) tt);
  remove = λ client to. j_numbered T c (λ p h. number_at_end p.id h) (λ p h. Store (Made (removal p.id client to h.store))) (λ p h. one_told p h (Store (Made (removal p.id client to h.store))) tt);
  remove_below = λ client version. j_numbered T c (λ p h. number_at_end p.id h) (λ p h. Store (Made (removal_below p.id client version h.store))) (λ p h. one_told p h (Store (Made (removal_below p.id client version h.store))) tt);
  over = λ client. j_acting T c (λ p h. Session (Over client)) (λ p h. one_told p h (Session (Over client)) tt);
  passed = λ m x. j_numbered T c turn_at_end (λ p h. Passed m x.0 x.1.0 x.1.1) (λ p h. one_told p h (Passed m x.0 x.1.0 x.1.1) tt);
  puts = puts_by;
  missed = λ what other. j_acting T c (λ p h. Bridge (Left_out what)) (λ p h. one_told p h (Bridge (Left_out what)) tt);
  dropped = j_acting T c (λ p h. Dropped) (λ p h. one_told p h Dropped tt);
  acknowledged = λ client packet given os. j_acting T c (λ p h. Acknowledged client packet h.at given os) (λ p h. one_told p h (Acknowledged client packet h.at given os) tt);
}

-- ---- a call whose will and end follow
-- a call with what follows it
call_told : (p : Place) (h mid : HeldView) (s : SessionStep) (rest : List Act) → mid ≡ next h (Session (Called s)) → Told s h rest → T p mid rest → T p h (Session (Called s) ∷ rest)
call_told p h mid s rest left told more [] after t held is ran =
    let same : s ≡ t = (let z = head_is is in cc) in
    subst (λ (v : HeldView). Told t v after) (sym ran) (subst (λ (v : SessionStep). Told v h after) same (subst (Told s h) (tail_is is) told))
call_told p h mid s rest left told more (b ∷ before) after t held is ran =
    let same : ran.0 ≡ mid = ran.1.1 ∙ ap (next h) (sym (head_is is)) ∙ sym left in
    more before after t held (tail_is is) (subst (λ v. Runs p v before held) same ran.2)

-- the will, by what the node holds after the call, which is of its room and its lanes what it held before
will_by : (b : Bool) (m : Message) (x : Unit {0}) (p : Place) (mid : HeldView) (acts : List Act) → If b passing.Drops (passing.Passes m) (Some x) p mid acts → cond b (BeginsDropped acts) (BeginsWithPassingOn m mid.at mid.bridge acts)
will_by true m x p mid acts d = ([], d.1)
will_by false m x p mid acts d = passes_on m x p mid acts d

asked_told : (m : Message) (r : Reaction) (client : List ℕ) (x : Unit {0}) (p : Place) (mid : HeldView) (acts : List Act) → r.ask ≡ Some (asks.Pass m) → ending.FollowsReaction client r (Some x) p mid acts → IsPublished mid m mid.at acts
asked_told m r client x p mid acts is (inl d) = none_some (sym d.0)
asked_told m r client x p mid acts is (inr (y, own, mid2, rest, one, runs, more, all)) =
    let will : ending.PassesAsked (Some (asks.Pass m)) (Some y) p mid own = subst (λ (o : Option Ask). ending.PassesAsked o (Some y) p mid own) is one in
    subst (IsPublished mid m mid.at) (sym all) (published_more m mid.at mid own rest (will_by (passing.lacks_room m mid) m y p mid own will))

followed : (client : List ℕ) (event : ℕ → Event) (found : Option Seat) (r : Reaction) (x : Unit {0}) (p : Place) (h mid : HeldView) (own rest : List Act)
    → CallsAt client event stays found (Some r) p h own → Runs p h own mid → ending.FollowsReaction client r (Some x) p mid rest → T p h (own ++ rest)
followed client event None r x p h mid own rest d runs more =
    let same : mid ≡ h = subst (λ xs. Runs p h xs mid) d.1 runs in
    subst (λ xs. T p h (xs ++ rest)) (sym d.1) (subst (λ v. T p v rest) same ((follows K low client r).of x p mid rest more))
followed client event (Some seat) r x p h mid own rest d runs more =
    let k = calling_by client event stays seat r p h own d in
    let left : mid ≡ next h (Session (Called k.step)) = left_by p h mid (Session (Called k.step)) own k.acts_are runs in
    let at : mid.at ≡ k.step.at = ap (λ (v : HeldView). v.at) left ∙ sym k.at_is in
    let told : Told k.step h rest = λ m asks. (let d = asked_told m r client x p mid rest (ap (λ (v : Reaction). v.ask) (sym k.reaction_is) ∙ asks.asks) more in
    subst (λ n. cond (passing.lacks_room m h) (BeginsDropped rest) (BeginsWithPassingOn m n h.bridge rest)) at (subst (λ (v : HeldView). cond (passing.lacks_room m (record h { store = v.store })) (BeginsDropped rest) (BeginsWithPassingOn m mid.at v.bridge rest)) left d)) in
    subst (λ xs. T p h (xs ++ rest)) (sym k.acts_are) (call_told p h mid k.step rest left told ((follows K low client r).of x p mid rest more))

calls_then : (client : List ℕ) (event : ℕ → Event) (x : Unit {0}) (p : Place) (h : HeldView) (acts : List Act) → Then (Calls client event stays) (ending.FollowsReaction client) (Some x) p h acts → T p h acts
calls_then client event x p h acts (inl d) = none_some (sym d.0)
calls_then client event x p h acts (inr (r, own, mid, rest, one, runs, more, is)) = subst (T p h) (sym is) (followed client event (seat_at client h) r x p h mid own rest one runs more)

pub ticks_of : (client : List ℕ) → K (Unit {0}) (ending.Ticks client)
ticks_of client = record { of = λ x p h acts d. calls_then client ticks x p h acts d }

pub finishes_of : (client : List ℕ) → K (Unit {0}) (ending.Finishes client)
finishes_of client = record { of = λ x p h acts d. calls_then client finishes x p h acts d }

-- ---- a Keep Alive that has run out publishes no will
-- the client's session, if there is one, has run out
abbrev pub HasRunOut : HeldView → List ℕ → Type 0
HasRunOut h client = (seat : Seat) → map.get h.sessions client ≡ Some seat → has_run_out seat.session.link h.at ≡ true

closed_told : (n : ℕ) → K (Unit {0}) (ending.ClosesConnection n)
closed_told n =
    j_then T c (Acting (λ p h. Connection (Closed_at n))) (λ _. Acting (λ p h. Out (Close n))) (j_acting T c (λ p h. Connection (Closed_at n)) (λ p h. one_told p h (Connection (Closed_at n)) tt))
    (λ _. j_acting T c (λ p h. Out (Close n)) (λ p h. one_told p h (Out (Close n)) tt))

timed_asks : (o : Option Link) (s : State) → (timed_out o s).reaction.ask ≡ None
timed_asks None s = refl
timed_asks (Some l) s = refl

run_out_asks : (b : Bool) (now : ℕ) (s new : State) (r : Reaction) → b ≡ true → (r ≡ (ticked_if b (is_due (will_due s.kept) now) (is_due (end_due s.kept) now) now s).reaction) → r.ask ≡ None
run_out_asks true now s new r so is = ap (λ (v : Reaction). v.ask) is ∙ timed_asks s.link s
run_out_asks false now s new r so is = absurd (let z : false ≡ true = so in cc)

ticks_out : (client : List ℕ) (found : Option Seat) (r : Reaction) (p : Place) (h : HeldView) (acts : List Act) → seat_at client h ≡ found → HasRunOut h client → CallsAt client ticks stays found (Some r) p h acts → T p h acts
ticks_out client None r p h acts is out d = subst (T p h) (sym d.1) (c.none p h)
ticks_out client (Some seat) r p h acts is out (inl d) = none_some (sym d.0)
ticks_out client (Some seat) r p h acts is out (inr (q, after, answer, reacts, acts_are)) =
    let s : SessionStep = record { client = client; on = stays seat.connection; at = h.at; event = ticks h.at; reaction = q; after = after } in
    let none : q.ask ≡ None = run_out_asks (has_run_out seat.session.link h.at) h.at seat.session after q (out seat is) reacts.0 in
    let told : Told s h [] = λ m asks. none_some (sym none ∙ asks.asks) in
    subst (T p h) (sym acts_are) (call_told p h (next h (Session (Called s))) s [] refl told (c.none p (next h (Session (Called s)))))

-- what it leaves of the others: the moment, and their sessions
abbrev pub LeavesOthers : List ℕ → HeldView → HeldView → Type 0
LeavesOthers client h h' = (h'.at ≡ h.at) × ((q : List ℕ) → q ≢ client → map.get h'.sessions q ≡ map.get h.sessions q)

pub others_then : (client : List ℕ) (a b d : HeldView) → LeavesOthers client a b → LeavesOthers client b d → LeavesOthers client a d
others_then client a b d x y = (y.0 ∙ x.0, λ q ne. y.1 q ne ∙ x.1 q ne)

pub others_same : (client : List ℕ) (h h' : HeldView) → h' ≡ h → LeavesOthers client h h'
others_same client h h' e = (ap (λ (v : HeldView). v.at) e, λ q ne. ap (λ (v : HeldView). map.get v.sessions q) e)

not_tied : (q client : List ℕ) → q ≢ client → eq_by_cmp text_cmp q client ≡ false
not_tied q client ne = by (eq_by_cmp text_cmp q client) refl
  where
    by : (b : Bool) → eq_by_cmp text_cmp q client ≡ b → eq_by_cmp text_cmp q client ≡ false
    by true e = absurd (ne (same_text q client e))
    by false e = e

pub calls_others : (client : List ℕ) (event : ℕ → Event) (on : Option ℕ → Option ℕ) (found : Option Seat) (r : Reaction) (p : Place) (h h' : HeldView) (acts : List Act) → CallsAt client event on found (Some r) p h acts → Runs p h acts h' → LeavesOthers client h h'
calls_others client event on None r p h h' acts d runs = others_same client h h' (subst (λ xs. Runs p h xs h') d.1 runs)
calls_others client event on (Some seat) r p h h' acts d runs =
    let k = calling_by client event on seat r p h acts d in
    let left : h' ≡ next h (Session (Called k.step)) = left_by p h h' (Session (Called k.step)) acts k.acts_are runs in (
      ap (λ (v : HeldView). v.at) left,
      λ q ne. ap (λ (v : HeldView). map.get v.sessions q) left ∙ get_apart h.sessions k.step.client _ q (not_tied q k.step.client (λ e. ne (e ∙ k.client_is))),
    )

pub closes_others : (client : List ℕ) (n : ℕ) (x : Unit {0}) (p : Place) (h h' : HeldView) (acts : List Act) → ending.ClosesConnection n (Some x) p h acts → Runs p h acts h' → LeavesOthers client h h'
closes_others client n x p h h' acts (inl d) runs = none_some (sym d.0)
closes_others client n x p h h' acts (inr (y, own, mid, rest, one, ran, more, is)) runs =
    let both = runs_split p own rest h h' (subst (λ xs. Runs p h xs h') is runs) in
    let first : both.0 ≡ next h (Connection (Closed_at n)) = left_by p h both.0 (Connection (Closed_at n)) own one.1 both.1 in
    let second : h' ≡ next both.0 (Out (Close n)) = left_by p both.0 h' (Out (Close n)) rest more.1 both.2 in
    (ap (λ (v : HeldView). v.at) second ∙ ap (λ (v : HeldView). v.at) first, λ q ne. ap (λ (v : HeldView). map.get v.sessions q) second ∙ ap (λ (v : HeldView). map.get v.sessions q) first)

-- one that has run out
pub record RanOut (client : List ℕ) (p : Place) (h h' : HeldView) (acts : List Act) : Type 0 where
  pub told : T p h acts
  pub others : LeavesOthers client h h'

parts_told : (client : List ℕ) (x : Unit {0}) (p : Place) (h h' : HeldView) (acts : List Act) → due.PartsFrom client (Some x) p h acts → Runs p h acts h' → RanOut client p h h' acts
parts_told client x p h h' acts (inl d) runs = none_some (sym d.0)
parts_told client x p h h' acts (inr (r, own, mid, rest, one, ran, more, is)) runs =
    let both = runs_split p own rest h h' (subst (λ xs. Runs p h xs h') is runs) in
    let same : both.0 ≡ mid = runs_determined p own h both.0 mid both.1 ran in
    let end : h' ≡ mid = subst (λ xs. Runs p mid xs h') more.1 (subst (λ v. Runs p v rest h') same both.2) in
    record {
      told = (low.join (Calls client closes leaves) (λ _. Returns tt) (low.calls client closes leaves (λ at. tt)) (λ _. low.returns tt)).of x p h acts (inr (r, own, mid, rest, one, ran, more, is));
      others = others_then client h mid h' (calls_others client closes leaves (seat_at client h) r p h mid own one ran) (others_same client mid h' end);
    }

pub runs_out : (d : Due) (x : Unit {0}) (p : Place) (h h' : HeldView) (acts : List Act) → HasRunOut h d.1 → due.RunsOut d (Some x) p h acts → Runs p h acts h' → RanOut d.1 p h h' acts
runs_out d x p h h' acts out (inl e) runs = none_some (sym e.0)
runs_out d x p h h' acts out (inr (r, own, mid, rest, one, ran, (inl e), is)) runs = none_some (sym e.0)
runs_out d x p h h' acts out (inr (r, own, mid, rest, one, ran, (inr (y, close, left, last, closing, gone, more, whole)), is)) runs =
    let both = runs_split p own rest h h' (subst (λ xs. Runs p h xs h') is runs) in
    let same : both.0 ≡ mid = runs_determined p own h both.0 mid both.1 ran in
    let more_runs = runs_split p close last mid h' (subst (λ xs. Runs p mid xs h') whole (subst (λ v. Runs p v rest h') same both.2)) in
    let there : more_runs.0 ≡ left = runs_determined p close mid more_runs.0 left more_runs.1 gone in
    let end = parts_told d.1 x p left h' last more (subst (λ v. Runs p v last h') there more_runs.2) in
    record {
      told = subst (T p h) (sym is) (both_told p h mid own rest ran (ticks_out d.1 (seat_at d.1 h) r p h own refl out one)
          (subst (T p mid) (sym whole) (both_told p mid left close last gone ((closed_told d.0).of y p mid close closing) end.told)));
      others = others_then d.1 h mid h' (calls_others d.1 ticks stays (seat_at d.1 h) r p h mid own one ran)
          (others_then d.1 mid left h' (closes_others d.1 d.0 y p mid left close closing gone) end.others);
    }

still_out : (client : List ℕ) (h h' : HeldView) (ds : List Due) → LeavesOthers client h h' → AllByRecursion (λ (x : Due). x.1 ≢ client) ds → AllByRecursion (λ (d : Due). HasRunOut h d.1) ds → AllByRecursion (λ (d : Due). HasRunOut h' d.1) ds
still_out client h h' [] same apart out = tt
still_out client h h' (d ∷ ds) same apart out = (
  λ seat is. ap (has_run_out seat.session.link) same.0 ∙ out.0 seat (sym (same.1 d.1 apart.0) ∙ is),
  still_out client h h' ds same apart.1 out.1,
)

each_out : (ds : List Due) (x : Unit {0}) (p : Place) (h : HeldView) (acts : List Act) → ClientsApart ds → AllByRecursion (λ (d : Due). HasRunOut h d.1) ds → Each due.RunsOut ds (Some x) p h acts → T p h acts
each_out [] x p h acts apart out d = subst (T p h) (sym d.1) (c.none p h)
each_out (d ∷ ds) x p h acts apart out (inl e) = none_some (sym e.0)
each_out (d ∷ ds) x p h acts apart out (inr (y, own, mid, rest, one, ran, more, is)) =
    let first = runs_out d y p h mid own out.0 one ran in
    subst (T p h) (sym is) (both_told p h mid own rest ran first.told (each_out ds x p mid rest apart.1 (still_out d.1 h mid ds first.others apart.0 out.1) more))

-- each of those that have run out
pub run_out_by : (b : Bool) (o : Option ℕ) (n : ℕ) → cond b o None ≡ Some n → b ≡ true
run_out_by true o n e = refl
run_out_by false o n e = none_some e

all_out : (h : HeldView) (ds : List Due) → AllByRecursion (IsSeated (λ (s : Seat). cond (has_run_out s.session.link h.at) s.connection None) h.sessions) ds → AllByRecursion (λ (d : Due). HasRunOut h d.1) ds
all_out h [] a = tt
all_out h (d ∷ ds) a = (
  λ seat is. (let same : a.0.0 ≡ seat = (let z : Some a.0.0 ≡ Some seat = sym a.0.1 ∙ is in cc) in
      subst (λ (s : Seat). has_run_out s.session.link h.at ≡ true) same (run_out_by (has_run_out a.0.0.session.link h.at) a.0.0.connection d.0 a.0.2)),
  all_out h ds a.1,
)

pub run_out : K (Unit {0}) due.EndsConnections
run_out = record {
  of = λ x p h acts d. (let number = λ (s : Seat). cond (has_run_out s.session.link h.at) s.connection None in
      each_out (run_outs h.sessions h.at) x p h acts (dues_apart number h.sessions) (all_out h (run_outs h.sessions h.at) (dues_seated number h.sessions)) d);
}
