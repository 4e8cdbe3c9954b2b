-- Where something is due, or a client goes away, nothing else is done.
use Rattle.std.proofs.Common.{◌≡◌, inl, inr, ℕ, Bool, true, false, cond, is_some, List, [], ◌∷◌, ◌++◌, Option, Some, None, refl, sym, ap, ◌∙◌, subst}
use Rattle.std.proofs.lemmas.List.{append-nil}
use Rattle.session_table.specs.Dues.{Due}
use Rattle.mqtt_sessions.specs.declared.reaction.Ask.{Ask}
use Rattle.mqtt_sessions.specs.Reaction.{Reaction, nothing}
use Rattle.mqtt_sessions.specs.State.{State}
use Rattle.law_sessions.specs.Runs.{Event, closes, finishes, ticks}
use Rattle.session_table.specs.Calls.{leaves, stays}
use Rattle.session_table.specs.Seats.{Seat, run_outs, wills_due, ends_due}
use Rattle.subscription_set.specs.Standing.{any_below}
use Rattle.node_work.specs.declared.outcome.Output.TheVariants.{Close}
use Rattle.node_work.specs.Acts.{Act, Store, Made, Connection, Session, Out, Runs, next}
use Rattle.node_work.specs.Calling.{CallsAt}
use Rattle.node_work.specs.Doings.{MakesRemoveBelow}
use Rattle.node_work.specs.Held.Connections.{Closed}
use Rattle.node_work.specs.Held.Making.{number_at_end, removal_below}
use Rattle.node_work.specs.Held.Sessions.{SessionStep, Called, Over, has_session, seat_at, will_is_due, end_is_due}
use Rattle.node_work.specs.View.{Place, HeldView}
use Rattle.node_work.specs.Working.{Returns, If, Then, Each}
use Rattle.node_clients.specs.Ending as ending
use Rattle.node_clients.specs.Pieces as pieces
use Rattle.broker_node.specs.Due as due
use Rattle.law_runs.proofs.Keeping.{none_some}
use Rattle.law_runs.proofs.Passing.{numbered}
use Rattle.law_runs.proofs.Splits.{left_by}
use Rattle.law_steps.proofs.ClosingLaws.{second_runs}
use Rattle.law_steps.specs.Due.{InOrder}
use Rattle.law_steps.specs.Starting.{IsClosed}
use Rattle.law_steps.proofs.DueDone.{call}
use Rattle.law_steps.proofs.TakenLaws.{closed}
use Rattle.law_steps.specs.Ending.{EndsAlone, DoesOwn, OwnIsDone, TickIsDone, AllDueIsDone, Parts, ClosesOn, LeavesFrom, removed_below}
use Rattle.law_steps.specs.Passing.{PassesWillOn}
use Rattle.law_steps.proofs.Outs.{outs_in_order}
use Rattle.law_steps.proofs.Passed.{asked_on}

-- ---- the end of a session
removed : (b : Bool) (client : List ℕ) (version : ℕ) (x : Bool) (p : Place) (h : HeldView) (acts : List Act) → If b (Then (MakesRemoveBelow client version) (λ _. Returns true)) (Returns false) (Some x) p h acts
    → acts ≡ cond b (Store (Made (removal_below p.id client version h.store)) ∷ []) []
removed true client version x p h acts (inl d) = none_some (sym d.0)
removed true client version x p h acts (inr (y, own, mid, rest, one, ran, more, is)) =
    let a = Store (Made (removal_below p.id client version h.store)) in
    let alone : own ≡ a ∷ [] = numbered (number_at_end p.id h) y a own one in
    is ∙ (λ i. alone i ++ more.1 i)
removed false client version x p h acts d = d.1

ends_alone : (client : List ℕ) (x : Unit {0}) (p : Place) (h : HeldView) (acts : List Act) → ending.EndsSession client (Some x) p h acts → EndsAlone p h client acts
ends_alone client x p h acts (inl d) = none_some (sym d.0)
ends_alone client x p h acts (inr (y, own, mid, rest, (node, home, one), ran, more, is)) =
    let version = ending.ends_below node p h in
    let first : own ≡ removed_below p.id client version h = removed (any_below client version h.store.subscriptions) client version y p h own one in
    record { home = node; is_home = home; is = is ∙ (λ i. first i ++ more.1 i) }

ended_if : (over : Bool) (client : List ℕ) (x : Unit {0}) (p : Place) (h : HeldView) (acts : List Act) → If over (ending.EndsSession client) (Returns tt) (Some x) p h acts → cond over (EndsAlone p h client acts) (acts ≡ [])
ended_if true client x p h acts d = ends_alone client x p h acts d
ended_if false client x p h acts d = d.1

-- ---- a tick of a session, or its end now
-- of a client without a session nothing follows
none_followed : (client : List ℕ) (r : Reaction) (x : Unit {0}) (p : Place) (h : HeldView) (acts : List Act) → r ≡ nothing → ending.FollowsReaction client r (Some x) p h acts → acts ≡ []
none_followed client r x p h acts same d = by (subst (λ v. ending.FollowsReaction client v (Some x) p h acts) same d)
  where
    by : ending.FollowsReaction client nothing (Some x) p h acts → acts ≡ []
    by (inl e) = none_some (sym e.0)
    by (inr (y, own, mid, rest, one, ran, more, is)) = is ∙ (λ i. one.1 i ++ more.1 i)

module _ (event : ℕ → Event) (client : List ℕ) (x : Unit {0}) (p : Place) (h : HeldView) where
  followed : (s : SessionStep) (r : Reaction) (mid : HeldView) (rest : List Act) → s.client ≡ client → s.event ≡ event h.at → s.reaction ≡ r → mid ≡ next h (Session (Called s)) → ending.FollowsReaction client r (Some x) p mid rest
      → DoesOwn event p h client (Session (Called s) ∷ rest)
  followed s r mid rest of is_event reaction left (inl d) = none_some (sym d.0)
  followed s r mid rest of is_event reaction left (inr (y, asked, held, ended, one, ran, more, is)) =
      let here = next h (Session (Called s)) in
      record {
        call = s;
        asked = asked;
        ended = ended;
        is = ap (λ zs. Session (Called s) ∷ zs) is;
        of = of;
        event_is = is_event;
        asks = subst (λ o. PassesWillOn here o asked) (ap (λ (v : Reaction). v.ask) (sym reaction)) (subst (λ v. PassesWillOn v r.ask asked) left (asked_on r.ask y p mid asked one));
        held = held;
        runs = subst (λ v. Runs p v asked held) left ran;
        ends = subst (λ b. cond b (EndsAlone p held client ended) (ended ≡ [])) (ap (λ (v : Reaction). v.over) (sym reaction)) (ended_if r.over client x p held ended more);
      }

  own_by : (found : Option Seat) (r : Reaction) (mid : HeldView) (own rest : List Act) → seat_at client h ≡ found → CallsAt client event stays found (Some r) p h own → Runs p h own mid → ending.FollowsReaction client r (Some x) p mid rest
      → cond (is_some found) (DoesOwn event p h client (own ++ rest)) (own ++ rest ≡ [])
  own_by None r mid own rest there d ran more =
      let same : r ≡ nothing = (let z : Some r ≡ Some nothing = d.0 in cc) in
      let none : rest ≡ [] = none_followed client r x p mid rest same more in
      (λ i. d.1 i ++ none i)
  own_by (Some seat) r mid own rest there d ran more =
      let a = call client event stays seat r p h own d in
      let left : mid ≡ next h (Session (Called a.step)) = left_by p h mid (Session (Called a.step)) own a.is ran in
      subst (DoesOwn event p h client) (ap (λ zs. zs ++ rest) (sym a.is)) (followed a.step r mid rest a.of a.event_is a.reaction left more)

pub finish_alone : (client : List ℕ) (x : Unit {0}) (p : Place) (h : HeldView) (acts : List Act) → ending.Finishes client (Some x) p h acts → OwnIsDone finishes p h client acts
finish_alone client x p h acts (inl d) = none_some (sym d.0)
finish_alone client x p h acts (inr (r, own, mid, rest, one, ran, more, is)) =
    subst (λ zs. cond (has_session client h) (DoesOwn finishes p h client zs) (zs ≡ [])) (sym is) (own_by finishes client x p h (seat_at client h) r mid own rest refl one ran more)

tick_alone : (client : List ℕ) (x : Unit {0}) (p : Place) (h : HeldView) (acts : List Act) → ending.Ticks client (Some x) p h acts → OwnIsDone ticks p h client acts
tick_alone client x p h acts (inl d) = none_some (sym d.0)
tick_alone client x p h acts (inr (r, own, mid, rest, one, ran, more, is)) =
    subst (λ zs. cond (has_session client h) (DoesOwn ticks p h client zs) (zs ≡ [])) (sym is) (own_by ticks client x p h (seat_at client h) r mid own rest refl one ran more)

-- ---- what is due
each_tick : (ds : List Due) (x : Unit {0}) (p : Place) (h h' : HeldView) (acts : List Act) → Each due.TicksOf ds (Some x) p h acts → Runs p h acts h' → InOrder (TickIsDone p) p ds h acts h'
each_tick [] x p h h' acts d runs = (d.1, subst (λ xs. Runs p h xs h') d.1 runs)
each_tick (d ∷ ds) x p h h' acts (inl e) runs = none_some (sym e.0)
each_tick (d ∷ ds) x p h h' acts (inr (y, own, mid, rest, one, ran, more, is)) runs =
    (own, mid, rest, is, ran, tick_alone d.1 y p h own one, each_tick ds x p mid h' rest more (second_runs p h mid h' own rest acts is ran runs))

pub all_due : (x : Unit {0}) (p : Place) (h h' : HeldView) (acts : List Act) → due.DoesDue (Some x) p h acts → Runs p h acts h' → AllDueIsDone p h acts h'
all_due x p h h' acts (inl d) runs = none_some (sym d.0)
all_due x p h h' acts (inr (y, own, mid, rest, one, ran, (inl d), is)) runs = none_some (sym d.0)
all_due x p h h' acts (inr (y, own, mid, rest, one, ran, (inr (y2, own2, mid2, rest2, two, ran2, more, is2)), is)) runs =
    let later = second_runs p h mid h' own rest acts is ran runs in
    record {
      outs = own;
      wills = own2;
      ends = rest2;
      is = is ∙ ap (λ zs. own ++ zs) is2;
      mid = mid;
      outs_are = outs_in_order y p h mid own one ran;
      mid2 = mid2;
      wills_are = each_tick (wills_due mid.sessions mid.at) y2 p mid mid2 own2 two ran2;
      ends_are = each_tick (ends_due mid2.sessions mid2.at) x p mid2 h' rest2 more (second_runs p mid mid2 h' own2 rest2 rest is2 ran2 later);
    }

-- ---- a client that goes away
tick_if : (b : Bool) (client : List ℕ) (x : Unit {0}) (p : Place) (h : HeldView) (acts : List Act) → ending.TicksIf b client (Some x) p h acts → cond b (OwnIsDone ticks p h client acts) (acts ≡ [])
tick_if true client x p h acts d = tick_alone client x p h acts d
tick_if false client x p h acts d = d.1

pub close_by : (found : Option Seat) (client : List ℕ) (r : Reaction) (p : Place) (h : HeldView) (own : List Act) → CallsAt client closes leaves found (Some r) p h own → cond (is_some found) (IsClosed h client own) (own ≡ [])
close_by None client r p h own d = d.1
close_by (Some seat) client r p h own d = let a = call client closes leaves seat r p h own d in record { call = a.step; is = a.is; of = a.of; off = a.to; event = a.event_is }

pub parts_alone : (client : List ℕ) (x : Unit {0}) (p : Place) (h : HeldView) (acts : List Act) → ending.Parts client (Some x) p h acts → Parts p h client acts
parts_alone client x p h acts (inl d) = none_some (sym d.0)
parts_alone client x p h acts (inr (r, own, mid, rest, one, ran, (inl d), is)) = none_some (sym d.0)
parts_alone client x p h acts (inr (r, own, mid, rest, one, ran, (inr (y, own2, mid2, rest2, two, ran2, more, is2)), is)) = record {
  told = own;
  wills = own2;
  ends = rest2;
  is = is ∙ ap (λ zs. own ++ zs) is2;
  tells = close_by (seat_at client h) client r p h own one;
  left = mid;
  leaves = ran;
  wills_are = tick_if (will_is_due client mid) client y p mid own2 two;
  held = mid2;
  runs = ran2;
  ends_are = tick_if (end_is_due client mid2) client x p mid2 rest2 more;
}

pub closes_alone : (c : ℕ) (client : List ℕ) (x : Unit {0}) (p : Place) (h : HeldView) (acts : List Act) → ending.ClosesFor c client (Some x) p h acts → ClosesOn p h c client acts
closes_alone c client x p h acts (inl d) = none_some (sym d.0)
closes_alone c client x p h acts (inr (y, own, mid, rest, one, ran, more, is)) =
    let shut : own ≡ Connection (Closed c) ∷ Out (Close c) ∷ [] = closed c y p h own one in
    let r = subst (λ zs. Runs p h zs mid) shut ran in
    let left : mid ≡ next h (Connection (Closed c)) = r.2.2 ∙ r.2.1.1 ∙ r.1.1 in
    (rest, is ∙ ap (λ zs. zs ++ rest) shut, subst (λ v. Parts p v client rest) left (parts_alone client x p mid rest more))

pub leaves_alone : (client : Option (List ℕ)) (c : ℕ) (x : Unit {0}) (p : Place) (h : HeldView) (acts : List Act) → pieces.LeavesBy c client (Some x) p h acts → LeavesFrom p h c client acts
leaves_alone client c x p h acts (inl d) = none_some (sym d.0)
leaves_alone None c x p h acts (inr (y, own, mid, rest, one, ran, more, is)) = is ∙ (λ i. one.1 i ++ more.1 i)
leaves_alone (Some client) c x p h acts (inr (y, own, mid, rest, one, ran, more, is)) =
    let left : mid ≡ next h (Connection (Closed c)) = left_by p h mid (Connection (Closed c)) own one.1 ran in
    (rest, is ∙ ap (λ zs. zs ++ rest) one.1, subst (λ v. Parts p v client rest) left (parts_alone client x p mid rest more))
