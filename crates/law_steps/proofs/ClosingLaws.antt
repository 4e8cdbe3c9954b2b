-- Connections that a node closes.
use Rattle.std.proofs.Common.{◌≡◌, ◌≢◌, ◌⊎◌, inl, inr, ℕ, Bool, true, false, List, [], ◌∷◌, ◌++◌, Option, Some, None, is_some, refl, sym, ap, ◌∙◌, subst, append_assoc}
use Rattle.std.specs.FinMap as map
use Rattle.std.specs.List.{AllByRecursion}
use Rattle.std.specs.Ordering.{eq_by_cmp}
use Rattle.std.specs.Prelude.{option_and_then}
use Rattle.law_maps.proofs.Texts.{same_text, itself, get_inserted, get_apart}
use Rattle.mqtt_sessions.specs.Reaction.{Reaction, nothing}
use Rattle.law_sessions.specs.Runs.{Event, closes}
use Rattle.session_table.specs.Calls.{leaves}
use Rattle.session_table.specs.Listing.{text_cmp}
use Rattle.session_table.specs.Seats.{Seat}
use Rattle.node_work.specs.declared.outcome.Output.TheVariants.{Close}
use Rattle.node_work.specs.Acts.{Act, Connection, Session, Out, Runs, next}
use Rattle.node_work.specs.Calling.{CallsAt}
use Rattle.node_work.specs.Held.Connections.{ConnectionTable, Closed, client_at, is_open}
use Rattle.node_work.specs.Held.Sessions.{SessionStep, Called, seat_at}
use Rattle.node_work.specs.View.{Place, HeldView, ConnectionView}
use Rattle.node_clients.specs.Ending as ending
use Rattle.node_clients.proofs.Determined.{runs_determined}
use Rattle.law_runs.proofs.Keeping.{calling_by, none_some}
use Rattle.law_runs.proofs.Splits.{left_by, runs_split}
use Rattle.law_steps.specs.Outputs.{Occasion, SessionsAreOnTheirs, GoesRight, WhyClosed}
use Rattle.law_steps.proofs.Alone.{K, low, ticks_of}
use Rattle.law_steps.proofs.Below.{due_of}
use Rattle.law_steps.proofs.On.{Right, right_none, right_one, right_before, right_after, right_both, right_again, IsCalm, calm_kind, Calmly, calmly, gone_apart}

-- what is left where one connection may have been closed
pub record Ends (c : ℕ) (h h' : HeldView) : Type 0 where
  pub on : SessionsAreOnTheirs h'
  pub others : (q : ℕ) → q ≢ c → map.get h'.connections q ≡ map.get h.connections q

pub record Ending (occasion : Occasion) (pre : List Act) (p : Place) (c : ℕ) (h h' : HeldView) (acts : List Act) : Type 0 where
  pub right : Right occasion pre p h acts
  pub ends : Ends c h h'

pub calm_ends : (occasion : Occasion) (pre : List Act) (p : Place) (c : ℕ) (h h' : HeldView) (acts : List Act) → Calmly occasion pre p h h' acts → Ending occasion pre p c h h' acts
calm_ends occasion pre p c h h' acts d = record { right = d.right; ends = record { on = d.kept.on; others = λ q ne. ap (λ (m : ConnectionTable). map.get m q) d.kept.connections } }

pub ending_then : (occasion : Occasion) (pre : List Act) (p : Place) (c : ℕ) (h mid h' : HeldView) (xs ys acts : List Act) → acts ≡ xs ++ ys → Runs p h xs mid → Ending occasion pre p c h mid xs → Ending occasion (pre ++ xs) p c mid h' ys → Ending occasion pre p c h h' acts
ending_then occasion pre p c h mid h' xs ys acts is runs a b = record {
  right = right_again occasion pre p h (xs ++ ys) acts is (right_both occasion pre p h mid xs ys runs a.right b.right);
  ends = record { on = b.ends.on; others = λ q ne. b.ends.others q ne ∙ a.ends.others q ne };
}

-- the second of two parts
pub second_runs : (p : Place) (h mid h' : HeldView) (own rest acts : List Act) → acts ≡ own ++ rest → Runs p h own mid → Runs p h acts h' → Runs p mid rest h'
second_runs p h mid h' own rest acts is ran runs =
    let both = runs_split p own rest h h' (subst (λ xs. Runs p h xs h') is runs) in
    subst (λ v. Runs p v rest h') (runs_determined p own h both.0 mid both.1 ran) both.2

-- a connection with a client is open
pub open_with : (h : HeldView) (c : ℕ) (client : List ℕ) → client_at c h ≡ Some client → is_open c h ≡ true
open_with h c client there = by (map.get h.connections c) refl there
  where
    by : (o : Option ConnectionView) → map.get h.connections c ≡ o → option_and_then (λ (x : ConnectionView). x.client) o ≡ Some client → is_some (map.get h.connections c) ≡ true
    by None is e = none_some e
    by (Some x) is e = ap is_some is

-- ---- the close itself
abbrev pub closed_view : HeldView → ℕ → HeldView
closed_view h c = next h (Connection (Closed c))

pub closes_right : (occasion : Occasion) (pre : List Act) (c : ℕ) (x : Unit {0}) (p : Place) (h h' : HeldView) (acts : List Act) → is_open c h ≡ true → WhyClosed occasion p pre h c → ending.ClosesConnection c (Some x) p h acts → Runs p h acts h'
    → Right occasion pre p h acts × (h' ≡ closed_view h c)
closes_right occasion pre c x p h h' acts open_there why (inl d) runs = none_some (sym d.0)
closes_right occasion pre c x p h h' acts open_there why (inr (y, own, mid, rest, one, ran, more, is)) runs =
    let first : mid ≡ closed_view h c = left_by p h mid (Connection (Closed c)) own one.1 ran in
    let second : h' ≡ mid = left_by p mid h' (Out (Close c)) rest more.1 (second_runs p h mid h' own rest acts is ran runs) in
    let a = Connection (Closed c) in
    let out : GoesRight occasion p (pre ++ own) [] mid (Out (Close c)) = (pre, ap (λ xs. pre ++ xs) one.1) in
    let closed : GoesRight occasion p pre rest h a = (open_there, why, inr ([], more.1)) in (
      right_again occasion pre p h (own ++ rest) acts is (right_after occasion pre p h mid own rest ran
          (λ before after b held at run. right_before occasion pre p h a rest closed before after b held (sym one.1 ∙ at) run)
          (right_again occasion (pre ++ own) p mid (Out (Close c) ∷ []) rest more.1 (right_one occasion (pre ++ own) p mid (Out (Close c)) out))),
      second ∙ first,
    )

-- another connection stays
closed_others : (h : HeldView) (c q : ℕ) → q ≢ c → map.get (closed_view h c).connections q ≡ map.get h.connections q
closed_others h c q ne = gone_apart h.connections c q ne

other_client : (h : HeldView) (c q : ℕ) (client : List ℕ) → q ≢ c → client_at q h ≡ Some client → client_at q (closed_view h c) ≡ Some client
other_client h c q client ne there = ap (option_and_then (λ (x : ConnectionView). x.client)) (closed_others h c q ne) ∙ there

-- one that has no client: no session is on it
closed_bare : (h : HeldView) (c : ℕ) → SessionsAreOnTheirs h → client_at c h ≡ None → SessionsAreOnTheirs (closed_view h c)
closed_bare h c on bare client seat q found at =
    let there = on client seat q found at in
    other_client h c q client (λ e. none_some (sym bare ∙ ap (λ n. client_at n h) (sym e) ∙ there)) there

-- of one that has, none but its client's
abbrev pub AreOnBut : List ℕ → HeldView → Type 0
AreOnBut client h = (q : List ℕ) (seat : Seat) (c : ℕ) → q ≢ client → map.get h.sessions q ≡ Some seat → seat.connection ≡ Some c → client_at c h ≡ Some q

pub closed_but : (h : HeldView) (c : ℕ) (client : List ℕ) → SessionsAreOnTheirs h → client_at c h ≡ Some client → AreOnBut client (closed_view h c)
closed_but h c client on has q seat n ne found at =
    let there = on q seat n found at in
    other_client h c n q (λ e. ne (let z : Some q ≡ Some client = sym there ∙ ap (λ k. client_at k h) e ∙ has in cc)) there

-- ---- and its client's session, which is on none from then on
pub leaves_right : (occasion : Occasion) (pre : List Act) (client : List ℕ) (found : Option Seat) (r : Reaction) (p : Place) (h h' : HeldView) (acts : List Act) → seat_at client h ≡ found → AreOnBut client h → CallsAt client closes leaves found (Some r) p h acts → Runs p h acts h'
    → Calmly occasion pre p h h' acts
leaves_right occasion pre client None r p h h' acts is on d runs =
    let same : h' ≡ h = subst (λ xs. Runs p h xs h') d.1 runs in
    let theirs : SessionsAreOnTheirs h = λ q seat c found at. on q seat c (λ e. none_some (sym is ∙ ap (map.get h.sessions) (sym e) ∙ found)) found at in
    record { right = right_again occasion pre p h [] acts d.1 (right_none occasion pre p h); kept = record { connections = ap (λ (v : HeldView). v.connections) same; on = subst SessionsAreOnTheirs (sym same) theirs } }
leaves_right occasion pre client (Some seat) r p h h' acts is on (inl d) runs = none_some (sym d.0)
leaves_right occasion pre client (Some seat) r p h h' acts is on (inr (q, after, answer, reacts, acts_are)) runs =
    let s : SessionStep = record { client = client; on = None; at = h.at; event = closes h.at; reaction = q; after = after } in
    let left : h' ≡ next h (Session (Called s)) = left_by p h h' (Session (Called s)) acts acts_are runs in
    record {
      right = right_again occasion pre p h (Session (Called s) ∷ []) acts acts_are (right_one occasion pre p h (Session (Called s)) (λ c at. none_some at));
      kept = record { connections = ap (λ (v : HeldView). v.connections) left; on = subst SessionsAreOnTheirs (sym left) (theirs s refl refl) };
    }
  where
    theirs : (s : SessionStep) → s.client ≡ client → s.on ≡ None → SessionsAreOnTheirs (next h (Session (Called s)))
    theirs s same none q other c found at = by (eq_by_cmp text_cmp q s.client) refl
      where
        own : Seat
        own = record { session = s.after; connection = s.on }

        by : (b : Bool) → eq_by_cmp text_cmp q s.client ≡ b → client_at c h ≡ Some q
        by true e =
            let one : own ≡ other = (let z : Some own ≡ Some other = sym (get_inserted h.sessions s.client own) ∙ ap (map.get (map.insert h.sessions s.client own)) (sym (same_text q s.client e)) ∙ found in cc) in
            none_some (sym none ∙ ap (λ (v : Seat). v.connection) one ∙ at)
        by false e = on q other c (λ t. (let z : true ≡ false = sym (itself s.client) ∙ ap (λ k. eq_by_cmp text_cmp k s.client) (sym (t ∙ sym same)) ∙ e in cc)) (sym (get_apart h.sessions s.client own q e) ∙ found) at

parts_right : (occasion : Occasion) (pre : List Act) (client : List ℕ) (x : Unit {0}) (p : Place) (h h' : HeldView) (acts : List Act) → AreOnBut client h → ending.Parts client (Some x) p h acts → Runs p h acts h' → Calmly occasion pre p h h' acts
parts_right occasion pre client x p h h' acts on (inl d) runs = none_some (sym d.0)
parts_right occasion pre client x p h h' acts on (inr (r, own, mid, rest, one, ran, more, is)) runs =
    let first = leaves_right occasion pre client (seat_at client h) r p h mid own refl on one ran in
    let calm : AllByRecursion IsCalm rest = (due_of (K IsCalm calm_kind) (low IsCalm calm_kind) (ticks_of IsCalm calm_kind) client).of x p mid rest more in
    let second = calmly occasion (pre ++ own) p rest mid h' calm first.kept.on (second_runs p h mid h' own rest acts is ran runs) in
    record {
      right = right_again occasion pre p h (own ++ rest) acts is (right_both occasion pre p h mid own rest ran first.right second.right);
      kept = record { connections = second.kept.connections ∙ first.kept.connections; on = second.kept.on };
    }

-- ---- closes by whether there is a client
pub closes_bare : (occasion : Occasion) (pre : List Act) (c : ℕ) (x : Unit {0}) (p : Place) (h h' : HeldView) (acts : List Act) → SessionsAreOnTheirs h → is_open c h ≡ true → client_at c h ≡ None → WhyClosed occasion p pre h c
    → ending.ClosesConnection c (Some x) p h acts → Runs p h acts h' → Ending occasion pre p c h h' acts
closes_bare occasion pre c x p h h' acts on open_there bare why d runs =
    let one = closes_right occasion pre c x p h h' acts open_there why d runs in
    record { right = one.0; ends = record { on = subst SessionsAreOnTheirs (sym one.1) (closed_bare h c on bare); others = λ q ne. ap (λ (v : HeldView). map.get v.connections q) one.1 ∙ closed_others h c q ne } }

pub closes_for : (occasion : Occasion) (pre : List Act) (c : ℕ) (client : List ℕ) (x : Unit {0}) (p : Place) (h h' : HeldView) (acts : List Act) → SessionsAreOnTheirs h → client_at c h ≡ Some client → WhyClosed occasion p pre h c
    → ending.ClosesFor c client (Some x) p h acts → Runs p h acts h' → Ending occasion pre p c h h' acts
closes_for occasion pre c client x p h h' acts on has why (inl d) runs = none_some (sym d.0)
closes_for occasion pre c client x p h h' acts on has why (inr (y, own, mid, rest, one, ran, more, is)) runs =
    let first = closes_right occasion pre c y p h mid own (open_with h c client has) why one ran in
    let but : AreOnBut client mid = subst (AreOnBut client) (sym first.1) (closed_but h c client on has) in
    let second = parts_right occasion (pre ++ own) client x p mid h' rest but more (second_runs p h mid h' own rest acts is ran runs) in
    record {
      right = right_again occasion pre p h (own ++ rest) acts is (right_both occasion pre p h mid own rest ran first.0 second.right);
      ends = record {
        on = second.kept.on;
        others = λ q ne. ap (λ (m : ConnectionTable). map.get m q) second.kept.connections ∙ ap (λ (v : HeldView). map.get v.connections q) first.1 ∙ closed_others h c q ne;
      };
    }

-- one that is closed already is left by its client's session
pub leaves_for : (occasion : Occasion) (pre : List Act) (c : ℕ) (client : List ℕ) (x : Unit {0}) (p : Place) (h mid h' : HeldView) (rest : List Act) → SessionsAreOnTheirs h → client_at c h ≡ Some client → mid ≡ next h (Connection (Closed c))
    → ending.Parts client (Some x) p mid rest → Runs p mid rest h' → Calmly occasion pre p mid h' rest
leaves_for occasion pre c client x p h mid h' rest on has left d runs = parts_right occasion pre client x p mid h' rest (subst (AreOnBut client) (sym left) (closed_but h c client on has)) d runs

pub leaves_bare : (h : HeldView) (c : ℕ) → SessionsAreOnTheirs h → client_at c h ≡ None → SessionsAreOnTheirs (next h (Connection (Closed c)))
leaves_bare h c on bare = closed_bare h c on bare

pub closes_after : (occasion : Occasion) (pre : List Act) (end : Option ℕ) (c : ℕ) (client : List ℕ) (x : Unit {0}) (p : Place) (h h' : HeldView) (acts : List Act) → SessionsAreOnTheirs h → client_at c h ≡ Some client
    → ((code : ℕ) → end ≡ Some code → WhyClosed occasion p pre h c) → ending.ClosesAfter end c client (Some x) p h acts → Runs p h acts h' → Ending occasion pre p c h h' acts
closes_after occasion pre None c client x p h h' acts on has why d runs = calm_ends occasion pre p c h h' acts (calmly occasion pre p acts h h' (subst (AllByRecursion IsCalm) (sym d.1) tt) on runs)
closes_after occasion pre (Some code) c client x p h h' acts on has why d runs = closes_for occasion pre c client x p h h' acts on has (why code refl) d runs

-- ---- a call, and its end
-- acts of a call of a client's session, with its reaction, if it has one
abbrev pub Reacted : List Act → List ℕ → Reaction → Type 0
Reacted own client r = (r ≡ nothing) ⊎ ((s : SessionStep) × (own ≡ Session (Called s) ∷ []) × (s.client ≡ client) × (s.reaction ≡ r))

pub reacted : (client : List ℕ) (event : ℕ → Event) (on : Option ℕ → Option ℕ) (found : Option Seat) (r : Reaction) (p : Place) (h : HeldView) (own : List Act) → CallsAt client event on found (Some r) p h own → Reacted own client r
reacted client event on None r p h own d = inl (let z = d.0 in cc)
reacted client event on (Some seat) r p h own d = let k = calling_by client event on seat r p h own d in inr (k.step, k.acts_are, k.client_is, k.reaction_is)

pub ended_by : (occasion : Occasion) (p : Place) (pre own later : List Act) (h : HeldView) (c : ℕ) (client : List ℕ) (r : Reaction) (code : ℕ) → client_at c h ≡ Some client → Reacted own client r → r.end ≡ Some code → WhyClosed occasion p ((pre ++ own) ++ later) h c
ended_by occasion p pre own later h c client r code has (inl none) ends = none_some (ap (λ (x : Reaction). x.end) (sym none) ∙ ends)
ended_by occasion p pre own later h c client r code has (inr (s, is, same, reaction)) ends = inr (inl (record {
  client = client;
  there = has;
  call = s;
  earlier = pre;
  later = later;
  is = ap (λ xs. (pre ++ xs) ++ later) is ∙ append_assoc pre (Session (Called s) ∷ []) later;
  same = same;
  code = code;
  ends = ap (λ (x : Reaction). x.end) reaction ∙ ends;
}))

-- ---- work that is right, and leaves sessions on their own connections
abbrev pub Done : Occasion → List Act → Place → HeldView → HeldView → List Act → Type 0
Done occasion pre p h h' acts = Right occasion pre p h acts × SessionsAreOnTheirs h'

pub done_then : (occasion : Occasion) (pre : List Act) (p : Place) (h mid h' : HeldView) (xs ys acts : List Act) → acts ≡ xs ++ ys → Runs p h xs mid → Right occasion pre p h xs → Done occasion (pre ++ xs) p mid h' ys → Done occasion pre p h h' acts
done_then occasion pre p h mid h' xs ys acts is runs a b = (right_again occasion pre p h (xs ++ ys) acts is (right_both occasion pre p h mid xs ys runs a b.0), b.1)

pub calm_done : (occasion : Occasion) (pre : List Act) (p : Place) (h h' : HeldView) (acts : List Act) → AllByRecursion IsCalm acts → SessionsAreOnTheirs h → Runs p h acts h' → Done occasion pre p h h' acts
calm_done occasion pre p h h' acts calm on runs = let d = calmly occasion pre p acts h h' calm on runs in (d.right, d.kept.on)

pub nothing_done : (occasion : Occasion) (pre : List Act) (p : Place) (h h' : HeldView) (acts : List Act) → acts ≡ [] → SessionsAreOnTheirs h → Runs p h acts h' → Done occasion pre p h h' acts
nothing_done occasion pre p h h' acts none on runs = calm_done occasion pre p h h' acts (subst (AllByRecursion IsCalm) (sym none) tt) on runs
