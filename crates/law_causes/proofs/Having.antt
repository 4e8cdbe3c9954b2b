-- Each act of a step has its number.
use Rattle.std.proofs.Common.{◌≡◌, inl, inr, ℕ, ◌<◌, ◌≤◌, ◌^◌, not, nat_lt, Bool, true, false, cond, List, [], ◌∷◌, ◌++◌, Option, Some, None, refl, sym, ◌∙◌, subst, arith}
use Rattle.std.proofs.lemmas.Bool.{ltb-true}
use Rattle.std.specs.FinMap as map
use Rattle.std.specs.List.{AllByRecursion}
use Rattle.mqtt_packets.specs.declared.connect.Connect.{Connect}
use Rattle.bridge_deltas.specs.declared.offer.Offer.{Offer}
use Rattle.bridge_deltas.specs.declared.offer.Offer.TheVariants.{Queued, Full, AtEnd}
use Rattle.bridge_deltas.specs.Lane.{next_number, offer_of}
use Rattle.bridge_frames.specs.declared.forward.Forward.{Forward}
use Rattle.bridge_lanes.specs.Rows.{Messages}
use Rattle.mqtt_sessions.specs.Reaction.{Reaction}
use Rattle.node_bridge.specs.View.{has_lanes, lane_to, offer_to}
use Rattle.replica_store.specs.declared.operation.Operation.{Operation}
use Rattle.replica_store.specs.declared.operation.Operation.TheVariants as operations
use Rattle.replica_store.specs.Making.{subscribe_of, put_of}
use Rattle.subscription_set.specs.Standing.{any_of, any_below}
use Rattle.law_sessions.specs.Runs.{Event, Reacts, ends_of}
use Rattle.law_sessions.proofs.OutcomeLaws.{ends_or_reacts}
use Rattle.session_table.specs.Seats.{Seat}
use Rattle.node_work.specs.Acts.{Act, MomentTaken, Began, Moved, Store, Connection, Session, Bridge, Out, Named, Acknowledged, Passed, Dropped, Made, Merged, Allowed, Runs, IsMade}
use Rattle.node_work.specs.Calling.{CallsAt}
use Rattle.node_work.specs.Doings.{MakesRemove, MakesRemoveBelow, Removes, RemovesBelow, PutsInLaneBy, TakesMoment}
use Rattle.node_work.specs.Held.Bridge.{BridgeAct, Put as Join, Took, Got, Believed, Greeted, Gave, Left_out, MayBridge}
use Rattle.node_work.specs.Held.Making.{number_at_end, put_at_end, removal, removal_below}
use Rattle.node_work.specs.Held.Sessions.{SessionAct, SessionStep, Begun, Called, Over, IsCall, seat_at}
use Rattle.node_work.specs.Passing.{turn_at_end}
use Rattle.node_work.specs.View.{Place, HeldView}
use Rattle.node_work.specs.Working.{Doing, Returns, Stops, Acting, Numbered, Looks, FindsWhere, If, Where, Then}
use Rattle.node_clients.specs.Connecting as connecting
use Rattle.node_clients.specs.Ending as ending
use Rattle.node_clients.specs.Naming.{IsNextNumber, automatic}
use Rattle.node_clients.specs.Passing as passing
use Rattle.node_clients.proofs.Determined.{runs_determined}
use Rattle.broker_node.specs.declared.event.Event.{Event as NodeEvent}
use Rattle.broker_node.specs.Turns as turns
use Rattle.law_runs.proofs.Keeping.{none_some, calling_by}
use Rattle.law_runs.proofs.Passing.{numbered}
use Rattle.law_runs.proofs.Splits.{runs_split}
use Rattle.law_causes.specs.Stops.{LacksOne, LacksNumber, StepsHaveNumbers}
use Rattle.law_causes.proofs.Walk.{IsUnnumbered, Walks, copies_at, decides}
use Rattle.law_causes.proofs.Lower.{Makes, ticks_of, finishes_of, serves, evicts}

-- ---- moments, and the numbers of the identifiers that are given
abbrev IsBelow : Act → Type 0
IsBelow (MomentTaken at) = at < 2 ^ 62
IsBelow (Named number) = number < 2 ^ 62
IsBelow a = Unit {0}

abbrev AreBelow : List Act → Type 0
AreBelow acts = AllByRecursion IsBelow acts

below_simple : (a : Act) → IsUnnumbered a → IsBelow a
below_simple (MomentTaken at) u = absurd u
below_simple (Named number) u = absurd u
below_simple a u = tt

below_both : (xs ys : List Act) → AreBelow xs → AreBelow ys → AreBelow (xs ++ ys)
below_both [] ys a b = b
below_both (x ∷ xs) ys a b = (a.0, below_both xs ys a.1 b)

below_at : (before after : List Act) (a : Act) → AreBelow (before ++ a ∷ after) → IsBelow a
below_at [] after a all = all.0
below_at (x ∷ before) after a all = below_at before after a all.1

record Bounds (A : Type 0) (P : Option A → Doing) : Type 0 where
  of : (x : A) (p : Place) (h : HeldView) (acts : List Act) → P (Some x) p h acts → AreBelow acts

k_returns : {A : Type 0} (y : A) → Bounds A (Returns y)
k_returns y = record { of = λ x p h acts d. subst AreBelow (sym d.1) tt }

k_stops : {A : Type 0} → Bounds A Stops
k_stops = record { of = λ x p h acts d. none_some (sym d.0) }

k_acting : (a : Place → HeldView → Act) → ((p : Place) (h : HeldView) → IsBelow (a p h)) → Bounds (Unit {0}) (Acting a)
k_acting a below = record { of = λ x p h acts d. subst AreBelow (sym d.1) (below p h, tt) }

k_numbered : (at_end : Place → HeldView → Bool) (a : Place → HeldView → Act) → ((p : Place) (h : HeldView) → IsBelow (a p h)) → Bounds (Unit {0}) (Numbered at_end a)
k_numbered at_end a below = record { of = λ x p h acts d. subst AreBelow (sym (numbered (at_end p h) x (a p h) acts d)) (below p h, tt) }

k_looks : {A B : Type 0} (see : Place → HeldView → A) (P : A → Option B → Doing) → ((y : A) → Bounds B (P y)) → Bounds B (Looks see P)
k_looks see P f = record { of = λ x p h acts d. (f (see p h)).of x p h acts d }

k_finds : {A B : Type 0} (Is : Place → HeldView → A → Type 0) (P : A → Option B → Doing) → ((y : A) → Bounds B (P y)) → Bounds B (FindsWhere Is P)
k_finds Is P f = record { of = λ x p h acts d. (f d.0).of x p h acts d.2 }

k_if : {A : Type 0} (b : Bool) (P Q : Option A → Doing) → Bounds A P → Bounds A Q → Bounds A (If b P Q)
k_if true P Q f g = record { of = λ x p h acts d. f.of x p h acts d }
k_if false P Q f g = record { of = λ x p h acts d. g.of x p h acts d }

k_where : {A : Type 0} (X : Type 0) (P Q : Option A → Doing) → Bounds A P → Bounds A Q → Bounds A (Where X P Q)
k_where X P Q f g = record { of = λ x p h acts d. elim d [ inl e ↦ f.of x p h acts e.1 | inr e ↦ g.of x p h acts e.1 ] }

then_of : {A B : Type 0} (P : Option A → Doing) (Q : A → Option B → Doing) → Bounds A P → ((y : A) → Bounds B (Q y)) → (x : B) (p : Place) (h : HeldView) (acts : List Act) → Then P Q (Some x) p h acts → AreBelow acts
then_of P Q f g x p h acts (inl d) = none_some (sym d.0)
then_of P Q f g x p h acts (inr (y, own, mid, rest, one, runs, more, is)) = subst AreBelow (sym is) (below_both own rest (f.of y p h own one) ((g y).of x p mid rest more))

k_then : {A B : Type 0} (P : Option A → Doing) (Q : A → Option B → Doing) → Bounds A P → ((y : A) → Bounds B (Q y)) → Bounds B (Then P Q)
k_then P Q f g = record { of = then_of P Q f g }

calls_at : (client : List ℕ) (event : ℕ → Event) (on : Option ℕ → Option ℕ) (found : Option Seat) (r : Reaction) (p : Place) (h : HeldView) (acts : List Act) → CallsAt client event on found (Some r) p h acts → AreBelow acts
calls_at client event on None r p h acts d = subst AreBelow (sym d.1) tt
calls_at client event on (Some seat) r p h acts d = subst AreBelow (sym (calling_by client event on seat r p h acts d).acts_are) (tt, tt)

k_puts_by : (peer : ℕ) (m : Forward) (o : Offer) → Bounds (Unit {0}) (PutsInLaneBy peer m o)
k_puts_by peer m (Queued n) = k_acting _ (λ p h. tt)
k_puts_by peer m Full = k_acting _ (λ p h. tt)
k_puts_by peer m AtEnd = k_stops

names_by : (c : ℕ) (q : Connect) → ((client : List ℕ) → Bounds (Unit {0}) (connecting.Accepts c q client)) → (number : Option ℕ) (x : Unit {0}) (p : Place) (h : HeldView) (acts : List Act) → IsNextNumber p h number
    → connecting.NamesBy c q number (Some x) p h acts → AreBelow acts
names_by c q f None x p h acts is d = none_some (sym d.0)
names_by c q f (Some number) x p h acts is (inl d) = none_some (sym d.0)
names_by c q f (Some number) x p h acts is (inr (y, own, mid, rest, one, runs, more, all)) =
    subst AreBelow (sym all) (below_both own rest (subst AreBelow (sym one.1) (is.1, tt)) ((f (automatic p.id number)).of x p mid rest more))

walks : Walks Bounds
walks = record {
  returns = k_returns;
  acting = λ a plain. k_acting a (λ p h. below_simple (a p h) (plain p h));
  looks = k_looks;
  finds = k_finds;
  by_test = k_if;
  by_whether = k_where;
  join = k_then;
  calls = λ client event on. record { of = λ r p h acts d. calls_at client event on (seat_at client h) r p h acts d };
  puts = λ peer m. k_looks (λ p h. offer_to peer h.bridge) (PutsInLaneBy peer m) (k_puts_by peer m);
  names = λ c q f. record { of = λ x p h acts d. names_by c q f d.0 x p h acts d.1 d.2 };
}

-- ---- operations
makes_remove : (client : List ℕ) (to : Option (List ℕ)) → Bounds (Unit {0}) (MakesRemove client to)
makes_remove client to = k_numbered (λ p h. number_at_end p.id h) (λ p h. Store (Made (removal p.id client to h.store))) (λ p h. tt)

removes : (client : List ℕ) (to : Option (List ℕ)) → Bounds Bool (Removes client to)
removes client to =
    k_looks (λ p h. any_of client to h.store.subscriptions) (λ stands. If stands (Then (MakesRemove client to) (λ _. Returns true)) (Returns false))
    (λ stands. k_if stands (Then (MakesRemove client to) (λ _. Returns true)) (Returns false) (k_then (MakesRemove client to) (λ _. Returns true) (makes_remove client to) (λ _. k_returns true)) (k_returns false))

makes_remove_below : (client : List ℕ) (version : ℕ) → Bounds (Unit {0}) (MakesRemoveBelow client version)
makes_remove_below client version = k_numbered (λ p h. number_at_end p.id h) (λ p h. Store (Made (removal_below p.id client version h.store))) (λ p h. tt)

removes_below : (client : List ℕ) (version : ℕ) → Bounds Bool (RemovesBelow client version)
removes_below client version =
    k_looks (λ p h. any_below client version h.store.subscriptions) (λ stands. If stands (Then (MakesRemoveBelow client version) (λ _. Returns true)) (Returns false))
    (λ stands. k_if stands (Then (MakesRemoveBelow client version) (λ _. Returns true)) (Returns false) (k_then (MakesRemoveBelow client version) (λ _. Returns true) (makes_remove_below client version) (λ _. k_returns true))
    (k_returns false))

removes_own : (client : List ℕ) → Bounds Bool (ending.RemovesOwn client)
removes_own client = k_finds (ending.IsAtHome client) (ending.RemovesFor client) (λ node. k_looks (ending.ends_below node) (RemovesBelow client) (removes_below client))

makes : Makes Bounds
makes = record {
  put = λ content. k_numbered (λ p h. put_at_end p.id h) (λ p h. Store (Made (put_of p.id content h.store))) (λ p h. tt);
  subscribe = λ entry. k_numbered (λ p h. number_at_end p.id h) (λ p h. Store (Made (subscribe_of p.id entry h.store))) (λ p h. tt);
  remove = removes;
  end = λ client. k_then (ending.RemovesOwn client) (λ _. Acting (λ p h. Session (Over client))) (removes_own client) (λ _. k_acting (λ p h. Session (Over client)) (λ p h. tt));
  copied = λ m. k_looks (λ p h. h.at) (passing.CopiesAt m) (copies_at Bounds walks m (λ x. k_numbered turn_at_end (λ p h. Passed m x.0 x.1.0 x.1.1) (λ p h. tt)));
}

moment_by : (at : ℕ) (b : Bool) (acts : List Act) → not (nat_lt at (2 ^ 62)) ≡ b → cond b ((◌≡◌ {A = Option (Unit {0})} (Some tt) None) × (acts ≡ [])) ((◌≡◌ {A = Option (Unit {0})} (Some tt) (Some tt)) × (acts ≡ MomentTaken at ∷ [])) → AreBelow acts
moment_by at true acts e d = none_some (sym d.0)
moment_by at false acts e d = subst AreBelow (sym d.1) (ltb-true at (2 ^ 62) (by (nat_lt at (2 ^ 62)) e), tt)
  where
    by : (b : Bool) → not b ≡ false → b ≡ true
    by true f = refl
    by false f = cc

takes_moment : (at : ℕ) → Bounds (Unit {0}) (TakesMoment at)
takes_moment at = record { of = λ x p h acts d. moment_by at (not (nat_lt at (2 ^ 62))) acts refl d }

all_below : (e : NodeEvent) → Bounds (Unit {0}) (turns.Decides e)
all_below e =
    decides Bounds walks (ticks_of Bounds walks makes) (finishes_of Bounds walks makes) (serves Bounds walks makes) (λ c. record { of = λ x p h acts d. absurd d }) (λ c client. record { of = λ x p h acts d. absurd d }) e
    (λ client is. evicts Bounds walks makes client) (takes_moment e.at)

-- ---- each act
apart : (n : ℕ) → n < 2 ^ 62 → 2 ^ 62 ≤ n → ⊥
apart n a b = omega (arith, a, b)

has_one : (id version : ℕ) (h : HeldView) (o : Operation) → IsMade id version h.store o → LacksOne id h o → ⊥
has_one id version h (operations.Subscribe dot entry cover) made lacks = made.0 lacks
has_one id version h (operations.Remove dot cover) made lacks = made.0 lacks
has_one id version h (operations.Put dot stamp content) made (inl lacks) = made.0 lacks
has_one id version h (operations.Put dot stamp content) made (inr lacks) = made.1 lacks

has_place : (h : HeldView) (s : SessionStep) → IsCall h s → (seat : Seat) → map.get h.sessions s.client ≡ Some seat → ends_of s.event seat.session → ⊥
has_place h s call seat found ends =
    let same : call.seat ≡ seat = (let z = sym call.found ∙ found in cc) in
    ends_or_reacts s.event seat.session s.after s.reaction ends (subst (λ (v : Seat). Reacts v.session s.event s.reaction s.after) same call.reacts)

joins : (h : HeldView) (peer n : ℕ) → offer_to peer h.bridge ≡ Queued n → 2 ^ 62 ≤ next_number (lane_to h.bridge peer) → ⊥
joins h peer n e late = by (has_lanes h.bridge peer) e
  where
    by_number : (l : Messages) (b : Bool) → nat_lt (next_number l) (2 ^ 62) ≡ b → cond b (Queued (next_number l)) AtEnd ≡ Queued n → 2 ^ 62 ≤ next_number l → ⊥
    by_number l true is f past = apart (next_number l) (ltb-true (next_number l) (2 ^ 62) is) past
    by_number l false is f past = cc

    by_room : (l : Messages) (b : Bool) → cond b (cond (nat_lt (next_number l) (2 ^ 62)) (Queued (next_number l)) AtEnd) Full ≡ Queued n → 2 ^ 62 ≤ next_number l → ⊥
    by_room l true f past = by_number l (nat_lt (next_number l) (2 ^ 62)) refl f past
    by_room l false f past = cc

    by : (b : Bool) → cond b (offer_of (lane_to h.bridge peer)) Full ≡ Queued n → ⊥
    by true f = by_room (lane_to h.bridge peer) _ f late
    by false f = cc

lane_has : (p : Place) (h : HeldView) (a : BridgeAct) → MayBridge p h a → LacksNumber p h (Bridge a) → ⊥
lane_has p h (Join peer m) may lacks = joins h peer may.0 may.1 lacks
lane_has p h (Took peer number m copies lost) may lacks = lacks
lane_has p h (Got peer number) may lacks = lacks
lane_has p h (Believed peer dots) may lacks = lacks
lane_has p h (Greeted peer g) may lacks = lacks
lane_has p h (Gave f) may lacks = lacks
lane_has p h (Left_out what) may lacks = lacks

session_has : (p : Place) (h : HeldView) (a : SessionAct) → Allowed p h (Session a) → LacksNumber p h (Session a) → ⊥
session_has p h (Begun client) may lacks = lacks
session_has p h (Called s) may lacks = has_place h s may lacks.0 lacks.1 lacks.2
session_has p h (Over client) may lacks = lacks

has_number : (p : Place) (h : HeldView) (a : Act) → Allowed p h a → IsBelow a → LacksNumber p h a → ⊥
has_number p h (MomentTaken at) may below lacks = apart at below lacks
has_number p h Began may below lacks = lacks
has_number p h (Moved homes) may below lacks = lacks
has_number p h (Store (Made o)) may below lacks = has_one p.id h.homes.version h o may lacks
has_number p h (Store (Merged s)) may below lacks = lacks
has_number p h (Connection a) may below lacks = lacks
has_number p h (Session a) may below lacks = session_has p h a may lacks
has_number p h (Bridge a) may below lacks = lane_has p h a may lacks
has_number p h (Out o) may below lacks = lacks
has_number p h (Named number) may below lacks = apart number below lacks
has_number p h (Acknowledged client packet at grants offers) may below lacks = lacks
has_number p h (Passed m copies lost routes) may below lacks = apart h.turn may.0 lacks
has_number p h Dropped may below lacks = lacks

pub steps_have_numbers : StepsHaveNumbers
steps_have_numbers = λ e p h h' mid acts does runs before after a is ran lacks.
    let parts = runs_split p before (a ∷ after) h h' (subst (λ zs. Runs p h zs h') is runs) in
    let same : parts.0 ≡ mid = runs_determined p before h parts.0 mid parts.1 ran in
    let may : Allowed p mid a = subst (λ v. Allowed p v a) same parts.2.1.0 in
    has_number p mid a may (below_at before after a (subst AreBelow is ((all_below e).of tt p h acts does))) lacks
