-- A message is passed on before its deadline alone.
use Rattle.std.proofs.Common.{◌≡◌, inl, inr, ℕ, ◌^◌, not, nat_lt, Bool, true, false, List, [], ◌∷◌, ◌++◌, Option, Some, None, sym, ap, subst}
use Rattle.mqtt_packets.specs.declared.connect.Connect.{Connect}
use Rattle.bridge_deltas.specs.declared.offer.Offer.{Offer}
use Rattle.bridge_deltas.specs.declared.offer.Offer.TheVariants.{Queued, Full, AtEnd}
use Rattle.bridge_frames.specs.declared.forward.Forward.{Forward}
use Rattle.bridge_routes.specs.declared.plain.PlainCopy.{PlainCopy as Copy}
use Rattle.bridge_routes.specs.declared.destinations.Route.{Route}
use Rattle.mqtt_message.specs.declared.message.Message.{Message}
use Rattle.mqtt_message.specs.Expiry.{IsBefore}
use Rattle.mqtt_sessions.specs.Reaction.{Reaction}
use Rattle.node_bridge.specs.View.{offer_to}
use Rattle.replica_store.specs.Making.{subscribe_of, put_of}
use Rattle.subscription_set.specs.Standing.{any_of, any_below}
use Rattle.law_sessions.specs.Runs.{Event}
use Rattle.session_table.specs.Seats.{Seat}
use Rattle.node_work.specs.Acts.{Act, Store, Made, Session, Bridge, MomentTaken, Named, Passed, Runs}
use Rattle.node_work.specs.Calling.{Calls, CallsAt}
use Rattle.node_work.specs.Doings.{MakesRemove, MakesRemoveBelow, Removes, RemovesBelow, PutsInLaneBy}
use Rattle.node_work.specs.declared.counts.Missed.TheVariants.{LaneFull}
use Rattle.node_work.specs.Held.Bridge.{Put as PutInto, Left_out}
use Rattle.node_work.specs.Held.Making.{number_at_end, put_at_end, removal, removal_below}
use Rattle.node_work.specs.Held.Sessions.{Called, Over, seat_at}
use Rattle.node_work.specs.Passing.{turn_at_end}
use Rattle.node_work.specs.View.{Place, HeldView}
use Rattle.node_work.specs.Working.{Doing, Returns, Stops, Acting, Numbered, Looks, FindsWhere, If, Where, Then}
use Rattle.node_clients.specs.Connecting as connecting
use Rattle.node_clients.specs.Ending as ending
use Rattle.node_clients.specs.Naming.{IsNextNumber, automatic}
use Rattle.node_clients.specs.Passing as passing
use Rattle.node_clients.proofs.Determined.{runs_determined}
use Rattle.broker_node.specs.declared.event.Event.{Event as NodeEvent}
use Rattle.broker_node.specs.Turns as turns
use Rattle.law_runs.proofs.Keeping.{none_some, calling_by}
use Rattle.law_runs.proofs.Passing.{numbered}
use Rattle.law_runs.proofs.Splits.{head_is, tail_is, none_there, alone_is, splits, runs_split}
use Rattle.law_causes.specs.Expiring.{ExpiredGoNoFurther}
use Rattle.law_causes.proofs.Walk.{IsUnnumbered, Walks, copies_after, decides}
use Rattle.law_causes.proofs.Lower.{Makes, ticks_of, finishes_of, serves, evicts}

-- each message that these acts pass on has its deadline before it
abbrev Lively : Place → HeldView → List Act → Type 0
Lively p h acts = (before after : List Act) (m : Message) (copies : List Copy) (lost : ℕ) (routes : List (ℕ × Route)) (held : HeldView) → acts ≡ before ++ Passed m copies lost routes ∷ after → Runs p h before held → IsBefore held.at m.deadline

abbrev IsNoPassing : Act → Type 0
IsNoPassing a = (m : Message) (copies : List Copy) (lost : ℕ) (routes : List (ℕ × Route)) → a ≡ Passed m copies lost routes → ⊥

none_lively : (p : Place) (h : HeldView) → Lively p h []
none_lively p h before after m copies lost routes held is ran = none_there before after (Passed m copies lost routes) is

one_lively : (p : Place) (h : HeldView) (a : Act) → IsNoPassing a → Lively p h (a ∷ [])
one_lively p h a other before after m copies lost routes held is ran = absurd (other m copies lost routes (alone_is a (Passed m copies lost routes) before after is))

plain_lively : (p : Place) (h : HeldView) (a : Act) → IsUnnumbered a → Lively p h (a ∷ [])
plain_lively p h a plain = one_lively p h a (λ m copies lost routes e. subst IsUnnumbered e plain)

both_lively : (p : Place) (h mid : HeldView) (xs ys : List Act) → Runs p h xs mid → Lively p h xs → Lively p mid ys → Lively p h (xs ++ ys)
both_lively p h mid xs ys runs f g before after m copies lost routes held is ran =
    elim (splits xs ys before after (Passed m copies lost routes) is) [
      | inl r ↦ f before r.0 m copies lost routes held r.1 ran
      | inr r ↦ (
          let parts = runs_split p xs r.0 h held (subst (λ zs. Runs p h zs held) r.1 ran) in
          let same : parts.0 ≡ mid = runs_determined p xs h parts.0 mid parts.1 runs in
          g r.0 after m copies lost routes held r.2 (subst (λ v. Runs p v r.0 held) same parts.2))
    ]

-- the act that stands before the copies, where the deadline hasn't come
passed_lively : (p : Place) (h : HeldView) (m : Message) (x : passing.Made) → IsBefore h.at m.deadline → Lively p h (Passed m x.0 x.1.0 x.1.1 ∷ [])
passed_lively p h m x alive [] after n copies lost routes held is ran =
    let same : m ≡ n = (let z = head_is is in cc) in
    let there : held ≡ h = ran in
    subst (λ (v : HeldView). IsBefore v.at n.deadline) (sym there) (subst (λ (k : Message). IsBefore h.at k.deadline) same alive)
passed_lively p h m x alive (b ∷ before) after n copies lost routes held is ran = none_there before after (Passed n copies lost routes) (tail_is is)

-- ---- of work
record Keeps (A : Type 0) (P : Option A → Doing) : Type 0 where
  of : (x : A) (p : Place) (h : HeldView) (acts : List Act) → P (Some x) p h acts → Lively p h acts

k_returns : {A : Type 0} (y : A) → Keeps A (Returns y)
k_returns y = record { of = λ x p h acts d. subst (Lively p h) (sym d.1) (none_lively p h) }

k_stops : {A : Type 0} → Keeps A Stops
k_stops = record { of = λ x p h acts d. none_some (sym d.0) }

k_acting : (a : Place → HeldView → Act) → ((p : Place) (h : HeldView) → IsNoPassing (a p h)) → Keeps (Unit {0}) (Acting a)
k_acting a other = record { of = λ x p h acts d. subst (Lively p h) (sym d.1) (one_lively p h (a p h) (other p h)) }

k_plain : (a : Place → HeldView → Act) → ((p : Place) (h : HeldView) → IsUnnumbered (a p h)) → Keeps (Unit {0}) (Acting a)
k_plain a plain = record { of = λ x p h acts d. subst (Lively p h) (sym d.1) (plain_lively p h (a p h) (plain p h)) }

k_numbered : (at_end : Place → HeldView → Bool) (a : Place → HeldView → Act) → ((p : Place) (h : HeldView) → IsNoPassing (a p h)) → Keeps (Unit {0}) (Numbered at_end a)
k_numbered at_end a other = record { of = λ x p h acts d. subst (Lively p h) (sym (numbered (at_end p h) x (a p h) acts d)) (one_lively p h (a p h) (other p h)) }

k_looks : {A B : Type 0} (see : Place → HeldView → A) (P : A → Option B → Doing) → ((y : A) → Keeps B (P y)) → Keeps B (Looks see P)
k_looks see P f = record { of = λ x p h acts d. (f (see p h)).of x p h acts d }

k_finds : {A B : Type 0} (Is : Place → HeldView → A → Type 0) (P : A → Option B → Doing) → ((y : A) → Keeps B (P y)) → Keeps B (FindsWhere Is P)
k_finds Is P f = record { of = λ x p h acts d. (f d.0).of x p h acts d.2 }

k_if : {A : Type 0} (b : Bool) (P Q : Option A → Doing) → Keeps A P → Keeps A Q → Keeps A (If b P Q)
k_if true P Q f g = record { of = λ x p h acts d. f.of x p h acts d }
k_if false P Q f g = record { of = λ x p h acts d. g.of x p h acts d }

k_where : {A : Type 0} (X : Type 0) (P Q : Option A → Doing) → Keeps A P → Keeps A Q → Keeps A (Where X P Q)
k_where X P Q f g = record { of = λ x p h acts d. elim d [ inl e ↦ f.of x p h acts e.1 | inr e ↦ g.of x p h acts e.1 ] }

then_of : {A B : Type 0} (P : Option A → Doing) (Q : A → Option B → Doing) → Keeps A P → ((y : A) → Keeps B (Q y)) → (x : B) (p : Place) (h : HeldView) (acts : List Act) → Then P Q (Some x) p h acts → Lively p h acts
then_of P Q f g x p h acts (inl d) = none_some (sym d.0)
then_of P Q f g x p h acts (inr (y, own, mid, rest, one, runs, more, is)) = subst (Lively p h) (sym is) (both_lively p h mid own rest runs (f.of y p h own one) ((g y).of x p mid rest more))

k_then : {A B : Type 0} (P : Option A → Doing) (Q : A → Option B → Doing) → Keeps A P → ((y : A) → Keeps B (Q y)) → Keeps B (Then P Q)
k_then P Q f g = record { of = then_of P Q f g }

calls_at : (client : List ℕ) (event : ℕ → Event) (on : Option ℕ → Option ℕ) (found : Option Seat) (r : Reaction) (p : Place) (h : HeldView) (acts : List Act) → CallsAt client event on found (Some r) p h acts → Lively p h acts
calls_at client event on None r p h acts d = subst (Lively p h) (sym d.1) (none_lively p h)
calls_at client event on (Some seat) r p h acts d =
    let k = calling_by client event on seat r p h acts d in subst (Lively p h) (sym k.acts_are) (one_lively p h (Session (Called k.step)) (λ m copies lost routes e. cc e))

k_calls : (client : List ℕ) (event : ℕ → Event) (on : Option ℕ → Option ℕ) → Keeps Reaction (Calls client event on)
k_calls client event on = record { of = λ r p h acts d. calls_at client event on (seat_at client h) r p h acts d }

k_puts_by : (peer : ℕ) (m : Forward) (o : Offer) → Keeps (Unit {0}) (PutsInLaneBy peer m o)
k_puts_by peer m (Queued n) = k_acting (λ p h. Bridge (PutInto peer m)) (λ p h m copies lost routes e. cc e)
k_puts_by peer m Full = k_acting (λ p h. Bridge (Left_out LaneFull)) (λ p h m copies lost routes e. cc e)
k_puts_by peer m AtEnd = k_stops

k_names_by : (c : ℕ) (q : Connect) → ((client : List ℕ) → Keeps (Unit {0}) (connecting.Accepts c q client)) → (number : Option ℕ) → Keeps (Unit {0}) (connecting.NamesBy c q number)
k_names_by c q f None = k_stops
k_names_by c q f (Some number) =
    k_then (Acting (λ place h. Named number)) (λ _. Looks (λ place h. automatic place.id number) (connecting.Accepts c q)) (k_acting (λ place h. Named number) (λ place h m copies lost routes e. cc e))
    (λ _. k_looks (λ place h. automatic place.id number) (connecting.Accepts c q) f)

walks : Walks Keeps
walks = record {
  returns = k_returns;
  acting = k_plain;
  looks = k_looks;
  finds = k_finds;
  by_test = k_if;
  by_whether = k_where;
  join = k_then;
  calls = k_calls;
  puts = λ peer m. k_looks (λ p h. offer_to peer h.bridge) (PutsInLaneBy peer m) (k_puts_by peer m);
  names = λ c q f. k_finds IsNextNumber (connecting.NamesBy c q) (k_names_by c q f);
}

-- ---- the copies of a message, by its deadline
copies_lively : (m : Message) (y : passing.Made) (x : Unit {0}) (p : Place) (h : HeldView) (acts : List Act) → IsBefore h.at m.deadline → passing.MakesCopies m y (Some x) p h acts → Lively p h acts
copies_lively m y x p h acts alive (inl d) = none_some (sym d.0)
copies_lively m y x p h acts alive (inr (z, own, mid, rest, one, runs, more, is)) =
    let a = Passed m y.0 y.1.0 y.1.1 in
    let alone : own ≡ a ∷ [] = numbered (turn_at_end p h) z a own one in
    subst (Lively p h) (sym is) (both_lively p h mid own rest runs (subst (Lively p h) (sym alone) (passed_lively p h m y alive)) ((copies_after Keeps walks y).of x p mid rest more))

copied_at : (m : Message) (x : Unit {0}) (p : Place) (h : HeldView) (acts : List Act) → passing.CopiesAt m h.at (Some x) p h acts → Lively p h acts
copied_at m x p h acts (inl d) = copies_lively m d.1.0 x p h acts d.0 d.1.2
copied_at m x p h acts (inr d) = subst (Lively p h) (sym d.1.1) (none_lively p h)

-- ---- operations
makes_remove : (client : List ℕ) (to : Option (List ℕ)) → Keeps (Unit {0}) (MakesRemove client to)
makes_remove client to = k_numbered (λ p h. number_at_end p.id h) (λ p h. Store (Made (removal p.id client to h.store))) (λ p h m copies lost routes e. cc e)

removes : (client : List ℕ) (to : Option (List ℕ)) → Keeps Bool (Removes client to)
removes client to =
    k_looks (λ p h. any_of client to h.store.subscriptions) (λ stands. If stands (Then (MakesRemove client to) (λ _. Returns true)) (Returns false))
    (λ stands. k_if stands (Then (MakesRemove client to) (λ _. Returns true)) (Returns false) (k_then (MakesRemove client to) (λ _. Returns true) (makes_remove client to) (λ _. k_returns true)) (k_returns false))

makes_remove_below : (client : List ℕ) (version : ℕ) → Keeps (Unit {0}) (MakesRemoveBelow client version)
makes_remove_below client version = k_numbered (λ p h. number_at_end p.id h) (λ p h. Store (Made (removal_below p.id client version h.store))) (λ p h m copies lost routes e. cc e)

removes_below : (client : List ℕ) (version : ℕ) → Keeps Bool (RemovesBelow client version)
removes_below client version =
    k_looks (λ p h. any_below client version h.store.subscriptions) (λ stands. If stands (Then (MakesRemoveBelow client version) (λ _. Returns true)) (Returns false))
    (λ stands. k_if stands (Then (MakesRemoveBelow client version) (λ _. Returns true)) (Returns false) (k_then (MakesRemoveBelow client version) (λ _. Returns true) (makes_remove_below client version) (λ _. k_returns true))
    (k_returns false))

removes_own : (client : List ℕ) → Keeps Bool (ending.RemovesOwn client)
removes_own client = k_finds (ending.IsAtHome client) (ending.RemovesFor client) (λ node. k_looks (ending.ends_below node) (RemovesBelow client) (removes_below client))

makes : Makes Keeps
makes = record {
  put = λ content. k_numbered (λ p h. put_at_end p.id h) (λ p h. Store (Made (put_of p.id content h.store))) (λ p h m copies lost routes e. cc e);
  subscribe = λ entry. k_numbered (λ p h. number_at_end p.id h) (λ p h. Store (Made (subscribe_of p.id entry h.store))) (λ p h m copies lost routes e. cc e);
  remove = removes;
  end = λ client. k_then (ending.RemovesOwn client) (λ _. Acting (λ p h. Session (Over client))) (removes_own client) (λ _. k_acting (λ p h. Session (Over client)) (λ p h m copies lost routes e. cc e));
  copied = λ m. record { of = λ x p h acts d. copied_at m x p h acts d };
}

all_lively : (e : NodeEvent) (p : Place) (h : HeldView) (acts : List Act) → turns.Decides e (Some tt) p h acts → Lively p h acts
all_lively e p h acts d =
    (decides Keeps walks (ticks_of Keeps walks makes) (finishes_of Keeps walks makes) (serves Keeps walks makes) (λ c. record { of = λ x p h acts d. absurd d }) (λ c client. record { of = λ x p h acts d. absurd d }) e
    (λ client is. evicts Keeps walks makes client) (k_numbered (λ p h. not (nat_lt e.at (2 ^ 62))) (λ p h. MomentTaken e.at) (λ p h m copies lost routes is. cc is))).of tt p h acts d

pub expired_go_no_further : ExpiredGoNoFurther
expired_go_no_further = λ e p h held acts d before after m copies lost routes is ran. all_lively e p h acts d before after m copies lost routes held is ran
