-- Directly before a session is over stands its Remove, or there is nothing to remove.
use Rattle.std.proofs.Common.{◌≡◌, ◌⊎◌, inl, inr, ℕ, ◌^◌, not, nat_lt, Bool, true, false, List, [], ◌∷◌, ◌++◌, Option, Some, None, refl, sym, ap, ◌∙◌, subst, append_assoc}
use Rattle.std.proofs.lemmas.List.{append-nil}
use Rattle.home_table.specs.Homes.{IsHome}
use Rattle.mqtt_packets.specs.declared.connect.Connect.{Connect}
use Rattle.bridge_deltas.specs.declared.offer.Offer.{Offer}
use Rattle.bridge_deltas.specs.declared.offer.Offer.TheVariants.{Queued, Full, AtEnd}
use Rattle.bridge_frames.specs.declared.forward.Forward.{Forward}
use Rattle.mqtt_sessions.specs.Reaction.{Reaction}
use Rattle.node_bridge.specs.View.{offer_to}
use Rattle.replica_store.specs.Making.{subscribe_of, put_of}
use Rattle.subscription_set.specs.Standing.{any_of, any_below}
use Rattle.law_sessions.specs.Runs.{Event}
use Rattle.session_table.specs.Seats.{Seat}
use Rattle.node_work.specs.Acts.{Act, Store, Made, Session, Bridge, MomentTaken, Named, Passed, Runs, next}
use Rattle.node_work.specs.Calling.{Calls, CallsAt}
use Rattle.node_work.specs.Doings.{MakesRemove, MakesRemoveBelow, Removes, PutsInLaneBy}
use Rattle.node_work.specs.declared.counts.Missed.TheVariants.{LaneFull}
use Rattle.node_work.specs.Held.Bridge.{Put as PutInto, Left_out}
use Rattle.node_work.specs.Held.Making.{number_at_end, put_at_end, removal, removal_below}
use Rattle.node_work.specs.Held.Sessions.{Called, Over, seat_at}
use Rattle.node_work.specs.Passing.{turn_at_end}
use Rattle.node_work.specs.View.{Place, HeldView}
use Rattle.node_work.specs.Working.{Doing, Returns, Stops, Acting, Numbered, Looks, FindsWhere, If, Where, Then}
use Rattle.node_work.proofs.Working.{runs_join}
use Rattle.node_clients.specs.Connecting as connecting
use Rattle.node_clients.specs.Ending as ending
use Rattle.node_clients.specs.Naming.{IsNextNumber, automatic}
use Rattle.node_clients.specs.Passing as passing
use Rattle.node_clients.proofs.Determined.{runs_determined}
use Rattle.broker_node.specs.declared.event.Event.{Event as NodeEvent}
use Rattle.broker_node.specs.Turns as turns
use Rattle.law_runs.proofs.Keeping.{none_some, calling_by}
use Rattle.law_runs.proofs.Passing.{numbered}
use Rattle.law_runs.proofs.Splits.{head_is, tail_is, none_there, alone_is, splits, runs_split}
use Rattle.law_causes.proofs.Walk.{IsSimple, simple, Walks, copies_at, decides}
use Rattle.law_causes.proofs.Lower.{Makes, ticks_of, finishes_of, serves, evicts}

-- the last act is its Remove, by what the node held before that
pub record RemovedLast (p : Place) (h : HeldView) (before : List Act) (held : HeldView) (client : List ℕ) : Type 0 where
  pub node : ℕ
  pub home : IsHome held.homes client node
  pub mid : HeldView
  pub earlier : List Act
  pub runs : Runs p h earlier mid
  pub same : held.homes ≡ mid.homes
  pub is : before ≡ earlier ++ Store (Made (removal_below p.id client (ending.ends_below node p mid) mid.store)) ∷ []

-- nothing stands
pub record NoneStands (p : Place) (held : HeldView) (client : List ℕ) : Type 0 where
  pub node : ℕ
  pub home : IsHome held.homes client node
  pub none : any_below client (ending.ends_below node p held) held.store.subscriptions ≡ false

abbrev pub IsEnded : Place → HeldView → List Act → HeldView → List ℕ → Type 0
IsEnded p h before held client = RemovedLast p h before held client ⊎ NoneStands p held client

ended_more : (p : Place) (h mid : HeldView) (xs before : List Act) (held : HeldView) (client : List ℕ) → Runs p h xs mid → IsEnded p mid before held client → IsEnded p h (xs ++ before) held client
ended_more p h mid xs before held client runs (inl d) = inl (record {
  node = d.node;
  home = d.home;
  mid = d.mid;
  earlier = xs ++ d.earlier;
  runs = runs_join p xs d.earlier h mid d.mid runs d.runs;
  same = d.same;
  is = ap (λ zs. xs ++ zs) d.is ∙ sym (append_assoc xs d.earlier (Store (Made (removal_below p.id client (ending.ends_below d.node p d.mid) d.mid.store)) ∷ []));
})
ended_more p h mid xs before held client runs (inr d) = inr d

abbrev pub Ended : Place → HeldView → List Act → Type 0
Ended p h acts = (before after : List Act) (client : List ℕ) (held : HeldView) → acts ≡ before ++ Session (Over client) ∷ after → Runs p h before held → IsEnded p h before held client

none_ended : (p : Place) (h : HeldView) → Ended p h []
none_ended p h before after client held is ran = none_there before after (Session (Over client)) is

one_ended : (p : Place) (h : HeldView) (a : Act) → ((client : List ℕ) → a ≡ Session (Over client) → ⊥) → Ended p h (a ∷ [])
one_ended p h a other before after client held is ran = absurd (other client (alone_is a (Session (Over client)) before after is))

simple_ended : (p : Place) (h : HeldView) (a : Act) → IsSimple a → Ended p h (a ∷ [])
simple_ended p h a simple = one_ended p h a (λ client e. subst IsSimple e simple)

both_ended : (p : Place) (h mid : HeldView) (xs ys : List Act) → Runs p h xs mid → Ended p h xs → Ended p mid ys → Ended p h (xs ++ ys)
both_ended p h mid xs ys runs f g before after client held is ran =
    elim (splits xs ys before after (Session (Over client)) is) [
      | inl r ↦ f before r.0 client held r.1 ran
      | inr r ↦ (
          let parts = runs_split p xs r.0 h held (subst (λ zs. Runs p h zs held) r.1 ran) in
          let same : parts.0 ≡ mid = runs_determined p xs h parts.0 mid parts.1 runs in
          subst (λ zs. IsEnded p h zs held client) (sym r.1) (ended_more p h mid xs r.0 held client runs (g r.0 after client held r.2 (subst (λ v. Runs p v r.0 held) same parts.2))))
    ]

-- ---- of work
pub record Keeps (A : Type 0) (P : Option A → Doing) : Type 0 where
  pub of : (x : A) (p : Place) (h : HeldView) (acts : List Act) → P (Some x) p h acts → Ended p h acts

k_returns : {A : Type 0} (y : A) → Keeps A (Returns y)
k_returns y = record { of = λ x p h acts d. subst (Ended p h) (sym d.1) (none_ended p h) }

k_stops : {A : Type 0} → Keeps A Stops
k_stops = record { of = λ x p h acts d. none_some (sym d.0) }

k_acting : (a : Place → HeldView → Act) → ((p : Place) (h : HeldView) → IsSimple (a p h)) → Keeps (Unit {0}) (Acting a)
k_acting a simple = record { of = λ x p h acts d. subst (Ended p h) (sym d.1) (simple_ended p h (a p h) (simple p h)) }

k_numbered : (at_end : Place → HeldView → Bool) (a : Place → HeldView → Act) → ((p : Place) (h : HeldView) (client : List ℕ) → a p h ≡ Session (Over client) → ⊥) → Keeps (Unit {0}) (Numbered at_end a)
k_numbered at_end a other = record { of = λ x p h acts d. subst (Ended p h) (sym (numbered (at_end p h) x (a p h) acts d)) (one_ended p h (a p h) (other p h)) }

k_looks : {A B : Type 0} (see : Place → HeldView → A) (P : A → Option B → Doing) → ((y : A) → Keeps B (P y)) → Keeps B (Looks see P)
k_looks see P f = record { of = λ x p h acts d. (f (see p h)).of x p h acts d }

k_finds : {A B : Type 0} (Is : Place → HeldView → A → Type 0) (P : A → Option B → Doing) → ((y : A) → Keeps B (P y)) → Keeps B (FindsWhere Is P)
k_finds Is P f = record { of = λ x p h acts d. (f d.0).of x p h acts d.2 }

k_if : {A : Type 0} (b : Bool) (P Q : Option A → Doing) → Keeps A P → Keeps A Q → Keeps A (If b P Q)
k_if true P Q f g = record { of = λ x p h acts d. f.of x p h acts d }
k_if false P Q f g = record { of = λ x p h acts d. g.of x p h acts d }

k_where : {A : Type 0} (X : Type 0) (P Q : Option A → Doing) → Keeps A P → Keeps A Q → Keeps A (Where X P Q)
k_where X P Q f g = record { of = λ x p h acts d. elim d [ inl e ↦ f.of x p h acts e.1 | inr e ↦ g.of x p h acts e.1 ] }

then_of : {A B : Type 0} (P : Option A → Doing) (Q : A → Option B → Doing) → Keeps A P → ((y : A) → Keeps B (Q y)) → (x : B) (p : Place) (h : HeldView) (acts : List Act) → Then P Q (Some x) p h acts → Ended p h acts
then_of P Q f g x p h acts (inl d) = none_some (sym d.0)
then_of P Q f g x p h acts (inr (y, own, mid, rest, one, runs, more, is)) = subst (Ended p h) (sym is) (both_ended p h mid own rest runs (f.of y p h own one) ((g y).of x p mid rest more))

k_then : {A B : Type 0} (P : Option A → Doing) (Q : A → Option B → Doing) → Keeps A P → ((y : A) → Keeps B (Q y)) → Keeps B (Then P Q)
k_then P Q f g = record { of = then_of P Q f g }

calls_at : (client : List ℕ) (event : ℕ → Event) (on : Option ℕ → Option ℕ) (found : Option Seat) (r : Reaction) (p : Place) (h : HeldView) (acts : List Act) → CallsAt client event on found (Some r) p h acts → Ended p h acts
calls_at client event on None r p h acts d = subst (Ended p h) (sym d.1) (none_ended p h)
calls_at client event on (Some seat) r p h acts d =
    let k = calling_by client event on seat r p h acts d in subst (Ended p h) (sym k.acts_are) (one_ended p h (Session (Called k.step)) (λ other e. (let z : Session (Called k.step) ≡ Session (Over other) = e in cc)))

k_calls : (client : List ℕ) (event : ℕ → Event) (on : Option ℕ → Option ℕ) → Keeps Reaction (Calls client event on)
k_calls client event on = record { of = λ r p h acts d. calls_at client event on (seat_at client h) r p h acts d }

k_puts_by : (peer : ℕ) (m : Forward) (o : Offer) → Keeps (Unit {0}) (PutsInLaneBy peer m o)
k_puts_by peer m (Queued n) = k_acting (λ p h. Bridge (PutInto peer m)) (λ p h. tt)
k_puts_by peer m Full = k_acting (λ p h. Bridge (Left_out LaneFull)) (λ p h. tt)
k_puts_by peer m AtEnd = k_stops

k_names_by : (c : ℕ) (q : Connect) → ((client : List ℕ) → Keeps (Unit {0}) (connecting.Accepts c q client)) → (number : Option ℕ) → Keeps (Unit {0}) (connecting.NamesBy c q number)
k_names_by c q f None = k_stops
k_names_by c q f (Some number) =
    k_then (Acting (λ place h. Named number)) (λ _. Looks (λ place h. automatic place.id number) (connecting.Accepts c q)) (k_acting (λ place h. Named number) (λ place h. tt))
    (λ _. k_looks (λ place h. automatic place.id number) (connecting.Accepts c q) f)

walks : Walks Keeps
walks = record {
  returns = k_returns;
  acting = λ a plain. k_acting a (λ p h. simple (a p h) (plain p h));
  looks = k_looks;
  finds = k_finds;
  by_test = k_if;
  by_whether = k_where;
  join = k_then;
  calls = k_calls;
  puts = λ peer m. k_looks (λ p h. offer_to peer h.bridge) (PutsInLaneBy peer m) (k_puts_by peer m);
  names = λ c q f. k_finds IsNextNumber (connecting.NamesBy c q) (k_names_by c q f);
}

-- ---- operations
makes_remove : (client : List ℕ) (to : Option (List ℕ)) → Keeps (Unit {0}) (MakesRemove client to)
makes_remove client to = k_numbered (λ p h. number_at_end p.id h) (λ p h. Store (Made (removal p.id client to h.store))) (λ p h other e. cc e)

removes : (client : List ℕ) (to : Option (List ℕ)) → Keeps Bool (Removes client to)
removes client to =
    k_looks (λ p h. any_of client to h.store.subscriptions) (λ stands. If stands (Then (MakesRemove client to) (λ _. Returns true)) (Returns false))
    (λ stands. k_if stands (Then (MakesRemove client to) (λ _. Returns true)) (Returns false) (k_then (MakesRemove client to) (λ _. Returns true) (makes_remove client to) (λ _. k_returns true)) (k_returns false))

-- ---- a session's end
over_alone : (p : Place) (h : HeldView) (client : List ℕ) → NoneStands p h client → Ended p h (Session (Over client) ∷ [])
over_alone p h client none [] after other held is ran =
    let same : client ≡ other = (let z = head_is is in cc) in
    let there : held ≡ h = ran in
    inr (subst (λ v. NoneStands p v other) (sym there) (subst (NoneStands p h) same none))
over_alone p h client none (b ∷ before) after other held is ran = none_there before after (Session (Over other)) (tail_is is)

abbrev end_act : Place → HeldView → List ℕ → ℕ → Act
end_act p h client node = Store (Made (removal_below p.id client (ending.ends_below node p h) h.store))

over_after : (p : Place) (h : HeldView) (client : List ℕ) (node : ℕ) → IsHome h.homes client node → Ended p h (Store (Made (removal_below p.id client (ending.ends_below node p h) h.store)) ∷ Session (Over client) ∷ [])
over_after p h client node home [] after other held is ran = absurd (let z : Store (Made (removal_below p.id client (ending.ends_below node p h) h.store)) ≡ Session (Over other) = head_is is in cc)
over_after p h client node home (b ∷ before) after other held is ran = by before (tail_is is) ran
  where
    by : (before : List Act) → Session (Over client) ∷ [] ≡ before ++ Session (Over other) ∷ after → Runs p h (b ∷ before) held → IsEnded p h (b ∷ before) held other
    by [] e so =
        let same : client ≡ other = (let z = head_is e in cc) in
        let there : held ≡ next h (end_act p h client node) = so.2 ∙ so.1.1 ∙ ap (next h) (sym (head_is is)) in
        let homes : held.homes ≡ h.homes = ap (λ (v : HeldView). v.homes) there in
        subst (λ zs. IsEnded p h (zs ∷ []) held other) (head_is is) (subst (IsEnded p h (end_act p h client node ∷ []) held) same (inl (record {
          node = node;
          home = subst (λ t. IsHome t client node) (sym homes) home;
          mid = h;
          earlier = [];
          runs = refl;
          same = homes;
          is = refl;
        })))
    by (x ∷ before) e so = none_there before after (Session (Over other)) (tail_is e)

end_by : (stands : Bool) (client : List ℕ) (node : ℕ) (y : Bool) (p : Place) (h : HeldView) (own : List Act) → IsHome h.homes client node → any_below client (ending.ends_below node p h) h.store.subscriptions ≡ stands
    → If stands (Then (MakesRemoveBelow client (ending.ends_below node p h)) (λ _. Returns true)) (Returns false) (Some y) p h own → Ended p h (own ++ Session (Over client) ∷ [])
end_by false client node y p h own home none d = subst (λ zs. Ended p h (zs ++ Session (Over client) ∷ [])) (sym d.1) (over_alone p h client (record { node = node; home = home; none = none }))
end_by true client node y p h own home some (inl d) = none_some (sym d.0)
end_by true client node y p h own home some (inr (x, made, left, none, one, ran, also, same)) =
    let o = removal_below p.id client (ending.ends_below node p h) h.store in
    let alone : own ≡ Store (Made o) ∷ [] = same ∙ (λ i. made ++ also.1 i) ∙ append-nil made ∙ numbered (number_at_end p.id h) x (Store (Made o)) made one in
    subst (λ zs. Ended p h (zs ++ Session (Over client) ∷ [])) (sym alone) (over_after p h client node home)

ends_session : (client : List ℕ) → Keeps (Unit {0}) (ending.EndsSession client)
ends_session client = record { of = λ x p h acts d. by x p h acts d }
  where
    by : (x : Unit {0}) (p : Place) (h : HeldView) (acts : List Act) → ending.EndsSession client (Some x) p h acts → Ended p h acts
    by x p h acts (inl d) = none_some (sym d.0)
    by x p h acts (inr (y, own, mid, rest, (node, home, one), runs, more, is)) =
        subst (Ended p h) (sym (is ∙ (λ i. own ++ more.1 i))) (end_by (any_below client (ending.ends_below node p h) h.store.subscriptions) client node y p h own home refl one)

makes : Makes Keeps
makes = record {
  put = λ content. k_numbered (λ p h. put_at_end p.id h) (λ p h. Store (Made (put_of p.id content h.store))) (λ p h client e. cc e);
  subscribe = λ entry. k_numbered (λ p h. number_at_end p.id h) (λ p h. Store (Made (subscribe_of p.id entry h.store))) (λ p h client e. cc e);
  remove = removes;
  end = ends_session;
  copied = λ m. k_looks (λ p h. h.at) (passing.CopiesAt m) (copies_at Keeps walks m (λ x. k_numbered turn_at_end (λ p h. Passed m x.0 x.1.0 x.1.1) (λ p h client e. cc e)));
}

-- in every step
pub all_ended : (e : NodeEvent) (p : Place) (h : HeldView) (acts : List Act) → turns.Decides e (Some tt) p h acts → Ended p h acts
all_ended e p h acts d =
    (decides Keeps walks (ticks_of Keeps walks makes) (finishes_of Keeps walks makes) (serves Keeps walks makes) (λ c. record { of = λ x p h acts d. absurd d }) (λ c client. record { of = λ x p h acts d. absurd d }) e
    (λ client is. evicts Keeps walks makes client) (k_numbered (λ p h. not (nat_lt e.at (2 ^ 62))) (λ p h. MomentTaken e.at) (λ p h client is. cc is))).of tt p h acts d
