-- Each operation of a step has its cause there.
use Rattle.std.proofs.Common.{◌≡◌, ◌⊎◌, inl, inr, ℕ, ◌^◌, not, nat_lt, Bool, true, false, List, [], ◌∷◌, ◌++◌, Option, Some, None, refl, sym, ap, ◌∙◌, subst, append_assoc}
use Rattle.std.proofs.lemmas.List.{append-nil}
use Rattle.mqtt_message.specs.declared.message.Message.{Message}
use Rattle.mqtt_packets.specs.declared.connect.Connect.{Connect}
use Rattle.mqtt_packets.specs.declared.packet.Packet.{Packet}
use Rattle.mqtt_packets.specs.declared.packet.Packet.TheVariants as packets
use Rattle.mqtt_packets.specs.declared.subscribe.Subscribe.{Subscribe}
use Rattle.mqtt_packets.specs.declared.subscribe.SubscribeFilter.{SubscribeFilter}
use Rattle.mqtt_packets.specs.declared.unsubscribe.Unsubscribe.{Unsubscribe}
use Rattle.home_table.specs.Homes.{IsHome}
use Rattle.bridge_deltas.specs.declared.offer.Offer.{Offer}
use Rattle.bridge_deltas.specs.declared.offer.Offer.TheVariants.{Queued, Full, AtEnd}
use Rattle.bridge_frames.specs.declared.forward.Forward.{Forward}
use Rattle.mqtt_sessions.specs.declared.reaction.Ask.{Ask}
use Rattle.mqtt_sessions.specs.declared.reaction.Ask.TheVariants as asks
use Rattle.mqtt_sessions.specs.Reaction.{Reaction, nothing}
use Rattle.node_bridge.specs.View.{offer_to}
use Rattle.replica_store.specs.declared.operation.Operation.{Operation}
use Rattle.replica_store.specs.Making.{subscribe_of, put_of}
use Rattle.subscription_set.specs.Standing.{any_of, any_below}
use Rattle.law_sessions.specs.Runs.{Event, takes, ticks, finishes}
use Rattle.session_table.specs.Calls.{stays}
use Rattle.session_table.specs.Seats.{Seat}
use Rattle.node_work.specs.Acts.{Act, Store, Made, Session, Bridge, MomentTaken, Named, Passed, Runs}
use Rattle.node_work.specs.Calling.{Calls, CallsAt}
use Rattle.node_work.specs.Doings.{MakesPut, MakesRemove, MakesRemoveBelow, PutsInLaneBy, TakesMoment}
use Rattle.node_work.specs.declared.counts.Missed.TheVariants.{LaneFull}
use Rattle.node_work.specs.Held.Bridge.{Put as PutInto, Left_out}
use Rattle.node_work.specs.Held.Making.{number_at_end, put_at_end, removal, removal_below}
use Rattle.node_work.specs.Held.Sessions.{SessionStep, Called, Over, seat_at}
use Rattle.node_work.specs.Passing.{content_given, turn_at_end}
use Rattle.node_work.specs.View.{Place, HeldView}
use Rattle.node_work.specs.Working.{Doing, Returns, Stops, Acting, Numbered, Looks, FindsWhere, If, Where, Then}
use Rattle.node_work.proofs.Working.{runs_join}
use Rattle.node_clients.specs.Connecting as connecting
use Rattle.node_clients.specs.Ending as ending
use Rattle.node_clients.specs.Naming.{IsNextNumber, automatic}
use Rattle.node_clients.specs.Passing as passing
use Rattle.node_clients.specs.Serving as serving
use Rattle.node_clients.specs.Subscribing as subscribing
use Rattle.node_clients.specs.Unsubscribing as unsubscribing
use Rattle.node_clients.proofs.Determined.{runs_determined}
use Rattle.broker_node.specs.declared.event.Event.{Event as NodeEvent}
use Rattle.broker_node.specs.declared.event.EventKind.{EventKind}
use Rattle.broker_node.specs.declared.event.EventKind.TheVariants as kinds
use Rattle.broker_node.specs.Turns as turns
use Rattle.law_runs.specs.StepAsking.{IsGranted, AreGranted, FilterIsRemoved, FiltersAreRemoved}
use Rattle.law_runs.specs.StepSending.{IsIn}
use Rattle.law_runs.proofs.Keeping.{none_some, calling_by}
use Rattle.law_runs.proofs.Passing.{numbered}
use Rattle.law_runs.proofs.Requests.{are_granted, are_removed}
use Rattle.law_runs.proofs.Splits.{head_is, tail_is, none_there, alone_is, splits, runs_split}
use Rattle.law_causes.specs.Causes.{AreOperations, AfterCall, DirectlyAfter}
use Rattle.law_causes.proofs.Stores.{front, granted, removed}
use Rattle.law_causes.proofs.Walk.{IsSimple, simple, Walks, decides, copies_at, drops, closes_after, acknowledges, unacknowledges}

-- ---- causes, by what the node holds
pub record BySubscribe (call : SessionStep) (p : Place) (held : HeldView) (o : Operation) : Type 0 where
  pub subscribe : Subscribe
  pub now : ℕ
  pub room : Bool
  pub event : call.event ≡ takes (packets.Subscribe subscribe) now room
  pub asked : call.reaction.ask ≡ Some asks.Subscribe
  pub filter : SubscribeFilter
  pub among : IsIn filter subscribe.filters
  pub is : o ≡ subscribe_of p.id (subscribing.subscription_entry call.client filter (subscribing.identifier_of subscribe) held.homes.version) held.store

pub record ByUnsubscribe (call : SessionStep) (p : Place) (held : HeldView) (o : Operation) : Type 0 where
  pub unsubscribe : Unsubscribe
  pub now : ℕ
  pub room : Bool
  pub event : call.event ≡ takes (packets.Unsubscribe unsubscribe) now room
  pub asked : call.reaction.ask ≡ Some asks.Unsubscribe
  pub text : List ℕ
  pub among : IsIn text unsubscribe.filters
  pub is : o ≡ removal p.id call.client (Some text) held.store

pub record ByMessage (call : SessionStep) (p : Place) (held : HeldView) (o : Operation) : Type 0 where
  pub message : Message
  pub asks : call.reaction.ask ≡ Some (asks.Pass message)
  pub retain : message.retain ≡ true
  pub is : o ≡ put_of p.id (content_given message) held.store

pub record ByEnd (p : Place) (held : HeldView) (o : Operation) (after : List Act) : Type 0 where
  pub client : List ℕ
  pub node : ℕ
  pub home : IsHome held.homes client node
  pub is : o ≡ removal_below p.id client (ending.ends_below node p held) held.store
  pub rest : List Act
  pub follows : after ≡ Session (Over client) ∷ rest

pub record ByEviction (kind : EventKind) (p : Place) (held : HeldView) (o : Operation) : Type 0 where
  pub client : List ℕ
  pub event : kind ≡ kinds.Evict client
  pub is : o ≡ removal p.id client None held.store

module _ (kind : EventKind) where
  abbrev pub IsCaused : Place → HeldView → List Act → Operation → List Act → Type 0
  IsCaused p held before o after =
      ((a : AfterCall before) × (BySubscribe a.call p held o ⊎ ByUnsubscribe a.call p held o))
      ⊎ ((a : DirectlyAfter before) × ByMessage a.call p held o)
      ⊎ ByEnd p held o after
      ⊎ ByEviction kind p held o

  abbrev after_more : (xs before : List Act) (a : AfterCall before) → AfterCall (xs ++ before)
  after_more xs before a = record { call = a.call; earlier = xs ++ a.earlier; made = a.made; is = ap (λ zs. xs ++ zs) a.is ∙ sym (append_assoc xs a.earlier (Session (Called a.call) ∷ a.made)); alone = a.alone }

  abbrev directly_more : (xs before : List Act) (a : DirectlyAfter before) → DirectlyAfter (xs ++ before)
  directly_more xs before a = record { call = a.call; earlier = xs ++ a.earlier; is = ap (λ zs. xs ++ zs) a.is ∙ sym (append_assoc xs a.earlier (Session (Called a.call) ∷ [])) }

  caused_more : (p : Place) (held : HeldView) (xs before : List Act) (o : Operation) (after : List Act) → IsCaused p held before o after → IsCaused p held (xs ++ before) o after
  caused_more p held xs before o after (inl d) = inl (after_more xs before d.0, d.1)
  caused_more p held xs before o after (inr (inl d)) = inr (inl (directly_more xs before d.0, d.1))
  caused_more p held xs before o after (inr (inr (inl d))) = inr (inr (inl d))
  caused_more p held xs before o after (inr (inr (inr d))) = inr (inr (inr d))

  caused_later : (p : Place) (held : HeldView) (before : List Act) (o : Operation) (after ys : List Act) → IsCaused p held before o after → IsCaused p held before o (after ++ ys)
  caused_later p held before o after ys (inl d) = inl d
  caused_later p held before o after ys (inr (inl d)) = inr (inl d)
  caused_later p held before o after ys (inr (inr (inl d))) = inr (inr (inl (record { client = d.client; node = d.node; home = d.home; is = d.is; rest = d.rest ++ ys; follows = ap (λ zs. zs ++ ys) d.follows })))
  caused_later p held before o after ys (inr (inr (inr d))) = inr (inr (inr d))

  -- ---- of acts
  abbrev pub Caused : Place → HeldView → List Act → Type 0
  Caused p h acts = (before after : List Act) (o : Operation) (held : HeldView) → acts ≡ before ++ Store (Made o) ∷ after → Runs p h before held → IsCaused p held before o after

  none_caused : (p : Place) (h : HeldView) → Caused p h []
  none_caused p h before after o held is ran = none_there before after (Store (Made o)) is

  one_caused : (p : Place) (h : HeldView) (a : Act) → ((o : Operation) → a ≡ Store (Made o) → ⊥) → Caused p h (a ∷ [])
  one_caused p h a other before after o held is ran = absurd (other o (alone_is a (Store (Made o)) before after is))

  simple_caused : (p : Place) (h : HeldView) (a : Act) → IsSimple a → Caused p h (a ∷ [])
  simple_caused p h a simple = one_caused p h a (λ o e. subst IsSimple e simple)

  call_caused : (p : Place) (h : HeldView) (s : SessionStep) → Caused p h (Session (Called s) ∷ [])
  call_caused p h s = one_caused p h (Session (Called s)) (λ o e. cc e)

  both_caused : (p : Place) (h mid : HeldView) (xs ys : List Act) → Runs p h xs mid → Caused p h xs → Caused p mid ys → Caused p h (xs ++ ys)
  both_caused p h mid xs ys runs f g before after o held is ran =
      elim (splits xs ys before after (Store (Made o)) is) [
        | inl r ↦ subst (IsCaused p held before o) (sym r.2) (caused_later p held before o r.0 ys (f before r.0 o held r.1 ran))
        | inr r ↦ (
            let parts = runs_split p xs r.0 h held (subst (λ zs. Runs p h zs held) r.1 ran) in
            let same : parts.0 ≡ mid = runs_determined p xs h parts.0 mid parts.1 runs in
            subst (λ zs. IsCaused p held zs o after) (sym r.1) (caused_more p held xs r.0 o after (g r.0 after o held r.2 (subst (λ v. Runs p v r.0 held) same parts.2))))
      ]

  -- ---- of work
  pub record Keeps (A : Type 0) (P : Option A → Doing) : Type 0 where
    pub of : (x : A) (p : Place) (h : HeldView) (acts : List Act) → P (Some x) p h acts → Caused p h acts

  k_returns : {A : Type 0} (y : A) → Keeps A (Returns y)
  k_returns y = record { of = λ x p h acts d. subst (Caused p h) (sym d.1) (none_caused p h) }

  k_stops : {A : Type 0} → Keeps A Stops
  k_stops = record { of = λ x p h acts d. none_some (sym d.0) }

  k_acting : (a : Place → HeldView → Act) → ((p : Place) (h : HeldView) → IsSimple (a p h)) → Keeps (Unit {0}) (Acting a)
  k_acting a simple = record { of = λ x p h acts d. subst (Caused p h) (sym d.1) (simple_caused p h (a p h) (simple p h)) }

  k_numbered : (at_end : Place → HeldView → Bool) (a : Place → HeldView → Act) → ((p : Place) (h : HeldView) → IsSimple (a p h)) → Keeps (Unit {0}) (Numbered at_end a)
  k_numbered at_end a simple = record { of = λ x p h acts d. subst (Caused p h) (sym (numbered (at_end p h) x (a p h) acts d)) (simple_caused p h (a p h) (simple p h)) }

  k_looks : {A B : Type 0} (see : Place → HeldView → A) (P : A → Option B → Doing) → ((y : A) → Keeps B (P y)) → Keeps B (Looks see P)
  k_looks see P f = record { of = λ x p h acts d. (f (see p h)).of x p h acts d }

  k_finds : {A B : Type 0} (Is : Place → HeldView → A → Type 0) (P : A → Option B → Doing) → ((y : A) → Keeps B (P y)) → Keeps B (FindsWhere Is P)
  k_finds Is P f = record { of = λ x p h acts d. (f d.0).of x p h acts d.2 }

  k_if : {A : Type 0} (b : Bool) (P Q : Option A → Doing) → Keeps A P → Keeps A Q → Keeps A (If b P Q)
  k_if true P Q f g = record { of = λ x p h acts d. f.of x p h acts d }
  k_if false P Q f g = record { of = λ x p h acts d. g.of x p h acts d }

  k_where : {A : Type 0} (X : Type 0) (P Q : Option A → Doing) → Keeps A P → Keeps A Q → Keeps A (Where X P Q)
  k_where X P Q f g = record { of = λ x p h acts d. elim d [ inl e ↦ f.of x p h acts e.1 | inr e ↦ g.of x p h acts e.1 ] }

  then_of : {A B : Type 0} (P : Option A → Doing) (Q : A → Option B → Doing) → Keeps A P → ((y : A) → Keeps B (Q y)) → (x : B) (p : Place) (h : HeldView) (acts : List Act) → Then P Q (Some x) p h acts → Caused p h acts
  then_of P Q f g x p h acts (inl d) = none_some (sym d.0)
  then_of P Q f g x p h acts (inr (y, own, mid, rest, one, runs, more, is)) = subst (Caused p h) (sym is) (both_caused p h mid own rest runs (f.of y p h own one) ((g y).of x p mid rest more))

  k_then : {A B : Type 0} (P : Option A → Doing) (Q : A → Option B → Doing) → Keeps A P → ((y : A) → Keeps B (Q y)) → Keeps B (Then P Q)
  k_then P Q f g = record { of = then_of P Q f g }

  calls_at : (client : List ℕ) (event : ℕ → Event) (on : Option ℕ → Option ℕ) (found : Option Seat) (r : Reaction) (p : Place) (h : HeldView) (acts : List Act) → CallsAt client event on found (Some r) p h acts → Caused p h acts
  calls_at client event on None r p h acts d = subst (Caused p h) (sym d.1) (none_caused p h)
  calls_at client event on (Some seat) r p h acts d = let k = calling_by client event on seat r p h acts d in subst (Caused p h) (sym k.acts_are) (call_caused p h k.step)

  k_calls : (client : List ℕ) (event : ℕ → Event) (on : Option ℕ → Option ℕ) → Keeps Reaction (Calls client event on)
  k_calls client event on = record { of = λ r p h acts d. calls_at client event on (seat_at client h) r p h acts d }

  k_puts_by : (peer : ℕ) (m : Forward) (o : Offer) → Keeps (Unit {0}) (PutsInLaneBy peer m o)
  k_puts_by peer m (Queued n) = k_acting (λ p h. Bridge (PutInto peer m)) (λ p h. tt)
  k_puts_by peer m Full = k_acting (λ p h. Bridge (Left_out LaneFull)) (λ p h. tt)
  k_puts_by peer m AtEnd = k_stops

  k_names_by : (c : ℕ) (p : Connect) → ((client : List ℕ) → Keeps (Unit {0}) (connecting.Accepts c p client)) → (number : Option ℕ) → Keeps (Unit {0}) (connecting.NamesBy c p number)
  k_names_by c p f None = k_stops
  k_names_by c p f (Some number) =
      k_then (Acting (λ place h. Named number)) (λ _. Looks (λ place h. automatic place.id number) (connecting.Accepts c p)) (k_acting (λ place h. Named number) (λ place h. tt))
      (λ _. k_looks (λ place h. automatic place.id number) (connecting.Accepts c p) f)

  takes_moment : (at : ℕ) → Keeps (Unit {0}) (TakesMoment at)
  takes_moment at = k_numbered (λ p h. not (nat_lt at (2 ^ 62))) (λ p h. MomentTaken at) (λ p h. tt)

  walks : Walks Keeps
  walks = record {
    returns = k_returns;
    acting = λ a plain. k_acting a (λ p h. simple (a p h) (plain p h));
    looks = k_looks;
    finds = k_finds;
    by_test = k_if;
    by_whether = k_where;
    join = k_then;
    calls = k_calls;
    puts = λ peer m. k_looks (λ p h. offer_to peer h.bridge) (PutsInLaneBy peer m) (k_puts_by peer m);
    names = λ c p f. k_finds IsNextNumber (connecting.NamesBy c p) (k_names_by c p f);
  }

  passed_on : (m : Message) (x : passing.Made) → Keeps (Unit {0}) (Numbered turn_at_end (λ p h. Passed m x.0 x.1.0 x.1.1))
  passed_on m x = k_numbered turn_at_end (λ p h. Passed m x.0 x.1.0 x.1.1) (λ p h. tt)

  -- ---- a session's end: one Remove, and then it is over
  end_by : (stands : Bool) (client : List ℕ) (node : ℕ) (y : Bool) (p : Place) (h : HeldView) (own : List Act) → IsHome h.homes client node
      → If stands (Then (MakesRemoveBelow client (ending.ends_below node p h)) (λ _. Returns true)) (Returns false) (Some y) p h own → Caused p h (own ++ Session (Over client) ∷ [])
  end_by false client node y p h own home d = subst (λ zs. Caused p h (zs ++ Session (Over client) ∷ [])) (sym d.1) (one_caused p h (Session (Over client)) (λ o e. cc e))
  end_by true client node y p h own home (inl d) = none_some (sym d.0)
  end_by true client node y p h own home (inr (x, made, left, none, one, ran, also, same)) =
      let o = removal_below p.id client (ending.ends_below node p h) h.store in
      let alone : own ≡ Store (Made o) ∷ [] = same ∙ (λ i. made ++ also.1 i) ∙ append-nil made ∙ numbered (number_at_end p.id h) x (Store (Made o)) made one in
      subst (λ zs. Caused p h (zs ++ Session (Over client) ∷ [])) (sym alone) (ended o refl)
    where
      ended : (o : Operation) → o ≡ removal_below p.id client (ending.ends_below node p h) h.store → Caused p h (Store (Made o) ∷ Session (Over client) ∷ [])
      ended o made_is [] after q held is ran =
          let same_op : o ≡ q = (let z = head_is is in cc) in
          let there : held ≡ h = ran in
          inr (inr (inl (subst (λ v. ByEnd p v q after) (sym there) (record { client = client; node = node; home = home; is = sym same_op ∙ made_is; rest = []; follows = sym (tail_is is) }))))
      ended o made_is (b ∷ before) after q held is ran = absurd (let z : Session (Over client) ≡ Store (Made q) = alone_is (Session (Over client)) (Store (Made q)) before after (tail_is is) in cc)

  ends_session : (client : List ℕ) (x : Unit {0}) (p : Place) (h : HeldView) (acts : List Act) → ending.EndsSession client (Some x) p h acts → Caused p h acts
  ends_session client x p h acts (inl d) = none_some (sym d.0)
  ends_session client x p h acts (inr (y, own, mid, rest, (node, home, one), runs, more, is)) =
      subst (Caused p h) (sym (is ∙ (λ i. own ++ more.1 i))) (end_by (any_below client (ending.ends_below node p h) h.store.subscriptions) client node y p h own home one)

  -- ---- an eviction: one Remove
  evicted_by : (stands : Bool) (client : List ℕ) (y : Bool) (p : Place) (h : HeldView) (own : List Act) → kind ≡ kinds.Evict client
      → If stands (Then (MakesRemove client None) (λ _. Returns true)) (Returns false) (Some y) p h own → Caused p h own
  evicted_by false client y p h own event d = subst (Caused p h) (sym d.1) (none_caused p h)
  evicted_by true client y p h own event (inl d) = none_some (sym d.0)
  evicted_by true client y p h own event (inr (x, made, left, none, one, ran, also, same)) =
      let o = removal p.id client None h.store in
      let alone : own ≡ Store (Made o) ∷ [] = same ∙ (λ i. made ++ also.1 i) ∙ append-nil made ∙ numbered (number_at_end p.id h) x (Store (Made o)) made one in
      subst (Caused p h) (sym alone) (evicted o refl)
    where
      evicted : (o : Operation) → o ≡ removal p.id client None h.store → Caused p h (Store (Made o) ∷ [])
      evicted o made_is [] after q held is ran =
          let same_op : o ≡ q = (let z = head_is is in cc) in
          let there : held ≡ h = ran in
          inr (inr (inr (subst (λ v. ByEviction kind p v q) (sym there) (record { client = client; event = event; is = sym same_op ∙ made_is }))))
      evicted o made_is (b ∷ before) after q held is ran = none_there before after (Store (Made q)) (tail_is is)

  evicts : (client : List ℕ) → kind ≡ kinds.Evict client → Keeps (Unit {0}) (turns.Evicts client)
  evicts client event = record { of = λ x p h acts d. by x p h acts d }
    where
      by : (x : Unit {0}) (p : Place) (h : HeldView) (acts : List Act) → turns.Evicts client (Some x) p h acts → Caused p h acts
      by x p h acts (inl d) = none_some (sym d.0)
      by x p h acts (inr (y, own, mid, rest, one, runs, more, is)) =
          subst (Caused p h) (sym (is ∙ (λ i. own ++ more.1 i) ∙ append-nil own)) (evicted_by (any_of client None h.store.subscriptions) client y p h own event one)

  -- ---- a call, the operations that it causes, and what follows
  module _ (p : Place) (h mid : HeldView) (step : SessionStep) (runs : Runs p h (Session (Called step) ∷ []) mid) where
    abbrev Makes : List Act → List Act → Type 0
    Makes made rest = (before after : List Act) (o : Operation) (held : HeldView) → made ≡ before ++ Store (Made o) ∷ after → Runs p mid before held → IsCaused p held (Session (Called step) ∷ before) o (after ++ rest)

    made_then : (mid2 : HeldView) (made rest : List Act) → Runs p mid made mid2 → Makes made rest → Caused p mid2 rest → Caused p h (Session (Called step) ∷ (made ++ rest))
    made_then mid2 made rest ran f g [] after o held is so = absurd (let z : Session (Called step) ≡ Store (Made o) = head_is is in cc)
    made_then mid2 made rest ran f g (b ∷ before) after o held is so =
        let first : Session (Called step) ≡ b = head_is is in
        let all : Runs p h (Session (Called step) ∷ before) held = subst (λ z. Runs p h (z ∷ before) held) (sym first) so in
        let parts = runs_split p (Session (Called step) ∷ []) before h held all in
        let same : parts.0 ≡ mid = runs_determined p (Session (Called step) ∷ []) h parts.0 mid parts.1 runs in
        let here : Runs p mid before held = subst (λ v. Runs p v before held) same parts.2 in
        subst (λ z. IsCaused p held (z ∷ before) o after) first (elim (splits made rest before after (Store (Made o)) (tail_is is)) [
          | inl r ↦ subst (IsCaused p held (Session (Called step) ∷ before) o) (sym r.2) (f before r.0 o held r.1 here)
          | inr r ↦ (
              let more = runs_split p made r.0 mid held (subst (λ zs. Runs p mid zs held) r.1 here) in
              let there : more.0 ≡ mid2 = runs_determined p made mid more.0 mid2 more.1 ran in
              subst (λ zs. IsCaused p held (Session (Called step) ∷ zs) o after) (sym r.1)
              (caused_more p held (Session (Called step) ∷ made) r.0 o after (g r.0 after o held r.2 (subst (λ v. Runs p v r.0 held) there more.2))))
        ])

    call_then : (acts : List Act) → Caused p mid acts → Caused p h (Session (Called step) ∷ acts)
    call_then acts f = both_caused p h mid (Session (Called step) ∷ []) acts runs (call_caused p h step) f

    -- ---- a message that is passed on
    put_by : (b : Bool) (m : Message) (x : Unit {0}) (made rest : List Act) → m.retain ≡ b → step.reaction.ask ≡ Some (asks.Pass m) → If b (MakesPut (content_given m)) (Returns tt) (Some x) p mid made → Makes made rest
    put_by false m x made rest is ask d = λ before after o held e ran. none_there before after (Store (Made o)) (sym d.1 ∙ e)
    put_by true m x made rest is ask d = by (numbered (put_at_end p.id mid) x (Store (Made (put_of p.id (content_given m) mid.store))) made d)
      where
        by : made ≡ Store (Made (put_of p.id (content_given m) mid.store)) ∷ [] → Makes made rest
        by alone [] after o held e ran =
            let same : put_of p.id (content_given m) mid.store ≡ o = (let z = head_is (sym alone ∙ e) in cc) in
            let there : held ≡ mid = ran in
            inr (inl (record { call = step; earlier = []; is = refl }, subst (λ v. ByMessage step p v o) (sym there) (record { message = m; asks = ask; retain = is; is = sym same })))
        by alone (b ∷ before) after o held e ran = none_there before after (Store (Made o)) (tail_is (sym alone ∙ e))

    passes : (m : Message) (x : Unit {0}) (acts : List Act) → step.reaction.ask ≡ Some (asks.Pass m) → passing.Passes m (Some x) p mid acts → Caused p h (Session (Called step) ∷ acts)
    passes m x acts ask (inl d) = none_some (sym d.0)
    passes m x acts ask (inr (y, own, mid2, rest, one, ran, more, is)) =
        subst (λ zs. Caused p h (Session (Called step) ∷ zs)) (sym is) (made_then mid2 own rest ran (put_by m.retain m y own rest refl ask one) ((copies_at Keeps walks m (passed_on m) mid2.at).of x p mid2 rest more))

    will_by : (lacks : Bool) (m : Message) (x : Unit {0}) (acts : List Act) → step.reaction.ask ≡ Some (asks.Pass m) → If lacks passing.Drops (passing.Passes m) (Some x) p mid acts → Caused p h (Session (Called step) ∷ acts)
    will_by true m x acts ask d = call_then acts ((drops Keeps walks).of x p mid acts d)
    will_by false m x acts ask d = passes m x acts ask d

    asked : (ask : Option Ask) (x : Unit {0}) (acts : List Act) → step.reaction.ask ≡ ask → ending.PassesAsked ask (Some x) p mid acts → Caused p h (Session (Called step) ∷ acts)
    asked None x acts e d = call_then acts (subst (Caused p mid) (sym d.1) (none_caused p mid))
    asked (Some (asks.Pass m)) x acts e d = will_by (passing.lacks_room m mid) m x acts e d
    asked (Some asks.Subscribe) x acts e d = call_then acts (subst (Caused p mid) (sym d.1) (none_caused p mid))
    asked (Some asks.Unsubscribe) x acts e d = call_then acts (subst (Caused p mid) (sym d.1) (none_caused p mid))

    over_by : (over : Bool) (client : List ℕ) (x : Unit {0}) (v : HeldView) (acts : List Act) → If over (ending.EndsSession client) (Returns tt) (Some x) p v acts → Caused p v acts
    over_by true client x v acts d = ends_session client x p v acts d
    over_by false client x v acts d = subst (Caused p v) (sym d.1) (none_caused p v)

    follows : (client : List ℕ) (r : Reaction) (x : Unit {0}) (acts : List Act) → step.reaction ≡ r → ending.FollowsReaction client r (Some x) p mid acts → Caused p h (Session (Called step) ∷ acts)
    follows client r x acts e (inl d) = none_some (sym d.0)
    follows client r x acts e (inr (y, own, mid2, rest, one, ran, more, is)) =
        subst (λ zs. Caused p h (Session (Called step) ∷ zs)) (sym is)
        (both_caused p h mid2 (Session (Called step) ∷ own) rest (runs_join p (Session (Called step) ∷ []) own h mid mid2 runs ran) (asked r.ask y own (ap (λ (v : Reaction). v.ask) e) one) (over_by r.over client x mid2 rest more))

  -- a session's call whose will and end follow
  unfollowed : (client : List ℕ) (r : Reaction) (x : Unit {0}) (p : Place) (h : HeldView) (acts : List Act) → r ≡ nothing → ending.FollowsReaction client r (Some x) p h acts → Caused p h acts
  unfollowed client r x p h acts e d = by (subst (λ (v : Reaction). ending.FollowsReaction client v (Some x) p h acts) e d)
    where
      by : ending.FollowsReaction client nothing (Some x) p h acts → Caused p h acts
      by (inl b) = none_some (sym b.0)
      by (inr (y, own, mid, rest, one, ran, more, is)) = subst (Caused p h) (sym (is ∙ (λ i. one.1 i ++ more.1 i))) (none_caused p h)

  follows_at : (client : List ℕ) (event : ℕ → Event) (found : Option Seat) (r : Reaction) (x : Unit {0}) (p : Place) (h mid : HeldView) (own rest : List Act) → CallsAt client event stays found (Some r) p h own → Runs p h own mid
      → ending.FollowsReaction client r (Some x) p mid rest → Caused p h (own ++ rest)
  follows_at client event None r x p h mid own rest d ran more =
      let same : mid ≡ h = subst (λ zs. Runs p h zs mid) d.1 ran in
      subst (λ zs. Caused p h (zs ++ rest)) (sym d.1) (subst (λ v. Caused p v rest) same (unfollowed client r x p mid rest (let z = d.0 in cc) more))
  follows_at client event (Some seat) r x p h mid own rest d ran more =
      let s = calling_by client event stays seat r p h own d in
      subst (λ zs. Caused p h (zs ++ rest)) (sym s.acts_are) (follows p h mid s.step (subst (λ zs. Runs p h zs mid) s.acts_are ran) client r x rest s.reaction_is more)

  follows_of : (client : List ℕ) (event : ℕ → Event) → Keeps (Unit {0}) (Then (Calls client event stays) (ending.FollowsReaction client))
  follows_of client event = record { of = λ x p h acts d. by x p h acts d }
    where
      by : (x : Unit {0}) (p : Place) (h : HeldView) (acts : List Act) → Then (Calls client event stays) (ending.FollowsReaction client) (Some x) p h acts → Caused p h acts
      by x p h acts (inl d) = none_some (sym d.0)
      by x p h acts (inr (r, own, mid, rest, one, ran, more, is)) = subst (Caused p h) (sym is) (follows_at client event (seat_at client h) r x p h mid own rest one ran more)

  ticks_of : (client : List ℕ) → Keeps (Unit {0}) (ending.Ticks client)
  ticks_of client = follows_of client ticks

  finishes_of : (client : List ℕ) → Keeps (Unit {0}) (ending.Finishes client)
  finishes_of client = follows_of client finishes

  closes_end : (end : Option ℕ) (c : ℕ) (client : List ℕ) → Keeps (Unit {0}) (ending.ClosesAfter end c client)
  closes_end end c client = closes_after Keeps walks ticks_of end c client

  -- ---- the operations of a SUBSCRIBE and of an UNSUBSCRIBE
  granted_one : (step : SessionStep) (q : Subscribe) (now : ℕ) (room : Bool) → step.event ≡ takes (packets.Subscribe q) now room → step.reaction.ask ≡ Some asks.Subscribe → (p : Place) (h : HeldView) (f : SubscribeFilter) (code : ℕ) (acts : List Act) → IsIn f q.filters
      → IsGranted p h step.client (subscribing.identifier_of q) f code acts → (before after : List Act) (o : Operation) (held : HeldView) → acts ≡ before ++ Store (Made o) ∷ after → Runs p h before held → BySubscribe step p held o
  granted_one step q now room event asked p h f code acts among (inr d) before after o held is ran = none_there before after (Store (Made o)) (sym d.1 ∙ is)
  granted_one step q now room event asked p h f code acts among (inl d) [] after o held is ran =
      let same : subscribe_of p.id (subscribing.subscription_entry step.client f (subscribing.identifier_of q) h.homes.version) h.store ≡ o = (let z = head_is (sym d.1 ∙ is) in cc) in
      let there : held ≡ h = ran in
      subst (λ v. BySubscribe step p v o) (sym there) (record { subscribe = q; now = now; room = room; event = event; asked = asked; filter = f; among = among; is = sym same })
  granted_one step q now room event asked p h f code acts among (inl d) (b ∷ before) after o held is ran = none_there before after (Store (Made o)) (tail_is (sym d.1 ∙ is))

  granted_all : (step : SessionStep) (q : Subscribe) (now : ℕ) (room : Bool) → step.event ≡ takes (packets.Subscribe q) now room → step.reaction.ask ≡ Some asks.Subscribe → (p : Place) (h : HeldView) (fs : List SubscribeFilter) (codes : List ℕ) (acts : List Act)
      → ((f : SubscribeFilter) → IsIn f fs → IsIn f q.filters) → AreGranted p h step.client (subscribing.identifier_of q) fs codes acts
      → (before after : List Act) (o : Operation) (held : HeldView) → acts ≡ before ++ Store (Made o) ∷ after → Runs p h before held → BySubscribe step p held o
  granted_all step q now room event asked p h [] codes acts all d before after o held is ran = none_there before after (Store (Made o)) (sym d.1 ∙ is)
  granted_all step q now room event asked p h (f ∷ fs) codes acts all (code, others, own, mid, rest, codes_are, parts, one, so, more) before after o held is ran =
      elim (splits own rest before after (Store (Made o)) (sym parts ∙ is)) [
        | inl r ↦ granted_one step q now room event asked p h f code own (all f (inl refl)) one before r.0 o held r.1 ran
        | inr r ↦ (
            let halves = runs_split p own r.0 h held (subst (λ zs. Runs p h zs held) r.1 ran) in
            let same : halves.0 ≡ mid = runs_determined p own h halves.0 mid halves.1 so in
            granted_all step q now room event asked p mid fs others rest (λ g i. all g (inr i)) more r.0 after o held r.2 (subst (λ v. Runs p v r.0 held) same halves.2))
      ]

  removed_one : (step : SessionStep) (u : Unsubscribe) (now : ℕ) (room : Bool) → step.event ≡ takes (packets.Unsubscribe u) now room → step.reaction.ask ≡ Some asks.Unsubscribe → (p : Place) (h : HeldView) (text : List ℕ) (code : ℕ) (acts : List Act) → IsIn text u.filters
      → FilterIsRemoved p h step.client text code acts → (before after : List Act) (o : Operation) (held : HeldView) → acts ≡ before ++ Store (Made o) ∷ after → Runs p h before held → ByUnsubscribe step p held o
  removed_one step u now room event asked p h text code acts among (inr (inl d)) before after o held is ran = none_there before after (Store (Made o)) (sym d.2 ∙ is)
  removed_one step u now room event asked p h text code acts among (inr (inr d)) before after o held is ran = none_there before after (Store (Made o)) (sym d.2 ∙ is)
  removed_one step u now room event asked p h text code acts among (inl d) [] after o held is ran =
      let same : removal p.id step.client (Some text) h.store ≡ o = (let z = head_is (sym d.2 ∙ is) in cc) in
      let there : held ≡ h = ran in
      subst (λ v. ByUnsubscribe step p v o) (sym there) (record { unsubscribe = u; now = now; room = room; event = event; asked = asked; text = text; among = among; is = sym same })
  removed_one step u now room event asked p h text code acts among (inl d) (b ∷ before) after o held is ran = none_there before after (Store (Made o)) (tail_is (sym d.2 ∙ is))

  removed_all : (step : SessionStep) (u : Unsubscribe) (now : ℕ) (room : Bool) → step.event ≡ takes (packets.Unsubscribe u) now room → step.reaction.ask ≡ Some asks.Unsubscribe → (p : Place) (h : HeldView) (texts : List (List ℕ)) (codes : List ℕ) (acts : List Act)
      → ((t : List ℕ) → IsIn t texts → IsIn t u.filters) → FiltersAreRemoved p h step.client texts codes acts
      → (before after : List Act) (o : Operation) (held : HeldView) → acts ≡ before ++ Store (Made o) ∷ after → Runs p h before held → ByUnsubscribe step p held o
  removed_all step u now room event asked p h [] codes acts all d before after o held is ran = none_there before after (Store (Made o)) (sym d.1 ∙ is)
  removed_all step u now room event asked p h (text ∷ texts) codes acts all (code, others, own, mid, rest, codes_are, parts, one, so, more) before after o held is ran =
      elim (splits own rest before after (Store (Made o)) (sym parts ∙ is)) [
        | inl r ↦ removed_one step u now room event asked p h text code own (all text (inl refl)) one before r.0 o held r.1 ran
        | inr r ↦ (
            let halves = runs_split p own r.0 h held (subst (λ zs. Runs p h zs held) r.1 ran) in
            let same : halves.0 ≡ mid = runs_determined p own h halves.0 mid halves.1 so in
            removed_all step u now room event asked p mid texts others rest (λ t i. all t (inr i)) more r.0 after o held r.2 (subst (λ v. Runs p v r.0 held) same halves.2))
      ]

  -- ---- a packet of an accepted client
  module _ (p : Place) (h mid : HeldView) (step : SessionStep) (runs : Runs p h (Session (Called step) ∷ []) mid) (c : ℕ) (client : List ℕ) (same : step.client ≡ client) where
    -- an operation after the call
    abbrev amid_call : (made before : List Act) → AreOperations made → (after : List Act) (o : Operation) → made ≡ before ++ Store (Made o) ∷ after → AfterCall (Session (Called step) ∷ before)
    amid_call made before only after o is = record { call = step; earlier = []; made = before; is = refl; alone = front before (Store (Made o) ∷ after) (subst AreOperations is only) }

    subscribes : (q : Subscribe) (now : ℕ) (room : Bool) (x : Unit {0}) (acts : List Act) → step.event ≡ takes (packets.Subscribe q) now room → step.reaction.ask ≡ Some asks.Subscribe → subscribing.ServesSubscribe c client q (Some x) p mid acts → Caused p h (Session (Called step) ∷ acts)
    subscribes q now room x acts event asked (inl d) = none_some (sym d.0)
    subscribes q now room x acts event asked (inr (all, made, mid2, rest, one, ran, more, is)) =
        let g = are_granted client (subscribing.identifier_of q) q.filters [] all p mid made one in
        let codes = subscribing.granted_reasons g.others in
        let are : AreGranted p mid step.client (subscribing.identifier_of q) q.filters codes made = subst (λ v. AreGranted p mid v (subscribing.identifier_of q) q.filters codes made) (sym same) g.are in
        let only : AreOperations made = granted p mid step.client (subscribing.identifier_of q) q.filters codes made are in
        subst (λ zs. Caused p h (Session (Called step) ∷ zs)) (sym is)
        (made_then p h mid step runs mid2 made rest ran
        (λ before after o held e so. inl (amid_call made before only after o e, inl (granted_all step q now room event asked p mid q.filters codes made (λ f i. i) are before after o held e so)))
        ((acknowledges Keeps walks ticks_of c client q.identifier all).of x p mid2 rest more))

    unsubscribes : (u : Unsubscribe) (now : ℕ) (room : Bool) (x : Unit {0}) (acts : List Act) → step.event ≡ takes (packets.Unsubscribe u) now room → step.reaction.ask ≡ Some asks.Unsubscribe → unsubscribing.ServesUnsubscribe c client u (Some x) p mid acts → Caused p h (Session (Called step) ∷ acts)
    unsubscribes u now room x acts event asked (inl d) = none_some (sym d.0)
    unsubscribes u now room x acts event asked (inr (all, made, mid2, rest, one, ran, more, is)) =
        let g = are_removed client u.filters [] all p mid made one in
        let are : FiltersAreRemoved p mid step.client u.filters g.others made = subst (λ v. FiltersAreRemoved p mid v u.filters g.others made) (sym same) g.are in
        let only : AreOperations made = removed p mid step.client u.filters g.others made are in
        subst (λ zs. Caused p h (Session (Called step) ∷ zs)) (sym is)
        (made_then p h mid step runs mid2 made rest ran
        (λ before after o held e so. inl (amid_call made before only after o e, inr (removed_all step u now room event asked p mid u.filters g.others made (λ t i. i) are before after o held e so)))
        ((unacknowledges Keeps walks ticks_of c client u.identifier all).of x p mid2 rest more))

    subscribes_by : (k : Packet) (now : ℕ) (room : Bool) (x : Unit {0}) (acts : List Act) → step.event ≡ takes k now room → step.reaction.ask ≡ Some asks.Subscribe → serving.SubscribesBy c client k (Some x) p mid acts → Caused p h (Session (Called step) ∷ acts)
    subscribes_by (packets.Subscribe q) now room x acts event asked d = subscribes q now room x acts event asked d
    subscribes_by k now room x acts event asked d = call_then p h mid step runs acts (subst (Caused p mid) (sym d.1) (none_caused p mid))

    unsubscribes_by : (k : Packet) (now : ℕ) (room : Bool) (x : Unit {0}) (acts : List Act) → step.event ≡ takes k now room → step.reaction.ask ≡ Some asks.Unsubscribe → serving.UnsubscribesBy c client k (Some x) p mid acts → Caused p h (Session (Called step) ∷ acts)
    unsubscribes_by (packets.Unsubscribe u) now room x acts event asked d = unsubscribes u now room x acts event asked d
    unsubscribes_by k now room x acts event asked d = call_then p h mid step runs acts (subst (Caused p mid) (sym d.1) (none_caused p mid))

    dropped_by : (dropped : Bool) (x : Unit {0}) (v : HeldView) (acts : List Act) → If dropped passing.Drops (Returns tt) (Some x) p v acts → Caused p v acts
    dropped_by true x v acts d = (drops Keeps walks).of x p v acts d
    dropped_by false x v acts d = subst (Caused p v) (sym d.1) (none_caused p v)

    does_asked : (ask : Option Ask) (k : Packet) (now : ℕ) (room : Bool) (end : Option ℕ) (x : Unit {0}) (acts : List Act) → step.event ≡ takes k now room → step.reaction.ask ≡ ask
        → serving.DoesAsked ask c client k room end (Some x) p mid acts → Caused p h (Session (Called step) ∷ acts)
    does_asked None k now room end x acts event e d = call_then p h mid step runs acts (dropped_by (serving.is_dropped k room end) x mid acts d)
    does_asked (Some (asks.Pass m)) k now room end x acts event e d = passes p h mid step runs m x acts e d
    does_asked (Some asks.Subscribe) k now room end x acts event e d = subscribes_by k now room x acts event e d
    does_asked (Some asks.Unsubscribe) k now room end x acts event e d = unsubscribes_by k now room x acts event e d

    does_reaction : (k : Packet) (now : ℕ) (room : Bool) (r : Reaction) (x : Unit {0}) (acts : List Act) → step.event ≡ takes k now room → step.reaction ≡ r → serving.DoesReaction c client k room r (Some x) p mid acts → Caused p h (Session (Called step) ∷ acts)
    does_reaction k now room r x acts event e (inl d) = none_some (sym d.0)
    does_reaction k now room r x acts event e (inr (y, own, mid2, rest, one, ran, more, is)) =
        subst (λ zs. Caused p h (Session (Called step) ∷ zs)) (sym is)
        (both_caused p h mid2 (Session (Called step) ∷ own) rest (runs_join p (Session (Called step) ∷ []) own h mid mid2 runs ran)
        (does_asked r.ask k now room r.end y own event (ap (λ (v : Reaction). v.ask) e) one) ((closes_end r.end c client).of x p mid2 rest more))

  -- where the client has no session, nothing is asked
  unserved : (c : ℕ) (client : List ℕ) (k : Packet) (room : Bool) (r : Reaction) (x : Unit {0}) (p : Place) (h : HeldView) (acts : List Act) → r ≡ nothing → serving.DoesReaction c client k room r (Some x) p h acts → Caused p h acts
  unserved c client k room r x p h acts none (inl d) = none_some (sym d.0)
  unserved c client k room r x p h acts none (inr (y, own, mid, rest, one, ran, more, is)) =
      let dropped = serving.is_dropped k room r.end in
      let d = subst (λ a. serving.DoesAsked a c client k room r.end (Some y) p h own) (ap (λ (v : Reaction). v.ask) none) one in
      subst (Caused p h) (sym is) (both_caused p h mid own rest ran (by dropped d) ((closes_end r.end c client).of x p mid rest more))
    where
      by : (dropped : Bool) → If dropped passing.Drops (Returns tt) (Some y) p h own → Caused p h own
      by true d = (drops Keeps walks).of y p h own d
      by false d = subst (Caused p h) (sym d.1) (none_caused p h)

  serves_at : (c : ℕ) (client : List ℕ) (k : Packet) (room : Bool) (found : Option Seat) (r : Reaction) (x : Unit {0}) (p : Place) (h mid : HeldView) (own rest : List Act) → CallsAt client (λ at. takes k at room) stays found (Some r) p h own
      → Runs p h own mid → serving.DoesReaction c client k room r (Some x) p mid rest → Caused p h (own ++ rest)
  serves_at c client k room None r x p h mid own rest d ran more =
      let same : mid ≡ h = subst (λ zs. Runs p h zs mid) d.1 ran in
      subst (λ zs. Caused p h (zs ++ rest)) (sym d.1) (subst (λ v. Caused p v rest) same (unserved c client k room r x p mid rest (let z = d.0 in cc) more))
  serves_at c client k room (Some seat) r x p h mid own rest d ran more =
      let s = calling_by client (λ at. takes k at room) stays seat r p h own d in
      subst (λ zs. Caused p h (zs ++ rest)) (sym s.acts_are)
      (does_reaction p h mid s.step (subst (λ zs. Runs p h zs mid) s.acts_are ran) c client s.client_is k h.at room r x rest s.event_is s.reaction_is more)

  serves : (c : ℕ) (client : List ℕ) (k : Packet) → Keeps (Unit {0}) (serving.ServesPacket c client k)
  serves c client k = record { of = λ x p h acts d. by (serving.room_for client k h) x p h acts d }
    where
      by : (room : Bool) (x : Unit {0}) (p : Place) (h : HeldView) (acts : List Act) → serving.ServesIn c client k room (Some x) p h acts → Caused p h acts
      by room x p h acts (inl d) = none_some (sym d.0)
      by room x p h acts (inr (r, own, mid, rest, one, ran, more, is)) = subst (Caused p h) (sym is) (serves_at c client k room (seat_at client h) r x p h mid own rest one ran more)

-- in every step
pub all_caused : (e : NodeEvent) (p : Place) (h : HeldView) (acts : List Act) → turns.Decides e (Some tt) p h acts → Caused e.kind p h acts
all_caused e p h acts d =
    (decides (Keeps e.kind) (walks e.kind) (ticks_of e.kind) (finishes_of e.kind) (serves e.kind) (λ c. record { of = λ x p h acts d. absurd d }) (λ c client. record { of = λ x p h acts d. absurd d }) e (evicts e.kind) (takes_moment e.kind e.at)).of tt p h acts d
