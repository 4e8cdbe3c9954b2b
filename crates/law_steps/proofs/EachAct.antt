-- Work each of whose acts is of a kind.
use Rattle.std.proofs.Common.{◌≡◌, ℕ, Bool, true, false, List, [], ◌∷◌, ◌++◌, Option, Some, None, inl, inr, sym, subst}
use Rattle.std.specs.List.{AllByRecursion}
use Rattle.bridge_deltas.specs.declared.offer.Offer.{Offer}
use Rattle.bridge_deltas.specs.declared.offer.Offer.TheVariants.{Queued, Full, AtEnd}
use Rattle.bridge_frames.specs.declared.forward.Forward.{Forward}
use Rattle.bridge_routes.specs.declared.plain.PlainCopy.{PlainCopy as Copy}
use Rattle.bridge_routes.specs.declared.destinations.Route.{Route}
use Rattle.bridge_routes.specs.declared.destinations.Route.TheVariants.{Nothing, Lane, TooLarge}
use Rattle.mqtt_message.specs.declared.delivery.Delivery.{Delivery}
use Rattle.mqtt_message.specs.declared.message.Message.{Message}
use Rattle.mqtt_message.specs.Expiry.{IsBefore}
use Rattle.mqtt_sessions.specs.declared.reaction.Ask.{Ask}
use Rattle.mqtt_sessions.specs.declared.reaction.Ask.TheVariants as asks
use Rattle.mqtt_sessions.specs.Reaction.{Reaction}
use Rattle.node_bridge.specs.View.{offer_to}
use Rattle.replica_store.specs.declared.content.Content.{Content}
use Rattle.replica_store.specs.Making.{put_of}
use Rattle.law_sessions.specs.Runs.{Event, queues}
use Rattle.session_table.specs.Calls.{stays}
use Rattle.session_table.specs.Seats.{Seat}
use Rattle.node_work.specs.declared.counts.Missed.{Missed}
use Rattle.node_work.specs.declared.counts.Missed.TheVariants.{LaneFull}
use Rattle.node_work.specs.Acts.{Act, Store, Made, Session, Bridge, Passed, Dropped}
use Rattle.node_work.specs.Calling.{Calls, CallsAt, Queues, QueuesOne}
use Rattle.node_work.specs.Doings.{MakesPut, Misses, PutsInLaneBy, Routes, RoutesBy}
use Rattle.node_work.specs.Held.Bridge.{Put, Left_out}
use Rattle.node_work.specs.Held.Making.{put_at_end}
use Rattle.node_work.specs.Held.Sessions.{SessionStep, Called, seat_at}
use Rattle.node_work.specs.Passing.{content_given, turn_at_end}
use Rattle.node_work.specs.View.{Place, HeldView}
use Rattle.node_work.specs.Working.{Doing, Returns, Stops, Acting, Numbered, Looks, FindsWhere, If, Where, Then, InTurn, Each}
use Rattle.node_clients.specs.Ending as ending
use Rattle.node_clients.specs.Passing as passing
use Rattle.law_runs.proofs.Keeping.{calling_by, none_some}
use Rattle.law_runs.proofs.Passing.{numbered as one_numbered}

module _ (Q : Act → Type 0) where
  pub are_both : (xs ys : List Act) → AllByRecursion Q xs → AllByRecursion Q ys → AllByRecursion Q (xs ++ ys)
  are_both [] ys a b = b
  are_both (x ∷ xs) ys a b = (a.0, are_both xs ys a.1 b)

  -- the acts of work that is done
  abbrev pub K : (A : Type 0) → (Option A → Doing) → Type 0
  K A P = (x : A) (p : Place) (h : HeldView) (acts : List Act) → P (Some x) p h acts → AllByRecursion Q acts

  pub returns : {A : Type 0} (y : A) → K A (Returns y)
  returns y x p h acts d = subst (AllByRecursion Q) (sym d.1) tt

  pub stops : {A : Type 0} → K A Stops
  stops x p h acts d = none_some (sym d.0)

  pub acting : (a : Place → HeldView → Act) → ((p : Place) (h : HeldView) → Q (a p h)) → K (Unit {0}) (Acting a)
  acting a q x p h acts d = subst (AllByRecursion Q) (sym d.1) (q p h, tt)

  pub numbered : (at_end : Place → HeldView → Bool) (a : Place → HeldView → Act) → ((p : Place) (h : HeldView) → Q (a p h)) → K (Unit {0}) (Numbered at_end a)
  numbered at_end a q x p h acts d = subst (AllByRecursion Q) (sym (one_numbered (at_end p h) x (a p h) acts d)) (q p h, tt)

  pub looks : {A B : Type 0} (see : Place → HeldView → A) (P : A → Option B → Doing) → ((y : A) → K B (P y)) → K B (Looks see P)
  looks see P f x p h acts d = f (see p h) x p h acts d

  pub finds : {A B : Type 0} (Is : Place → HeldView → A → Type 0) (P : A → Option B → Doing) → ((y : A) → K B (P y)) → K B (FindsWhere Is P)
  finds Is P f x p h acts d = f d.0 x p h acts d.2

  pub by_test : {A : Type 0} (b : Bool) (P R : Option A → Doing) → K A P → K A R → K A (If b P R)
  by_test true P R f g x p h acts d = f x p h acts d
  by_test false P R f g x p h acts d = g x p h acts d

  pub by_whether : {A : Type 0} (X : Type 0) (P R : Option A → Doing) → K A P → K A R → K A (Where X P R)
  by_whether X P R f g x p h acts (inl d) = f x p h acts d.1
  by_whether X P R f g x p h acts (inr d) = g x p h acts d.1

  pub join : {A B : Type 0} (P : Option A → Doing) (R : A → Option B → Doing) → K A P → ((y : A) → K B (R y)) → K B (Then P R)
  join P R f g x p h acts (inl d) = none_some (sym d.0)
  join P R f g x p h acts (inr (y, own, mid, rest, one, runs, more, is)) = subst (AllByRecursion Q) (sym is) (are_both own rest (f y p h own one) (g y x p mid rest more))

  pub each : {A : Type 0} (One : A → Option (Unit {0}) → Doing) (xs : List A) → ((x : A) → K (Unit {0}) (One x)) → K (Unit {0}) (Each One xs)
  each One [] f = returns tt
  each One (x ∷ xs) f = join (One x) (λ _. Each One xs) (f x) (λ _. each One xs f)

  pub in_turn : {A B : Type 0} (One : A → Option B → Doing) (xs : List A) (given : List B) → ((x : A) → K B (One x)) → K (List B) (InTurn One xs given)
  in_turn One [] given f = returns given
  in_turn One (x ∷ xs) given f = join (One x) (λ y. InTurn One xs (given ++ y ∷ [])) (f x) (λ y. in_turn One xs (given ++ y ∷ []) f)

  -- a call of a client's session
  calls_at : (client : List ℕ) (event : ℕ → Event) (on : Option ℕ → Option ℕ) → ((s : SessionStep) (at : ℕ) → s.client ≡ client → s.event ≡ event at → Q (Session (Called s)))
      → (found : Option Seat) → K Reaction (CallsAt client event on found)
  calls_at client event on q None r p h acts d = subst (AllByRecursion Q) (sym d.1) tt
  calls_at client event on q (Some seat) r p h acts d =
      let k = calling_by client event on seat r p h acts d in subst (AllByRecursion Q) (sym k.acts_are) (q k.step h.at k.client_is k.event_is, tt)

  pub calls : (client : List ℕ) (event : ℕ → Event) (on : Option ℕ → Option ℕ) → ((s : SessionStep) (at : ℕ) → s.client ≡ client → s.event ≡ event at → Q (Session (Called s))) → K Reaction (Calls client event on)
  calls client event on q = looks (λ p h. seat_at client h) (CallsAt client event on) (calls_at client event on q)

  -- ---- passing a message on
  pub record Kind : Type 0 where
    pub queued : (s : SessionStep) (d : Delivery) (at : ℕ) → s.event ≡ queues d at → Q (Session (Called s))
    pub put : (id : ℕ) (content : Content) (h : HeldView) → Q (Store (Made (put_of id content h.store)))
    pub laned : (peer : ℕ) (m : Forward) → Q (Bridge (Put peer m))
    pub missed : (what : Missed) → Q (Bridge (Left_out what))
    pub passed : (m : Message) (copies : List Copy) (lost : ℕ) (routes : List (ℕ × Route)) → Q (Passed m copies lost routes)
    pub dropped : Q Dropped

  module _ (k : Kind) where
    queues_one : (x : Copy) → K (Unit {0}) (QueuesOne x)
    queues_one x =
        join (Calls x.client (queues x.delivery) stays) (λ _. Returns tt) (calls x.client (queues x.delivery) stays (λ s at same is. k.queued s x.delivery at is)) (λ _. returns tt)

    pub queues_all : (copies : List Copy) → K (Unit {0}) (Queues copies)
    queues_all copies = each QueuesOne copies queues_one

    pub misses : (what : Missed) → K (Unit {0}) (Misses what)
    misses what = acting (λ p h. Bridge (Left_out what)) (λ p h. k.missed what)

    puts_by : (peer : ℕ) (m : Forward) (o : Offer) → K (Unit {0}) (PutsInLaneBy peer m o)
    puts_by peer m (Queued n) = acting (λ p h. Bridge (Put peer m)) (λ p h. k.laned peer m)
    puts_by peer m Full = misses LaneFull
    puts_by peer m AtEnd = stops

    routes_by : (peer : ℕ) (route : Route) → K (Unit {0}) (RoutesBy peer route)
    routes_by peer Nothing = returns tt
    routes_by peer (Lane m) = looks (λ p h. offer_to peer h.bridge) (PutsInLaneBy peer m) (puts_by peer m)
    routes_by peer TooLarge = misses LaneFull

    makes_copies : (m : Message) (x : passing.Made) → K (Unit {0}) (passing.MakesCopies m x)
    makes_copies m x =
        join (Numbered turn_at_end (λ p h. Passed m x.0 x.1.0 x.1.1)) (λ _. Then (Queues x.0) (λ _. Each Routes x.1.1)) (numbered turn_at_end (λ p h. Passed m x.0 x.1.0 x.1.1) (λ p h. k.passed m x.0 x.1.0 x.1.1)) (λ _.
        join (Queues x.0) (λ _. Each Routes x.1.1) (queues_all x.0) (λ _. each Routes x.1.1 (λ y. routes_by y.0 y.1)))

    copies_at : (m : Message) (at : ℕ) → K (Unit {0}) (passing.CopiesAt m at)
    copies_at m at = by_whether (IsBefore at m.deadline) (passing.Copies m) (Returns tt) (finds (passing.AreMade m) (passing.MakesCopies m) (makes_copies m)) (returns tt)

    makes_put : (content : Content) → K (Unit {0}) (MakesPut content)
    makes_put content = numbered (λ p h. put_at_end p.id h) (λ p h. Store (Made (put_of p.id content h.store))) (λ p h. k.put p.id content h)

    pub passes : (m : Message) → K (Unit {0}) (passing.Passes m)
    passes m =
        join (passing.Retains m) (λ _. Looks (λ p h. h.at) (passing.CopiesAt m)) (by_test m.retain (MakesPut (content_given m)) (Returns tt) (makes_put (content_given m)) (returns tt))
        (λ _. looks (λ p h. h.at) (passing.CopiesAt m) (copies_at m))

    pub drops : K (Unit {0}) passing.Drops
    drops = acting (λ p h. Dropped) (λ p h. k.dropped)

    passes_will : (m : Message) → K (Unit {0}) (passing.PassesWill m)
    passes_will m =
        looks (λ p h. passing.lacks_room m h) (λ lacks. If lacks passing.Drops (passing.Passes m)) (λ lacks. by_test lacks passing.Drops (passing.Passes m) drops (passes m))

    pub passes_asked : (ask : Option Ask) → K (Unit {0}) (ending.PassesAsked ask)
    passes_asked None = returns tt
    passes_asked (Some (asks.Pass m)) = passes_will m
    passes_asked (Some asks.Subscribe) = returns tt
    passes_asked (Some asks.Unsubscribe) = returns tt
