-- What holds of work on sessions and messages that is put together of parts, by what holds of the parts.
use Rattle.std.proofs.Common.{ℕ, ◌&&◌, not, Bool, true, false, cond, List, Option, Some, None, [], ◌∷◌, ◌++◌}
use Rattle.bridge_deltas.specs.declared.offer.Offer.{Offer}
use Rattle.bridge_frames.specs.declared.forward.Forward.{Forward}
use Rattle.bridge_routes.specs.declared.plain.PlainCopy.{PlainCopy as Copy}
use Rattle.bridge_routes.specs.declared.destinations.Route.{Route}
use Rattle.bridge_routes.specs.declared.destinations.Route.TheVariants.{Nothing, Lane, TooLarge}
use Rattle.mqtt_message.specs.declared.delivery.Delivery.{Delivery}
use Rattle.mqtt_message.specs.declared.message.Message.{Message}
use Rattle.mqtt_message.specs.Expiry.{IsBefore}
use Rattle.mqtt_message.specs.Identifiers.{identifiers_of}
use Rattle.mqtt_packets.specs.declared.subscribe.SubscribeFilter.{SubscribeFilter}
use Rattle.mqtt_topics.specs.Topics.{IsFilter}
use Rattle.mqtt_sessions.specs.declared.reaction.Ask.{Ask}
use Rattle.mqtt_sessions.specs.declared.reaction.Ask.TheVariants as asks
use Rattle.mqtt_sessions.specs.Reaction.{Reaction}
use Rattle.node_bridge.specs.View.{offer_to}
use Rattle.replica_store.specs.declared.content.Content.{Content}
use Rattle.law_sessions.specs.Runs.{Event, queues, rooms, answers, closes}
use Rattle.session_table.specs.Calls.{stays}
use Rattle.subscription_set.specs.declared.entry.Entry.{Entry}
use Rattle.subscription_set.specs.Standing.{any_of, any_below}
use Rattle.node_work.specs.declared.counts.Missed.{Missed}
use Rattle.node_work.specs.declared.counts.Missed.TheVariants.{LaneFull, BadFrame}
use Rattle.node_work.specs.declared.granted.Granted.{Granted}
use Rattle.node_work.specs.Acts.{Session, Acknowledged, Passed}
use Rattle.node_work.specs.Calling.{Calls, Queues, QueuesOne}
use Rattle.node_work.specs.Doings.{MakesPut, MakesSubscribe, MakesRemove, MakesRemoveBelow, Misses, PutsInLaneBy, Removes, RemovesBelow, Routes, RoutesBy}
use Rattle.node_work.specs.Held.Sessions.{Over, will_is_due, end_is_due}
use Rattle.node_work.specs.Passing.{turn_at_end, content_given}
use Rattle.node_work.specs.View.{Place, HeldView}
use Rattle.node_work.specs.Working.{Doing, Returns, Stops, Acting, Numbered, Looks, FindsWhere, If, Where, Then, InTurn, Each}
use Rattle.node_clients.specs.Ending as ending
use Rattle.node_clients.specs.Passing as passing
use Rattle.node_clients.specs.Subscribing as subscribing
use Rattle.node_clients.specs.Unsubscribing as unsubscribing
use Rattle.broker_node.specs.Turns as turns

-- an event of a session that neither begins a connection nor takes a packet, and by which no session ends
abbrev pub IsSmall : Event → Type 0
IsSmall (queues d now) = Unit {0}
IsSmall (rooms bytes now) = Unit {0}
IsSmall (answers id codes) = Unit {0}
IsSmall (closes now) = Unit {0}
IsSmall e = ⊥

-- something else than a frame that can't be taken
abbrev pub IsNoBadFrame : Missed → Type 0
IsNoBadFrame BadFrame = ⊥
IsNoBadFrame what = Unit {0}

-- what holds of the parts, and of what is put together of them
pub record Low (K : (A : Type 0) → (Option A → Doing) → Type 0) : Type 1 where
  pub returns : {A : Type 0} (y : A) → K A (Returns y)
  pub stops : {A : Type 0} → K A Stops
  pub looks : {A B : Type 0} (see : Place → HeldView → A) (P : A → Option B → Doing) → ((y : A) → K B (P y)) → K B (Looks see P)
  pub finds : {A B : Type 0} (Is : Place → HeldView → A → Type 0) (P : A → Option B → Doing) → ((y : A) → K B (P y)) → K B (FindsWhere Is P)
  pub by_test : {A : Type 0} (b : Bool) (P Q : Option A → Doing) → K A P → K A Q → K A (If b P Q)
  pub by_whether : {A : Type 0} (X : Type 0) (P Q : Option A → Doing) → K A P → K A Q → K A (Where X P Q)
  pub join : {A B : Type 0} (P : Option A → Doing) (Q : A → Option B → Doing) → K A P → ((y : A) → K B (Q y)) → K B (Then P Q)
  pub calls : (client : List ℕ) (event : ℕ → Event) (on : Option ℕ → Option ℕ) → ((at : ℕ) → IsSmall (event at)) → K Reaction (Calls client event on)
  pub put : (content : Content) → K (Unit {0}) (MakesPut content)
  pub subscribe : (entry : Entry) → K (Unit {0}) (MakesSubscribe entry)
  pub remove : (client : List ℕ) (to : Option (List ℕ)) → K (Unit {0}) (MakesRemove client to)
  pub remove_below : (client : List ℕ) (version : ℕ) → K (Unit {0}) (MakesRemoveBelow client version)
  pub over : (client : List ℕ) → K (Unit {0}) (Acting (λ p h. Session (Over client)))
  pub passed : (m : Message) (x : passing.Made) → K (Unit {0}) (Numbered turn_at_end (λ p h. Passed m x.0 x.1.0 x.1.1))
  pub puts : (peer : ℕ) (m : Forward) (o : Offer) → K (Unit {0}) (PutsInLaneBy peer m o)
  pub missed : (what : Missed) → IsNoBadFrame what → K (Unit {0}) (Misses what)
  pub dropped : K (Unit {0}) passing.Drops
  pub acknowledged : (client : List ℕ) (packet : ℕ) (given : List Granted) (os : List Delivery) → K (Unit {0}) (Acting (λ p h. Acknowledged client packet h.at given os))

module _ (K : (A : Type 0) → (Option A → Doing) → Type 0) (w : Low K) where
  abbrev pub Does : (Option (Unit {0}) → Doing) → Type 0
  Does P = K (Unit {0}) P

  pub each : {A : Type 0} (One : A → Option (Unit {0}) → Doing) (xs : List A) → ((x : A) → Does (One x)) → Does (Each One xs)
  each One [] f = w.returns tt
  each One (x ∷ xs) f = w.join (One x) (λ _. Each One xs) (f x) (λ _. each One xs f)

  pub in_turn : {A B : Type 0} (One : A → Option B → Doing) (xs : List A) (given : List B) → ((x : A) → K B (One x)) → K (List B) (InTurn One xs given)
  in_turn One [] given f = w.returns given
  in_turn One (x ∷ xs) given f = w.join (One x) (λ y. InTurn One xs (given ++ y ∷ [])) (f x) (λ y. in_turn One xs (given ++ y ∷ []) f)

  -- ---- copies
  queues_one : (x : Copy) → Does (QueuesOne x)
  queues_one x = w.join (Calls x.client (queues x.delivery) stays) (λ _. Returns tt) (w.calls x.client (queues x.delivery) stays (λ at. tt)) (λ _. w.returns tt)

  pub queues_all : (copies : List Copy) → Does (Queues copies)
  queues_all copies = each QueuesOne copies queues_one

  routes : (peer : ℕ) (route : Route) → Does (RoutesBy peer route)
  routes peer Nothing = w.returns tt
  routes peer (Lane m) = w.looks (λ p h. offer_to peer h.bridge) (PutsInLaneBy peer m) (w.puts peer m)
  routes peer TooLarge = w.missed LaneFull tt

  makes_copies : (m : Message) (x : passing.Made) → Does (passing.MakesCopies m x)
  makes_copies m x =
      w.join (Numbered turn_at_end (λ p h. Passed m x.0 x.1.0 x.1.1)) (λ _. Then (Queues x.0) (λ _. Each Routes x.1.1)) (w.passed m x) (λ _.
      w.join (Queues x.0) (λ _. Each Routes x.1.1) (queues_all x.0) (λ _. each Routes x.1.1 (λ y. routes y.0 y.1)))

  copies_at : (m : Message) (at : ℕ) → Does (passing.CopiesAt m at)
  copies_at m at = w.by_whether (IsBefore at m.deadline) (passing.Copies m) (Returns tt) (w.finds (passing.AreMade m) (passing.MakesCopies m) (makes_copies m)) (w.returns tt)

  -- ---- a message that is passed on
  retains : (m : Message) → Does (passing.Retains m)
  retains m = w.by_test m.retain (MakesPut (content_given m)) (Returns tt) (w.put (content_given m)) (w.returns tt)

  pub passes : (m : Message) → Does (passing.Passes m)
  passes m = w.join (passing.Retains m) (λ _. Looks (λ p h. h.at) (passing.CopiesAt m)) (retains m) (λ _. w.looks (λ p h. h.at) (passing.CopiesAt m) (copies_at m))

  pub passes_will : (m : Message) → Does (passing.PassesWill m)
  passes_will m =
      w.looks (λ p h. passing.lacks_room m h) (λ lacks. If lacks passing.Drops (passing.Passes m))
      (λ lacks. w.by_test lacks passing.Drops (passing.Passes m) w.dropped (passes m))

  pub passes_asked : (ask : Option Ask) → Does (ending.PassesAsked ask)
  passes_asked None = w.returns tt
  passes_asked (Some (asks.Pass m)) = passes_will m
  passes_asked (Some asks.Subscribe) = w.returns tt
  passes_asked (Some asks.Unsubscribe) = w.returns tt

  -- ---- a session's end
  pub removes : (client : List ℕ) (to : Option (List ℕ)) → K Bool (Removes client to)
  removes client to =
      w.looks (λ p h. any_of client to h.store.subscriptions) (λ stands. If stands (Then (MakesRemove client to) (λ _. Returns true)) (Returns false))
      (λ stands. w.by_test stands (Then (MakesRemove client to) (λ _. Returns true)) (Returns false) (w.join (MakesRemove client to) (λ _. Returns true) (w.remove client to) (λ _. w.returns true)) (w.returns false))

  removes_below : (client : List ℕ) (version : ℕ) → K Bool (RemovesBelow client version)
  removes_below client version =
      w.looks (λ p h. any_below client version h.store.subscriptions) (λ stands. If stands (Then (MakesRemoveBelow client version) (λ _. Returns true)) (Returns false))
      (λ stands. w.by_test stands (Then (MakesRemoveBelow client version) (λ _. Returns true)) (Returns false) (w.join (MakesRemoveBelow client version) (λ _. Returns true) (w.remove_below client version) (λ _. w.returns true)) (w.returns false))

  ends_session : (client : List ℕ) → Does (ending.EndsSession client)
  ends_session client =
      w.join (ending.RemovesOwn client) (λ _. Acting (λ p h. Session (Over client)))
      (w.finds (ending.IsAtHome client) (ending.RemovesFor client) (λ node. w.looks (ending.ends_below node) (RemovesBelow client) (removes_below client))) (λ _. w.over client)

  pub ends_if : (over : Bool) (client : List ℕ) → Does (If over (ending.EndsSession client) (Returns tt))
  ends_if over client = w.by_test over (ending.EndsSession client) (Returns tt) (ends_session client) (w.returns tt)

  pub follows : (client : List ℕ) (r : Reaction) → Does (ending.FollowsReaction client r)
  follows client r = w.join (ending.PassesAsked r.ask) (λ _. If r.over (ending.EndsSession client) (Returns tt)) (passes_asked r.ask) (λ _. ends_if r.over client)

  -- ---- SUBSCRIBE and UNSUBSCRIBE
  grants_by : (client : List ℕ) (identifier : ℕ) (f : SubscribeFilter) (stood : Bool) → K Granted (subscribing.GrantsBy client identifier f stood)
  grants_by client identifier f stood =
      let full = Returns (subscribing.filter_refused 151) in
      let given = subscribing.granted f (identifiers_of identifier) stood in
      let One = subscribing.SubscribesTo client identifier f in
      let one = w.looks (λ p h. h.homes.version) (λ version. MakesSubscribe (subscribing.subscription_entry client f identifier version)) (λ version. w.subscribe (subscribing.subscription_entry client f identifier version)) in
      w.looks (λ p h. not stood && subscribing.has_most client h.store) (λ is. If is full (Then One (λ _. Returns given)))
      (λ is. w.by_test is full (Then One (λ _. Returns given)) (w.returns (subscribing.filter_refused 151)) (w.join One (λ _. Returns given) one (λ _. w.returns given)))

  pub grants : (client : List ℕ) (identifier : ℕ) (f : SubscribeFilter) → K Granted (subscribing.Grants client identifier f)
  grants client identifier f =
      w.by_whether (IsFilter f.filter) (Looks (λ p h. subscribing.stands client f.filter h) (subscribing.GrantsBy client identifier f)) (Returns (subscribing.filter_refused 143))
      (w.looks (λ p h. subscribing.stands client f.filter h) (subscribing.GrantsBy client identifier f) (grants_by client identifier f)) (w.returns (subscribing.filter_refused 143))

  pub unsubscribed : (client text : List ℕ) → K ℕ (unsubscribing.Unsubscribed client text)
  unsubscribed client text =
      w.by_whether (IsFilter text) (Then (Removes client (Some text)) (λ stood. Returns (cond stood 0 17))) (Returns 143)
      (w.join (Removes client (Some text)) (λ stood. Returns (cond stood 0 17)) (removes client (Some text)) (λ stood. w.returns (cond stood 0 17))) (w.returns 143)

  offers_one : (client : List ℕ) (offer : Delivery) → Does (subscribing.OffersOne client offer)
  offers_one client offer = w.join (Calls client (queues offer) stays) (λ _. Returns tt) (w.calls client (queues offer) stays (λ at. tt)) (λ _. w.returns tt)

  pub offers : (client : List ℕ) (packet : ℕ) (given : List Granted) → Does (subscribing.Offers client packet given)
  offers client packet given =
      w.finds (subscribing.AreOffers given) (subscribing.OffersEach client packet given)
      (λ os. w.join (Acting (λ p h. Acknowledged client packet h.at given os)) (λ _. Each (subscribing.OffersOne client) os) (w.acknowledged client packet given os)
      (λ _. each (subscribing.OffersOne client) os (offers_one client)))

  -- ---- what is due of a session
  ticks_if : ((client : List ℕ) → Does (ending.Ticks client)) → (is_due : Bool) (client : List ℕ) → Does (ending.TicksIf is_due client)
  ticks_if ticks_of is_due client = w.by_test is_due (ending.Ticks client) (Returns tt) (ticks_of client) (w.returns tt)

  pub due_of : ((client : List ℕ) → Does (ending.Ticks client)) → (client : List ℕ) → Does (ending.DoesDueOf client)
  due_of ticks_of client =
      w.join (Looks (λ p h. will_is_due client h) (λ b. ending.TicksIf b client)) (λ _. Looks (λ p h. end_is_due client h) (λ b. ending.TicksIf b client))
      (w.looks (λ p h. will_is_due client h) (λ b. ending.TicksIf b client) (λ b. ticks_if ticks_of b client)) (λ _. w.looks (λ p h. end_is_due client h) (λ b. ending.TicksIf b client) (λ b. ticks_if ticks_of b client))

  -- ---- an eviction
  pub evicts : (client : List ℕ) → Does (turns.Evicts client)
  evicts client = w.join (Removes client None) (λ _. Returns tt) (removes client None) (λ _. w.returns tt)
