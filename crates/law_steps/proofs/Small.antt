-- What holds of work for a client that goes on, by what holds of its parts.
use Rattle.std.proofs.Common.{ℕ, ◌&&◌, not, Bool, true, false, cond, List, Option, Some, None, [], ◌∷◌, ◌++◌}
use Rattle.bridge_deltas.specs.declared.offer.Offer.{Offer}
use Rattle.bridge_frames.specs.declared.forward.Forward.{Forward}
use Rattle.bridge_routes.specs.declared.plain.PlainCopy.{PlainCopy as Copy}
use Rattle.bridge_routes.specs.declared.destinations.Route.{Route}
use Rattle.bridge_routes.specs.declared.destinations.Route.TheVariants.{Nothing, Lane, TooLarge}
use Rattle.mqtt_message.specs.declared.delivery.Delivery.{Delivery}
use Rattle.mqtt_message.specs.declared.message.Message.{Message}
use Rattle.mqtt_message.specs.Expiry.{IsBefore}
use Rattle.mqtt_message.specs.Identifiers.{identifiers_of}
use Rattle.mqtt_packets.specs.declared.subscribe.SubscribeFilter.{SubscribeFilter}
use Rattle.mqtt_topics.specs.Topics.{IsFilter}
use Rattle.mqtt_sessions.specs.Reaction.{Reaction}
use Rattle.node_bridge.specs.View.{offer_to}
use Rattle.replica_store.specs.declared.content.Content.{Content}
use Rattle.law_sessions.specs.Runs.{Event, queues, takes, answers}
use Rattle.session_table.specs.Calls.{stays}
use Rattle.subscription_set.specs.declared.entry.Entry.{Entry}
use Rattle.subscription_set.specs.Standing.{any_of}
use Rattle.node_work.specs.declared.counts.Missed.{Missed}
use Rattle.node_work.specs.declared.counts.Missed.TheVariants.{LaneFull}
use Rattle.node_work.specs.declared.granted.Granted.{Granted}
use Rattle.node_work.specs.Acts.{Acknowledged, Passed}
use Rattle.node_work.specs.Calling.{Calls, Queues, QueuesOne}
use Rattle.node_work.specs.Doings.{MakesPut, MakesSubscribe, MakesRemove, Misses, PutsInLaneBy, Removes, Routes, RoutesBy}
use Rattle.node_work.specs.Passing.{turn_at_end, content_given}
use Rattle.node_work.specs.View.{Place, HeldView}
use Rattle.node_work.specs.Working.{Doing, Returns, Acting, Numbered, Looks, FindsWhere, If, Where, Then, InTurn, Each}
use Rattle.node_clients.specs.Passing as passing
use Rattle.node_clients.specs.Subscribing as subscribing
use Rattle.node_clients.specs.Unsubscribing as unsubscribing

-- an event after which the session's client is on the connection on which it was
abbrev pub IsStaying : Event → Type 0
IsStaying (queues d now) = Unit {0}
IsStaying (takes k now room) = Unit {0}
IsStaying (answers id codes) = Unit {0}
IsStaying e = ⊥

-- what holds of operations, and of what is put together of parts
pub record Makes (K : (A : Type 0) → (Option A → Doing) → Type 0) : Type 1 where
  pub returns : {A : Type 0} (y : A) → K A (Returns y)
  pub looks : {A B : Type 0} (see : Place → HeldView → A) (P : A → Option B → Doing) → ((y : A) → K B (P y)) → K B (Looks see P)
  pub by_test : {A : Type 0} (b : Bool) (P Q : Option A → Doing) → K A P → K A Q → K A (If b P Q)
  pub by_whether : {A : Type 0} (X : Type 0) (P Q : Option A → Doing) → K A P → K A Q → K A (Where X P Q)
  pub join : {A B : Type 0} (P : Option A → Doing) (Q : A → Option B → Doing) → K A P → ((y : A) → K B (Q y)) → K B (Then P Q)
  pub subscribe : (entry : Entry) → K (Unit {0}) (MakesSubscribe entry)
  pub remove : (client : List ℕ) (to : Option (List ℕ)) → K (Unit {0}) (MakesRemove client to)

module _ (K : (A : Type 0) → (Option A → Doing) → Type 0) (w : Makes K) where
  pub in_turn : {A B : Type 0} (One : A → Option B → Doing) (xs : List A) (given : List B) → ((x : A) → K B (One x)) → K (List B) (InTurn One xs given)
  in_turn One [] given f = w.returns given
  in_turn One (x ∷ xs) given f = w.join (One x) (λ y. InTurn One xs (given ++ y ∷ [])) (f x) (λ y. in_turn One xs (given ++ y ∷ []) f)

  -- ---- SUBSCRIBE and UNSUBSCRIBE
  grants_by : (client : List ℕ) (identifier : ℕ) (f : SubscribeFilter) (stood : Bool) → K Granted (subscribing.GrantsBy client identifier f stood)
  grants_by client identifier f stood =
      let full = Returns (subscribing.filter_refused 151) in
      let given = subscribing.granted f (identifiers_of identifier) stood in
      let One = subscribing.SubscribesTo client identifier f in
      let one = w.looks (λ p h. h.homes.version) (λ version. MakesSubscribe (subscribing.subscription_entry client f identifier version)) (λ version. w.subscribe (subscribing.subscription_entry client f identifier version)) in
      w.looks (λ p h. not stood && subscribing.has_most client h.store) (λ is. If is full (Then One (λ _. Returns given)))
      (λ is. w.by_test is full (Then One (λ _. Returns given)) (w.returns (subscribing.filter_refused 151)) (w.join One (λ _. Returns given) one (λ _. w.returns given)))

  pub grants : (client : List ℕ) (identifier : ℕ) (f : SubscribeFilter) → K Granted (subscribing.Grants client identifier f)
  grants client identifier f =
      w.by_whether (IsFilter f.filter) (Looks (λ p h. subscribing.stands client f.filter h) (subscribing.GrantsBy client identifier f)) (Returns (subscribing.filter_refused 143))
      (w.looks (λ p h. subscribing.stands client f.filter h) (subscribing.GrantsBy client identifier f) (grants_by client identifier f)) (w.returns (subscribing.filter_refused 143))

  removes : (client : List ℕ) (to : Option (List ℕ)) → K Bool (Removes client to)
  removes client to =
      w.looks (λ p h. any_of client to h.store.subscriptions) (λ stands. If stands (Then (MakesRemove client to) (λ _. Returns true)) (Returns false))
      (λ stands. w.by_test stands (Then (MakesRemove client to) (λ _. Returns true)) (Returns false) (w.join (MakesRemove client to) (λ _. Returns true) (w.remove client to) (λ _. w.returns true)) (w.returns false))

  pub unsubscribed : (client text : List ℕ) → K ℕ (unsubscribing.Unsubscribed client text)
  unsubscribed client text =
      w.by_whether (IsFilter text) (Then (Removes client (Some text)) (λ stood. Returns (cond stood 0 17))) (Returns 143)
      (w.join (Removes client (Some text)) (λ stood. Returns (cond stood 0 17)) (removes client (Some text)) (λ stood. w.returns (cond stood 0 17))) (w.returns 143)

-- and of what else is done for a client
pub record Small (K : (A : Type 0) → (Option A → Doing) → Type 0) : Type 1 where
  pub makes : Makes K
  pub finds : {A B : Type 0} (Is : Place → HeldView → A → Type 0) (P : A → Option B → Doing) → ((y : A) → K B (P y)) → K B (FindsWhere Is P)
  pub calls : (client : List ℕ) (event : ℕ → Event) → ((at : ℕ) → IsStaying (event at)) → K Reaction (Calls client event stays)
  pub put : (content : Content) → K (Unit {0}) (MakesPut content)
  pub passed : (m : Message) (x : passing.Made) → K (Unit {0}) (Numbered turn_at_end (λ p h. Passed m x.0 x.1.0 x.1.1))
  pub puts : (peer : ℕ) (m : Forward) (o : Offer) → K (Unit {0}) (PutsInLaneBy peer m o)
  pub missed : K (Unit {0}) (Misses LaneFull)
  pub dropped : K (Unit {0}) passing.Drops
  pub acknowledged : (client : List ℕ) (packet : ℕ) (given : List Granted) (os : List Delivery) → K (Unit {0}) (Acting (λ p h. Acknowledged client packet h.at given os))

module _ (K : (A : Type 0) → (Option A → Doing) → Type 0) (w : Small K) where
  abbrev Does : (Option (Unit {0}) → Doing) → Type 0
  Does P = K (Unit {0}) P

  each : {A : Type 0} (One : A → Option (Unit {0}) → Doing) (xs : List A) → ((x : A) → Does (One x)) → Does (Each One xs)
  each One [] f = w.makes.returns tt
  each One (x ∷ xs) f = w.makes.join (One x) (λ _. Each One xs) (f x) (λ _. each One xs f)

  -- ---- a message that is passed on
  queues_one : (x : Copy) → Does (QueuesOne x)
  queues_one x = w.makes.join (Calls x.client (queues x.delivery) stays) (λ _. Returns tt) (w.calls x.client (queues x.delivery) (λ at. tt)) (λ _. w.makes.returns tt)

  routes : (peer : ℕ) (route : Route) → Does (RoutesBy peer route)
  routes peer Nothing = w.makes.returns tt
  routes peer (Lane m) = w.makes.looks (λ p h. offer_to peer h.bridge) (PutsInLaneBy peer m) (w.puts peer m)
  routes peer TooLarge = w.missed

  makes_copies : (m : Message) (x : passing.Made) → Does (passing.MakesCopies m x)
  makes_copies m x =
      w.makes.join (Numbered turn_at_end (λ p h. Passed m x.0 x.1.0 x.1.1)) (λ _. Then (Queues x.0) (λ _. Each Routes x.1.1)) (w.passed m x) (λ _.
      w.makes.join (Queues x.0) (λ _. Each Routes x.1.1) (each QueuesOne x.0 queues_one) (λ _. each Routes x.1.1 (λ y. routes y.0 y.1)))

  copies_at : (m : Message) (at : ℕ) → Does (passing.CopiesAt m at)
  copies_at m at = w.makes.by_whether (IsBefore at m.deadline) (passing.Copies m) (Returns tt) (w.finds (passing.AreMade m) (passing.MakesCopies m) (makes_copies m)) (w.makes.returns tt)

  retains : (m : Message) → Does (passing.Retains m)
  retains m = w.makes.by_test m.retain (MakesPut (content_given m)) (Returns tt) (w.put (content_given m)) (w.makes.returns tt)

  pub passes : (m : Message) → Does (passing.Passes m)
  passes m = w.makes.join (passing.Retains m) (λ _. Looks (λ p h. h.at) (passing.CopiesAt m)) (retains m) (λ _. w.makes.looks (λ p h. h.at) (passing.CopiesAt m) (copies_at m))

  -- ---- offers
  offers_one : (client : List ℕ) (offer : Delivery) → Does (subscribing.OffersOne client offer)
  offers_one client offer = w.makes.join (Calls client (queues offer) stays) (λ _. Returns tt) (w.calls client (queues offer) (λ at. tt)) (λ _. w.makes.returns tt)

  pub offers : (client : List ℕ) (packet : ℕ) (given : List Granted) → Does (subscribing.Offers client packet given)
  offers client packet given =
      w.finds (subscribing.AreOffers given) (subscribing.OffersEach client packet given)
      (λ os. w.makes.join (Acting (λ p h. Acknowledged client packet h.at given os)) (λ _. Each (subscribing.OffersOne client) os) (w.acknowledged client packet given os)
      (λ _. each (subscribing.OffersOne client) os (offers_one client)))
