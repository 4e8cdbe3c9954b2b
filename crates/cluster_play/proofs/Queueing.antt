-- After each answer to a SUBSCRIBE the client's session is offered what is told, one by one.
use Rattle.std.proofs.Common.{◌≡◌, ℕ, ◌==◌, ◌^◌, nat_lt, Bool, true, false, not, ◌&&◌, cond, List, [], ◌∷◌, ◌++◌, Option, Some, None, refl, sym, ap, ◌∙◌, ◌⊎◌, inl, inr, subst, append_assoc}
use Rattle.std.proofs.lemmas.List.{append-nil}
use Rattle.std.specs.FinMap as map
use Rattle.mqtt_packets.specs.declared.connect.Connect.{Connect}
use Rattle.mqtt_packets.specs.declared.fault.PacketFault.{PacketFault}
use Rattle.mqtt_packets.specs.declared.packet.Packet.{Packet}
use Rattle.mqtt_packets.specs.declared.packet.Packet.TheVariants as packets
use Rattle.mqtt_packets.specs.declared.subscribe.Subscribe.{Subscribe}
use Rattle.mqtt_packets.specs.declared.subscribe.SubscribeFilter.{SubscribeFilter}
use Rattle.mqtt_packets.specs.declared.unsubscribe.Unsubscribe.{Unsubscribe}
use Rattle.mqtt_message.specs.declared.delivery.Delivery.{Delivery}
use Rattle.mqtt_message.specs.declared.message.Message.{Message}
use Rattle.mqtt_message.specs.Expiry.{IsBefore}
use Rattle.mqtt_message.specs.Identifiers.{identifiers_of}
use Rattle.mqtt_sessions.specs.declared.reaction.Ask.{Ask}
use Rattle.mqtt_sessions.specs.declared.reaction.Ask.TheVariants as asks
use Rattle.mqtt_sessions.specs.Answers.{disconnect, fits}
use Rattle.mqtt_sessions.specs.Reaction.{Reaction, nothing}
use Rattle.mqtt_sessions.specs.State.{limit_in}
use Rattle.mqtt_topics.specs.Topics.{IsFilter}
use Rattle.bridge_routes.specs.declared.plain.PlainCopy.{PlainCopy as Copy}
use Rattle.session_table.specs.Dues.{Due}
use Rattle.replica_store.specs.declared.operation.Operation.{Operation}
use Rattle.replica_store.specs.Making.{subscribe_of}
use Rattle.replica_store.specs.States.{State}
use Rattle.law_sessions.specs.Runs.{Event, connects, queues, rooms, takes, answers, closes, ticks, finishes}
use Rattle.session_table.specs.Calls.{stays, leaves, moves}
use Rattle.session_table.specs.Seats.{Seat, run_outs, wills_due, ends_due, connected}
use Rattle.home_table.specs.Table.{Table}
use Rattle.law_maps.proofs.Texts.{get_inserted}
use Rattle.node_work.specs.declared.granted.Granted.{Granted}
use Rattle.bridge_deltas.specs.declared.offer.Offer.{Offer}
use Rattle.bridge_deltas.specs.declared.offer.Offer.TheVariants as offers
use Rattle.bridge_frames.specs.declared.body.FrameBody.{FrameBody}
use Rattle.bridge_frames.specs.declared.body.FrameBody.TheVariants as bodies
use Rattle.bridge_frames.specs.declared.forward.Forward.{Forward}
use Rattle.bridge_frames.specs.declared.frame.BridgeFrame.{BridgeFrame}
use Rattle.bridge_frames.specs.Frames.{frame_in}
use Rattle.bridge_routes.specs.declared.destinations.Route.{Route}
use Rattle.bridge_routes.specs.declared.destinations.Route.TheVariants.{Nothing, Lane, TooLarge}
use Rattle.node_bridge.specs.View.{lane_to, offer_to}
use Rattle.node_work.specs.declared.counts.Missed.{Missed}
use Rattle.node_work.specs.declared.counts.Missed.TheVariants.{LaneFull, BadFrame, FrameTooLarge, TableRefused}
use Rattle.node_work.specs.Held.Bridge.{BridgeAct, Put as PutIn, Took, Got as GotBy, Believed, Greeted, Gave, Left_out, hello_to}
use Rattle.node_work.specs.Acts.{Act, MomentTaken, Began, Moved, Store, Connection, Session, Bridge, Out, Named, Acknowledged, Passed, Dropped, Made, Merged, Runs}
use Rattle.node_work.specs.Calling.{CallsAt, Calls, Queues, QueuesOne}
use Rattle.node_work.specs.Doings.{TakesMoment, MakesSubscribe, MakesRemove, MakesRemoveBelow, Removes, RemovesBelow, Sends, Disconnects, Redirects, Misses, PutsInLaneBy, Routes, RoutesBy, GivesBody, GivesFrame, is_small}
use Rattle.node_work.specs.Held.Sessions.{SessionStep, Begun, Called, connection_at, seat_at, takes_disconnect, takes_packet, will_is_due, end_is_due}
use Rattle.node_work.specs.Held.Feeding.{cut_of}
use Rattle.node_work.specs.Held.Connections.{Closed, Fed, Opened, Roomed, is_open, client_at, first_at}
use Rattle.node_work.specs.Held.Making.{number_at_end, removal, removal_below}
use Rattle.node_work.specs.Frames.{is_for_node, is_other}
use Rattle.subscription_set.specs.declared.entry.Entry.{Entry}
use Rattle.subscription_set.specs.Standing.{any_of, any_below}
use Rattle.node_work.specs.Packets.{moved_packet, refused_packet}
use Rattle.node_work.specs.View.{Place, HeldView, ConnectionView}
use Rattle.node_work.specs.Working.{Doing, Returns, Stops, Acting, Numbered, Looks, FindsWhere, If, Where, Then, InTurn, Each}
use Rattle.node_clients.specs.Connecting as connecting
use Rattle.node_clients.specs.Ending as ending
use Rattle.node_clients.specs.Moving as moving
use Rattle.node_clients.specs.Passing as passing
use Rattle.node_clients.specs.Pieces as pieces
use Rattle.node_clients.specs.Rooms as giving
use Rattle.node_clients.specs.Serving as serving
use Rattle.node_clients.specs.Subscribing as subscribing
use Rattle.node_clients.specs.Unsubscribing as unsubscribing
use Rattle.broker_node.specs.declared.event.Event.{Event as NodeEvent}
use Rattle.broker_node.specs.declared.event.EventKind.{EventKind}
use Rattle.broker_node.specs.declared.event.EventKind.TheVariants as kinds
use Rattle.broker_node.specs.Bridge as bridge
use Rattle.broker_node.specs.Due as due
use Rattle.broker_node.specs.Moving as tables
use Rattle.broker_node.specs.Turns as turns
use Rattle.cluster_play.specs.Answering.{OffersAreQueued, BeginsWithOffers}
use Rattle.cluster_play.proofs.Amid.{runs_split}
use Rattle.cluster_play.proofs.Bools.{some_is, none-some}

-- ---- what holds of no acts, and of acts one after the other
pub record Joined (T : List Act → Type 0) : Type 0 where
  pub none : T []
  pub both : (xs ys : List Act) → T xs → T ys → T (xs ++ ys)

-- the acts of work that is done
pub record Keeps (T : List Act → Type 0) {A : Type 0} (P : Option A → Doing) : Type 0 where
  pub of : (x : A) (p : Place) (h : HeldView) (acts : List Act) → P (Some x) p h acts → T acts

module _ (T : List Act → Type 0) (c : Joined T) where
  k_returns : {A : Type 0} (y : A) → Keeps T (Returns y)
  k_returns y = record { of = λ x p h acts d. subst T (sym d.1) c.none }

  k_stops : {A : Type 0} → Keeps T {A = A} Stops
  k_stops = record { of = λ x p h acts d. none-some (sym d.0) }

  k_acting : (a : Place → HeldView → Act) → ((p : Place) (h : HeldView) → T (a p h ∷ [])) → Keeps T (Acting a)
  k_acting a one = record { of = λ x p h acts d. subst T (sym d.1) (one p h) }

  not_at_end : (b : Bool) (x : Unit {0}) (X Y : Type 0) → cond b ((Some x ≡ None) × Y) X → X
  not_at_end true x X Y d = none-some (sym d.0)
  not_at_end false x X Y d = d

  k_numbered : (at_end : Place → HeldView → Bool) (a : Place → HeldView → Act) → ((p : Place) (h : HeldView) → T (a p h ∷ [])) → Keeps T (Numbered at_end a)
  k_numbered at_end a one = record { of = λ x p h acts d. (k_acting a one).of x p h acts (not_at_end (at_end p h) x (Acting a (Some x) p h acts) (acts ≡ []) d) }

  k_looks : {A B : Type 0} (see : Place → HeldView → A) (P : A → Option B → Doing) → ((y : A) → Keeps T (P y)) → Keeps T (Looks see P)
  k_looks see P f = record { of = λ x p h acts d. (f (see p h)).of x p h acts d }

  k_finds : {A B : Type 0} (Is : Place → HeldView → A → Type 0) (P : A → Option B → Doing) → ((y : A) → Keeps T (P y)) → Keeps T (FindsWhere Is P)
  k_finds Is P f = record { of = λ x p h acts d. (f d.0).of x p h acts d.2 }

  k_if : {A : Type 0} (b : Bool) (P Q : Option A → Doing) → Keeps T P → Keeps T Q → Keeps T (If b P Q)
  k_if true P Q f g = record { of = λ x p h acts d. f.of x p h acts d }
  k_if false P Q f g = record { of = λ x p h acts d. g.of x p h acts d }

  k_where : {A : Type 0} (X : Type 0) (P Q : Option A → Doing) → Keeps T P → Keeps T Q → Keeps T (Where X P Q)
  k_where X P Q f g = record { of = λ x p h acts d. elim d [ inl e ↦ f.of x p h acts e.1 | inr e ↦ g.of x p h acts e.1 ] }

  k_then : {A B : Type 0} (P : Option A → Doing) (Q : A → Option B → Doing) → Keeps T P → ((y : A) → Keeps T (Q y)) → Keeps T (Then P Q)
  k_then P Q f g = record { of = λ x p h acts d. elim d [ inl e ↦ none-some (sym e.0) | inr e ↦ subst T (sym e.7) (c.both e.1 e.3 (f.of e.0 p h e.1 e.4) ((g e.0).of x p e.2 e.3 e.6)) ] }

  k_inturn : {A B : Type 0} (One : A → Option B → Doing) (xs : List A) (given : List B) → ((x : A) → Keeps T (One x)) → Keeps T (InTurn One xs given)
  k_inturn One [] given f = k_returns given
  k_inturn One (x ∷ xs) given f = k_then (One x) (λ y. InTurn One xs (given ++ y ∷ [])) (f x) (λ y. k_inturn One xs (given ++ y ∷ []) f)

  k_each : {A : Type 0} (One : A → Option (Unit {0}) → Doing) (xs : List A) → ((x : A) → Keeps T (One x)) → Keeps T (Each One xs)
  k_each One [] f = k_returns tt
  k_each One (x ∷ xs) f = k_then (One x) (λ _. Each One xs) (f x) (λ _. k_each One xs f)

  -- the filters of a SUBSCRIBE
  module _ (made : (o : Operation) → T (Store (Made o) ∷ [])) (client : List ℕ) (identifier : ℕ) (f : SubscribeFilter) where
    subscribed : (entry : Entry) → Keeps T (MakesSubscribe entry)
    subscribed entry = k_numbered (λ p h. number_at_end p.id h) (λ p h. Store (Made (subscribe_of p.id entry h.store))) (λ p h. made (subscribe_of p.id entry h.store))

    granted : (stood : Bool) → Keeps T (subscribing.GrantsBy client identifier f stood)
    granted stood =
        let full = Returns (subscribing.filter_refused 151) in
        let given = subscribing.granted f (identifiers_of identifier) stood in
        let Makes = subscribing.SubscribesTo client identifier f in
        let subscribes = k_looks (λ p h. h.homes.version) (λ version. MakesSubscribe (subscribing.subscription_entry client f identifier version)) (λ version. subscribed (subscribing.subscription_entry client f identifier version)) in
        k_looks (λ p h. not stood && subscribing.has_most client h.store) (λ is. If is full (Then Makes (λ _. Returns given)))
        (λ is. k_if is full (Then Makes (λ _. Returns given)) (k_returns (subscribing.filter_refused 151)) (k_then Makes (λ _. Returns given) subscribes (λ _. k_returns given)))

    grants : Keeps T (subscribing.Grants client identifier f)
    grants =
        k_where (IsFilter f.filter) (Looks (λ p h. subscribing.stands client f.filter h) (subscribing.GrantsBy client identifier f)) (Returns (subscribing.filter_refused 143))
        (k_looks (λ p h. subscribing.stands client f.filter h) (subscribing.GrantsBy client identifier f) granted) (k_returns (subscribing.filter_refused 143))

-- ---- after each answer the offers
abbrev pub Follows : Act → List Act → Type 0
Follows (MomentTaken at) rest = Unit {0}
Follows Began rest = Unit {0}
Follows (Moved homes) rest = Unit {0}
Follows (Store a) rest = Unit {0}
Follows (Connection a) rest = Unit {0}
Follows (Session a) rest = Unit {0}
Follows (Bridge a) rest = Unit {0}
Follows (Out o) rest = Unit {0}
Follows (Named number) rest = Unit {0}
Follows (Acknowledged client packet at grants offers) rest = BeginsWithOffers client at offers rest
Follows (Passed m copies lost routes) rest = Unit {0}
Follows Dropped rest = Unit {0}

abbrev pub Answered : List Act → Type 0
Answered [] = Unit {0}
Answered (a ∷ rest) = Follows a rest × Answered rest

follows_more : (a : Act) (xs ys : List Act) → Follows a xs → Follows a (xs ++ ys)
follows_more (MomentTaken at) xs ys f = tt
follows_more Began xs ys f = tt
follows_more (Moved homes) xs ys f = tt
follows_more (Store a) xs ys f = tt
follows_more (Connection a) xs ys f = tt
follows_more (Session a) xs ys f = tt
follows_more (Bridge a) xs ys f = tt
follows_more (Out o) xs ys f = tt
follows_more (Named number) xs ys f = tt
follows_more (Acknowledged client packet at grants offers) xs ys f =
    record { calls = f.calls; rest = f.rest ++ ys; is = ap (λ zs. zs ++ ys) f.is ∙ append_assoc f.calls f.rest ys; queued = f.queued }
follows_more (Passed m copies lost routes) xs ys f = tt
follows_more Dropped xs ys f = tt

answered_both : (xs ys : List Act) → Answered xs → Answered ys → Answered (xs ++ ys)
answered_both [] ys a b = b
answered_both (x ∷ xs) ys a b = (follows_more x xs ys a.0, answered_both xs ys a.1 b)

answered : Joined Answered
answered = record { none = tt; both = answered_both }

follows_at : (before : List Act) (a : Act) (after : List Act) → Answered (before ++ a ∷ after) → Follows a after
follows_at [] a after h = h.0
follows_at (b ∷ before) a after h = follows_at before a after h.1

-- ---- the sessions stay as they are
abbrev pub Still : List Act → Type 0
Still acts = (p : Place) (h h' : HeldView) → Runs p h acts h' → h'.sessions ≡ h.sessions

still : Joined Still
still = record {
  none = λ p h h' r. ap (λ (v : HeldView). v.sessions) r;
  both = λ xs ys a b p h h' r. (let s = runs_split p xs ys h h' r in b p s.0 h' s.2 ∙ a p h s.0 s.1);
}

still_made : (o : Operation) → Still (Store (Made o) ∷ [])
still_made o p h h' r = ap (λ (v : HeldView). v.sessions) (r.2 ∙ r.1.1)

-- ---- calls
calls_at : (client : List ℕ) (event : ℕ → Event) (on : Option ℕ → Option ℕ) (found : Option Seat) (r : Reaction) (p : Place) (h : HeldView) (acts : List Act) → CallsAt client event on found (Some r) p h acts → Answered acts
calls_at client event on None r p h acts d = subst Answered (sym d.1) tt
calls_at client event on (Some seat) r p h acts (inl d) = none-some (sym d.0)
calls_at client event on (Some seat) r p h acts (inr d) = subst Answered (sym d.4) (tt, tt)

calls : (client : List ℕ) (event : ℕ → Event) (on : Option ℕ → Option ℕ) → Keeps Answered (Calls client event on)
calls client event on = record { of = λ r p h acts d. calls_at client event on (seat_at client h) r p h acts d }

-- the client has a session
abbrev pub Has : List ℕ → HeldView → Type 0
Has client h = (seat : Seat) × (seat_at client h ≡ Some seat)

-- a call of it
pub record Calling (client : List ℕ) (event : ℕ → Event) (h : HeldView) (acts : List Act) (mid : HeldView) : Type 0 where
  pub step : SessionStep
  pub acts_are : acts ≡ Session (Called step) ∷ []
  pub client_is : step.client ≡ client
  pub at_is : step.at ≡ h.at
  pub event_is : step.event ≡ event h.at
  pub has : Has client mid
  pub at_stays : mid.at ≡ h.at

call_of : (client : List ℕ) (event : ℕ → Event) (on : Option ℕ → Option ℕ) (seat : Seat) (r : Reaction) (p : Place) (h : HeldView) (acts : List Act) (mid : HeldView)
    → CallsAt client event on (Some seat) (Some r) p h acts → Runs p h acts mid → Calling client event h acts mid
call_of client event on seat r p h acts mid (inl d) runs = none-some (sym d.0)
call_of client event on seat r p h acts mid (inr d) runs =
    let step : SessionStep = record { client = client; on = on seat.connection; at = h.at; event = event h.at; reaction = d.0; after = d.1 } in
    let q = subst (λ xs. Runs p h xs mid) d.4 runs in
    let is = q.2 ∙ q.1.1 in
    record {
      step = step;
      acts_are = d.4;
      client_is = refl;
      at_is = refl;
      event_is = refl;
      has = (record { session = d.1; connection = on seat.connection }, ap (seat_at client) is ∙ get_inserted h.sessions client (record { session = d.1; connection = on seat.connection }));
      at_stays = ap (λ (v : HeldView). v.at) is;
    }

called_has : (client : List ℕ) (event : ℕ → Event) (on : Option ℕ → Option ℕ) (r : Reaction) (p : Place) (h : HeldView) (acts : List Act) (mid : HeldView)
    → Has client h → Calls client event on (Some r) p h acts → Runs p h acts mid → Calling client event h acts mid
called_has client event on r p h acts mid has d runs =
    call_of client event on has.0 r p h acts mid (subst (λ f. CallsAt client event on f (Some r) p h acts) has.1 d) runs

-- a reaction is that of a session, or nothing
called_or : (client : List ℕ) (event : ℕ → Event) (on : Option ℕ → Option ℕ) (found : Option Seat) (r : Reaction) (p : Place) (h : HeldView) (acts : List Act) (mid : HeldView)
    → CallsAt client event on found (Some r) p h acts → Runs p h acts mid → (r ≡ nothing) ⊎ Has client mid
called_or client event on None r p h acts mid d runs = inl (some_is d.0)
called_or client event on (Some seat) r p h acts mid d runs = inr (call_of client event on seat r p h acts mid d runs).has

-- ---- the offers, one by one
pub record Queued (client : List ℕ) (at : ℕ) (offers : List Delivery) (acts : List Act) : Type 0 where
  pub queued : OffersAreQueued client at offers acts
  pub answered : Answered acts

each_queued : (client : List ℕ) (offers : List Delivery) (x : Unit {0}) (p : Place) (h : HeldView) (acts : List Act) → Has client h
    → Each (subscribing.OffersOne client) offers (Some x) p h acts → Queued client h.at offers acts
each_queued client [] x p h acts has d = record { queued = d.1; answered = subst Answered (sym d.1) tt }
each_queued client (o ∷ os) x p h acts has (inl d) = none-some (sym d.0)
each_queued client (o ∷ os) x p h acts has (inr (y, own, mid, rest, (inl one), runs, more, is)) = none-some (sym one.0)
each_queued client (o ∷ os) x p h acts has (inr (y, own, mid, rest, (inr one), runs, more, is)) =
    let r = one.0 in
    let calling = one.1 in
    let no : own ≡ calling = one.7 ∙ ap (λ zs. calling ++ zs) one.6.1 ∙ append-nil calling in
    let c = called_has client (queues o) stays r p h calling mid has one.4 (subst (λ zs. Runs p h zs mid) no runs) in
    let q = each_queued client os x p mid rest c.has more in
    let all : acts ≡ Session (Called c.step) ∷ rest = is ∙ ap (λ zs. zs ++ rest) (no ∙ c.acts_are) in
    record {
      queued = (c.step, rest, all, c.client_is, c.at_is, c.event_is, subst (λ t. OffersAreQueued client t os rest) c.at_stays q.queued);
      answered = subst Answered (sym all) (tt, q.answered);
    }

offers_each : (client : List ℕ) (packet : ℕ) (grants : List Granted) (offers : List Delivery) (x : Unit {0}) (p : Place) (h : HeldView) (acts : List Act) → Has client h
    → subscribing.OffersEach client packet grants offers (Some x) p h acts → Answered acts
offers_each client packet grants offers x p h acts has (inl d) = none-some (sym d.0)
offers_each client packet grants offers x p h acts has (inr (y, own, mid, rest, one, runs, more, is)) =
    let ack = Acknowledged client packet h.at grants offers in
    let r = subst (λ zs. Runs p h zs mid) one.1 runs in
    let same : mid ≡ h = r.2 ∙ r.1.1 in
    let q = each_queued client offers x p h rest has (subst (λ (v : HeldView). Each (subscribing.OffersOne client) offers (Some x) p v rest) same more) in
    let all : acts ≡ ack ∷ rest = is ∙ ap (λ zs. zs ++ rest) one.1 in
    subst Answered (sym all) (record { calls = rest; rest = []; is = sym (append-nil rest); queued = q.queued }, q.answered)

-- ---- what ends

-- ---- what ends: acts of which none is an answer to a SUBSCRIBE
makes_remove : (client : List ℕ) (to : Option (List ℕ)) → Keeps Answered (MakesRemove client to)
makes_remove client to = k_numbered Answered answered (λ p h. number_at_end p.id h) (λ p h. Store (Made (removal p.id client to h.store))) (λ p h. (tt, tt))

removes : (client : List ℕ) (to : Option (List ℕ)) → Keeps Answered (Removes client to)
removes client to =
    k_looks Answered answered (λ p h. any_of client to h.store.subscriptions) (λ stands. If stands (Then (MakesRemove client to) (λ _. Returns true)) (Returns false))
    (λ stands. k_if Answered answered stands (Then (MakesRemove client to) (λ _. Returns true)) (Returns false)
    (k_then Answered answered (MakesRemove client to) (λ _. Returns true) (makes_remove client to) (λ _. k_returns Answered answered true)) (k_returns Answered answered false))

makes_remove_below : (client : List ℕ) (version : ℕ) → Keeps Answered (MakesRemoveBelow client version)
makes_remove_below client version = k_numbered Answered answered (λ p h. number_at_end p.id h) (λ p h. Store (Made (removal_below p.id client version h.store))) (λ p h. (tt, tt))

removes_below : (client : List ℕ) (version : ℕ) → Keeps Answered (RemovesBelow client version)
removes_below client version =
    k_looks Answered answered (λ p h. any_below client version h.store.subscriptions) (λ stands. If stands (Then (MakesRemoveBelow client version) (λ _. Returns true)) (Returns false))
    (λ stands. k_if Answered answered stands (Then (MakesRemoveBelow client version) (λ _. Returns true)) (Returns false)
    (k_then Answered answered (MakesRemoveBelow client version) (λ _. Returns true) (makes_remove_below client version) (λ _. k_returns Answered answered true)) (k_returns Answered answered false))

removes_own : (client : List ℕ) → Keeps Answered (ending.RemovesOwn client)
removes_own client =
    k_finds Answered answered (ending.IsAtHome client) (ending.RemovesFor client) (λ node. k_looks Answered answered (ending.ends_below node) (RemovesBelow client) (removes_below client))

sends : (c : ℕ) (packet : Packet) → Keeps Answered (Sends c packet)
sends c packet = k_acting Answered answered _ (λ p h. (tt, tt))

disconnects : (c : ℕ) (client : List ℕ) (code : ℕ) → Keeps Answered (Disconnects c client code)
disconnects c client code =
    k_looks Answered answered (λ p h. takes_disconnect client code h) (λ taken. If taken (Sends c (disconnect code)) (Returns tt))
    (λ taken. k_if Answered answered taken (Sends c (disconnect code)) (Returns tt) (sends c (disconnect code)) (k_returns Answered answered tt))

redirects : (c : ℕ) (client address : List ℕ) → Keeps Answered (Redirects c client address)
redirects c client address =
    k_looks Answered answered (λ p h. takes_packet client (moved_packet address) h) (λ taken. If taken (Sends c (moved_packet address)) (Returns tt))
    (λ taken. k_if Answered answered taken (Sends c (moved_packet address)) (Returns tt) (sends c (moved_packet address)) (k_returns Answered answered tt))

queues_one : (x : Copy) → Keeps Answered (QueuesOne x)
queues_one x = k_then Answered answered (Calls x.client (queues x.delivery) stays) (λ _. Returns tt) (calls x.client (queues x.delivery) stays) (λ _. k_returns Answered answered tt)

retains : (m : Message) → Keeps Answered (passing.Retains m)
retains m = k_if Answered answered m.retain _ _ (k_numbered Answered answered _ _ (λ p h. (tt, tt))) (k_returns Answered answered _)

bridge_act : (a : Place → HeldView → BridgeAct) → Keeps Answered (Acting (λ p h. Bridge (a p h)))
bridge_act a = k_acting Answered answered (λ p h. Bridge (a p h)) (λ p h. (tt, tt))

misses : (what : Missed) → Keeps Answered (Misses what)
misses what = bridge_act (λ p h. Left_out what)

puts_by : (peer : ℕ) (m : Forward) (o : Offer) → Keeps Answered (PutsInLaneBy peer m o)
puts_by peer m (offers.Queued n) = bridge_act (λ p h. PutIn peer m)
puts_by peer m offers.Full = misses LaneFull
puts_by peer m offers.AtEnd = k_stops Answered answered

routes_by : (peer : ℕ) (route : Route) → Keeps Answered (RoutesBy peer route)
routes_by peer Nothing = k_returns Answered answered _
routes_by peer (Lane m) = k_looks Answered answered (λ p h. offer_to peer h.bridge) (PutsInLaneBy peer m) (puts_by peer m)
routes_by peer TooLarge = misses LaneFull

queues_all : (copies : List Copy) → Keeps Answered (Queues copies)
queues_all copies = k_each Answered answered QueuesOne copies queues_one

copies : (m : Message) → Keeps Answered (passing.Copies m)
copies m = k_finds Answered answered _ _ (λ x. k_then Answered answered _ _ (k_numbered Answered answered _ _ (λ p h. (tt, tt)))
    (λ _. k_then Answered answered (Queues x.0) (λ _. Each Routes x.1.1) (queues_all x.0) (λ _. k_each Answered answered Routes x.1.1 (λ r. routes_by r.0 r.1))))

takes_forward : (from number : ℕ) (m : Forward) → Keeps Answered (passing.TakesForward from number m)
takes_forward from number m =
    k_finds Answered answered _ _ (λ x. k_then Answered answered _ _ (bridge_act (λ p h. Took from number m x.0 x.1)) (λ _. queues_all x.0))

passes : (m : Message) → Keeps Answered (passing.Passes m)
passes m = k_then Answered answered _ _ (retains m) (λ _. k_looks Answered answered _ _ (λ at. k_where Answered answered (IsBefore at m.deadline) _ _ (copies m) (k_returns Answered answered _)))

drops : Keeps Answered passing.Drops
drops = k_acting Answered answered _ (λ p h. (tt, tt))

passes_will : (m : Message) → Keeps Answered (passing.PassesWill m)
passes_will m = k_looks Answered answered _ _ (λ lacks. k_if Answered answered lacks _ _ drops (passes m))

passes_asked : (ask : Option Ask) → Keeps Answered (ending.PassesAsked ask)
passes_asked None = k_returns Answered answered _
passes_asked (Some (asks.Pass m)) = passes_will m
passes_asked (Some asks.Subscribe) = k_returns Answered answered _
passes_asked (Some asks.Unsubscribe) = k_returns Answered answered _

ends_session : (client : List ℕ) → Keeps Answered (ending.EndsSession client)
ends_session client = k_then Answered answered _ _ (removes_own client) (λ _. k_acting Answered answered _ (λ p h. (tt, tt)))

follows : (client : List ℕ) (r : Reaction) → Keeps Answered (ending.FollowsReaction client r)
follows client r = k_then Answered answered _ _ (passes_asked r.ask) (λ _. k_if Answered answered r.over _ _ (ends_session client) (k_returns Answered answered _))

ticks_of : (client : List ℕ) → Keeps Answered (ending.Ticks client)
ticks_of client = k_then Answered answered (Calls client ticks stays) (ending.FollowsReaction client) (calls client ticks stays) (follows client)

finishes_of : (client : List ℕ) → Keeps Answered (ending.Finishes client)
finishes_of client = k_then Answered answered (Calls client finishes stays) (ending.FollowsReaction client) (calls client finishes stays) (follows client)

ticks_if : (is_due : Bool) (client : List ℕ) → Keeps Answered (ending.TicksIf is_due client)
ticks_if is_due client = k_if Answered answered is_due _ _ (ticks_of client) (k_returns Answered answered _)

parts : (client : List ℕ) → Keeps Answered (ending.Parts client)
parts client =
    k_then Answered answered (Calls client closes leaves) (λ _. ending.DoesDueOf client) (calls client closes leaves) (λ _.
    k_then Answered answered (Looks (λ p h. will_is_due client h) (λ b. ending.TicksIf b client)) (λ _. Looks (λ p h. end_is_due client h) (λ b. ending.TicksIf b client))
    (k_looks Answered answered (λ p h. will_is_due client h) (λ b. ending.TicksIf b client) (λ b. ticks_if b client)) (λ _. k_looks Answered answered (λ p h. end_is_due client h) (λ b. ending.TicksIf b client) (λ b. ticks_if b client)))

closes_of : (c : ℕ) → Keeps Answered (ending.ClosesConnection c)
closes_of c = k_then Answered answered _ _ (k_acting Answered answered _ (λ p h. (tt, tt))) (λ _. k_acting Answered answered _ (λ p h. (tt, tt)))

closes_for : (c : ℕ) (client : List ℕ) → Keeps Answered (ending.ClosesFor c client)
closes_for c client = k_then Answered answered _ _ (closes_of c) (λ _. parts client)

closes_by : (c : ℕ) (client : Option (List ℕ)) → Keeps Answered (ending.ClosesBy c client)
closes_by c None = closes_of c
closes_by c (Some client) = closes_for c client

closes_after : (end : Option ℕ) (c : ℕ) (client : List ℕ) → Keeps Answered (ending.ClosesAfter end c client)
closes_after None c client = k_returns Answered answered _
closes_after (Some code) c client = closes_for c client

-- ---- CONNECT
refuses : (c : ℕ) (p : Connect) (code : ℕ) (reference : Option (List ℕ)) → Keeps Answered (connecting.RefusesConnect c p code reference)
refuses c p code reference = k_then Answered answered _ _ (k_if Answered answered (fits (limit_in p.properties) (refused_packet code reference)) _ _ (sends c _) (k_returns Answered answered _)) (λ _. closes_of c)

takes_over : (client : List ℕ) (on : Option ℕ) → Keeps Answered (connecting.TakesOverFrom client on)
takes_over client None = k_returns Answered answered _
takes_over client (Some older) = k_then Answered answered _ _ (disconnects older client 142) (λ _. closes_for older client)

cleans : (clean : Bool) (client : List ℕ) → Keeps Answered (connecting.Cleans clean client)
cleans false client = k_returns Answered answered _
cleans true client = k_looks Answered answered _ _ (λ has. k_if Answered answered has _ _ (finishes_of client) (k_returns Answered answered _))

joins : (continued : Bool) (c : ℕ) (client : List ℕ) (p : Connect) (room : Option ℕ) → Keeps Answered (connecting.JoinsBy continued c client p room)
joins true c client p room = calls client (connects p true room) (moves c)
joins false c client p room =
    k_then Answered answered (Acting (λ place h. Session (Begun client))) (λ _. Calls client (connects p false room) (moves c))
    (k_acting Answered answered (λ place h. Session (Begun client)) (λ place h. (tt, tt))) (λ _. calls client (connects p false room) (moves c))

joins_in : (c : ℕ) (client : List ℕ) (p : Connect) (room : Option ℕ) → Keeps Answered (connecting.JoinsIn c client p room)
joins_in c client p room = k_looks Answered answered _ _ (λ has. joins has c client p room)

accepts : (c : ℕ) (p : Connect) (client : List ℕ) → Keeps Answered (connecting.Accepts c p client)
accepts c p client =
    k_then Answered answered _ _ (k_looks Answered answered _ _ (takes_over client)) (λ _. k_then Answered answered _ _ (cleans p.clean_start client) (λ _.
    k_then Answered answered _ _ (k_acting Answered answered _ (λ place h. (tt, tt))) (λ _. k_then Answered answered _ _ (k_looks Answered answered _ _ (joins_in c client p)) (λ r. closes_after r.end c client))))

names_by : (c : ℕ) (p : Connect) (number : Option ℕ) → Keeps Answered (connecting.NamesBy c p number)
names_by c p None = k_stops Answered answered
names_by c p (Some number) = k_then Answered answered _ _ (k_acting Answered answered _ (λ place h. (tt, tt))) (λ _. k_looks Answered answered _ _ (accepts c p))

comes_home : (c : ℕ) (p : Connect) (node : ℕ) → Keeps Answered (connecting.ComesHome c p node)
comes_home c p node =
    k_looks Answered answered (λ place h. node == place.id) (λ here. If here (connecting.AcceptsAs c p p.client) (connecting.Refers c p node))
    (λ here. k_if Answered answered here (connecting.AcceptsAs c p p.client) (connecting.Refers c p node)
    (k_where Answered answered (connecting.WillIsNamed p.will) (connecting.Accepts c p p.client) (connecting.RefusesConnect c p 144 None) (accepts c p p.client) (refuses c p 144 None))
    (k_looks Answered answered (λ place h. connecting.address_of h node) (λ reference. connecting.RefusesConnect c p 156 reference) (λ reference. refuses c p 156 reference)))

connects_at : (bare : Bool) (c : ℕ) (p : Connect) → Keeps Answered (connecting.ConnectsAt bare c p)
connects_at true c p = k_where Answered answered (connecting.WillIsNamed p.will) _ _ (k_finds Answered answered _ _ (names_by c p)) (refuses c p 144 None)
connects_at false c p = k_finds Answered answered _ _ (comes_home c p)

connects_by : (code : Option ℕ) (c : ℕ) (p : Connect) → Keeps Answered (connecting.ConnectsBy code c p)
connects_by (Some code) c p = refuses c p code None
connects_by None c p = connects_at _ c p

-- ---- SUBSCRIBE, UNSUBSCRIBE and PUBLISH
offers_after : (end : Option ℕ) (c : ℕ) (client : List ℕ) (packet : ℕ) (given : List Granted) (x : Unit {0}) (p : Place) (h : HeldView) (acts : List Act) → Has client h
    → subscribing.OffersAfter end c client packet given (Some x) p h acts → Answered acts
offers_after None c client packet given x p h acts has d = offers_each client packet given d.0 x p h acts has d.2
offers_after (Some code) c client packet given x p h acts has d = (closes_for c client).of x p h acts d

acknowledges : (c : ℕ) (client : List ℕ) (packet : ℕ) (given : List Granted) (x : Unit {0}) (p : Place) (h : HeldView) (acts : List Act) → Has client h
    → subscribing.SendsSuback c client packet given (Some x) p h acts → Answered acts
acknowledges c client packet given x p h acts has (inl d) = none-some (sym d.0)
acknowledges c client packet given x p h acts has (inr (r, own, mid, rest, one, runs, more, is)) =
    let call = called_has client (λ at. answers packet (subscribing.granted_reasons given)) stays r p h own mid has one runs in
    subst Answered (sym is) (answered_both own rest ((calls client (λ at. answers packet (subscribing.granted_reasons given)) stays).of r p h own one) (offers_after r.end c client packet given x p mid rest call.has more))

subscribes : (c : ℕ) (client : List ℕ) (s : Subscribe) (x : Unit {0}) (p : Place) (h : HeldView) (acts : List Act) → Has client h
    → subscribing.ServesSubscribe c client s (Some x) p h acts → Answered acts
subscribes c client s x p h acts has (inl d) = none-some (sym d.0)
subscribes c client s x p h acts has (inr (given, own, mid, rest, one, runs, more, is)) =
    let One = subscribing.Grants client (subscribing.identifier_of s) in
    let first = (k_inturn Answered answered One s.filters [] (grants Answered answered (λ o. (tt, tt)) client (subscribing.identifier_of s))).of given p h own one in
    let stay = (k_inturn Still still One s.filters [] (grants Still still still_made client (subscribing.identifier_of s))).of given p h own one p h mid runs in
    let has' : Has client mid = (has.0, ap (λ m. map.get m client) stay ∙ has.1) in
    subst Answered (sym is) (answered_both own rest first (acknowledges c client s.identifier given x p mid rest has' more))

subscribes_by : (c : ℕ) (client : List ℕ) (k : Packet) (x : Unit {0}) (p : Place) (h : HeldView) (acts : List Act) → Has client h
    → serving.SubscribesBy c client k (Some x) p h acts → Answered acts
subscribes_by c client (packets.Subscribe s) x p h acts has d = subscribes c client s x p h acts has d
subscribes_by c client _ x p h acts has d = subst Answered (sym d.1) tt

unsubscribed : (client text : List ℕ) → Keeps Answered (unsubscribing.Unsubscribed client text)
unsubscribed client text =
    k_where Answered answered (IsFilter text) (Then (Removes client (Some text)) (λ stood. Returns (cond stood 0 17))) (Returns 143)
    (k_then Answered answered (Removes client (Some text)) (λ stood. Returns (cond stood 0 17)) (removes client (Some text)) (λ stood. k_returns Answered answered (cond stood 0 17))) (k_returns Answered answered 143)

unsuback : (c : ℕ) (client : List ℕ) (packet : ℕ) (given : List ℕ) → Keeps Answered (unsubscribing.SendsUnsuback c client packet given)
unsuback c client packet given =
    k_then Answered answered (Calls client (λ at. answers packet given) stays) (λ r. ending.ClosesAfter r.end c client) (calls client (λ at. answers packet given) stays) (λ r. closes_after r.end c client)

unsubscribes : (c : ℕ) (client : List ℕ) (u : Unsubscribe) → Keeps Answered (unsubscribing.ServesUnsubscribe c client u)
unsubscribes c client u =
    k_then Answered answered (InTurn (unsubscribing.Unsubscribed client) u.filters []) (unsubscribing.SendsUnsuback c client u.identifier)
    (k_inturn Answered answered (unsubscribing.Unsubscribed client) u.filters [] (unsubscribed client)) (unsuback c client u.identifier)

unsubscribes_by : (c : ℕ) (client : List ℕ) (k : Packet) → Keeps Answered (serving.UnsubscribesBy c client k)
unsubscribes_by c client (packets.Unsubscribe u) = unsubscribes c client u
unsubscribes_by c client _ = k_returns Answered answered _

-- what a session asks for: a SUBSCRIBE where there is one
does_asked : (ask : Option Ask) (c : ℕ) (client : List ℕ) (k : Packet) (room : Bool) (end : Option ℕ) (x : Unit {0}) (p : Place) (h : HeldView) (acts : List Act) → (ask ≡ None) ⊎ Has client h
    → serving.DoesAsked ask c client k room end (Some x) p h acts → Answered acts
does_asked None c client k room end x p h acts has d = (k_if Answered answered (serving.is_dropped k room end) passing.Drops (Returns tt) drops (k_returns Answered answered _)).of x p h acts d
does_asked (Some (asks.Pass m)) c client k room end x p h acts has d = (passes m).of x p h acts d
does_asked (Some asks.Subscribe) c client k room end x p h acts (inl none) d = none-some (sym none)
does_asked (Some asks.Subscribe) c client k room end x p h acts (inr has) d = subscribes_by c client k x p h acts has d
does_asked (Some asks.Unsubscribe) c client k room end x p h acts has d = (unsubscribes_by c client k).of x p h acts d

does_reaction : (c : ℕ) (client : List ℕ) (k : Packet) (room : Bool) (r : Reaction) (x : Unit {0}) (p : Place) (h : HeldView) (acts : List Act) → (r ≡ nothing) ⊎ Has client h
    → serving.DoesReaction c client k room r (Some x) p h acts → Answered acts
does_reaction c client k room r x p h acts has (inl d) = none-some (sym d.0)
does_reaction c client k room r x p h acts has (inr (y, own, mid, rest, one, runs, more, is)) =
    let ask : (r.ask ≡ None) ⊎ Has client h = elim has [ inl none ↦ inl (ap (λ (v : Reaction). v.ask) none) | inr there ↦ inr there ] in
    subst Answered (sym is) (answered_both own rest (does_asked r.ask c client k room r.end y p h own ask one) ((closes_after r.end c client).of x p mid rest more))

serves_in : (c : ℕ) (client : List ℕ) (k : Packet) (room : Bool) (x : Unit {0}) (p : Place) (h : HeldView) (acts : List Act)
    → serving.ServesIn c client k room (Some x) p h acts → Answered acts
serves_in c client k room x p h acts (inl d) = none-some (sym d.0)
serves_in c client k room x p h acts (inr (r, own, mid, rest, one, runs, more, is)) =
    let event : ℕ → Event = λ at. takes k at room in
    subst Answered (sym is) (answered_both own rest ((calls client event stays).of r p h own one) (does_reaction c client k room r x p mid rest (called_or client event stays (seat_at client h) r p h own mid one runs) more))

serves : (c : ℕ) (client : List ℕ) (k : Packet) → Keeps Answered (serving.ServesPacket c client k)
serves c client k = record { of = λ x p h acts d. serves_in c client k _ x p h acts d }

-- ---- pieces
first : (c : ℕ) (k : Packet) → Keeps Answered (pieces.AnswersFirstPacket c k)
first c (packets.Connect p) = connects_by _ c p
first c _ = closes_of c

answers_by : (c : ℕ) (k : Packet) (client : Option (List ℕ)) → Keeps Answered (pieces.AnswersPacketBy c k client)
answers_by c k None = first c k
answers_by c k (Some client) = serves c client k

answers_if : (c : ℕ) (k : Packet) → Keeps Answered (pieces.AnswersIfOpen c k)
answers_if c k =
    k_looks Answered answered (λ p h. is_open c h) (λ is. If is (pieces.AnswersPacket c k) (Returns tt))
    (λ is. k_if Answered answered is (pieces.AnswersPacket c k) (Returns tt) (k_looks Answered answered (λ p h. client_at c h) (pieces.AnswersPacketBy c k) (answers_by c k)) (k_returns Answered answered tt))

sends_refusal : (c : ℕ) (code : Option ℕ) → Keeps Answered (pieces.SendsRefusal c code)
sends_refusal c None = record { of = λ x p h acts d. absurd d }
sends_refusal c (Some code) = record { of = λ x p h acts d. (sends c (refused_packet code None)).of x p h acts d }

sends_disconnect : (c : ℕ) (client : List ℕ) (code : Option ℕ) → Keeps Answered (pieces.SendsDisconnect c client code)
sends_disconnect c client None = record { of = λ x p h acts d. absurd d }
sends_disconnect c client (Some code) = record { of = λ x p h acts d. (disconnects c client code).of x p h acts d }

tells_by : (c : ℕ) (fault : PacketFault) (client : Option (List ℕ)) → Keeps Answered (pieces.TellsBy c fault client)
tells_by c fault None =
    k_looks Answered answered (λ p h. pieces.is_connect (first_at c h)) (λ is. If is (pieces.SendsRefusal c (pieces.connack_code fault)) (Returns tt))
    (λ is. k_if Answered answered is (pieces.SendsRefusal c (pieces.connack_code fault)) (Returns tt) (sends_refusal c (pieces.connack_code fault)) (k_returns Answered answered tt))
tells_by c fault (Some client) = sends_disconnect c client (pieces.disconnect_code fault)

breaks_by : (c : ℕ) (fault : PacketFault) (client : Option (List ℕ)) → Keeps Answered (pieces.BreaksBy c fault client)
breaks_by c fault client = k_then Answered answered _ _ (tells_by c fault client) (λ _. closes_by c client)

breaks_if : (c : ℕ) (fault : Option PacketFault) → Keeps Answered (pieces.BreaksIfOpen c fault)
breaks_if c None = k_returns Answered answered _
breaks_if c (Some fault) =
    k_looks Answered answered (λ p h. is_open c h) (λ is. If is (pieces.Breaks c fault) (Returns tt))
    (λ is. k_if Answered answered is (pieces.Breaks c fault) (Returns tt) (k_looks Answered answered (λ p h. client_at c h) (pieces.BreaksBy c fault) (breaks_by c fault)) (k_returns Answered answered tt))

takes_all : (c : ℕ) (ps : List Packet) (fault : Option PacketFault) → Keeps Answered (pieces.TakesPackets c ps fault)
takes_all c ps fault = k_then Answered answered (Each (pieces.AnswersIfOpen c) ps) (λ _. pieces.BreaksIfOpen c fault) (k_each Answered answered (pieces.AnswersIfOpen c) ps (answers_if c)) (λ _. breaks_if c fault)

feeds : (c : ℕ) (piece : List ℕ) (found : ConnectionView) → Keeps Answered (pieces.Feeds c piece found)
feeds c piece found =
    let cut = cut_of found.stream piece in
    k_then Answered answered (Acting (λ p h. Connection (Fed c piece))) (λ _. pieces.TakesPackets c cut.packets cut.fault) (k_acting Answered answered (λ p h. Connection (Fed c piece)) (λ p h. (tt, tt))) (λ _. takes_all c cut.packets cut.fault)

piece_at : (c : ℕ) (piece : List ℕ) (found : Option ConnectionView) → Keeps Answered (pieces.PieceAt c piece found)
piece_at c piece None = k_returns Answered answered tt
piece_at c piece (Some found) =
    k_if Answered answered found.stream.failed (pieces.Shuts c) (pieces.Feeds c piece found) (k_looks Answered answered (λ p h. client_at c h) (ending.ClosesBy c) (closes_by c)) (feeds c piece found)

parts_by : (client : Option (List ℕ)) → Keeps Answered (pieces.PartsBy client)
parts_by None = k_returns Answered answered _
parts_by (Some client) = parts client

leaves_by : (c : ℕ) (client : Option (List ℕ)) → Keeps Answered (pieces.LeavesBy c client)
leaves_by c client = k_then Answered answered (Acting (λ p h. Connection (Closed c))) (λ _. pieces.PartsBy client) (k_acting Answered answered (λ p h. Connection (Closed c)) (λ p h. (tt, tt))) (λ _. parts_by client)

leaves_of : (c : ℕ) → Keeps Answered (pieces.Leaves c)
leaves_of c =
    let there : Option (Unit {0}) → Doing = Looks (λ p h. client_at c h) (pieces.LeavesBy c) in
    k_looks Answered answered (λ p h. is_open c h) (λ is. If is there (Returns tt)) (λ is. k_if Answered answered is there (Returns tt) (k_looks Answered answered (λ p h. client_at c h) (pieces.LeavesBy c) (leaves_by c)) (k_returns Answered answered tt))

-- ---- room for PUBLISHes
makes_room_by : (c bytes : ℕ) (client : Option (List ℕ)) → Keeps Answered (giving.MakesRoomBy c bytes client)
makes_room_by c bytes None = k_acting Answered answered (λ p h. Connection (Roomed c bytes)) (λ p h. (tt, tt))
makes_room_by c bytes (Some client) = k_then Answered answered (Calls client (rooms bytes) stays) (λ _. Returns tt) (calls client (rooms bytes) stays) (λ _. k_returns Answered answered tt)

makes_room : (c bytes : ℕ) → Keeps Answered (giving.MakesRoom c bytes)
makes_room c bytes =
    let there : Option (Unit {0}) → Doing = Looks (λ p h. client_at c h) (giving.MakesRoomBy c bytes) in
    k_looks Answered answered (λ p h. is_open c h) (λ is. If is there (Returns tt)) (λ is. k_if Answered answered is there (Returns tt) (k_looks Answered answered (λ p h. client_at c h) (giving.MakesRoomBy c bytes) (makes_room_by c bytes)) (k_returns Answered answered tt))

-- ---- what is due
runs_out : (d : Due) → Keeps Answered (due.RunsOut d)
runs_out d =
    k_then Answered answered (Calls d.1 ticks stays) (λ _. Then (ending.ClosesConnection d.0) (λ _. Then (Calls d.1 closes leaves) (λ _. Returns tt))) (calls d.1 ticks stays) (λ _.
    k_then Answered answered (ending.ClosesConnection d.0) (λ _. Then (Calls d.1 closes leaves) (λ _. Returns tt)) (closes_of d.0) (λ _.
    k_then Answered answered (Calls d.1 closes leaves) (λ _. Returns tt) (calls d.1 closes leaves) (λ _. k_returns Answered answered tt)))

does_due : Keeps Answered due.DoesDue
does_due =
    k_then Answered answered due.EndsConnections (λ _. Then due.PublishesWills (λ _. due.EndsSessions))
    (k_looks Answered answered (λ p h. run_outs h.sessions h.at) (Each due.RunsOut) (λ ds. k_each Answered answered due.RunsOut ds runs_out)) (λ _.
    k_then Answered answered due.PublishesWills (λ _. due.EndsSessions)
    (k_looks Answered answered (λ p h. wills_due h.sessions h.at) (Each due.TicksOf) (λ ds. k_each Answered answered due.TicksOf ds (λ d. ticks_of d.1))) (λ _.
    k_looks Answered answered (λ p h. ends_due h.sessions h.at) (Each due.TicksOf) (λ ds. k_each Answered answered due.TicksOf ds (λ d. ticks_of d.1))))

parts_from : (client : List ℕ) → Keeps Answered (due.PartsFrom client)
parts_from client = k_then Answered answered (Calls client closes leaves) (λ _. Returns tt) (calls client closes leaves) (λ _. k_returns Answered answered tt)

-- ---- clients whose home is elsewhere
redirects_by : (c : ℕ) (client : List ℕ) (address : Option (List ℕ)) → Keeps Answered (moving.RedirectsBy c client address)
redirects_by c client None = k_returns Answered answered tt
redirects_by c client (Some address) = redirects c client address

redirects_home : (c : ℕ) (client : List ℕ) → Keeps Answered (moving.RedirectsHome c client)
redirects_home c client =
    k_finds Answered answered (ending.IsAtHome client) (moving.RedirectsTo c client)
    (λ node. k_looks Answered answered (λ p h. connecting.address_of h node) (moving.RedirectsBy c client) (redirects_by c client))

parts_on : (client : List ℕ) (on : Option ℕ) → Keeps Answered (moving.PartsOn client on)
parts_on client None = k_returns Answered answered tt
parts_on client (Some c) = k_then Answered answered (moving.RedirectsHome c client) (λ _. ending.ClosesFor c client) (redirects_home c client) (λ _. closes_for c client)

moves_away : (client : List ℕ) → Keeps Answered (moving.MovesAway client)
moves_away client =
    k_then Answered answered (moving.PartsWays client) (λ _. ending.Finishes client)
    (k_looks Answered answered (λ p h. connection_at client h) (moving.PartsOn client) (parts_on client)) (λ _. finishes_of client)

sends_away : Keeps Answered tables.SendsAway
sends_away = k_finds Answered answered tables.AreAway (Each moving.MovesAway) (λ away. k_each Answered answered moving.MovesAway away moves_away)

takes_table : (homes : Table) → Keeps Answered (tables.TakesTable homes)
takes_table homes =
    k_looks Answered answered (tables.is_newer_table homes) (λ newer. If newer (tables.TakesNewerTable homes) (Misses TableRefused))
    (λ newer. k_if Answered answered newer (tables.TakesNewerTable homes) (Misses TableRefused)
    (k_then Answered answered (Acting (λ p h. Moved homes)) (λ _. tables.SendsAway) (k_acting Answered answered (λ p h. Moved homes) (λ p h. (tt, tt))) (λ _. sends_away)) (misses TableRefused))

starts : Keeps Answered due.Starts
starts =
    k_then Answered answered (Acting (λ p h. Began)) (λ _. Then due.ClosesStored (λ _. Then due.DoesDue (λ _. tables.SendsAway))) (k_acting Answered answered (λ p h. Began) (λ p h. (tt, tt))) (λ _.
    k_then Answered answered due.ClosesStored (λ _. Then due.DoesDue (λ _. tables.SendsAway)) (k_looks Answered answered (λ p h. connected h.sessions) (Each due.PartsFrom) (λ cs. k_each Answered answered due.PartsFrom cs parts_from)) (λ _.
    k_then Answered answered due.DoesDue (λ _. tables.SendsAway) does_due (λ _. sends_away)))

-- ---- frames
gives_frame : (f : BridgeFrame) → Keeps Answered (GivesFrame f)
gives_frame f = k_if Answered answered (is_small f) (Acting (λ p h. Bridge (Gave f))) (Misses FrameTooLarge) (bridge_act (λ p h. Gave f)) (misses FrameTooLarge)

gives : (peer : ℕ) (body : HeldView → FrameBody) → Keeps Answered (GivesBody peer body)
gives peer body = k_looks Answered answered _ GivesFrame gives_frame

takes_next : (from number : ℕ) (m : Forward) → Keeps Answered (bridge.TakesNext from number m)
takes_next from number m =
    k_looks Answered answered _ (λ next. If next (passing.TakesForward from number m) (Returns tt))
    (λ next. k_if Answered answered next (passing.TakesForward from number m) (Returns tt) (takes_forward from number m) (k_returns Answered answered tt))

takes_body : (from : ℕ) (body : FrameBody) → Keeps Answered (bridge.TakesBody from body)
takes_body from (bodies.Hello g) =
    k_then Answered answered (Acting (λ p h. Bridge (Greeted from g))) (λ _. bridge.TellsTaken from) (bridge_act (λ p h. Greeted from g)) (λ _. gives from (λ h. bodies.Know h.store.taken))
takes_body from (bodies.Delta s) =
    k_then Answered answered (Acting (λ p h. Store (Merged s))) (λ _. bridge.TellsTaken from) (k_acting Answered answered (λ p h. Store (Merged s)) (λ p h. (tt, tt))) (λ _. gives from (λ h. bodies.Know h.store.taken))
takes_body from (bodies.Know dots) = bridge_act (λ p h. Believed from dots)
takes_body from (bodies.Forward number m) =
    k_then Answered answered (bridge.TakesNext from number m) (λ _. GivesBody from (λ h. bodies.Got (lane_to h.bridge from).took)) (takes_next from number m) (λ _. gives from (λ h. bodies.Got (lane_to h.bridge from).took))
takes_body from (bodies.Got number) = bridge_act (λ p h. GotBy from number)

hears_frame : (o : Option BridgeFrame) → Keeps Answered (bridge.HearsFrame o)
hears_frame None = misses BadFrame
hears_frame (Some frame) =
    k_looks Answered answered (λ p h. is_for_node p frame) (λ here. If here (bridge.TakesBody frame.from frame.body) (Misses BadFrame))
    (λ here. k_if Answered answered here (bridge.TakesBody frame.from frame.body) (Misses BadFrame) (takes_body frame.from frame.body) (misses BadFrame))

greets : (peer : ℕ) → Keeps Answered (bridge.Greets peer)
greets peer =
    k_looks Answered answered (λ p h. is_other p peer) (λ other. If other (GivesBody peer (hello_to peer)) (Returns tt))
    (λ other. k_if Answered answered other (GivesBody peer (hello_to peer)) (Returns tt) (gives peer (hello_to peer)) (k_returns Answered answered tt))

gives_state : (peer : ℕ) (s : Option State) → Keeps Answered (bridge.GivesState peer s)
gives_state peer None = k_returns Answered answered _
gives_state peer (Some s) = gives peer (λ h. bodies.Delta s)

ships_to : (peer : ℕ) → Keeps Answered (bridge.ShipsTo peer)
ships_to peer =
    k_then Answered answered (bridge.ShipsState peer) (λ _. bridge.ShipsMessages peer) (k_finds Answered answered (bridge.AreShipped peer) (bridge.GivesState peer) (gives_state peer))
    (λ _. k_looks Answered answered _ (Each GivesFrame) (λ fs. k_each Answered answered GivesFrame fs gives_frame))

ships : (peer : ℕ) → Keeps Answered (bridge.Ships peer)
ships peer =
    k_looks Answered answered (λ p h. is_other p peer) (λ other. If other (bridge.ShipsTo peer) (Returns tt))
    (λ other. k_if Answered answered other (bridge.ShipsTo peer) (Returns tt) (ships_to peer) (k_returns Answered answered tt))

ships_more_to : (peer after : ℕ) → Keeps Answered (bridge.ShipsMoreTo peer after)
ships_more_to peer after =
    k_then Answered answered (bridge.ShipsState peer) (λ _. bridge.ShipsLater peer after) (k_finds Answered answered (bridge.AreShipped peer) (bridge.GivesState peer) (gives_state peer))
    (λ _. k_looks Answered answered _ (Each GivesFrame) (λ fs. k_each Answered answered GivesFrame fs gives_frame))

ships_more : (peer after : ℕ) → Keeps Answered (bridge.ShipsMore peer after)
ships_more peer after =
    k_looks Answered answered (λ p h. is_other p peer) (λ other. If other (bridge.ShipsMoreTo peer after) (Returns tt))
    (λ other. k_if Answered answered other (bridge.ShipsMoreTo peer after) (Returns tt) (ships_more_to peer after) (k_returns Answered answered tt))

-- ---- events
answers_kind : (kind : EventKind) → Keeps Answered (turns.AnswersEvent kind)
answers_kind kinds.Started = k_returns Answered answered _
answers_kind (kinds.Opened c) =
    let opens : Option (Unit {0}) → Doing = Acting (λ p h. Connection (Opened c)) in
    k_looks Answered answered (λ p h. is_open c h) (λ is. If is (Returns tt) opens) (λ is. k_if Answered answered is (Returns tt) opens (k_returns Answered answered tt) (k_acting Answered answered (λ p h. Connection (Opened c)) (λ p h. (tt, tt))))
answers_kind (kinds.Piece c bytes) = k_looks Answered answered (λ p h. map.get h.connections c) (pieces.PieceAt c bytes) (piece_at c bytes)
answers_kind (kinds.Closed c) = leaves_of c
answers_kind (kinds.Room c bytes) = makes_room c bytes
answers_kind (kinds.Frame bytes) = hears_frame (frame_in bytes)
answers_kind (kinds.Linked peer) = greets peer
answers_kind (kinds.Ship peer) = ships peer
answers_kind (kinds.More peer after) = ships_more peer after
answers_kind kinds.Tick = k_returns Answered answered _
answers_kind (kinds.Evict client) = k_then Answered answered (Removes client None) (λ _. Returns tt) (removes client None) (λ _. k_returns Answered answered tt)
answers_kind (kinds.Table homes) = takes_table homes

after_due : (kind : EventKind) → Keeps Answered (Then due.DoesDue (λ _. turns.AnswersEvent kind))
after_due kind = k_then Answered answered due.DoesDue (λ _. turns.AnswersEvent kind) does_due (λ _. answers_kind kind)

goes_on : (kind : EventKind) → Keeps Answered (turns.AnswersAfterDue kind)
goes_on kinds.Started = k_returns Answered answered _
goes_on (kinds.Opened c) = after_due (kinds.Opened c)
goes_on (kinds.Piece c bytes) = after_due (kinds.Piece c bytes)
goes_on (kinds.Closed c) = after_due (kinds.Closed c)
goes_on (kinds.Room c bytes) = after_due (kinds.Room c bytes)
goes_on (kinds.Frame bytes) = after_due (kinds.Frame bytes)
goes_on (kinds.Linked peer) = after_due (kinds.Linked peer)
goes_on (kinds.Ship peer) = after_due (kinds.Ship peer)
goes_on (kinds.More peer after) = after_due (kinds.More peer after)
goes_on kinds.Tick = after_due kinds.Tick
goes_on (kinds.Evict client) = after_due (kinds.Evict client)
goes_on (kinds.Table homes) = after_due (kinds.Table homes)

first_turn : (kind : EventKind) → Keeps Answered (turns.AwaitsStart kind)
first_turn kinds.Started = starts
first_turn (kinds.Opened c) = k_returns Answered answered _
first_turn (kinds.Piece c bytes) = k_returns Answered answered _
first_turn (kinds.Closed c) = k_returns Answered answered _
first_turn (kinds.Room c bytes) = k_returns Answered answered _
first_turn (kinds.Frame bytes) = k_returns Answered answered _
first_turn (kinds.Linked peer) = k_returns Answered answered _
first_turn (kinds.Ship peer) = k_returns Answered answered _
first_turn (kinds.More peer after) = k_returns Answered answered _
first_turn kinds.Tick = k_returns Answered answered _
first_turn (kinds.Evict client) = k_returns Answered answered _
first_turn (kinds.Table homes) = k_returns Answered answered _

decides : (e : NodeEvent) → Keeps Answered (turns.Decides e)
decides e =
    k_then Answered answered (TakesMoment e.at) (λ _. turns.Turn e.kind) (k_numbered Answered answered (λ p h. not (nat_lt e.at (2 ^ 62))) (λ p h. MomentTaken e.at) (λ p h. (tt, tt)))
    (λ _. k_looks Answered answered (λ p h. h.started) (λ is. If is (turns.AnswersAfterDue e.kind) (turns.AwaitsStart e.kind)) (λ is. k_if Answered answered is (turns.AnswersAfterDue e.kind) (turns.AwaitsStart e.kind) (goes_on e.kind) (first_turn e.kind)))

-- the acts of an event: directly after an answer to a SUBSCRIBE come its offers
pub offers_follow : (e : NodeEvent) (p : Place) (h : HeldView) (acts : List Act) → turns.Decides e (Some tt) p h acts
    → (before after : List Act) (client : List ℕ) (packet at : ℕ) (given : List Granted) (offers : List Delivery) → acts ≡ before ++ Acknowledged client packet at given offers ∷ after
    → BeginsWithOffers client at offers after
offers_follow e p h acts d before after client packet at given offers is =
    follows_at before (Acknowledged client packet at given offers) after (subst Answered is ((decides e).of tt p h acts d))
