-- Work whose offers are asked for, and by which sessions end at once for a reason.
use Rattle.std.proofs.Common.{◌≡◌, inl, inr, ℕ, Bool, true, false, List, [], ◌∷◌, ◌++◌, Option, Some, None, refl, sym, ap, ◌∙◌, subst, append_assoc}
use Rattle.std.proofs.lemmas.List.{append-nil}
use Rattle.std.specs.FinMap as map
use Rattle.std.specs.List.{AllByRecursion}
use Rattle.bridge_frames.specs.declared.forward.Forward.{Forward}
use Rattle.mqtt_message.specs.declared.delivery.Delivery.{Delivery}
use Rattle.mqtt_packets.specs.declared.packet.Packet.{Packet}
use Rattle.mqtt_packets.specs.declared.packet.Packet.TheVariants as packets
use Rattle.mqtt_packets.specs.declared.subscribe.Subscribe.{Subscribe}
use Rattle.mqtt_packets.specs.declared.subscribe.SubscribeFilter.{SubscribeFilter}
use Rattle.mqtt_sessions.specs.declared.reaction.Ask.{Ask}
use Rattle.mqtt_sessions.specs.declared.reaction.Ask.TheVariants as asks
use Rattle.mqtt_sessions.specs.Reaction.{Reaction, nothing}
use Rattle.replica_store.specs.declared.operation.Operation.TheVariants as operations
use Rattle.replica_store.specs.Making.{subscribe_of}
use Rattle.law_sessions.specs.Runs.{Event, answers, finishes, queues, takes, ticks}
use Rattle.session_table.specs.Calls.{stays}
use Rattle.session_table.specs.Seats.{Seat, Seats}
use Rattle.subscription_set.specs.Standing.{any_below}
use Rattle.node_work.specs.declared.granted.Granted.{Granted}
use Rattle.node_work.specs.Acts.{Act, Store, Made, Session, Bridge, Acknowledged, Runs, next}
use Rattle.node_work.specs.Calling.{Calls, CallsAt, Queues}
use Rattle.node_work.specs.Doings.{MakesRemoveBelow, RemovesBelow}
use Rattle.node_work.specs.Held.Bridge.{Took}
use Rattle.node_work.specs.Held.Making.{number_at_end, removal, removal_below}
use Rattle.node_work.specs.Held.Sessions.{SessionStep, Begun, Called, Over, seat_at}
use Rattle.node_work.specs.View.{Place, HeldView}
use Rattle.node_work.specs.Working.{Doing, Returns, Acting, If, InTurn, Then}
use Rattle.node_clients.specs.Ending as ending
use Rattle.node_clients.specs.Passing as passing
use Rattle.node_clients.specs.Serving as serving
use Rattle.node_clients.specs.Subscribing as subscribing
use Rattle.node_clients.specs.Unsubscribing as unsubscribing
use Rattle.law_runs.proofs.Granting.{AreTold, IsTold, are_told}
use Rattle.law_runs.proofs.Keeping.{Property, Keeps, none_some}
use Rattle.law_runs.proofs.Splits.{alone_is, none_there, splits, tail_is}
use Rattle.law_steps.specs.Offering.{EndsWithSubscribe, IsSubscribeOf}
use Rattle.law_steps.proofs.DueDone.{call, called_there}
use Rattle.law_steps.proofs.EachAct.{K, Kind, acting, are_both, by_test, by_whether, calls, drops, each, finds, in_turn, join, looks, numbered, passes, passes_asked, queues_all, returns}
use Rattle.law_steps.proofs.Joining.{Closed, j_returns, j_then}
use Rattle.law_steps.proofs.Small.{Makes, unsubscribed}
use Rattle.law_steps.proofs.Walking.{IsBare, IsBareCall, IsBareDue, closes_after, closes_for, due_bare}

-- ---- why an act stands after these, by the sessions that may end at once
abbrev pub CallHasReason : (List ℕ → Type 0) → SessionStep → Event → Type 0
CallHasReason C s (finishes now) = C s.client
CallHasReason C s e = Unit {0}

abbrev pub HasReason : (List ℕ → Type 0) → List Act → Act → Type 0
HasReason C before (Session (Called s)) = CallHasReason C s s.event
HasReason C before (Acknowledged client packet at given os) = EndsWithSubscribe before client packet given
HasReason C before a = Unit {0}

-- an event at which no session ends at once
abbrev GoesOn : Event → Type 0
GoesOn (finishes now) = ⊥
GoesOn e = Unit {0}

bare_goes_on : (e : Event) → IsBareCall e → GoesOn e
bare_goes_on (finishes now) bare = absurd bare
bare_goes_on e bare = tt

-- ---- the Subscribes of a SUBSCRIBE, which leave all sessions
told_one : (p : Place) (h : HeldView) (client : List ℕ) (identifier : ℕ) (f : SubscribeFilter) (g : Granted) (acts : List Act) → IsTold p h client identifier f g acts → AllByRecursion (IsSubscribeOf client) acts
told_one p h client identifier f g acts (inl d) = subst (AllByRecursion (IsSubscribeOf client)) (sym d.2) tt
told_one p h client identifier f g acts (inr (inl d)) = subst (AllByRecursion (IsSubscribeOf client)) (sym d.4) tt
told_one p h client identifier f g acts (inr (inr d)) = subst (AllByRecursion (IsSubscribeOf client)) (sym d.3) (refl, tt)

told_all : (p : Place) (h : HeldView) (client : List ℕ) (identifier : ℕ) (fs : List SubscribeFilter) (gs : List Granted) (acts : List Act) → AreTold p h client identifier fs gs acts → AllByRecursion (IsSubscribeOf client) acts
told_all p h client identifier [] gs acts d = subst (AllByRecursion (IsSubscribeOf client)) (sym d.1) tt
told_all p h client identifier (f ∷ fs) gs acts (g, others, own, mid, rest, answers_are, is, one, ran, more) =
    subst (AllByRecursion (IsSubscribeOf client)) (sym is) (are_both (IsSubscribeOf client) own rest (told_one p h client identifier f g own one) (told_all p mid client identifier fs others rest more))

one_leaves : (client : List ℕ) (a : Act) (h : HeldView) → IsSubscribeOf client a → (next h a).sessions ≡ h.sessions
one_leaves client (Store (Made (operations.Subscribe dot entry cover))) h is = refl
one_leaves client a h is = absurd is

all_leave : (client : List ℕ) (p : Place) (acts : List Act) (h mid : HeldView) → AllByRecursion (IsSubscribeOf client) acts → Runs p h acts mid → mid.sessions ≡ h.sessions
all_leave client p [] h mid all ran = ap (λ (v : HeldView). v.sessions) ran
all_leave client p (a ∷ acts) h mid all ran = all_leave client p acts ran.0 mid all.1 ran.2 ∙ ap (λ (v : HeldView). v.sessions) ran.1.1 ∙ one_leaves client a h all.0

-- ---- one act among those that are each of a kind
in_all : (Q : Act → Type 0) (before after : List Act) (a : Act) → AllByRecursion Q (before ++ a ∷ after) → Q a
in_all Q [] after a all = all.0
in_all Q (b ∷ before) after a all = in_all Q before after a all.1

module _ (C : List ℕ → Type 0) where
  -- ---- acts that come after these
  abbrev pub After : List Act → List Act → Type 0
  After pre acts = (before after : List Act) (a : Act) → acts ≡ before ++ a ∷ after → HasReason C (pre ++ before) a

  reason_more : (xs before : List Act) (a : Act) → HasReason C before a → HasReason C (xs ++ before) a
  reason_more xs before (Session (Called s)) r = r
  reason_more xs before (Session (Begun client)) r = tt
  reason_more xs before (Session (Over client)) r = tt
  reason_more xs before (Acknowledged client packet at given os) r = record {
    earlier = xs ++ r.earlier;
    asking = r.asking;
    made = r.made;
    answering = r.answering;
    is = ap (λ zs. xs ++ zs) r.is ∙ sym (append_assoc xs r.earlier (Session (Called r.asking) ∷ (r.made ++ Session (Called r.answering) ∷ [])));
    of = r.of;
    subscribe = r.subscribe;
    now = r.now;
    room = r.room;
    event = r.event;
    asked = r.asked;
    identifier = r.identifier;
    alone = r.alone;
    same = r.same;
    answered = r.answered;
    goes_on = r.goes_on;
  }
  reason_more xs before a r = tt

  after_none : (pre : List Act) → After pre []
  after_none pre before after a is = none_there before after a is

  after_as : (pre zs acts : List Act) → acts ≡ zs → After pre zs → After pre acts
  after_as pre zs acts same f = subst (After pre) (sym same) f

  after_both : (pre xs ys : List Act) → After pre xs → After (pre ++ xs) ys → After pre (xs ++ ys)
  after_both pre xs ys f g before after a is = elim (splits xs ys before after a is) [
    | inl r ↦ f before r.0 a r.1
    | inr r ↦ subst (λ zs. HasReason C zs a) (append_assoc pre xs r.0 ∙ ap (λ zs. pre ++ zs) (sym r.1)) (g r.0 after a r.2)
  ]

  after_later : (pre ys : List Act) → After [] ys → After pre ys
  after_later pre ys f before after a is = reason_more pre before a (f before after a is)

  after_here : (pre : List Act) (a : Act) → HasReason C pre a → After pre (a ∷ [])
  after_here pre a r [] after b is = subst (λ zs. HasReason C zs b) (sym (append-nil pre)) (subst (HasReason C pre) (alone_is a b [] after is) r)
  after_here pre a r (x ∷ before) after b is = none_there before after b (tail_is is)

  abbrev pub T : Property
  T p h acts = After [] acts

  pub reasoned_closed : Closed T
  reasoned_closed = record { none = λ p h. after_none []; both = λ p h mid xs ys runs f g. after_both [] xs ys f (after_later xs ys g) }

  -- ---- work each of whose acts has its reason wherever it stands
  abbrev Q : Act → Type 0
  Q a = (before : List Act) → HasReason C before a

  after_all : (pre acts : List Act) → AllByRecursion Q acts → After pre acts
  after_all pre acts all before after a is = in_all Q before after a (subst (AllByRecursion Q) is all) (pre ++ before)

  as_reasoned : {A : Type 0} (P : Option A → Doing) → K Q A P → Keeps T P
  as_reasoned P k = record { of = λ x p h acts d. after_all [] acts (k x p h acts d) }

  call_reason : (s : SessionStep) (e : Event) → GoesOn e → CallHasReason C s e
  call_reason s (finishes now) other = absurd other
  call_reason s e other = tt

  called : (s : SessionStep) (e : Event) → s.event ≡ e → GoesOn e → Q (Session (Called s))
  called s e is other before = subst (CallHasReason C s) (sym is) (call_reason s e other)

  kind : Kind Q
  kind = record {
    queued = λ s d at is. called s (queues d at) is tt;
    put = λ id content h before. tt;
    laned = λ peer m before. tt;
    missed = λ what before. tt;
    passed = λ m copies lost routes before. tt;
    dropped = λ before. tt;
  }

  calling : (client : List ℕ) (event : ℕ → Event) → ((at : ℕ) → GoesOn (event at)) → K Q Reaction (Calls client event stays)
  calling client event other = calls Q client event stays (λ s at same is. called s (event at) is (other at))

  abbrev KQ : (A : Type 0) → (Option A → Doing) → Type 0
  KQ A P = K Q A P

  makes : Makes KQ
  makes = record {
    returns = returns Q;
    looks = looks Q;
    by_test = by_test Q;
    by_whether = by_whether Q;
    join = join Q;
    subscribe = λ entry. numbered Q (λ p h. number_at_end p.id h) (λ p h. Store (Made (subscribe_of p.id entry h.store))) (λ p h before. tt);
    remove = λ client to. numbered Q (λ p h. number_at_end p.id h) (λ p h. Store (Made (removal p.id client to h.store))) (λ p h before. tt);
  }

  -- ---- acts and calls that stand alone
  bare_reason : (a : Act) → IsBare a → Q a
  bare_reason (Session (Begun client)) bare before = tt
  bare_reason (Session (Called s)) bare before = absurd bare
  bare_reason (Session (Over client)) bare before = tt
  bare_reason (Acknowledged client packet at given os) bare before = absurd bare
  bare_reason a bare before = tt

  pub bare_one : (p : Place) (h : HeldView) (a : Act) → IsBare a → T p h (a ∷ [])
  bare_one p h a bare = after_all [] (a ∷ []) (bare_reason a bare, tt)

  pub due_one : (p : Place) (h : HeldView) (a : Act) → IsBareDue a → T p h (a ∷ [])
  due_one p h a bare = bare_one p h a (due_bare a bare)

  pub call_one : (p : Place) (h : HeldView) (s : SessionStep) → IsBareCall s.event → T p h (Session (Called s) ∷ [])
  call_one p h s bare = after_all [] (Session (Called s) ∷ []) (called s s.event refl (bare_goes_on s.event bare), tt)

  -- ---- a session's end
  removes_below : (client : List ℕ) (version : ℕ) → K Q Bool (RemovesBelow client version)
  removes_below client version =
      looks Q (λ p h. any_below client version h.store.subscriptions) (λ stands. If stands (Then (MakesRemoveBelow client version) (λ _. Returns true)) (Returns false))
      (λ stands. by_test Q stands (Then (MakesRemoveBelow client version) (λ _. Returns true)) (Returns false)
      (join Q (MakesRemoveBelow client version) (λ _. Returns true) (numbered Q (λ p h. number_at_end p.id h) (λ p h. Store (Made (removal_below p.id client version h.store))) (λ p h before. tt)) (λ _. returns Q true)) (returns Q false))

  ends_session : (client : List ℕ) → K Q (Unit {0}) (ending.EndsSession client)
  ends_session client =
      join Q (ending.RemovesOwn client) (λ _. Acting (λ p h. Session (Over client)))
      (finds Q (ending.IsAtHome client) (ending.RemovesFor client) (λ node. looks Q (ending.ends_below node) (RemovesBelow client) (removes_below client)))
      (λ _. acting Q (λ p h. Session (Over client)) (λ p h before. tt))

  follows : (client : List ℕ) (r : Reaction) → K Q (Unit {0}) (ending.FollowsReaction client r)
  follows client r =
      join Q (ending.PassesAsked r.ask) (λ _. If r.over (ending.EndsSession client) (Returns tt)) (passes_asked Q kind r.ask)
      (λ _. by_test Q r.over (ending.EndsSession client) (Returns tt) (ends_session client) (returns Q tt))

  pub ticks_of : (client : List ℕ) → Keeps T (ending.Ticks client)
  ticks_of client = as_reasoned (ending.Ticks client) (join Q (Calls client ticks stays) (ending.FollowsReaction client) (calling client ticks (λ at. tt)) (follows client))

  -- at once, of a session that may
  pub finishes_of : (client : List ℕ) → C client → Keeps T (ending.Finishes client)
  finishes_of client may =
      as_reasoned (ending.Finishes client)
      (join Q (Calls client finishes stays) (ending.FollowsReaction client)
      (calls Q client finishes stays (λ s at same is before. subst (CallHasReason C s) (sym is) (subst C (sym same) may))) (follows client))

  -- ---- SUBSCRIBE
  offers_one : (client : List ℕ) (offer : Delivery) → K Q (Unit {0}) (subscribing.OffersOne client offer)
  offers_one client offer = join Q (Calls client (queues offer) stays) (λ _. Returns tt) (calling client (queues offer) (λ at. tt)) (λ _. returns Q tt)

  -- what follows the call that gives the codes
  module _ (n : ℕ) (client : List ℕ) (q : Subscribe) (s : SessionStep) (now : ℕ) (room : Bool) (of : s.client ≡ client) (event : s.event ≡ takes (packets.Subscribe q) now room) (asked : s.reaction.ask ≡ Some asks.Subscribe) (made : List Act)
      (alone : AllByRecursion (IsSubscribeOf client) made) (given : List Granted) where
    abbrev front : List Act
    front = Session (Called s) ∷ made

    offers_after : (t : SessionStep) → t.client ≡ client → t.event ≡ answers q.identifier (subscribing.granted_reasons given) → (end : Option ℕ) → t.reaction.end ≡ end → (x : Unit {0}) (p : Place) (h : HeldView) (acts : List Act)
        → subscribing.OffersAfter end n client q.identifier given (Some x) p h acts → After (front ++ Session (Called t) ∷ []) acts
    offers_after t same answered (Some code) ended x p h acts d = after_later (front ++ Session (Called t) ∷ []) acts ((closes_for T reasoned_closed due_one call_one ticks_of n client).of x p h acts d)
    offers_after t same answered None ended x p h acts (os, are, (inl d)) = none_some (sym d.0)
    offers_after t same answered None ended x p h acts (os, are, (inr (y, own, mid, rest, one, ran, more, is))) =
        let pre = front ++ Session (Called t) ∷ [] in
        let a = Acknowledged client q.identifier h.at given os in
        let reason : EndsWithSubscribe pre client q.identifier given = record {
          earlier = [];
          asking = s;
          made = made;
          answering = t;
          is = refl;
          of = of;
          subscribe = q;
          now = now;
          room = room;
          event = event;
          asked = asked;
          identifier = refl;
          alone = alone;
          same = same;
          answered = answered;
          goes_on = ended;
        } in
        let first : After pre own = after_as pre (a ∷ []) own one.1 (after_here pre a reason) in
        after_as pre (own ++ rest) acts is (after_both pre own rest first (after_all (pre ++ own) rest (each Q (subscribing.OffersOne client) os (offers_one client) x p mid rest more)))

    suback : (seat : Seat) (x : Unit {0}) (p : Place) (h : HeldView) (acts : List Act) → seat_at client h ≡ Some seat → subscribing.SendsSuback n client q.identifier given (Some x) p h acts → After front acts
    suback seat x p h acts there (inl d) = none_some (sym d.0)
    suback seat x p h acts there (inr (r, own, mid, rest, one, ran, more, is)) =
        let codes : ℕ → Event = λ at. answers q.identifier (subscribing.granted_reasons given) in
        let a = call client codes stays seat r p h own (subst (λ (o : Option Seat). CallsAt client codes stays o (Some r) p h own) there one) in
        let c = Session (Called a.step) in
        let first : After front (c ∷ []) = after_all front (c ∷ []) (called a.step (answers q.identifier (subscribing.granted_reasons given)) a.event_is tt, tt) in
        let last : After (front ++ c ∷ []) rest = offers_after a.step a.of a.event_is r.end (ap (λ (v : Reaction). v.end) a.reaction) x p mid rest more in
        after_as front (c ∷ rest) acts (is ∙ ap (λ zs. zs ++ rest) a.is) (after_both front (c ∷ []) rest first last)

  serves_subscribe : (n : ℕ) (client : List ℕ) (q : Subscribe) (s : SessionStep) (now : ℕ) (room : Bool) (seat : Seat) (x : Unit {0}) (p : Place) (h : HeldView) (acts : List Act) → s.client ≡ client → s.event ≡ takes (packets.Subscribe q) now room → s.reaction.ask ≡ Some asks.Subscribe
      → seat_at client h ≡ Some seat → subscribing.ServesSubscribe n client q (Some x) p h acts → After (Session (Called s) ∷ []) acts
  serves_subscribe n client q s now room seat x p h acts of event asked there (inl d) = none_some (sym d.0)
  serves_subscribe n client q s now room seat x p h acts of event asked there (inr (given, made, mid, rest, one, ran, more, is)) =
      let told = are_told client (subscribing.identifier_of q) q.filters [] given p h made one in
      let alone : AllByRecursion (IsSubscribeOf client) made = told_all p h client (subscribing.identifier_of q) q.filters told.others made told.are in
      let still : seat_at client mid ≡ Some seat = ap (λ (m : Seats). map.get m client) (all_leave client p made h mid alone ran) ∙ there in
      let pre = Session (Called s) ∷ [] in
      after_as pre (made ++ rest) acts is (after_both pre made rest (after_all pre made (stored made alone)) (suback n client q s now room of event asked made alone given seat x p mid rest still more))
    where
      one_stored : (a : Act) → IsSubscribeOf client a → Q a
      one_stored (Store (Made (operations.Subscribe dot entry cover))) it before = tt
      one_stored a it before = absurd it

      stored : (acts : List Act) → AllByRecursion (IsSubscribeOf client) acts → AllByRecursion Q acts
      stored [] all = tt
      stored (a ∷ acts) all = (one_stored a all.0, stored acts all.1)

  -- ---- UNSUBSCRIBE
  unsubscribes_by : (n : ℕ) (client : List ℕ) (k : Packet) → Keeps T (serving.UnsubscribesBy n client k)
  unsubscribes_by n client (packets.Unsubscribe u) =
      let each_text = InTurn (unsubscribing.Unsubscribed client) u.filters [] in
      j_then T reasoned_closed each_text (unsubscribing.SendsUnsuback n client u.identifier) (as_reasoned each_text (in_turn Q (unsubscribing.Unsubscribed client) u.filters [] (unsubscribed KQ makes client))) (λ codes.
      j_then T reasoned_closed (Calls client (λ at. answers u.identifier codes) stays) (λ r. ending.ClosesAfter r.end n client)
      (as_reasoned (Calls client (λ at. answers u.identifier codes) stays) (calling client (λ at. answers u.identifier codes) (λ at. tt))) (λ r. closes_after T reasoned_closed due_one call_one ticks_of r.end n client))
  unsubscribes_by n client _ = j_returns T reasoned_closed tt

  -- ---- a packet of a client
  subscribes_by : (n : ℕ) (client : List ℕ) (k : Packet) (s : SessionStep) (now : ℕ) (room : Bool) (seat : Seat) (x : Unit {0}) (p : Place) (h : HeldView) (acts : List Act) → s.client ≡ client → s.event ≡ takes k now room → s.reaction.ask ≡ Some asks.Subscribe
      → seat_at client h ≡ Some seat → serving.SubscribesBy n client k (Some x) p h acts → After (Session (Called s) ∷ []) acts
  subscribes_by n client (packets.Subscribe q) s now room seat x p h acts of event asked there d = serves_subscribe n client q s now room seat x p h acts of event asked there d
  subscribes_by n client k s now room seat x p h acts of event asked there d = after_as (Session (Called s) ∷ []) [] acts d.1 (after_none (Session (Called s) ∷ []))

  nothing_asked : (k : Packet) (room : Bool) (end : Option ℕ) → K Q (Unit {0}) (If (serving.is_dropped k room end) passing.Drops (Returns tt))
  nothing_asked k room end = by_test Q (serving.is_dropped k room end) passing.Drops (Returns tt) (drops Q kind) (returns Q tt)

  does_asked : (ask : Option Ask) (n : ℕ) (client : List ℕ) (k : Packet) (room : Bool) (end : Option ℕ) (s : SessionStep) (now : ℕ) (seat : Seat) (x : Unit {0}) (p : Place) (h : HeldView) (acts : List Act) → s.client ≡ client → s.event ≡ takes k now room → s.reaction.ask ≡ ask
      → seat_at client h ≡ Some seat → serving.DoesAsked ask n client k room end (Some x) p h acts → After (Session (Called s) ∷ []) acts
  does_asked None n client k room end s now seat x p h acts of event is there d = after_all (Session (Called s) ∷ []) acts (nothing_asked k room end x p h acts d)
  does_asked (Some (asks.Pass m)) n client k room end s now seat x p h acts of event is there d = after_all (Session (Called s) ∷ []) acts (passes Q kind m x p h acts d)
  does_asked (Some asks.Subscribe) n client k room end s now seat x p h acts of event is there d = subscribes_by n client k s now room seat x p h acts of event is there d
  does_asked (Some asks.Unsubscribe) n client k room end s now seat x p h acts of event is there d = after_later (Session (Called s) ∷ []) acts ((unsubscribes_by n client k).of x p h acts d)

  does_reaction : (n : ℕ) (client : List ℕ) (k : Packet) (room : Bool) (r : Reaction) (s : SessionStep) (now : ℕ) (seat : Seat) (x : Unit {0}) (p : Place) (h : HeldView) (acts : List Act) → s.client ≡ client → s.event ≡ takes k now room → s.reaction ≡ r → seat_at client h ≡ Some seat
      → serving.DoesReaction n client k room r (Some x) p h acts → After (Session (Called s) ∷ []) acts
  does_reaction n client k room r s now seat x p h acts of event same there (inl d) = none_some (sym d.0)
  does_reaction n client k room r s now seat x p h acts of event same there (inr (y, asked, mid, last, one, ran, more, is)) =
      let pre = Session (Called s) ∷ [] in
      let a : After pre asked = does_asked r.ask n client k room r.end s now seat y p h asked of event (ap (λ (v : Reaction). v.ask) same) there one in
      let b : After [] last = (closes_after T reasoned_closed due_one call_one ticks_of r.end n client).of x p mid last more in
      after_as pre (asked ++ last) acts is (after_both pre asked last a (after_later (pre ++ asked) last b))

  -- of a client that has no session nothing comes
  nobody : (n : ℕ) (client : List ℕ) (k : Packet) (room : Bool) (r : Reaction) (x : Unit {0}) (p : Place) (h : HeldView) (acts : List Act) → r ≡ nothing → serving.DoesReaction n client k room r (Some x) p h acts → After [] acts
  nobody n client k room r x p h acts same (inl d) = none_some (sym d.0)
  nobody n client k room r x p h acts same (inr (y, asked, mid, last, one, ran, more, is)) =
      let none = subst (λ (o : Option Ask). serving.DoesAsked o n client k room r.end (Some y) p h asked) (ap (λ (v : Reaction). v.ask) same) one in
      let a : After [] asked = after_all [] asked (nothing_asked k room r.end y p h asked none) in
      let b : After [] last = (closes_after T reasoned_closed due_one call_one ticks_of r.end n client).of x p mid last more in
      after_as [] (asked ++ last) acts is (after_both [] asked last a (after_later asked last b))

  serves_by : (n : ℕ) (client : List ℕ) (k : Packet) (room : Bool) (found : Option Seat) (r : Reaction) (x : Unit {0}) (p : Place) (h mid : HeldView) (own rest : List Act) → CallsAt client (λ at. takes k at room) stays found (Some r) p h own → Runs p h own mid
      → serving.DoesReaction n client k room r (Some x) p mid rest → After [] (own ++ rest)
  serves_by n client k room None r x p h mid own rest d ran more = after_as [] rest (own ++ rest) (ap (λ zs. zs ++ rest) d.1) (nobody n client k room r x p mid rest (let z : Some r ≡ Some nothing = d.0 in cc) more)
  serves_by n client k room (Some seat) r x p h mid own rest d ran more =
      let event : ℕ → Event = λ at. takes k at room in
      let a = call client event stays seat r p h own d in
      let there = (called_there client event stays seat r p h mid own d ran).1 in
      let c = Session (Called a.step) in
      let first : After [] (c ∷ []) = after_all [] (c ∷ []) (called a.step (takes k h.at room) a.event_is tt, tt) in
      after_as [] (c ∷ rest) (own ++ rest) (ap (λ zs. zs ++ rest) a.is) (after_both [] (c ∷ []) rest first (does_reaction n client k room r a.step h.at there.0 x p mid rest a.of a.event_is a.reaction there.1 more))

  serves_in : (n : ℕ) (client : List ℕ) (k : Packet) (room : Bool) (x : Unit {0}) (p : Place) (h : HeldView) (acts : List Act) → serving.ServesIn n client k room (Some x) p h acts → T p h acts
  serves_in n client k room x p h acts (inl d) = none_some (sym d.0)
  serves_in n client k room x p h acts (inr (r, own, mid, rest, one, ran, more, is)) = after_as [] (own ++ rest) acts is (serves_by n client k room (seat_at client h) r x p h mid own rest one ran more)

  pub serves : (n : ℕ) (client : List ℕ) (k : Packet) → Keeps T (serving.ServesPacket n client k)
  serves n client k = record { of = λ x p h acts d. serves_in n client k (serving.room_for client k h) x p h acts d }

  -- ---- a message of a lane
  pub takes_forward : (from number : ℕ) (m : Forward) → Keeps T (passing.TakesForward from number m)
  takes_forward from number m =
      as_reasoned (passing.TakesForward from number m) (finds Q (passing.IsHandedOver m) (passing.TakesCopies from number m)
      (λ x. join Q (Acting (λ p h. Bridge (Took from number m x.0 x.1))) (λ _. Queues x.0) (acting Q (λ p h. Bridge (Took from number m x.0 x.1)) (λ p h before. tt)) (λ _. queues_all Q kind x.0)))
