-- Nothing is added in any step.
use Rattle.std.proofs.Common.{◌≡◌, ◌⊎◌, inl, inr, ℕ, Bool, true, false, List, [], ◌∷◌, ◌++◌, map as map_list, Option, Some, None, refl, sym, ap, ◌∙◌, subst}
use Rattle.std.proofs.lemmas.List.{append-nil}
use Rattle.std.specs.FinMap as map
use Rattle.bridge_frames.specs.declared.forward.Forward.{Forward}
use Rattle.mqtt_message.specs.declared.message.Message.{Message}
use Rattle.mqtt_packets.specs.declared.packet.Packet.{Packet}
use Rattle.mqtt_packets.specs.declared.packet.Packet.TheVariants as packets
use Rattle.mqtt_packets.specs.declared.subscribe.Subscribe.{Subscribe}
use Rattle.mqtt_sessions.specs.declared.reaction.Ask.{Ask}
use Rattle.mqtt_sessions.specs.declared.reaction.Ask.TheVariants as asks
use Rattle.mqtt_sessions.specs.Reaction.{Reaction, nothing}
use Rattle.replica_store.specs.Making.{subscribe_of}
use Rattle.law_sessions.specs.Runs.{Event, answers, connects, closes, finishes, loses, queues, rooms, takes, ticks}
use Rattle.session_table.specs.Calls.{stays}
use Rattle.session_table.specs.Seats.{Seat, Seats}
use Rattle.subscription_set.specs.Standing.{any_below}
use Rattle.node_work.specs.declared.granted.Granted.{Granted}
use Rattle.node_work.specs.Acts.{Act, MomentTaken, Store, Made, Session, Bridge, Acknowledged, Dropped, Runs, next}
use Rattle.node_work.specs.Calling.{Calls, CallsAt}
use Rattle.node_work.specs.Doings.{MakesRemoveBelow, RemovesBelow}
use Rattle.node_work.specs.Held.Bridge.{Took}
use Rattle.node_work.specs.Held.Making.{number_at_end, removal, removal_below}
use Rattle.node_work.specs.Held.Sessions.{SessionStep, Called, Over, seat_at}
use Rattle.node_work.specs.View.{Place, HeldView}
use Rattle.node_work.specs.Working.{Doing, Returns, Acting, If, Then}
use Rattle.node_clients.specs.Ending as ending
use Rattle.node_clients.specs.Passing as passing
use Rattle.node_clients.specs.Serving as serving
use Rattle.node_clients.specs.Subscribing as subscribing
use Rattle.node_clients.specs.Unsubscribing as unsubscribing
use Rattle.broker_node.specs.declared.event.Event.{Event as NodeEvent}
use Rattle.broker_node.specs.declared.event.EventKind.{EventKind}
use Rattle.broker_node.specs.declared.event.EventKind.TheVariants as kinds
use Rattle.law_runs.proofs.Keeping.{Property, Keeps, none_some}
use Rattle.law_steps.proofs.Joining.{Closed, j_returns, j_acting, j_numbered, j_looks, j_finds, j_if, j_where, j_then, j_calls}
use Rattle.law_steps.specs.Adding.{NothingIsAdded, AreJoined, offer_to as offered}
use Rattle.law_steps.proofs.Additions.{Adds, Caused, IsNoCopy, adds_closed, bare_adds, call_adds, caused_as, caused_both, caused_here, caused_later, caused_none, caused_one, copies_add, each_joined, each_offered, passes_add}
use Rattle.law_steps.proofs.DueDone.{call, called_there}
use Rattle.law_steps.proofs.Leaving.{Leaves, Order, leaves_closed, leaves_one}
use Rattle.law_steps.proofs.Small.{Makes, in_turn, grants, unsubscribed}
use Rattle.law_steps.proofs.Turning.{BegunOf, CameOf, Turned, came, if_not}
use Rattle.law_steps.proofs.Walking.{IsBare, IsBareCall, IsBareDue, MayEnd, answers_event, closes_after, closes_for, does_due, due_bare, starts}

-- ---- work that adds nothing
abbrev K : (A : Type 0) → (Option A → Doing) → Type 0
K A P = Keeps Adds P

bare : (p : Place) (h : HeldView) (a : Act) → IsBare a → Adds p h (a ∷ [])
bare p h a is = bare_adds [] a is

due_one : (p : Place) (h : HeldView) (a : Act) → IsBareDue a → Adds p h (a ∷ [])
due_one p h a is = bare_adds [] a (due_bare a is)

bare_copy : (e : Event) → IsBareCall e → IsNoCopy e
bare_copy (connects q continued room now) is = tt
bare_copy (rooms bytes now) is = tt
bare_copy (closes now) is = tt
bare_copy (ticks now) is = tt
bare_copy (queues d now) is = is
bare_copy (takes k now room) is = tt
bare_copy (answers id codes) is = tt
bare_copy (finishes now) is = tt
bare_copy loses is = tt

call_one : (p : Place) (h : HeldView) (s : SessionStep) → IsBareCall s.event → Adds p h (Session (Called s) ∷ [])
call_one p h s is = call_adds [] s (bare_copy s.event is)

calling : (client : List ℕ) (event : ℕ → Event) (on : Option ℕ → Option ℕ) → ((at : ℕ) → IsNoCopy (event at)) → Keeps Adds (Calls client event on)
calling client event on other = j_calls Adds adds_closed client event on (λ p h s is. call_adds [] s (subst IsNoCopy (sym is) (other h.at)))

makes : Makes K
makes = record {
  returns = j_returns Adds adds_closed;
  looks = j_looks Adds adds_closed;
  by_test = j_if Adds adds_closed;
  by_whether = j_where Adds adds_closed;
  join = j_then Adds adds_closed;
  subscribe = λ entry. j_numbered Adds adds_closed (λ p h. number_at_end p.id h) (λ p h. Store (Made (subscribe_of p.id entry h.store))) (λ p h. bare p h (Store (Made (subscribe_of p.id entry h.store))) tt);
  remove = λ client to. j_numbered Adds adds_closed (λ p h. number_at_end p.id h) (λ p h. Store (Made (removal p.id client to h.store))) (λ p h. bare p h (Store (Made (removal p.id client to h.store))) tt);
}

drops : Keeps Adds passing.Drops
drops = j_acting Adds adds_closed (λ p h. Dropped) (λ p h. bare p h Dropped tt)

-- ---- a session's end
removes_below : (client : List ℕ) (version : ℕ) → Keeps Adds (RemovesBelow client version)
removes_below client version =
    makes.looks (λ p h. any_below client version h.store.subscriptions) (λ stands. If stands (Then (MakesRemoveBelow client version) (λ _. Returns true)) (Returns false))
    (λ stands. makes.by_test stands (Then (MakesRemoveBelow client version) (λ _. Returns true)) (Returns false)
    (makes.join (MakesRemoveBelow client version) (λ _. Returns true)
    (j_numbered Adds adds_closed (λ p h. number_at_end p.id h) (λ p h. Store (Made (removal_below p.id client version h.store))) (λ p h. bare p h (Store (Made (removal_below p.id client version h.store))) tt)) (λ _. makes.returns true))
    (makes.returns false))

ends_session : (client : List ℕ) → Keeps Adds (ending.EndsSession client)
ends_session client =
    makes.join (ending.RemovesOwn client) (λ _. Acting (λ p h. Session (Over client)))
    (j_finds Adds adds_closed (ending.IsAtHome client) (ending.RemovesFor client) (λ node. makes.looks (ending.ends_below node) (RemovesBelow client) (removes_below client)))
    (λ _. j_acting Adds adds_closed (λ p h. Session (Over client)) (λ p h. caused_one [] (Session (Over client)) (λ before. tt)))

-- ---- after a call
-- a will that it asks to publish
wills_add : (b : Bool) (s : SessionStep) (m : Message) (x : Unit {0}) (p : Place) (h : HeldView) (acts : List Act) → s.reaction.ask ≡ Some (asks.Pass m) → If b passing.Drops (passing.Passes m) (Some x) p h acts → Caused (Session (Called s) ∷ []) acts
wills_add true s m x p h acts is d = caused_later (Session (Called s) ∷ []) acts (drops.of x p h acts d)
wills_add false s m x p h acts is d = passes_add s m x p h acts is d

asked_adds : (ask : Option Ask) (s : SessionStep) (x : Unit {0}) (p : Place) (h : HeldView) (acts : List Act) → s.reaction.ask ≡ ask → ending.PassesAsked ask (Some x) p h acts → Caused (Session (Called s) ∷ []) acts
asked_adds None s x p h acts is d = caused_as (Session (Called s) ∷ []) [] acts d.1 (caused_none (Session (Called s) ∷ []))
asked_adds (Some (asks.Pass m)) s x p h acts is d = wills_add (passing.lacks_room m h) s m x p h acts is d
asked_adds (Some asks.Subscribe) s x p h acts is d = caused_as (Session (Called s) ∷ []) [] acts d.1 (caused_none (Session (Called s) ∷ []))
asked_adds (Some asks.Unsubscribe) s x p h acts is d = caused_as (Session (Called s) ∷ []) [] acts d.1 (caused_none (Session (Called s) ∷ []))

after_call : (s : SessionStep) (rest : List Act) → IsNoCopy s.event → Caused (Session (Called s) ∷ []) rest → Caused [] (Session (Called s) ∷ rest)
after_call s rest other f = caused_both [] (Session (Called s) ∷ []) rest (call_adds [] s other) f

followed : (client : List ℕ) (s : SessionStep) (r : Reaction) (x : Unit {0}) (p : Place) (mid : HeldView) (rest : List Act) → s.reaction ≡ r → ending.FollowsReaction client r (Some x) p mid rest → Caused (Session (Called s) ∷ []) rest
followed client s r x p mid rest same (inl d) = none_some (sym d.0)
followed client s r x p mid rest same (inr (y, asked, mid2, last, one, ran, more, is)) =
    let pre = Session (Called s) ∷ [] in
    let a : Caused pre asked = asked_adds r.ask s y p mid asked (ap (λ (v : Reaction). v.ask) same) one in
    let b : Caused [] last = (makes.by_test r.over (ending.EndsSession client) (Returns tt) (ends_session client) (makes.returns tt)).of x p mid2 last more in
    caused_as pre (asked ++ last) rest is (caused_both pre asked last a (caused_later (pre ++ asked) last b))

nobody : (client : List ℕ) (r : Reaction) (x : Unit {0}) (p : Place) (mid : HeldView) (rest : List Act) → r ≡ nothing → ending.FollowsReaction client r (Some x) p mid rest → rest ≡ []
nobody client r x p mid rest same (inl d) = none_some (sym d.0)
nobody client r x p mid rest same (inr (y, asked, mid2, last, one, ran, more, is)) =
    let a : asked ≡ [] = (subst (λ (o : Option Ask). ending.PassesAsked o (Some y) p mid asked) (ap (λ (v : Reaction). v.ask) same) one).1 in
    let b : last ≡ [] = (if_not r.over (ending.EndsSession client) (Returns tt) (Some x) p mid2 last (ap (λ (v : Reaction). v.over) same) more).1 in
    is ∙ (λ i. a i ++ b i)

call_by : (client : List ℕ) (event : ℕ → Event) → ((at : ℕ) → IsNoCopy (event at)) → (found : Option Seat) (r : Reaction) (x : Unit {0}) (p : Place) (h mid : HeldView) (own rest : List Act) → CallsAt client event stays found (Some r) p h own → ending.FollowsReaction client r (Some x) p mid rest
    → Caused [] (own ++ rest)
call_by client event other None r x p h mid own rest d more =
    let none = nobody client r x p mid rest (let z : Some r ≡ Some nothing = d.0 in cc) more in caused_as [] [] (own ++ rest) (λ i. d.1 i ++ none i) (caused_none [])
call_by client event other (Some seat) r x p h mid own rest d more =
    let a = call client event stays seat r p h own d in
    caused_as [] (Session (Called a.step) ∷ rest) (own ++ rest) (ap (λ zs. zs ++ rest) a.is) (after_call a.step rest (subst IsNoCopy (sym a.event_is) (other h.at)) (followed client a.step r x p mid rest a.reaction more))

calls_then : (client : List ℕ) (event : ℕ → Event) → ((at : ℕ) → IsNoCopy (event at)) → (x : Unit {0}) (p : Place) (h : HeldView) (acts : List Act) → Then (Calls client event stays) (ending.FollowsReaction client) (Some x) p h acts → Adds p h acts
calls_then client event other x p h acts (inl d) = none_some (sym d.0)
calls_then client event other x p h acts (inr (r, own, mid, rest, one, ran, more, is)) = caused_as [] (own ++ rest) acts is (call_by client event other (seat_at client h) r x p h mid own rest one more)

ticks_of : (client : List ℕ) → Keeps Adds (ending.Ticks client)
ticks_of client = record { of = λ x p h acts d. calls_then client ticks (λ at. tt) x p h acts d }

finishes_of : (client : List ℕ) → Unit {0} → Keeps Adds (ending.Finishes client)
finishes_of client _ = record { of = λ x p h acts d. calls_then client finishes (λ at. tt) x p h acts d }

-- ---- SUBSCRIBE
-- sessions stay while its filters are answered
abbrev SameSessions : HeldView → HeldView → Type 0
SameSessions h h' = h'.sessions ≡ h.sessions

same_order : Order SameSessions
same_order = record { same = λ h. refl; after = λ h mid h' a b. b ∙ a }

abbrev S : Property
S = Leaves SameSessions same_order

abbrev s_closed : Closed S
s_closed = leaves_closed SameSessions same_order

abbrev K_same : (A : Type 0) → (Option A → Doing) → Type 0
K_same A P = Keeps S P

same_makes : Makes K_same
same_makes = record {
  returns = j_returns S s_closed;
  looks = j_looks S s_closed;
  by_test = j_if S s_closed;
  by_whether = j_where S s_closed;
  join = j_then S s_closed;
  subscribe = λ entry. j_numbered S s_closed (λ p h. number_at_end p.id h) (λ p h. Store (Made (subscribe_of p.id entry h.store))) (λ p h. leaves_one SameSessions same_order p h (Store (Made (subscribe_of p.id entry h.store))) (λ _. refl));
  remove = λ client to. j_numbered S s_closed (λ p h. number_at_end p.id h) (λ p h. Store (Made (removal p.id client to h.store))) (λ p h. leaves_one SameSessions same_order p h (Store (Made (removal p.id client to h.store))) (λ _. refl));
}

offers_add : (client : List ℕ) (packet : ℕ) (given : List Granted) (s : SessionStep) (x : Unit {0}) (p : Place) (h : HeldView) (acts : List Act) → s.client ≡ client → s.event ≡ answers packet (subscribing.granted_reasons given) → subscribing.Offers client packet given (Some x) p h acts
    → Caused (Session (Called s) ∷ []) acts
offers_add client packet given s x p h acts of event (os, are, (inl d)) = none_some (sym d.0)
offers_add client packet given s x p h acts of event (os, are, (inr (y, own, mid, rest, one, ran, more, is))) =
    let pre = Session (Called s) ∷ [] in
    let a = Acknowledged client packet h.at given os in
    let here : Caused pre (a ∷ []) = caused_here pre a (record { earlier = []; call = s; is = refl; of = of; event = event }) in
    let join : AreJoined (map_list (offered client) os) rest = each_offered client os x p mid rest more in
    let after : Caused (pre ++ a ∷ []) rest = copies_add pre a [] (map_list (offered client) os) [] rest refl refl join in
    caused_as pre ((a ∷ []) ++ rest) acts (is ∙ ap (λ zs. zs ++ rest) one.1) (caused_both pre (a ∷ []) rest here after)

offers_after : (end : Option ℕ) (n : ℕ) (client : List ℕ) (packet : ℕ) (given : List Granted) (s : SessionStep) (x : Unit {0}) (p : Place) (h : HeldView) (acts : List Act) → s.client ≡ client → s.event ≡ answers packet (subscribing.granted_reasons given)
    → subscribing.OffersAfter end n client packet given (Some x) p h acts → Caused (Session (Called s) ∷ []) acts
offers_after None n client packet given s x p h acts of event d = offers_add client packet given s x p h acts of event d
offers_after (Some code) n client packet given s x p h acts of event d = caused_later (Session (Called s) ∷ []) acts ((closes_for Adds adds_closed due_one call_one ticks_of n client).of x p h acts d)

suback_by : (n : ℕ) (client : List ℕ) (packet : ℕ) (given : List Granted) (seat : Seat) (x : Unit {0}) (p : Place) (h : HeldView) (acts : List Act) → seat_at client h ≡ Some seat → subscribing.SendsSuback n client packet given (Some x) p h acts → Caused [] acts
suback_by n client packet given seat x p h acts there (inl d) = none_some (sym d.0)
suback_by n client packet given seat x p h acts there (inr (r, own, mid, rest, one, ran, more, is)) =
    let event : ℕ → Event = λ at. answers packet (subscribing.granted_reasons given) in
    let a = call client event stays seat r p h own (subst (λ o. CallsAt client event stays o (Some r) p h own) there one) in
    caused_as [] (Session (Called a.step) ∷ rest) acts (is ∙ ap (λ zs. zs ++ rest) a.is)
    (after_call a.step rest (subst IsNoCopy (sym a.event_is) tt) (offers_after r.end n client packet given a.step x p mid rest a.of a.event_is more))

subscribe_adds : (n : ℕ) (client : List ℕ) (q : Subscribe) (seat : Seat) (x : Unit {0}) (p : Place) (h : HeldView) (acts : List Act) → seat_at client h ≡ Some seat → subscribing.ServesSubscribe n client q (Some x) p h acts → Caused [] acts
subscribe_adds n client q seat x p h acts there (inl d) = none_some (sym d.0)
subscribe_adds n client q seat x p h acts there (inr (given, own, mid, rest, one, ran, more, is)) =
    let grant = subscribing.Grants client (subscribing.identifier_of q) in
    let a : Caused [] own = (in_turn K makes grant q.filters [] (grants K makes client (subscribing.identifier_of q))).of given p h own one in
    let same : mid.sessions ≡ h.sessions = (in_turn K_same same_makes grant q.filters [] (grants K_same same_makes client (subscribing.identifier_of q))).of given p h own one mid ran in
    let b = suback_by n client q.identifier given seat x p mid rest (ap (λ (m : Seats). map.get m client) same ∙ there) more in
    caused_as [] (own ++ rest) acts is (caused_both [] own rest a (caused_later own rest b))

unsubscribe_adds : (n : ℕ) (client : List ℕ) (k : Packet) → Keeps Adds (serving.UnsubscribesBy n client k)
unsubscribe_adds n client (packets.Unsubscribe u) =
    makes.join _ (unsubscribing.SendsUnsuback n client u.identifier) (in_turn K makes (unsubscribing.Unsubscribed client) u.filters [] (unsubscribed K makes client)) (λ codes.
    makes.join (Calls client (λ at. answers u.identifier codes) stays) (λ r. ending.ClosesAfter r.end n client) (calling client (λ at. answers u.identifier codes) stays (λ at. tt)) (λ r. closes_after Adds adds_closed due_one call_one ticks_of r.end n client))
unsubscribe_adds n client _ = makes.returns tt

-- ---- a packet
subscribes_by : (n : ℕ) (client : List ℕ) (k : Packet) (seat : Seat) (x : Unit {0}) (p : Place) (h : HeldView) (acts : List Act) → seat_at client h ≡ Some seat → serving.SubscribesBy n client k (Some x) p h acts → Caused [] acts
subscribes_by n client (packets.Subscribe q) seat x p h acts there d = subscribe_adds n client q seat x p h acts there d
subscribes_by n client k seat x p h acts there d = caused_as [] [] acts d.1 (caused_none [])

does_asked : (ask : Option Ask) (n : ℕ) (client : List ℕ) (k : Packet) (room : Bool) (end : Option ℕ) (s : SessionStep) (seat : Seat) (x : Unit {0}) (p : Place) (h : HeldView) (acts : List Act) → s.reaction.ask ≡ ask → seat_at client h ≡ Some seat
    → serving.DoesAsked ask n client k room end (Some x) p h acts → Caused (Session (Called s) ∷ []) acts
does_asked None n client k room end s seat x p h acts is there d =
    caused_later (Session (Called s) ∷ []) acts ((makes.by_test (serving.is_dropped k room end) passing.Drops (Returns tt) drops (makes.returns tt)).of x p h acts d)
does_asked (Some (asks.Pass m)) n client k room end s seat x p h acts is there d = passes_add s m x p h acts is d
does_asked (Some asks.Subscribe) n client k room end s seat x p h acts is there d = caused_later (Session (Called s) ∷ []) acts (subscribes_by n client k seat x p h acts there d)
does_asked (Some asks.Unsubscribe) n client k room end s seat x p h acts is there d = caused_later (Session (Called s) ∷ []) acts ((unsubscribe_adds n client k).of x p h acts d)

reaction_adds : (n : ℕ) (client : List ℕ) (k : Packet) (room : Bool) (r : Reaction) (s : SessionStep) (seat : Seat) (x : Unit {0}) (p : Place) (h : HeldView) (acts : List Act) → s.reaction ≡ r → seat_at client h ≡ Some seat → serving.DoesReaction n client k room r (Some x) p h acts
    → Caused (Session (Called s) ∷ []) acts
reaction_adds n client k room r s seat x p h acts same there (inl d) = none_some (sym d.0)
reaction_adds n client k room r s seat x p h acts same there (inr (y, asked, mid, last, one, ran, more, is)) =
    let pre = Session (Called s) ∷ [] in
    let a = does_asked r.ask n client k room r.end s seat y p h asked (ap (λ (v : Reaction). v.ask) same) there one in
    let b : Caused [] last = (closes_after Adds adds_closed due_one call_one ticks_of r.end n client).of x p mid last more in
    caused_as pre (asked ++ last) acts is (caused_both pre asked last a (caused_later (pre ++ asked) last b))

-- of a client that has no session nothing comes
nothing_asked : (n : ℕ) (client : List ℕ) (k : Packet) (room : Bool) (r : Reaction) (x : Unit {0}) (p : Place) (h : HeldView) (acts : List Act) → r ≡ nothing → serving.DoesReaction n client k room r (Some x) p h acts → Caused [] acts
nothing_asked n client k room r x p h acts same (inl d) = none_some (sym d.0)
nothing_asked n client k room r x p h acts same (inr (y, asked, mid, last, one, ran, more, is)) =
    let none = subst (λ (o : Option Ask). serving.DoesAsked o n client k room r.end (Some y) p h asked) (ap (λ (v : Reaction). v.ask) same) one in
    let a : Caused [] asked = (makes.by_test (serving.is_dropped k room r.end) passing.Drops (Returns tt) drops (makes.returns tt)).of y p h asked none in
    let b : Caused [] last = (closes_after Adds adds_closed due_one call_one ticks_of r.end n client).of x p mid last more in
    caused_as [] (asked ++ last) acts is (caused_both [] asked last a (caused_later asked last b))

serves_by : (n : ℕ) (client : List ℕ) (k : Packet) (room : Bool) (found : Option Seat) (r : Reaction) (x : Unit {0}) (p : Place) (h mid : HeldView) (own rest : List Act) → CallsAt client (λ at. takes k at room) stays found (Some r) p h own → Runs p h own mid
    → serving.DoesReaction n client k room r (Some x) p mid rest → Caused [] (own ++ rest)
serves_by n client k room None r x p h mid own rest d ran more =
    caused_as [] rest (own ++ rest) (ap (λ zs. zs ++ rest) d.1) (nothing_asked n client k room r x p mid rest (let z : Some r ≡ Some nothing = d.0 in cc) more)
serves_by n client k room (Some seat) r x p h mid own rest d ran more =
    let event : ℕ → Event = λ at. takes k at room in
    let a = call client event stays seat r p h own d in
    let there = (called_there client event stays seat r p h mid own d ran).1 in
    caused_as [] (Session (Called a.step) ∷ rest) (own ++ rest) (ap (λ zs. zs ++ rest) a.is)
    (after_call a.step rest (subst IsNoCopy (sym a.event_is) tt) (reaction_adds n client k room r a.step there.0 x p mid rest a.reaction there.1 more))

serves_in : (n : ℕ) (client : List ℕ) (k : Packet) (room : Bool) (x : Unit {0}) (p : Place) (h : HeldView) (acts : List Act) → serving.ServesIn n client k room (Some x) p h acts → Adds p h acts
serves_in n client k room x p h acts (inl d) = none_some (sym d.0)
serves_in n client k room x p h acts (inr (r, own, mid, rest, one, ran, more, is)) = caused_as [] (own ++ rest) acts is (serves_by n client k room (seat_at client h) r x p h mid own rest one ran more)

serves : (n : ℕ) (client : List ℕ) (k : Packet) → Keeps Adds (serving.ServesPacket n client k)
serves n client k = record { of = λ x p h acts d. serves_in n client k (serving.room_for client k h) x p h acts d }

-- ---- a message of a lane
takes_in : (from number : ℕ) (m : Forward) (x : Unit {0}) (p : Place) (h : HeldView) (acts : List Act) → passing.TakesForward from number m (Some x) p h acts → Adds p h acts
takes_in from number m x p h acts (made, are, (inl d)) = none_some (sym d.0)
takes_in from number m x p h acts (made, are, (inr (y, own, mid, rest, one, ran, more, is))) =
    let a = Bridge (Took from number m made.0 made.1) in
    let here : Caused [] (a ∷ []) = caused_one [] a (λ before. tt) in
    let after : Caused (a ∷ []) rest = copies_add [] a [] made.0 [] rest refl refl (each_joined made.0 x p mid rest more) in
    caused_as [] ((a ∷ []) ++ rest) acts (is ∙ ap (λ zs. zs ++ rest) one.1) (caused_both [] (a ∷ []) rest here after)

takes_forward : (from number : ℕ) (m : Forward) → Keeps Adds (passing.TakesForward from number m)
takes_forward from number m = record { of = λ x p h acts d. takes_in from number m x p h acts d }

-- ---- in a step
abbrev Anyone : List ℕ → Type 0
Anyone client = Unit {0}

may_any : (kind : EventKind) (p : Place) (h : HeldView) → MayEnd Adds adds_closed due_one call_one ticks_of bare serves takes_forward Anyone finishes_of p h kind
may_any (kinds.Piece n bytes) p h = λ found there q among clean. tt
may_any (kinds.Table homes) p h = λ client away. tt
may_any kinds.Started p h = tt
may_any (kinds.Opened n) p h = tt
may_any (kinds.Room n bytes) p h = tt
may_any (kinds.Closed n) p h = tt
may_any (kinds.Frame bytes) p h = tt
may_any (kinds.Linked peer) p h = tt
may_any (kinds.Ship peer) p h = tt
may_any (kinds.More peer after) p h = tt
may_any kinds.Tick p h = tt
may_any (kinds.Evict client) p h = tt

module _ (e : NodeEvent) (p : Place) (h : HeldView) (acts : List Act) where
  abbrev began : HeldView
  began = next h (MomentTaken e.at)

  momentary : (rest : List Act) → Caused [] rest → Caused [] (MomentTaken e.at ∷ rest)
  momentary rest f = caused_both [] (MomentTaken e.at ∷ []) rest (bare p h (MomentTaken e.at) tt) (caused_later (MomentTaken e.at ∷ []) rest f)

  all_added : CameOf e p h acts → Adds p h acts
  all_added (inl t) =
      let own : Caused [] t.own = (does_due Adds adds_closed due_one call_one ticks_of).of t.answer p began t.own t.does in
      let first : Caused [] t.first.due = caused_as [] (MomentTaken e.at ∷ t.own) t.first.due t.due_is (momentary t.own own) in
      let rest : Caused [] t.first.rest = answers_event Adds adds_closed due_one call_one ticks_of bare serves takes_forward Anyone finishes_of e.kind tt p t.first.held t.first.rest (may_any e.kind p t.first.held) t.answers in
      caused_as [] (t.first.due ++ t.first.rest) acts t.first.is (caused_both [] t.first.due t.first.rest first (caused_later t.first.due t.first.rest rest))
  all_added (inr (inl b)) =
      caused_as [] (MomentTaken e.at ∷ b.rest) acts b.is
      (momentary b.rest (starts Adds adds_closed due_one call_one ticks_of bare serves takes_forward Anyone finishes_of tt p began b.rest (λ mid first y d runs client away. tt) b.goes))
  all_added (inr (inr is)) = caused_as [] (MomentTaken e.at ∷ []) acts is (bare p h (MomentTaken e.at) tt)

pub nothing_is_added : NothingIsAdded
nothing_is_added = λ e p h acts d before after a is. all_added e p h acts (came e p h acts d) before after a is
