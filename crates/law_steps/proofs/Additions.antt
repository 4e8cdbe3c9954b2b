-- What joins queues and lanes has its cause directly before it.
use Rattle.std.proofs.Common.{◌≡◌, ◌⊎◌, inl, inr, ℕ, Bool, true, false, cond, List, [], ◌∷◌, ◌++◌, map as map_list, Option, Some, None, refl, sym, ap, ◌∙◌, subst, append_assoc}
use Rattle.std.proofs.lemmas.List.{append-nil}
use Rattle.causal_context.specs.Dots.{Dot}
use Rattle.bridge_deltas.specs.declared.offer.Offer.{Offer}
use Rattle.bridge_deltas.specs.declared.offer.Offer.TheVariants.{Queued, Full, AtEnd}
use Rattle.bridge_frames.specs.declared.forward.Forward.{Forward}
use Rattle.bridge_routes.specs.declared.plain.PlainCopy.{PlainCopy as Copy}
use Rattle.bridge_routes.specs.declared.destinations.Route.{Route}
use Rattle.bridge_routes.specs.declared.destinations.Route.TheVariants.{Nothing, Lane, TooLarge}
use Rattle.mqtt_message.specs.declared.delivery.Delivery.{Delivery}
use Rattle.mqtt_message.specs.declared.message.Message.{Message}
use Rattle.mqtt_sessions.specs.declared.reaction.Ask.TheVariants as asks
use Rattle.mqtt_sessions.specs.Reaction.{Reaction}
use Rattle.node_bridge.specs.View.{offer_to}
use Rattle.replica_store.specs.declared.content.Content.{Content}
use Rattle.replica_store.specs.declared.operation.Operation.TheVariants as operations
use Rattle.replica_store.specs.Making.{put_of}
use Rattle.replica_store.specs.Stamps.{Stamp}
use Rattle.law_sessions.specs.Runs.{Event, connects, queues, rooms, takes, answers, closes, ticks, finishes, loses}
use Rattle.session_table.specs.Calls.{stays}
use Rattle.session_table.specs.Seats.{Seat}
use Rattle.node_work.specs.declared.counts.Missed.TheVariants.{LaneFull}
use Rattle.node_work.specs.Acts.{Act, StoreAct, MomentTaken, Began, Moved, Store, Made, Merged, Connection, Session, Bridge, Out, Named, Acknowledged, Passed, Dropped, Runs}
use Rattle.node_work.specs.Calling.{Calls, CallsAt, Queues, QueuesOne}
use Rattle.node_work.specs.Doings.{MakesPut, PutsInLaneBy, Routes, RoutesBy}
use Rattle.node_work.specs.Held.Bridge.{BridgeAct, Put, Took, Got, Believed, Greeted, Gave, Left_out}
use Rattle.node_work.specs.Held.Making.{put_at_end}
use Rattle.node_work.specs.Held.Sessions.{SessionAct, SessionStep, Begun, Called, Over, seat_at}
use Rattle.node_work.specs.Passing.{content_given, turn_at_end}
use Rattle.node_work.specs.View.{Place, HeldView}
use Rattle.node_work.specs.Working.{Doing, Returns, If, Then, Each}
use Rattle.node_clients.specs.Passing as passing
use Rattle.node_clients.specs.Subscribing as subscribing
use Rattle.law_runs.specs.StepPublishing.{IsPut}
use Rattle.law_runs.proofs.Keeping.{Property, none_some}
use Rattle.law_runs.proofs.Passing.{numbered}
use Rattle.law_runs.proofs.Splits.{alone_is, none_there, splits, tail_is}
use Rattle.law_steps.proofs.Joining.{Closed}
use Rattle.law_steps.specs.Adding.{AreJoined, AreSent, CallHasCause, HasCause, IsCopyOf, IsRouteOf, IsSent, JoinsWith, copies_of, offer_to as offered}
use Rattle.law_steps.proofs.DueDone.{call}
use Rattle.law_steps.proofs.Walking.{IsBare}

-- ---- acts that come after these
abbrev pub Caused : List Act → List Act → Type 0
Caused pre acts = (before after : List Act) (a : Act) → acts ≡ before ++ a ∷ after → HasCause (pre ++ before) a

call_more : (xs before : List Act) (s : SessionStep) (e : Event) → CallHasCause before s e → CallHasCause (xs ++ before) s e
call_more xs before s (queues d now) c = record {
  earlier = xs ++ c.earlier;
  cause = c.cause;
  joined = c.joined;
  is = ap (λ zs. xs ++ zs) c.is ∙ sym (append_assoc xs c.earlier (c.cause ∷ c.joined));
  those_before = c.those_before;
  copy = c.copy;
  those_after = c.those_after;
  among = c.among;
  join = c.join;
  own = c.own;
}
call_more xs before s (connects q continued room now) c = tt
call_more xs before s (rooms bytes now) c = tt
call_more xs before s (takes k now room) c = tt
call_more xs before s (answers id codes) c = tt
call_more xs before s (closes now) c = tt
call_more xs before s (ticks now) c = tt
call_more xs before s (finishes now) c = tt
call_more xs before s loses c = tt

cause_more : (xs before : List Act) (a : Act) → HasCause before a → HasCause (xs ++ before) a
cause_more xs before (Session (Called s)) c = call_more xs before s s.event c
cause_more xs before (Session (Begun client)) c = tt
cause_more xs before (Session (Over client)) c = tt
cause_more xs before (Bridge (Put peer m)) c = record {
  earlier = xs ++ c.earlier;
  message = c.message;
  copies = c.copies;
  lost = c.lost;
  routes = c.routes;
  joined = c.joined;
  sent = c.sent;
  is = ap (λ zs. xs ++ zs) c.is ∙ sym (append_assoc xs c.earlier (Passed c.message c.copies c.lost c.routes ∷ (c.joined ++ c.sent)));
  those_before = c.those_before;
  those_after = c.those_after;
  among = c.among;
  join = c.join;
  go = c.go;
}
cause_more xs before (Bridge (Took peer number m copies lost)) c = tt
cause_more xs before (Bridge (Got peer number)) c = tt
cause_more xs before (Bridge (Believed peer dots)) c = tt
cause_more xs before (Bridge (Greeted peer g)) c = tt
cause_more xs before (Bridge (Gave f)) c = tt
cause_more xs before (Bridge (Left_out what)) c = tt
cause_more xs before (Passed m copies lost routes) c =
    record { earlier = xs ++ c.earlier; call = c.call; puts = c.puts; is = ap (λ zs. xs ++ zs) c.is ∙ sym (append_assoc xs c.earlier (Session (Called c.call) ∷ c.puts)); asks = c.asks; put = c.put }
cause_more xs before (Acknowledged client packet at given os) c =
    record { earlier = xs ++ c.earlier; call = c.call; is = ap (λ zs. xs ++ zs) c.is ∙ sym (append_assoc xs c.earlier (Session (Called c.call) ∷ [])); of = c.of; event = c.event }
cause_more xs before a c = tt

pub caused_none : (pre : List Act) → Caused pre []
caused_none pre before after a is = none_there before after a is

pub caused_both : (pre xs ys : List Act) → Caused pre xs → Caused (pre ++ xs) ys → Caused pre (xs ++ ys)
caused_both pre xs ys f g before after a is = elim (splits xs ys before after a is) [
  | inl r ↦ f before r.0 a r.1
  | inr r ↦ subst (λ zs. HasCause zs a) (append_assoc pre xs r.0 ∙ ap (λ zs. pre ++ zs) (sym r.1)) (g r.0 after a r.2)
]

pub caused_later : (pre ys : List Act) → Caused [] ys → Caused pre ys
caused_later pre ys f before after a is = cause_more pre before a (f before after a is)

pub caused_as : (pre xs ys : List Act) → ys ≡ xs → Caused pre xs → Caused pre ys
caused_as pre xs ys is f = subst (Caused pre) (sym is) f

abbrev pub Adds : Property
Adds p h acts = Caused [] acts

pub adds_closed : Closed Adds
adds_closed = record { none = λ p h. caused_none []; both = λ p h mid xs ys runs f g. caused_both [] xs ys f (caused_later xs ys g) }

-- ---- an act that needs none
bare_cause : (a : Act) → IsBare a → (before : List Act) → HasCause before a
bare_cause (Session (Begun client)) bare before = tt
bare_cause (Session (Called s)) bare before = absurd bare
bare_cause (Session (Over client)) bare before = tt
bare_cause (Bridge (Put peer m)) bare before = absurd bare
bare_cause (Bridge (Took peer number m copies lost)) bare before = tt
bare_cause (Bridge (Got peer number)) bare before = tt
bare_cause (Bridge (Believed peer dots)) bare before = tt
bare_cause (Bridge (Greeted peer g)) bare before = tt
bare_cause (Bridge (Gave f)) bare before = tt
bare_cause (Bridge (Left_out what)) bare before = tt
bare_cause (Passed m copies lost routes) bare before = absurd bare
bare_cause (Acknowledged client packet at given os) bare before = absurd bare
bare_cause a bare before = tt

pub caused_one : (pre : List Act) (a : Act) → ((before : List Act) → HasCause before a) → Caused pre (a ∷ [])
caused_one pre a f before after b is = subst (HasCause (pre ++ before)) (alone_is a b before after is) (f (pre ++ before))

pub bare_adds : (pre : List Act) (a : Act) → IsBare a → Caused pre (a ∷ [])
bare_adds pre a bare = caused_one pre a (bare_cause a bare)

-- one act, by those before it alone
pub caused_here : (pre : List Act) (a : Act) → HasCause pre a → Caused pre (a ∷ [])
caused_here pre a c [] after b is = subst (λ zs. HasCause zs b) (sym (append-nil pre)) (subst (HasCause pre) (alone_is a b [] after is) c)
caused_here pre a c (x ∷ before) after b is = none_there before after b (tail_is is)

-- a call by which nothing joins a queue
abbrev pub IsNoCopy : Event → Type 0
IsNoCopy (queues d now) = ⊥
IsNoCopy e = Unit {0}

no_copy : (s : SessionStep) (e : Event) → IsNoCopy e → (before : List Act) → CallHasCause before s e
no_copy s (queues d now) other before = absurd other
no_copy s (connects q continued room now) other before = tt
no_copy s (rooms bytes now) other before = tt
no_copy s (takes k now room) other before = tt
no_copy s (answers id codes) other before = tt
no_copy s (closes now) other before = tt
no_copy s (ticks now) other before = tt
no_copy s (finishes now) other before = tt
no_copy s loses other before = tt

pub call_adds : (pre : List Act) (s : SessionStep) → IsNoCopy s.event → Caused pre (Session (Called s) ∷ [])
call_adds pre s other = caused_one pre (Session (Called s)) (no_copy s s.event other)

-- ---- copies
joined_more : (xs : List Copy) (x : Copy) (s : SessionStep) (acts : List Act) → AreJoined xs acts → JoinsWith x s → AreJoined (xs ++ x ∷ []) (acts ++ Session (Called s) ∷ [])
joined_more [] x s acts none own = inl (s, [], ap (λ zs. zs ++ Session (Called s) ∷ []) none, own, refl)
joined_more (y ∷ ys) x s acts (inl (t, rest, is, it, more)) own = inl (t, rest ++ Session (Called s) ∷ [], ap (λ zs. zs ++ Session (Called s) ∷ []) is, it, joined_more ys x s rest more own)
joined_more (y ∷ ys) x s acts (inr more) own = inr (joined_more ys x s acts more own)

joined_past : (xs : List Copy) (x : Copy) (acts : List Act) → AreJoined xs acts → AreJoined (xs ++ x ∷ []) acts
joined_past [] x acts none = inr none
joined_past (y ∷ ys) x acts (inl (t, rest, is, it, more)) = inl (t, rest, is, it, joined_past ys x rest more)
joined_past (y ∷ ys) x acts (inr more) = inr (joined_past ys x acts more)

copy_here : (s : SessionStep) (d : Delivery) (now : ℕ) (before : List Act) (e : Event) → e ≡ queues d now → IsCopyOf before s → CallHasCause before s e
copy_here s d now before e is c = subst (CallHasCause before s) (sym is) c

pub copies_add : (earlier : List Act) (cause : Act) (done xs : List Copy) (joined acts : List Act) → copies_of cause ≡ done ++ xs → AreJoined done joined → AreJoined xs acts → Caused (earlier ++ cause ∷ joined) acts
copies_add earlier cause done [] joined acts all had none = caused_as (earlier ++ cause ∷ joined) [] acts none (caused_none (earlier ++ cause ∷ joined))
copies_add earlier cause done (x ∷ xs) joined acts all had (inl (s, rest, is, own, more)) =
    let pre = earlier ++ cause ∷ joined in
    let here : IsCopyOf pre s = record { earlier = earlier; cause = cause; joined = joined; is = refl; those_before = done; copy = x; those_after = xs; among = all; join = had; own = own } in
    let one : Caused pre (Session (Called s) ∷ []) = caused_here pre (Session (Called s)) (copy_here s x.delivery s.at pre s.event own.1 here) in
    let later = copies_add earlier cause (done ++ x ∷ []) xs (joined ++ Session (Called s) ∷ []) rest (all ∙ sym (append_assoc done (x ∷ []) xs)) (joined_more done x s joined had own) more in
    caused_as pre (Session (Called s) ∷ rest) acts is
    (caused_both pre (Session (Called s) ∷ []) rest one (subst (λ zs. Caused zs rest) (sym (append_assoc earlier (cause ∷ joined) (Session (Called s) ∷ []))) later))
copies_add earlier cause done (x ∷ xs) joined acts all had (inr more) =
    copies_add earlier cause (done ++ x ∷ []) xs joined acts (all ∙ sym (append_assoc done (x ∷ []) xs)) (joined_past done x joined had) more

-- the call for a copy, where its client has a session
abbrev IsOneOrNone : Copy → List Act → Type 0
IsOneOrNone x acts = (acts ≡ []) ⊎ ((s : SessionStep) × (acts ≡ Session (Called s) ∷ []) × JoinsWith x s)

called_copy : (found : Option Seat) (x : Copy) (r : Reaction) (p : Place) (h : HeldView) (acts : List Act) → CallsAt x.client (queues x.delivery) stays found (Some r) p h acts → IsOneOrNone x acts
called_copy None x r p h acts d = inl d.1
called_copy (Some seat) x r p h acts (inl d) = none_some (sym d.0)
called_copy (Some seat) x r p h acts (inr d) =
    inr (record { client = x.client; on = stays seat.connection; at = h.at; event = queues x.delivery h.at; reaction = d.0; after = d.1 }, d.4, (refl, refl))

one_copy : (x : Copy) (y : Unit {0}) (p : Place) (h : HeldView) (acts : List Act) → QueuesOne x (Some y) p h acts → IsOneOrNone x acts
one_copy x y p h acts (inl d) = none_some (sym d.0)
one_copy x y p h acts (inr (r, own, mid, rest, one, ran, more, is)) =
    subst (IsOneOrNone x) (sym (is ∙ ap (λ zs. own ++ zs) more.1 ∙ append-nil own)) (called_copy (seat_at x.client h) x r p h own one)

join_then : (x : Copy) (xs : List Copy) (own rest acts : List Act) → acts ≡ own ++ rest → IsOneOrNone x own → AreJoined xs rest → AreJoined (x ∷ xs) acts
join_then x xs own rest acts is (inl none) more = inr (subst (AreJoined xs) (sym (is ∙ ap (λ zs. zs ++ rest) none)) more)
join_then x xs own rest acts is (inr (s, one, joins)) more = inl (s, rest, is ∙ ap (λ zs. zs ++ rest) one, joins, more)

pub each_joined : (xs : List Copy) (y : Unit {0}) (p : Place) (h : HeldView) (acts : List Act) → Each QueuesOne xs (Some y) p h acts → AreJoined xs acts
each_joined [] y p h acts d = d.1
each_joined (x ∷ xs) y p h acts (inl d) = none_some (sym d.0)
each_joined (x ∷ xs) y p h acts (inr (z, own, mid, rest, one, ran, more, is)) = join_then x xs own rest acts is (one_copy x z p h own one) (each_joined xs y p mid rest more)

pub each_offered : (client : List ℕ) (os : List Delivery) (y : Unit {0}) (p : Place) (h : HeldView) (acts : List Act) → Each (subscribing.OffersOne client) os (Some y) p h acts → AreJoined (map_list (offered client) os) acts
each_offered client [] y p h acts d = d.1
each_offered client (o ∷ os) y p h acts (inl d) = none_some (sym d.0)
each_offered client (o ∷ os) y p h acts (inr (z, own, mid, rest, one, ran, more, is)) =
    join_then (offered client o) (map_list (offered client) os) own rest acts is (one_copy (offered client o) z p h own one) (each_offered client os y p mid rest more)

-- ---- lanes
sent_more : (xs : List (ℕ × Route)) (x : ℕ × Route) (a : Act) (acts : List Act) → AreSent xs acts → IsSent x a → AreSent (xs ++ x ∷ []) (acts ++ a ∷ [])
sent_more [] x a acts none own = inl (a, [], ap (λ zs. zs ++ a ∷ []) none, own, refl)
sent_more (y ∷ ys) x a acts (inl (t, rest, is, it, more)) own = inl (t, rest ++ a ∷ [], ap (λ zs. zs ++ a ∷ []) is, it, sent_more ys x a rest more own)
sent_more (y ∷ ys) x a acts (inr more) own = inr (sent_more ys x a acts more own)

sent_past : (xs : List (ℕ × Route)) (x : ℕ × Route) (acts : List Act) → AreSent xs acts → AreSent (xs ++ x ∷ []) acts
sent_past [] x acts none = inr none
sent_past (y ∷ ys) x acts (inl (t, rest, is, it, more)) = inl (t, rest, is, it, sent_past ys x rest more)
sent_past (y ∷ ys) x acts (inr more) = inr (sent_past ys x acts more)

sent_here : (pre : List Act) (x : ℕ × Route) (a : Act) → IsSent x a → ((m : Forward) → x.1 ≡ Lane m → IsRouteOf pre x.0 m) → Caused pre (a ∷ [])
sent_here pre x a (inl (m, lane, is)) f = caused_here pre a (subst (HasCause pre) (sym is) (f m lane))
sent_here pre x a (inr is) f = caused_here pre a (subst (HasCause pre) (sym is) tt)

pub routes_add : (earlier : List Act) (m : Message) (copies : List Copy) (lost : ℕ) (routes : List (ℕ × Route)) (joined : List Act) (done xs : List (ℕ × Route)) (sent acts : List Act) → routes ≡ done ++ xs → AreJoined copies joined → AreSent done sent → AreSent xs acts
    → Caused (earlier ++ Passed m copies lost routes ∷ (joined ++ sent)) acts
routes_add earlier m copies lost routes joined done [] sent acts all join had none =
    let pre = earlier ++ Passed m copies lost routes ∷ (joined ++ sent) in caused_as pre [] acts none (caused_none pre)
routes_add earlier m copies lost routes joined done (x ∷ xs) sent acts all join had (inl (a, rest, is, own, more)) =
    let cause = Passed m copies lost routes in
    let pre = earlier ++ cause ∷ (joined ++ sent) in
    let here : (f : Forward) → x.1 ≡ Lane f → IsRouteOf pre x.0 f = λ f lane. record {
      earlier = earlier;
      message = m;
      copies = copies;
      lost = lost;
      routes = routes;
      joined = joined;
      sent = sent;
      is = refl;
      those_before = done;
      those_after = xs;
      among = all ∙ ap (λ (r : Route). done ++ (x.0, r) ∷ xs) lane;
      join = join;
      go = had;
    } in
    let one : Caused pre (a ∷ []) = sent_here pre x a own here in
    let later = routes_add earlier m copies lost routes joined (done ++ x ∷ []) xs (sent ++ a ∷ []) rest (all ∙ sym (append_assoc done (x ∷ []) xs)) join (sent_more done x a sent had own) more in
    let same : pre ++ a ∷ [] ≡ earlier ++ cause ∷ (joined ++ (sent ++ a ∷ [])) = append_assoc earlier (cause ∷ (joined ++ sent)) (a ∷ []) ∙ ap (λ zs. earlier ++ cause ∷ zs) (append_assoc joined sent (a ∷ [])) in
    caused_as pre (a ∷ rest) acts is (caused_both pre (a ∷ []) rest one (subst (λ zs. Caused zs rest) (sym same) later))
routes_add earlier m copies lost routes joined done (x ∷ xs) sent acts all join had (inr more) =
    routes_add earlier m copies lost routes joined (done ++ x ∷ []) xs sent acts (all ∙ sym (append_assoc done (x ∷ []) xs)) join (sent_past done x sent had) more

abbrev IsSentOrNone : ℕ × Route → List Act → Type 0
IsSentOrNone x acts = (acts ≡ []) ⊎ ((a : Act) × (acts ≡ a ∷ []) × IsSent x a)

put_in : (peer : ℕ) (m : Forward) (o : Offer) (y : Unit {0}) (p : Place) (h : HeldView) (acts : List Act) → PutsInLaneBy peer m o (Some y) p h acts → IsSentOrNone (peer, Lane m) acts
put_in peer m (Queued n) y p h acts d = inr (Bridge (Put peer m), d.1, inl (m, refl, refl))
put_in peer m Full y p h acts d = inr (Bridge (Left_out LaneFull), d.1, inr refl)
put_in peer m AtEnd y p h acts d = none_some (sym d.0)

one_route : (peer : ℕ) (route : Route) (y : Unit {0}) (p : Place) (h : HeldView) (acts : List Act) → RoutesBy peer route (Some y) p h acts → IsSentOrNone (peer, route) acts
one_route peer Nothing y p h acts d = inl d.1
one_route peer (Lane m) y p h acts d = put_in peer m (offer_to peer h.bridge) y p h acts d
one_route peer TooLarge y p h acts d = inr (Bridge (Left_out LaneFull), d.1, inr refl)

send_then : (x : ℕ × Route) (xs : List (ℕ × Route)) (own rest acts : List Act) → acts ≡ own ++ rest → IsSentOrNone x own → AreSent xs rest → AreSent (x ∷ xs) acts
send_then x xs own rest acts is (inl none) more = inr (subst (AreSent xs) (sym (is ∙ ap (λ zs. zs ++ rest) none)) more)
send_then x xs own rest acts is (inr (a, one, sends)) more = inl (a, rest, is ∙ ap (λ zs. zs ++ rest) one, sends, more)

pub each_sent : (xs : List (ℕ × Route)) (y : Unit {0}) (p : Place) (h : HeldView) (acts : List Act) → Each Routes xs (Some y) p h acts → AreSent xs acts
each_sent [] y p h acts d = d.1
each_sent (x ∷ xs) y p h acts (inl d) = none_some (sym d.0)
each_sent (x ∷ xs) y p h acts (inr (z, own, mid, rest, one, ran, more, is)) = send_then x xs own rest acts is (one_route x.0 x.1 z p h own one) (each_sent xs y p mid rest more)

-- ---- a message that is passed on
put_by : (b : Bool) (content : Content) (x : Unit {0}) (p : Place) (h : HeldView) (acts : List Act) → If b (MakesPut content) (Returns tt) (Some x) p h acts
    → cond b ((dot : Dot) × (stamp : Stamp) × (acts ≡ Store (Made (operations.Put dot stamp content)) ∷ [])) (acts ≡ [])
put_by true content x p h acts d = (_, _, numbered (put_at_end p.id h) x (Store (Made (put_of p.id content h.store))) acts d)
put_by false content x p h acts d = d.1

put_adds : (b : Bool) (content : Content) (pre acts : List Act) → cond b ((dot : Dot) × (stamp : Stamp) × (acts ≡ Store (Made (operations.Put dot stamp content)) ∷ [])) (acts ≡ []) → Caused pre acts
put_adds true content pre acts (dot, stamp, is) = caused_as pre (Store (Made (operations.Put dot stamp content)) ∷ []) acts is (bare_adds pre (Store (Made (operations.Put dot stamp content))) tt)
put_adds false content pre acts none = caused_as pre [] acts none (caused_none pre)

-- after a call that asks for it
pub passes_add : (s : SessionStep) (m : Message) (x : Unit {0}) (p : Place) (h : HeldView) (acts : List Act) → s.reaction.ask ≡ Some (asks.Pass m) → passing.Passes m (Some x) p h acts → Caused (Session (Called s) ∷ []) acts
passes_add s m x p h acts asks_it (inl d) = none_some (sym d.0)
passes_add s m x p h acts asks_it (inr (y, puts, mid, rest, one, ran, more, is)) = caused_as pre (puts ++ rest) acts is (caused_both pre puts rest (put_adds m.retain (content_given m) pre puts put) (copied more))
  where
    pre : List Act
    pre = Session (Called s) ∷ []

    put : IsPut m puts
    put = put_by m.retain (content_given m) y p h puts one

    copied : passing.CopiesAt m mid.at (Some x) p mid rest → Caused (pre ++ puts) rest
    copied (inl (before, (made, are, (inl d)))) = none_some (sym d.0)
    copied (inl (before, (made, are, (inr (y2, own, mid2, after, two, ran2, (inl d), is2))))) = none_some (sym d.0)
    copied (inl (before, (made, are, (inr (y2, own, mid2, after, two, ran2, (inr (y3, calls, mid3, others, three, ran3, more3, is3)), is2))))) =
        let a = Passed m made.0 made.1.0 made.1.1 in
        let alone : own ≡ a ∷ [] = numbered (turn_at_end p mid) y2 a own two in
        let join : AreJoined made.0 calls = each_joined made.0 y3 p mid2 calls three in
        let sent : AreSent made.1.1 others = each_sent made.1.1 x p mid3 others more3 in
        let here : Caused (pre ++ puts) (a ∷ []) = caused_here (pre ++ puts) a (record { earlier = []; call = s; puts = puts; is = refl; asks = asks_it; put = put }) in
        let first : Caused ((pre ++ puts) ++ a ∷ []) calls = copies_add (pre ++ puts) a [] made.0 [] calls refl refl join in
        let second : Caused ((pre ++ puts) ++ a ∷ (calls ++ [])) others = routes_add (pre ++ puts) m made.0 made.1.0 made.1.1 calls [] made.1.1 [] others refl join refl sent in
        let third : Caused (((pre ++ puts) ++ a ∷ []) ++ calls) others = subst (λ zs. Caused zs others) (ap (λ zs. (pre ++ puts) ++ a ∷ zs) (append-nil calls) ∙ sym (append_assoc (pre ++ puts) (a ∷ []) calls)) second in
        caused_as (pre ++ puts) ((a ∷ []) ++ (calls ++ others)) rest (is2 ∙ (λ i. alone i ++ is3 i))
        (caused_both (pre ++ puts) (a ∷ []) (calls ++ others) here (caused_both ((pre ++ puts) ++ a ∷ []) calls others first third))
    copied (inr d) = caused_as (pre ++ puts) [] rest d.1.1 (caused_none (pre ++ puts))
