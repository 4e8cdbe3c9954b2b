-- A message that a session accepts is passed on directly after that.
use Rattle.std.proofs.Common.{◌≡◌, inl, inr, ℕ, Bool, true, false, cond, is_some, List, [], ◌∷◌, ◌++◌, Option, Some, None, refl, sym, ap, ◌∙◌, subst, append_assoc}
use Rattle.std.proofs.lemmas.List.{append-nil}
use Rattle.std.specs.FinMap as map
use Rattle.std.specs.List.{AllByRecursion}
use Rattle.std.specs.Ordering.{eq_by_cmp}
use Rattle.mqtt_packets.specs.declared.packet.Packet.{Packet}
use Rattle.mqtt_message.specs.declared.message.Message.{Message}
use Rattle.mqtt_message.specs.Expiry.{IsBefore}
use Rattle.causal_context.specs.Dots.{Dot}
use Rattle.replica_store.specs.declared.content.Content.{Content}
use Rattle.replica_store.specs.declared.operation.Operation.TheVariants.{Put}
use Rattle.replica_store.specs.Stamps.{Stamp}
use Rattle.replica_store.specs.Making.{put_of}
use Rattle.bridge_frames.specs.declared.forward.Forward.{Forward}
use Rattle.bridge_routes.specs.declared.plain.PlainCopy.{PlainCopy as Copy}
use Rattle.bridge_routes.specs.declared.destinations.Route.{Route}
use Rattle.bridge_routes.specs.Routes.{forward_at, route_of}
use Rattle.mqtt_sessions.specs.declared.reaction.Ask.TheVariants as asks
use Rattle.mqtt_sessions.specs.Reaction.{Reaction}
use Rattle.law_sessions.specs.Runs.{Event, queues, takes, answers}
use Rattle.session_table.specs.Calls.{stays}
use Rattle.session_table.specs.Listing.{text_cmp}
use Rattle.session_table.specs.Seats.{Seat}
use Rattle.law_maps.proofs.Texts.{same_text, get_inserted, get_apart}
use Rattle.node_bridge.specs.View.{BridgeView, offer_to}
use Rattle.node_work.specs.Acts.{Act, Store, Session, Bridge, Made, Passed, Runs, next}
use Rattle.node_work.specs.Calling.{Calls, CallsAt, Queues, QueuesOne}
use Rattle.node_work.specs.Doings.{MakesPut, Routes}
use Rattle.node_work.specs.Held.Bridge.{Took}
use Rattle.node_work.specs.Held.Making.{put_at_end}
use Rattle.node_work.specs.Held.Sessions.{SessionStep, Called, seat_at, has_session}
use Rattle.node_work.specs.Passing.{content_given, seated, turn_at_end}
use Rattle.node_work.specs.View.{Place, HeldView}
use Rattle.node_work.specs.Working.{Returns, If, Then, Each}
use Rattle.node_clients.specs.Passing as passing
use Rattle.node_clients.specs.Serving as serving
use Rattle.law_runs.specs.StepPublishing.{AcceptsPublish, CopiesAreQueued, BeginsWithCopies, BeginsWithPassingOn, AcceptedIsPassedOn}
use Rattle.law_runs.proofs.Keeping.{Calling, calling_by, Property, IsOther, IsPlain, Joins, Keeps, none_some}
use Rattle.node_clients.proofs.Determined.{runs_determined}
use Rattle.law_runs.proofs.Routing.{AreApart, are_apart, each_routed}
use Rattle.law_runs.proofs.Splits.{head_is, tail_is, none_there, alone_is, left_by, runs_split, splits}
use Rattle.law_runs.proofs.Work.{does_reaction, takes_forward}
use Rattle.law_runs.proofs.Events.{decides}

-- ---- a number that could be had
pub numbered : (b : Bool) (x : Unit {0}) (a : Act) (acts : List Act) → cond b ((Some x ≡ None) × (acts ≡ [])) ((Some x ≡ Some tt) × (acts ≡ a ∷ [])) → acts ≡ a ∷ []
numbered true x a acts d = absurd (let z = d.0 in cc)
numbered false x a acts d = d.1

-- ---- sessions that are there
abbrev pub Has : List ℕ → HeldView → Type 0
Has client h = (seat : Seat) × (seat_at client h ≡ Some seat)

pub has_of : (client : List ℕ) (h : HeldView) → has_session client h ≡ true → Has client h
has_of client h e = by (seat_at client h) refl e
  where
    by : (o : Option Seat) → seat_at client h ≡ o → is_some o ≡ true → Has client h
    by None is t = absurd (let z : false ≡ true = t in cc)
    by (Some seat) is t = (seat, is)

-- a call of a session keeps those that are there
stays_there : (client : List ℕ) (h : HeldView) (s : SessionStep) → Has client h → Has client (next h (Session (Called s)))
stays_there client h s has = by (eq_by_cmp text_cmp client s.client) refl
  where
    after : Seat
    after = record { session = s.after; connection = s.on }

    by : (b : Bool) → eq_by_cmp text_cmp client s.client ≡ b → Has client (next h (Session (Called s)))
    by true t = (after, ap (map.get (map.insert h.sessions s.client after)) (same_text client s.client t) ∙ get_inserted h.sessions s.client after)
    by false t = (has.0, get_apart h.sessions s.client after client t ∙ has.1)

-- of each copy
abbrev pub HaveAll : HeldView → List Copy → Type 0
HaveAll h xs = AllByRecursion (λ (x : Copy). Has x.client h) xs

pub have_both : (h : HeldView) (xs ys : List Copy) → HaveAll h xs → HaveAll h ys → HaveAll h (xs ++ ys)
have_both h [] ys a b = b
have_both h (x ∷ xs) ys a b = (a.0, have_both h xs ys a.1 b)

pub have_seated : (h : HeldView) (xs : List Copy) → HaveAll h (seated h xs)
have_seated h [] = tt
have_seated h (x ∷ xs) = by (has_session x.client h) refl (have_seated h xs)
  where
    by : (b : Bool) → has_session x.client h ≡ b → HaveAll h (seated h xs) → HaveAll h (cond b (x ∷ seated h xs) (seated h xs))
    by true e rest = (has_of x.client h e, rest)
    by false e rest = rest

still_have : (h : HeldView) (s : SessionStep) (xs : List Copy) → HaveAll h xs → HaveAll (next h (Session (Called s))) xs
still_have h s [] a = tt
still_have h s (x ∷ xs) a = (stays_there x.client h s a.0, still_have h s xs a.1)

-- ---- a call of a session that is there
pub calling : (client : List ℕ) (event : ℕ → Event) (on : Option ℕ → Option ℕ) (r : Reaction) (p : Place) (h : HeldView) (acts : List Act) → Has client h → Calls client event on (Some r) p h acts → Calling client event h r acts
calling client event on r p h acts has d = calling_by client event on has.0 r p h acts (subst (λ f. CallsAt client event on f (Some r) p h acts) has.1 d)

-- ---- the copies of a message
pub each_queued : (xs : List Copy) (x : Unit {0}) (p : Place) (h : HeldView) (acts : List Act) → HaveAll h xs → Each QueuesOne xs (Some x) p h acts → CopiesAreQueued h.at xs acts
each_queued [] x p h acts has d = d.1
each_queued (c ∷ cs) x p h acts has (inl d) = none_some (sym d.0)
each_queued (c ∷ cs) x p h acts has (inr (y, own, mid, rest, (inl one), runs, more, is)) = none_some (sym one.0)
each_queued (c ∷ cs) x p h acts has (inr (y, own, mid, rest, (inr one), runs, more, is)) =
    let calls = one.1 in
    let same : own ≡ calls = one.7 ∙ ap (λ zs. calls ++ zs) one.6.1 ∙ append-nil calls in
    let k = calling c.client (queues c.delivery) stays one.0 p h calls has.0 one.4 in
    let alone : own ≡ Session (Called k.step) ∷ [] = same ∙ k.acts_are in
    let left : mid ≡ next h (Session (Called k.step)) = left_by p h mid (Session (Called k.step)) own alone runs in
    let q : CopiesAreQueued mid.at cs rest = each_queued cs x p mid rest (subst (λ v. HaveAll v cs) (sym left) (still_have h k.step cs has.1)) more in
    (k.step, rest, is ∙ ap (λ zs. zs ++ rest) alone, k.client_is, k.at_is, k.event_is, subst (λ at. CopiesAreQueued at cs rest) (ap (λ (v : HeldView). v.at) left) q)

-- the calls leave what is kept for the other nodes
calls_keep : (at : ℕ) (xs : List Copy) (p : Place) (h h' : HeldView) (acts : List Act) → CopiesAreQueued at xs acts → Runs p h acts h' → h'.bridge ≡ h.bridge
calls_keep at [] p h h' acts q runs = ap (λ (v : HeldView). v.bridge) (subst (λ zs. Runs p h zs h') q runs)
calls_keep at (x ∷ xs) p h h' acts (s, rest, is, client, moment, event, q) runs =
    let r = subst (λ zs. Runs p h zs h') is runs in
    calls_keep at xs p r.0 h' rest q r.2 ∙ ap (λ (v : HeldView). v.bridge) r.1.1

-- the copies, and what goes to other nodes, by what is kept for them
then_routed : (b : BridgeView) (copies : List Copy) (routes : List (ℕ × Route)) (at : ℕ) (m : Message) (lost : ℕ) (x : Unit {0}) (p : Place) (h : HeldView) (acts : List Act)
    → h.at ≡ at → HaveAll h copies → AreApart routes → ((q : ℕ) → offer_to q h.bridge ≡ offer_to q b)
    → Then (Queues copies) (λ _. Each Routes routes) (Some x) p h acts → BeginsWithCopies m at b (Passed m copies lost routes ∷ acts)
then_routed b copies routes at m lost x p h acts now there apart alike (inl d) = none_some (sym d.0)
then_routed b copies routes at m lost x p h acts now there apart alike (inr (y, calls, mid, others, one, runs, more, is)) =
    let a = Passed m copies lost routes in
    let queued : CopiesAreQueued h.at copies calls = each_queued copies y p h calls there one in
    let same : mid.bridge ≡ h.bridge = calls_keep h.at copies p h mid calls queued runs in
    record {
      copies = copies;
      lost = lost;
      routes = routes;
      calls = calls;
      to_others = others;
      rest = [];
      is = ap (λ zs. a ∷ zs) is ∙ ap (λ zs. a ∷ (calls ++ zs)) (sym (append-nil others));
      queued = subst (λ n. CopiesAreQueued n copies calls) now queued;
      routed = each_routed b routes x p mid others apart (λ q. ap (offer_to q) same ∙ alike q) more;
    }

makes_copies : (b : BridgeView) (m : Message) (x : Unit {0}) (p : Place) (h : HeldView) (acts : List Act) → ((q : ℕ) → offer_to q h.bridge ≡ offer_to q b) → passing.Copies m (Some x) p h acts → BeginsWithCopies m h.at b acts
makes_copies b m x p h acts alike (found, made, (inl d)) = none_some (sym d.0)
makes_copies b m x p h acts alike (found, made, (inr (y, own, mid, rest, one, runs, more, is))) =
    let a = Passed m found.0 found.1.0 found.1.1 in
    let alone : own ≡ a ∷ [] = numbered (turn_at_end p h) y a own one in
    let left : mid ≡ next h a = left_by p h mid a own alone runs in
    let there : HaveAll h found.0 = subst (HaveAll h) (sym made.copies_are) (have_both h (seated h made.plain) (seated h made.homed) (have_seated h made.plain) (have_seated h made.homed)) in
    let apart : AreApart found.1.1 = subst AreApart (sym made.routes_are.2) (are_apart p (λ peer. route_of (forward_at peer m made.routes_are.0))) in
    subst (BeginsWithCopies m h.at b) (sym (is ∙ ap (λ zs. zs ++ rest) alone))
    (then_routed b found.0 found.1.1 h.at m found.1.0 x p mid rest (ap (λ (v : HeldView). v.at) left) (subst (λ (v : HeldView). HaveAll v found.0) (sym left) there) apart
    (λ q. ap (λ (v : HeldView). offer_to q v.bridge) left ∙ alike q) more)

-- ---- passing a message on
put_by : (b : Bool) (content : Content) (x : Unit {0}) (p : Place) (h : HeldView) (acts : List Act) → If b (MakesPut content) (Returns tt) (Some x) p h acts
    → cond b ((dot : Dot) × (stamp : Stamp) × (acts ≡ Store (Made (Put dot stamp content)) ∷ [])) (acts ≡ [])
put_by true content x p h acts d = (_, _, numbered (put_at_end p.id h) x (Store (Made (put_of p.id content h.store))) acts d)
put_by false content x p h acts d = d.1

same_moment : (b : Bool) (content : Content) (x : Unit {0}) (p : Place) (h mid : HeldView) (acts : List Act) → If b (MakesPut content) (Returns tt) (Some x) p h acts → Runs p h acts mid → mid.at ≡ h.at
same_moment true content x p h mid acts d runs =
    let a = Store (Made (put_of p.id content h.store)) in ap (λ (v : HeldView). v.at) (left_by p h mid a acts (numbered (put_at_end p.id h) x a acts d) runs)
same_moment false content x p h mid acts d runs = ap (λ (v : HeldView). v.at) (subst (λ xs. Runs p h xs mid) d.1 runs)

-- a Put leaves the lanes
same_offers : (b : Bool) (content : Content) (x : Unit {0}) (p : Place) (h mid : HeldView) (acts : List Act) → If b (MakesPut content) (Returns tt) (Some x) p h acts → Runs p h acts mid → (q : ℕ) → offer_to q mid.bridge ≡ offer_to q h.bridge
same_offers true content x p h mid acts d runs q =
    let a = Store (Made (put_of p.id content h.store)) in ap (λ (v : HeldView). offer_to q v.bridge) (left_by p h mid a acts (numbered (put_at_end p.id h) x a acts d) runs)
same_offers false content x p h mid acts d runs q = ap (λ (v : HeldView). offer_to q v.bridge) (subst (λ xs. Runs p h xs mid) d.1 runs)

pub passes_on : (m : Message) (x : Unit {0}) (p : Place) (h : HeldView) (acts : List Act) → passing.Passes m (Some x) p h acts → BeginsWithPassingOn m h.at h.bridge acts
passes_on m x p h acts (inl d) = none_some (sym d.0)
passes_on m x p h acts (inr (y, own, mid, rest, one, runs, more, is)) =
    let at : mid.at ≡ h.at = same_moment m.retain (content_given m) y p h mid own one runs in
    let alike : (q : ℕ) → offer_to q mid.bridge ≡ offer_to q h.bridge = same_offers m.retain (content_given m) y p h mid own one runs in
    record {
      puts = own;
      rest = rest;
      is = is;
      put = put_by m.retain (content_given m) y p h own one;
      copied = λ before. subst (λ n. BeginsWithCopies m n h.bridge rest) at (copied_by alike (subst (λ n. IsBefore n m.deadline) (sym at) before) more);
    }
  where
    copied_by : ((q : ℕ) → offer_to q mid.bridge ≡ offer_to q h.bridge) → IsBefore mid.at m.deadline → passing.CopiesAt m mid.at (Some x) p mid rest → BeginsWithCopies m mid.at h.bridge rest
    copied_by alike before (inl d) = makes_copies h.bridge m x p mid rest alike d.1
    copied_by alike before (inr d) = absurd (d.0 before)

pub passes_more : (m : Message) (at : ℕ) (b : BridgeView) (xs ys : List Act) → BeginsWithPassingOn m at b xs → BeginsWithPassingOn m at b (xs ++ ys)
passes_more m at b xs ys d = record {
  puts = d.puts;
  rest = d.rest ++ ys;
  is = ap (λ zs. zs ++ ys) d.is ∙ append_assoc d.puts d.rest ys;
  put = d.put;
  copied = λ before. (let c = d.copied before in record {
    copies = c.copies;
    lost = c.lost;
    routes = c.routes;
    calls = c.calls;
    to_others = c.to_others;
    rest = c.rest ++ ys;
    is = ap (λ zs. zs ++ ys) c.is
        ∙ ap (λ zs. Passed m c.copies c.lost c.routes ∷ zs) (append_assoc c.calls (c.to_others ++ c.rest) ys ∙ ap (λ zs. c.calls ++ zs) (append_assoc c.to_others c.rest ys));
    queued = c.queued;
    routed = c.routed;
  });
}

-- ---- the calls among acts
abbrev Told : SessionStep → BridgeView → List Act → Type 0
Told s b after = (m : Message) → AcceptsPublish s m → BeginsWithPassingOn m s.at b after

abbrev Followed : Property
Followed p h acts = (before after : List Act) (s : SessionStep) (held : HeldView) → acts ≡ before ++ Session (Called s) ∷ after → Runs p h before held → Told s held.bridge after

-- a call that takes no packet
one_told : (p : Place) (h : HeldView) (a : Act) → IsPlain a → Followed p h (a ∷ [])
one_told p h a plain [] after s held is ran m accepts = absurd (subst IsOther accepts.event (subst IsPlain (head_is is) plain))
one_told p h a plain (b ∷ before) after s held is ran m accepts = none_there before after (Session (Called s)) (tail_is is)

both_told : (p : Place) (h mid : HeldView) (xs ys : List Act) → Runs p h xs mid → Followed p h xs → Followed p mid ys → Followed p h (xs ++ ys)
both_told p h mid xs ys runs f g before after s held is ran m accepts =
    elim (splits xs ys before after (Session (Called s)) is) [
      | inl r ↦ subst (BeginsWithPassingOn m s.at held.bridge) (sym r.2) (passes_more m s.at held.bridge r.0 ys (f before r.0 s held r.1 ran m accepts))
      | inr r ↦ (
          let parts = runs_split p xs r.0 h held (subst (λ zs. Runs p h zs held) r.1 ran) in
          let same : parts.0 ≡ mid = runs_determined p xs h parts.0 mid parts.1 runs in
          g r.0 after s held r.2 (subst (λ v. Runs p v r.0 held) same parts.2) m accepts)
    ]

followed : Joins Followed
followed = record {
  none = λ p h before after s held is ran. none_there before after (Session (Called s)) is;
  one = one_told;
  both = both_told;
}

-- the act that takes a message of a lane is no call
took_told : (from number : ℕ) (m : Forward) (copies : List Copy) (lost : ℕ) (p : Place) (h : HeldView) → Followed p h (Bridge (Took from number m copies lost) ∷ [])
took_told from number m copies lost p h before after s held is ran x accepts =
    let a = Bridge (Took from number m copies lost) in absurd (let z : a ≡ Session (Called s) = alone_is a (Session (Called s)) before after is in cc)

-- a call with what follows it
call_told : (p : Place) (h mid : HeldView) (s : SessionStep) (rest : List Act) → mid ≡ next h (Session (Called s)) → Told s h.bridge rest → Followed p mid rest → Followed p h (Session (Called s) ∷ rest)
call_told p h mid s rest left told more [] after t held is ran =
    let same : s ≡ t = (let z = head_is is in cc) in
    subst (λ (v : HeldView). Told t v.bridge after) (sym ran) (subst (λ (v : SessionStep). Told v h.bridge after) same (subst (Told s h.bridge) (tail_is is) told))
call_told p h mid s rest left told more (b ∷ before) after t held is ran =
    let same : ran.0 ≡ mid = ran.1.1 ∙ ap (next h) (sym (head_is is)) ∙ sym left in
    more before after t held (tail_is is) (subst (λ v. Runs p v before held) same ran.2)

-- ---- the calls of an answer
answers_told : (p : Place) (h : HeldView) (s : SessionStep) (id : ℕ) (codes : List ℕ) → s.event ≡ answers id codes → Followed p h (Session (Called s) ∷ [])
answers_told p h s id codes e =
    let after = next h (Session (Called s)) in
    call_told p h after s [] refl (λ m accepts. absurd (let z : answers id codes ≡ takes _ _ _ = sym e ∙ accepts.event in cc)) (followed.none p after)

-- what follows where the reaction asks to pass a message on
passed : (c : ℕ) (client : List ℕ) (k : Packet) (room : Bool) (r : Reaction) (x : Unit {0}) (p : Place) (h : HeldView) (acts : List Act) (m : Message) → r.ask ≡ Some (asks.Pass m) → serving.DoesReaction c client k room r (Some x) p h acts → BeginsWithPassingOn m h.at h.bridge acts
passed c client k room r x p h acts m asks (inl d) = none_some (sym d.0)
passed c client k room r x p h acts m asks (inr (y, own, mid, rest, one, runs, more, is)) =
    let d = subst (λ a. serving.DoesAsked a c client k room r.end (Some y) p h own) asks one in
    subst (BeginsWithPassingOn m h.at h.bridge) (sym is) (passes_more m h.at h.bridge own rest (passes_on m y p h own d))

serves_at : (c : ℕ) (client : List ℕ) (k : Packet) (room : Bool) (found : Option Seat) (r : Reaction) (x : Unit {0}) (p : Place) (h mid : HeldView) (own rest : List Act) → CallsAt client (λ at. takes k at room) stays found (Some r) p h own
    → Runs p h own mid → serving.DoesReaction c client k room r (Some x) p mid rest → Followed p h (own ++ rest)
serves_at c client k room None r x p h mid own rest d runs more =
    let same : mid ≡ h = subst (λ xs. Runs p h xs mid) d.1 runs in
    subst (λ xs. Followed p h (xs ++ rest)) (sym d.1) (subst (λ v. Followed p v rest) same ((does_reaction Followed followed answers_told c client k room r).of x p mid rest more))
serves_at c client k room (Some seat) r x p h mid own rest d runs more =
    let event : ℕ → Event = λ at. takes k at room in
    let s = calling_by client event stays seat r p h own d in
    let left : mid ≡ next h (Session (Called s.step)) = left_by p h mid (Session (Called s.step)) own s.acts_are runs in
    let at : mid.at ≡ s.step.at = ap (λ (v : HeldView). v.at) left ∙ sym s.at_is in
    let same : mid.bridge ≡ h.bridge = ap (λ (v : HeldView). v.bridge) left in
    let told : Told s.step h.bridge rest = λ m accepts.
    subst (λ b. BeginsWithPassingOn m s.step.at b rest) same (subst (λ n. BeginsWithPassingOn m n mid.bridge rest) at (passed c client k room r x p mid rest m (ap (λ (v : Reaction). v.ask) (sym s.reaction_is) ∙ accepts.asks) more)) in
    subst (λ xs. Followed p h (xs ++ rest)) (sym s.acts_are) (call_told p h mid s.step rest left told ((does_reaction Followed followed answers_told c client k room r).of x p mid rest more))

serves_in : (c : ℕ) (client : List ℕ) (k : Packet) (room : Bool) (x : Unit {0}) (p : Place) (h : HeldView) (acts : List Act) → serving.ServesIn c client k room (Some x) p h acts → Followed p h acts
serves_in c client k room x p h acts (inl d) = none_some (sym d.0)
serves_in c client k room x p h acts (inr (r, own, mid, rest, one, runs, more, is)) = subst (Followed p h) (sym is) (serves_at c client k room (seat_at client h) r x p h mid own rest one runs more)

serves : (c : ℕ) (client : List ℕ) (k : Packet) → Keeps Followed (serving.ServesPacket c client k)
serves c client k = record { of = λ x p h acts d. serves_in c client k (serving.room_for client k h) x p h acts d }

pub accepted_is_passed_on : AcceptedIsPassedOn
accepted_is_passed_on = λ e p h held acts d before after s m is ran accepts. (decides Followed followed serves (takes_forward Followed followed took_told) e).of tt p h acts d before after s held is ran m accepts
