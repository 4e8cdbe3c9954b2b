-- Before each answer to a SUBSCRIBE or an UNSUBSCRIBE stands its packet, and between them its operations.
use Rattle.std.proofs.Common.{◌≡◌, ◌⊎◌, inl, inr, ℕ, Bool, List, [], ◌∷◌, ◌++◌, Option, Some, None, refl, sym, ap, ◌∙◌, subst, append_assoc}
use Rattle.std.proofs.lemmas.List.{append-nil}
use Rattle.std.specs.FinMap as map
use Rattle.mqtt_packets.specs.declared.packet.Packet.{Packet}
use Rattle.mqtt_packets.specs.declared.packet.Packet.TheVariants as packets
use Rattle.mqtt_packets.specs.declared.subscribe.Subscribe.{Subscribe}
use Rattle.mqtt_packets.specs.declared.subscribe.SubscribeFilter.{SubscribeFilter}
use Rattle.mqtt_packets.specs.declared.unsubscribe.Unsubscribe.{Unsubscribe}
use Rattle.bridge_frames.specs.declared.forward.Forward.{Forward}
use Rattle.bridge_routes.specs.declared.plain.PlainCopy.{PlainCopy as Copy}
use Rattle.mqtt_sessions.specs.declared.link.Asked.{Asked}
use Rattle.mqtt_sessions.specs.declared.link.Asked.TheVariants.{Subscribing, Unsubscribing}
use Rattle.mqtt_sessions.specs.declared.reaction.Ask.{Ask}
use Rattle.mqtt_sessions.specs.declared.reaction.Ask.TheVariants as asks
use Rattle.mqtt_sessions.specs.Asking.{answer_of, asked_of}
use Rattle.mqtt_sessions.specs.Reaction.{Reaction, nothing}
use Rattle.mqtt_sessions.specs.State.{State}
use Rattle.law_sessions.specs.Runs.{takes, answers, Reacts}
use Rattle.session_table.specs.Calls.{stays}
use Rattle.session_table.specs.Seats.{Seat}
use Rattle.law_maps.proofs.Texts.{get_inserted}
use Rattle.node_work.specs.Acts.{Act, Session, Bridge, Runs, next}
use Rattle.node_work.specs.Calling.{CallsAt}
use Rattle.node_work.specs.Held.Bridge.{Took}
use Rattle.node_work.specs.Held.Sessions.{SessionStep, Called, IsCall, seat_at}
use Rattle.node_work.specs.View.{Place, HeldView}
use Rattle.node_work.specs.Working.{Returns}
use Rattle.node_work.proofs.Working.{runs_join}
use Rattle.node_clients.specs.Passing as passing
use Rattle.node_clients.specs.Serving as serving
use Rattle.node_clients.specs.Subscribing as subscribing
use Rattle.node_clients.specs.Unsubscribing as unsubscribing
use Rattle.node_clients.proofs.Determined.{runs_determined}
use Rattle.broker_node.specs.declared.event.Event.{Event as NodeEvent}
use Rattle.broker_node.specs.Turns.{Decides}
use Rattle.law_runs.specs.StepPublishing.{AnswersWith}
use Rattle.law_runs.specs.StepAsking.{IsGranted, AreGranted, FilterIsRemoved, FiltersAreRemoved, AreInUse, ComesAfter, TakesSubscribe, TakesUnsubscribe, SubackTells, UnsubackTells}
use Rattle.law_runs.proofs.Codes.{codes_tell, subscribing_after, unsubscribing_after}
use Rattle.law_runs.proofs.Keeping.{calling_by, Property, IsOther, IsPlain, Joins, Keeps, none_some, k_returns, k_if, k_inturn}
use Rattle.law_runs.proofs.Requests.{are_granted, are_removed}
use Rattle.law_runs.proofs.Splits.{head_is, tail_is, none_there, alone_is, left_by, splits, runs_split}
use Rattle.law_runs.proofs.Work.{passes, drops, closes_after, grants, offers_after, unsubscribed, takes_forward}
use Rattle.law_runs.proofs.Events.{decides}

-- ---- a request, and what was done for it
record IsSubscribe (p : Place) (mid : HeldView) (client : List ℕ) (call : SessionStep) (id : ℕ) (codes : List ℕ) (acts : List Act) : Type 0 where
  subscribe : Subscribe
  now : ℕ
  room : Bool
  event : call.event ≡ takes (packets.Subscribe subscribe) now room
  asked : call.reaction.ask ≡ Some asks.Subscribe
  identifier : subscribe.identifier ≡ id
  granted : AreGranted p mid client (subscribing.identifier_of subscribe) subscribe.filters codes acts

record IsUnsubscribe (p : Place) (mid : HeldView) (client : List ℕ) (call : SessionStep) (id : ℕ) (codes : List ℕ) (acts : List Act) : Type 0 where
  unsubscribe : Unsubscribe
  now : ℕ
  room : Bool
  event : call.event ≡ takes (packets.Unsubscribe unsubscribe) now room
  asked : call.reaction.ask ≡ Some asks.Unsubscribe
  identifier : unsubscribe.identifier ≡ id
  removed : FiltersAreRemoved p mid client unsubscribe.filters codes acts

record Requested (p : Place) (h : HeldView) (before : List Act) (client : List ℕ) (id : ℕ) (codes : List ℕ) : Type 0 where
  call : SessionStep
  acts : List Act
  mid : HeldView
  after : ComesAfter p h before client call acts mid
  kind : IsSubscribe p mid client call id codes acts ⊎ IsUnsubscribe p mid client call id codes acts

requested_more : (p : Place) (h m : HeldView) (xs front : List Act) (client : List ℕ) (id : ℕ) (codes : List ℕ) → Runs p h xs m → Requested p m front client id codes → Requested p h (xs ++ front) client id codes
requested_more p h m xs front client id codes runs r =
    let one = Session (Called r.call) ∷ [] in
    record {
      call = r.call;
      acts = r.acts;
      mid = r.mid;
      after = record {
        earlier = xs ++ r.after.earlier;
        is = ap (λ zs. xs ++ zs) r.after.is ∙ sym (append_assoc xs r.after.earlier (Session (Called r.call) ∷ r.acts));
        runs = subst (λ zs. Runs p h zs r.mid) (sym (append_assoc xs r.after.earlier one)) (runs_join p xs (r.after.earlier ++ one) h m r.mid runs r.after.runs);
        same = r.after.same;
      };
      kind = r.kind;
    }

-- ---- the answers among acts
abbrev Answered : Property
Answered p h acts = (before after : List Act) (s : SessionStep) → acts ≡ before ++ Session (Called s) ∷ after → (id : ℕ) (codes : List ℕ) → s.event ≡ answers id codes → Requested p h before s.client id codes

one_answered : (p : Place) (h : HeldView) (a : Act) → IsPlain a → Answered p h (a ∷ [])
one_answered p h a plain [] after s is id codes e = absurd (subst IsOther e (subst IsPlain (head_is is) plain))
one_answered p h a plain (b ∷ before) after s is id codes e = none_there before after (Session (Called s)) (tail_is is)

both_answered : (p : Place) (h mid : HeldView) (xs ys : List Act) → Runs p h xs mid → Answered p h xs → Answered p mid ys → Answered p h (xs ++ ys)
both_answered p h mid xs ys runs f g before after s is id codes e =
    elim (splits xs ys before after (Session (Called s)) is) [
      | inl r ↦ f before r.0 s r.1 id codes e
      | inr r ↦ subst (λ zs. Requested p h zs s.client id codes) (sym r.1) (requested_more p h mid xs r.0 s.client id codes runs (g r.0 after s r.2 id codes e))
    ]

answered : Joins Answered
answered = record {
  none = λ p h before after s is. none_there before after (Session (Called s)) is;
  one = one_answered;
  both = both_answered;
}

-- the act that takes a message of a lane gives no codes
took_answered : (from number : ℕ) (m : Forward) (copies : List Copy) (lost : ℕ) (p : Place) (h : HeldView) → Answered p h (Bridge (Took from number m copies lost) ∷ [])
took_answered from number m copies lost p h before after s is id codes e =
    let a = Bridge (Took from number m copies lost) in absurd (let z : a ≡ Session (Called s) = alone_is a (Session (Called s)) before after is in cc)

-- a call that gives no codes
alone_answered : (p : Place) (h : HeldView) (s : SessionStep) → ((id : ℕ) (codes : List ℕ) → s.event ≡ answers id codes → ⊥) → Answered p h (Session (Called s) ∷ [])
alone_answered p h s not_codes [] after t is id codes e = absurd (not_codes id codes (let same : s ≡ t = (let z = head_is is in cc) in ap (λ (v : SessionStep). v.event) same ∙ e))
alone_answered p h s not_codes (b ∷ before) after t is id codes e = none_there before after (Session (Called t)) (tail_is is)

-- a call that gives the codes of a request before it
last_answered : (p : Place) (h : HeldView) (xs : List Act) (t : SessionStep) → Answered p h xs → ((id : ℕ) (codes : List ℕ) → t.event ≡ answers id codes → Requested p h xs t.client id codes) → Answered p h (xs ++ Session (Called t) ∷ [])
last_answered p h xs t f g before after s is id codes e =
    elim (splits xs (Session (Called t) ∷ []) before after (Session (Called s)) is) [
      | inl r ↦ f before r.0 s r.1 id codes e
      | inr r ↦ at_last r.0 r.1 r.2
    ]
  where
    at_last : (front : List Act) → before ≡ xs ++ front → Session (Called t) ∷ [] ≡ front ++ Session (Called s) ∷ after → Requested p h before s.client id codes
    at_last [] b q =
        let same : t ≡ s = (let z = head_is q in cc) in
        subst (λ zs. Requested p h zs s.client id codes) (sym (b ∙ append-nil xs))
        (subst (λ (v : SessionStep). Requested p h xs v.client id codes) same (g id codes (ap (λ (v : SessionStep). v.event) same ∙ e)))
    at_last (x ∷ front) b q = none_there front after (Session (Called s)) (tail_is q)

-- ---- after a call that takes a request: its operations, the call of its answer, and what follows
module _ (p : Place) (h mid mid2 : HeldView) (step : SessionStep) (ops : List Act) (client : List ℕ) (packet : ℕ) (given : List ℕ) where
  abbrev begun : List Act
  begun = Session (Called step) ∷ ops

  answer_at : (found : Option Seat) (r : Reaction) (call : List Act) → CallsAt client (λ at. answers packet given) stays found (Some r) p mid2 call → Answered p h begun
      → ((t : SessionStep) → t.client ≡ client → (id : ℕ) (codes : List ℕ) → packet ≡ id → given ≡ codes → Requested p h begun t.client id codes) → Answered p h (begun ++ call)
  answer_at None r call d f request = subst (Answered p h) (sym (append-nil begun) ∙ ap (λ zs. begun ++ zs) (sym d.1)) f
  answer_at (Some seat) r call d f request =
      let k = calling_by client (λ at. answers packet given) stays seat r p mid2 call d in
      subst (λ zs. Answered p h (begun ++ zs)) (sym k.acts_are)
      (last_answered p h begun k.step f (λ id codes e. (let same : answers packet given ≡ answers id codes = sym k.event_is ∙ e in request k.step k.client_is id codes (cc same) (cc same))))

  answer_after : (mid3 : HeldView) (found : Option Seat) (r : Reaction) (call rest : List Act) → Runs p h (Session (Called step) ∷ []) mid → Runs p mid ops mid2
      → CallsAt client (λ at. answers packet given) stays found (Some r) p mid2 call → Runs p mid2 call mid3 → Answered p h (Session (Called step) ∷ []) → Answered p mid ops → Answered p mid3 rest
      → ((t : SessionStep) → t.client ≡ client → (id : ℕ) (codes : List ℕ) → packet ≡ id → given ≡ codes → Requested p h begun t.client id codes) → Answered p h (Session (Called step) ∷ (ops ++ (call ++ rest)))
  answer_after mid3 found r call rest first runs d calls f g k request =
      let all : Runs p h begun mid2 = runs_join p (Session (Called step) ∷ []) ops h mid mid2 first runs in
      let here : Answered p h begun = both_answered p h mid (Session (Called step) ∷ []) ops first f g in
      subst (Answered p h) (append_assoc begun call rest)
      (both_answered p h mid3 (begun ++ call) rest (runs_join p begun call h mid2 mid3 all calls) (answer_at found r call d here request) k)

-- ---- a call that takes a packet, and what it asks for
record Takes (p : Place) (h : HeldView) (step : SessionStep) (client : List ℕ) (k : Packet) (mid : HeldView) : Type 0 where
  runs : Runs p h (Session (Called step) ∷ []) mid
  same : step.client ≡ client
  now : ℕ
  room : Bool
  event : step.event ≡ takes k now room

takes_alone : (p : Place) (h : HeldView) (step : SessionStep) (client : List ℕ) (k : Packet) (mid : HeldView) → Takes p h step client k mid → Answered p h (Session (Called step) ∷ [])
takes_alone p h step client k mid t = alone_answered p h step (λ id codes e. (let z : takes k t.now t.room ≡ answers id codes = sym t.event ∙ e in cc))

takes_then : (p : Place) (h : HeldView) (step : SessionStep) (client : List ℕ) (k : Packet) (mid : HeldView) (acts : List Act) → Takes p h step client k mid → Answered p mid acts → Answered p h (Session (Called step) ∷ acts)
takes_then p h step client k mid acts t f = both_answered p h mid (Session (Called step) ∷ []) acts t.runs (takes_alone p h step client k mid t) f

module _ (p : Place) (h mid : HeldView) (step : SessionStep) (c : ℕ) (client : List ℕ) where
  subscribes_after : (q : Subscribe) (x : Unit {0}) (acts : List Act) → Takes p h step client (packets.Subscribe q) mid → step.reaction.ask ≡ Some asks.Subscribe → subscribing.ServesSubscribe c client q (Some x) p mid acts → Answered p h (Session (Called step) ∷ acts)
  subscribes_after q x acts t ask (inl d) = none_some (sym d.0)
  subscribes_after q x acts t ask (inr (all, ops, mid2, others, one, runs, (inl d), is)) = none_some (sym d.0)
  subscribes_after q x acts t ask (inr (all, ops, mid2, others, one, runs, (inr (r, call, mid3, rest, d, calls, more, is2)), is)) =
      let g = are_granted client (subscribing.identifier_of q) q.filters [] all p mid ops one in
      subst (λ zs. Answered p h (Session (Called step) ∷ zs)) (sym (is ∙ ap (λ zs. ops ++ zs) is2))
      (answer_after p h mid mid2 step ops client q.identifier (subscribing.granted_reasons all) mid3 (seat_at client mid2) r call rest t.runs runs d calls (takes_alone p h step client (packets.Subscribe q) mid t)
      ((k_inturn Answered answered (subscribing.Grants client (subscribing.identifier_of q)) q.filters [] (grants Answered answered client (subscribing.identifier_of q))).of all p mid ops one)
      ((offers_after Answered answered r.end c client q.identifier all).of x p mid3 rest more)
      (λ s same id codes i j. record {
        call = step;
        acts = ops;
        mid = mid;
        after = record { earlier = []; is = refl; runs = t.runs; same = t.same ∙ sym same };
        kind = inl (record {
          subscribe = q;
          now = t.now;
          room = t.room;
          event = t.event;
          asked = ask;
          identifier = i;
          granted = subst (λ w. AreGranted p mid w (subscribing.identifier_of q) q.filters codes ops) (sym same) (subst (λ cs. AreGranted p mid client (subscribing.identifier_of q) q.filters cs ops) (ap subscribing.granted_reasons (sym g.all_is) ∙ j) g.are);
        });
      }))

  unsubscribes_after : (u : Unsubscribe) (x : Unit {0}) (acts : List Act) → Takes p h step client (packets.Unsubscribe u) mid → step.reaction.ask ≡ Some asks.Unsubscribe → unsubscribing.ServesUnsubscribe c client u (Some x) p mid acts → Answered p h (Session (Called step) ∷ acts)
  unsubscribes_after u x acts t ask (inl d) = none_some (sym d.0)
  unsubscribes_after u x acts t ask (inr (all, ops, mid2, others, one, runs, (inl d), is)) = none_some (sym d.0)
  unsubscribes_after u x acts t ask (inr (all, ops, mid2, others, one, runs, (inr (r, call, mid3, rest, d, calls, more, is2)), is)) =
      let g = are_removed client u.filters [] all p mid ops one in
      subst (λ zs. Answered p h (Session (Called step) ∷ zs)) (sym (is ∙ ap (λ zs. ops ++ zs) is2))
      (answer_after p h mid mid2 step ops client u.identifier all mid3 (seat_at client mid2) r call rest t.runs runs d calls (takes_alone p h step client (packets.Unsubscribe u) mid t)
      ((k_inturn Answered answered (unsubscribing.Unsubscribed client) u.filters [] (unsubscribed Answered answered client)).of all p mid ops one)
      ((closes_after Answered answered r.end c client).of x p mid3 rest more)
      (λ s same id codes i j. record {
        call = step;
        acts = ops;
        mid = mid;
        after = record { earlier = []; is = refl; runs = t.runs; same = t.same ∙ sym same };
        kind = inr (record {
          unsubscribe = u;
          now = t.now;
          room = t.room;
          event = t.event;
          asked = ask;
          identifier = i;
          removed = subst (λ w. FiltersAreRemoved p mid w u.filters codes ops) (sym same) (subst (λ cs. FiltersAreRemoved p mid client u.filters cs ops) (sym g.all_is ∙ j) g.are);
        });
      }))

  subscribes_by : (k : Packet) (x : Unit {0}) (acts : List Act) → Takes p h step client k mid → step.reaction.ask ≡ Some asks.Subscribe → serving.SubscribesBy c client k (Some x) p mid acts → Answered p h (Session (Called step) ∷ acts)
  subscribes_by (packets.Subscribe q) x acts t ask d = subscribes_after q x acts t ask d
  subscribes_by k x acts t ask d = takes_then p h step client k mid acts t (subst (Answered p mid) (sym d.1) (answered.none p mid))

  unsubscribes_by : (k : Packet) (x : Unit {0}) (acts : List Act) → Takes p h step client k mid → step.reaction.ask ≡ Some asks.Unsubscribe → serving.UnsubscribesBy c client k (Some x) p mid acts → Answered p h (Session (Called step) ∷ acts)
  unsubscribes_by (packets.Unsubscribe u) x acts t ask d = unsubscribes_after u x acts t ask d
  unsubscribes_by k x acts t ask d = takes_then p h step client k mid acts t (subst (Answered p mid) (sym d.1) (answered.none p mid))

  does_asked : (ask : Option Ask) (k : Packet) (room : Bool) (end : Option ℕ) (x : Unit {0}) (acts : List Act) → Takes p h step client k mid → step.reaction.ask ≡ ask → serving.DoesAsked ask c client k room end (Some x) p mid acts → Answered p h (Session (Called step) ∷ acts)
  does_asked None k room end x acts t ask d = takes_then p h step client k mid acts t ((k_if Answered answered (serving.is_dropped k room end) passing.Drops (Returns tt) (drops Answered answered) (k_returns Answered answered tt)).of x p mid acts d)
  does_asked (Some (asks.Pass m)) k room end x acts t ask d = takes_then p h step client k mid acts t ((passes Answered answered m).of x p mid acts d)
  does_asked (Some asks.Subscribe) k room end x acts t ask d = subscribes_by k x acts t ask d
  does_asked (Some asks.Unsubscribe) k room end x acts t ask d = unsubscribes_by k x acts t ask d

  does_reaction : (k : Packet) (room : Bool) (r : Reaction) (x : Unit {0}) (acts : List Act) → Takes p h step client k mid → step.reaction ≡ r → serving.DoesReaction c client k room r (Some x) p mid acts → Answered p h (Session (Called step) ∷ acts)
  does_reaction k room r x acts t e (inl d) = none_some (sym d.0)
  does_reaction k room r x acts t e (inr (y, own, mid2, rest, one, runs, more, is)) =
      let first = does_asked r.ask k room r.end y own t (ap (λ (v : Reaction). v.ask) e) one in
      subst (λ zs. Answered p h (Session (Called step) ∷ zs)) (sym is)
      (both_answered p h mid2 (Session (Called step) ∷ own) rest (runs_join p (Session (Called step) ∷ []) own h mid mid2 t.runs runs) first ((closes_after Answered answered r.end c client).of x p mid2 rest more))

-- where the client has no session, nothing is asked
unserved : (c : ℕ) (client : List ℕ) (k : Packet) (room : Bool) (r : Reaction) (x : Unit {0}) (p : Place) (h : HeldView) (acts : List Act) → r.ask ≡ None → serving.DoesReaction c client k room r (Some x) p h acts → Answered p h acts
unserved c client k room r x p h acts none (inl d) = none_some (sym d.0)
unserved c client k room r x p h acts none (inr (y, own, mid, rest, one, runs, more, is)) =
    let dropped = serving.is_dropped k room r.end in
    let d = subst (λ a. serving.DoesAsked a c client k room r.end (Some y) p h own) none one in
    subst (Answered p h) (sym is) (both_answered p h mid own rest runs ((k_if Answered answered dropped passing.Drops (Returns tt) (drops Answered answered) (k_returns Answered answered tt)).of y p h own d)
    ((closes_after Answered answered r.end c client).of x p mid rest more))

serves_at : (c : ℕ) (client : List ℕ) (k : Packet) (room : Bool) (found : Option Seat) (r : Reaction) (x : Unit {0}) (p : Place) (h mid : HeldView) (own rest : List Act) → CallsAt client (λ at. takes k at room) stays found (Some r) p h own
    → Runs p h own mid → serving.DoesReaction c client k room r (Some x) p mid rest → Answered p h (own ++ rest)
serves_at c client k room None r x p h mid own rest d runs more =
    let same_reaction : r ≡ nothing = (let z = d.0 in cc) in
    let ask : r.ask ≡ None = ap (λ (v : Reaction). v.ask) same_reaction in
    let same : mid ≡ h = subst (λ zs. Runs p h zs mid) d.1 runs in
    subst (λ zs. Answered p h (zs ++ rest)) (sym d.1) (subst (λ v. Answered p v rest) same (unserved c client k room r x p mid rest ask more))
serves_at c client k room (Some seat) r x p h mid own rest d runs more =
    let s = calling_by client (λ at. takes k at room) stays seat r p h own d in
    subst (λ zs. Answered p h (zs ++ rest)) (sym s.acts_are)
    (does_reaction p h mid s.step c client k room r x rest (record { runs = subst (λ zs. Runs p h zs mid) s.acts_are runs; same = s.client_is; now = h.at; room = room; event = s.event_is }) s.reaction_is more)

serves_in : (c : ℕ) (client : List ℕ) (k : Packet) (room : Bool) (x : Unit {0}) (p : Place) (h : HeldView) (acts : List Act) → serving.ServesIn c client k room (Some x) p h acts → Answered p h acts
serves_in c client k room x p h acts (inl d) = none_some (sym d.0)
serves_in c client k room x p h acts (inr (r, own, mid, rest, one, runs, more, is)) = subst (Answered p h) (sym is) (serves_at c client k room (seat_at client h) r x p h mid own rest one runs more)

serves : (c : ℕ) (client : List ℕ) (k : Packet) → Keeps Answered (serving.ServesPacket c client k)
serves c client k = record { of = λ x p h acts d. serves_in c client k (serving.room_for client k h) x p h acts d }

-- ---- the session between a request and its answer

granted_still : (p : Place) (h : HeldView) (client : List ℕ) (identifier : ℕ) (f : SubscribeFilter) (code : ℕ) (acts : List Act) (mid : HeldView) → IsGranted p h client identifier f code acts → Runs p h acts mid → mid.sessions ≡ h.sessions
granted_still p h client identifier f code acts mid (inl d) runs = ap (λ (v : HeldView). v.sessions) (left_by p h mid _ acts d.1 runs)
granted_still p h client identifier f code acts mid (inr d) runs = ap (λ (v : HeldView). v.sessions) (subst (λ zs. Runs p h zs mid) d.1 runs)

all_granted_still : (p : Place) (h : HeldView) (client : List ℕ) (identifier : ℕ) (fs : List SubscribeFilter) (codes : List ℕ) (acts : List Act) (mid : HeldView) → AreGranted p h client identifier fs codes acts → Runs p h acts mid → mid.sessions ≡ h.sessions
all_granted_still p h client identifier [] codes acts mid d runs = ap (λ (v : HeldView). v.sessions) (subst (λ zs. Runs p h zs mid) d.1 runs)
all_granted_still p h client identifier (f ∷ fs) codes acts mid (code, others, own, m, rest, is, all, one, ran, more) runs =
    let parts = runs_split p own rest h mid (subst (λ zs. Runs p h zs mid) all runs) in
    let same : parts.0 ≡ m = runs_determined p own h parts.0 m parts.1 ran in
    all_granted_still p m client identifier fs others rest mid more (subst (λ v. Runs p v rest mid) same parts.2) ∙ granted_still p h client identifier f code own m one ran

removed_still : (p : Place) (h : HeldView) (client text : List ℕ) (code : ℕ) (acts : List Act) (mid : HeldView) → FilterIsRemoved p h client text code acts → Runs p h acts mid → mid.sessions ≡ h.sessions
removed_still p h client text code acts mid (inl d) runs = ap (λ (v : HeldView). v.sessions) (left_by p h mid _ acts d.2 runs)
removed_still p h client text code acts mid (inr (inl d)) runs = ap (λ (v : HeldView). v.sessions) (subst (λ zs. Runs p h zs mid) d.2 runs)
removed_still p h client text code acts mid (inr (inr d)) runs = ap (λ (v : HeldView). v.sessions) (subst (λ zs. Runs p h zs mid) d.2 runs)

all_removed_still : (p : Place) (h : HeldView) (client : List ℕ) (texts : List (List ℕ)) (codes : List ℕ) (acts : List Act) (mid : HeldView) → FiltersAreRemoved p h client texts codes acts → Runs p h acts mid → mid.sessions ≡ h.sessions
all_removed_still p h client [] codes acts mid d runs = ap (λ (v : HeldView). v.sessions) (subst (λ zs. Runs p h zs mid) d.1 runs)
all_removed_still p h client (text ∷ texts) codes acts mid (code, others, own, m, rest, is, all, one, ran, more) runs =
    let parts = runs_split p own rest h mid (subst (λ zs. Runs p h zs mid) all runs) in
    let same : parts.0 ≡ m = runs_determined p own h parts.0 m parts.1 ran in
    all_removed_still p m client texts others rest mid more (subst (λ v. Runs p v rest mid) same parts.2) ∙ removed_still p h client text code own m one ran

still : (p : Place) (mid held : HeldView) (client : List ℕ) (call : SessionStep) (id : ℕ) (codes : List ℕ) (acts : List Act) → IsSubscribe p mid client call id codes acts ⊎ IsUnsubscribe p mid client call id codes acts → Runs p mid acts held → held.sessions ≡ mid.sessions
still p mid held client call id codes acts (inl d) runs = all_granted_still p mid client (subscribing.identifier_of d.subscribe) d.subscribe.filters codes acts held d.granted runs
still p mid held client call id codes acts (inr d) runs = all_removed_still p mid client d.unsubscribe.filters codes acts held d.removed runs

-- the session that answers is the one that took the request
record Between (p : Place) (client : List ℕ) (call : SessionStep) (seat : Seat) : Type 0 where
  held : HeldView
  took : IsCall held call
  same : seat.session ≡ call.after

between : (p : Place) (h held : HeldView) (before : List Act) (client : List ℕ) (id : ℕ) (codes : List ℕ) (seat : Seat) (r : Requested p h before client id codes) → Runs p h before held → seat_at client held ≡ Some seat → Between p client r.call seat
between p h held before client id codes seat r runs found =
    let one = Session (Called r.call) ∷ [] in
    let whole : before ≡ (r.after.earlier ++ one) ++ r.acts = r.after.is ∙ sym (append_assoc r.after.earlier one r.acts) in
    let parts = runs_split p (r.after.earlier ++ one) r.acts h held (subst (λ zs. Runs p h zs held) whole runs) in
    let there : parts.0 ≡ r.mid = runs_determined p (r.after.earlier ++ one) h parts.0 r.mid parts.1 r.after.runs in
    let stays_so : held.sessions ≡ r.mid.sessions = still p r.mid held client r.call id codes r.acts r.kind (subst (λ v. Runs p v r.acts held) there parts.2) in
    let first = runs_split p r.after.earlier one h r.mid r.after.runs in
    let left : r.mid ≡ next first.0 (Session (Called r.call)) = left_by p first.0 r.mid (Session (Called r.call)) one refl first.2 in
    let after : Seat = record { session = r.call.after; connection = r.call.on } in
    let now : seat_at client held ≡ Some after =
    ap (λ m. map.get m client) stays_so ∙ ap (λ (v : HeldView). map.get v.sessions client) left ∙ ap (map.get (map.insert first.0.sessions r.call.client after)) (sym r.after.same) ∙ get_inserted first.0.sessions r.call.client after in
    let same : seat ≡ after = (let z = sym found ∙ now in cc) in
    record { held = first.0; took = first.2.1.0; same = ap (λ (s : Seat). s.session) same }

waits : (a b : Asked) (s : State) → asked_of s.link ≡ Some a → asked_of s.link ≡ Some b → a ≡ b
waits a b s e f = let z = sym e ∙ f in cc

asked_sub : (p : Place) (mid : HeldView) (client : List ℕ) (call : SessionStep) (id : ℕ) (codes : List ℕ) (acts : List Act) (held : HeldView) → IsCall held call → IsSubscribe p mid client call id codes acts → asked_of call.after.link ≡ Some Subscribing
asked_sub p mid client call id codes acts held took d =
    subscribing_after took.seat.session call.after d.now d.room call.reaction d.subscribe (subst (λ e. Reacts took.seat.session e call.reaction call.after) d.event took.reacts) d.asked

asked_unsub : (p : Place) (mid : HeldView) (client : List ℕ) (call : SessionStep) (id : ℕ) (codes : List ℕ) (acts : List Act) (held : HeldView) → IsCall held call → IsUnsubscribe p mid client call id codes acts → asked_of call.after.link ≡ Some Unsubscribing
asked_unsub p mid client call id codes acts held took d =
    unsubscribing_after took.seat.session call.after d.now d.room call.reaction d.unsubscribe (subst (λ e. Reacts took.seat.session e call.reaction call.after) d.event took.reacts) d.asked

-- ---- the laws
module _ (e : NodeEvent) (p : Place) (h h' : HeldView) (acts : List Act) (does : Decides e (Some tt) p h acts) (runs : Runs p h acts h') (before after : List Act) (s : SessionStep) (id : ℕ) (codes : List ℕ) (is : acts ≡ before ++ Session (Called s) ∷ after) where
  parts : (mid : HeldView) × Runs p h before mid × Runs p mid (Session (Called s) ∷ after) h'
  parts = runs_split p before (Session (Called s) ∷ after) h h' (subst (λ zs. Runs p h zs h') is runs)

  request : s.event ≡ answers id codes → Requested p h before s.client id codes
  request event = (decides Answered answered serves (takes_forward Answered answered took_answered) e).of tt p h acts does before after s is id codes event

  told : (mid : HeldView) → Runs p h before mid → (call : IsCall mid s) (a : Asked) → AnswersWith (answer_of a id codes) s.reaction.packets
      → AreInUse codes ⊎ ((r : Requested p h before s.client id codes) × (held : HeldView) × IsCall held r.call × (asked_of r.call.after.link ≡ Some a))
  told mid ran call a g =
      elim (codes_tell a id codes call.seat.session s.after s.event s.reaction call.reacts g) [
        | inl used ↦ inl used
        | inr given ↦ inr (
            let r = request given.0 in
            let b = between p h mid before s.client id codes call.seat r ran call.found in
            (r, b.held, b.took, ap (λ (v : State). asked_of v.link) (sym b.same) ∙ given.1))
      ]

  subscribed_before : (r : Requested p h before s.client id codes) (held : HeldView) → IsCall held r.call → asked_of r.call.after.link ≡ Some Subscribing
      → IsSubscribe p r.mid s.client r.call id codes r.acts ⊎ IsUnsubscribe p r.mid s.client r.call id codes r.acts → TakesSubscribe p h before s.client id codes
  subscribed_before r held took asked (inl d) = record {
    call = r.call;
    acts = r.acts;
    mid = r.mid;
    after = r.after;
    subscribe = d.subscribe;
    now = d.now;
    room = d.room;
    event = d.event;
    identifier = d.identifier;
    granted = d.granted;
  }
  subscribed_before r held took asked (inr d) = absurd (let z : Subscribing ≡ Unsubscribing = waits Subscribing Unsubscribing r.call.after asked (asked_unsub p r.mid s.client r.call id codes r.acts held took d) in cc)

  unsubscribed_before : (r : Requested p h before s.client id codes) (held : HeldView) → IsCall held r.call → asked_of r.call.after.link ≡ Some Unsubscribing
      → IsSubscribe p r.mid s.client r.call id codes r.acts ⊎ IsUnsubscribe p r.mid s.client r.call id codes r.acts → TakesUnsubscribe p h before s.client id codes
  unsubscribed_before r held took asked (inl d) = absurd (let z : Unsubscribing ≡ Subscribing = waits Unsubscribing Subscribing r.call.after asked (asked_sub p r.mid s.client r.call id codes r.acts held took d) in cc)
  unsubscribed_before r held took asked (inr d) = record {
    call = r.call;
    acts = r.acts;
    mid = r.mid;
    after = r.after;
    unsubscribe = d.unsubscribe;
    now = d.now;
    room = d.room;
    event = d.event;
    identifier = d.identifier;
    removed = d.removed;
  }

  subscribes_told : AnswersWith (answer_of Subscribing id codes) s.reaction.packets → AreInUse codes ⊎ TakesSubscribe p h before s.client id codes
  subscribes_told g = elim (told parts.0 parts.1 parts.2.1.0 Subscribing g) [ inl used ↦ inl used | inr t ↦ inr (subscribed_before t.0 t.1 t.2 t.3 t.0.kind) ]

  unsubscribes_told : AnswersWith (answer_of Unsubscribing id codes) s.reaction.packets → AreInUse codes ⊎ TakesUnsubscribe p h before s.client id codes
  unsubscribes_told g = elim (told parts.0 parts.1 parts.2.1.0 Unsubscribing g) [ inl used ↦ inl used | inr t ↦ inr (unsubscribed_before t.0 t.1 t.2 t.3 t.0.kind) ]

pub suback_tells : SubackTells
suback_tells = λ e p h h' acts does runs before after s id codes is g. subscribes_told e p h h' acts does runs before after s id codes is g

pub unsuback_tells : UnsubackTells
unsuback_tells = λ e p h h' acts does runs before after s id codes is g. unsubscribes_told e p h h' acts does runs before after s id codes is g
