-- Before each answer to a SUBSCRIBE stand its packet and what was done for each filter, and after it its offers.
use Rattle.std.proofs.Common.{◌≡◌, ◌⊎◌, inl, inr, ℕ, Bool, List, [], ◌∷◌, ◌++◌, Option, Some, None, refl, sym, ap, ◌∙◌, subst, append_assoc}
use Rattle.std.proofs.lemmas.List.{append-nil}
use Rattle.mqtt_message.specs.declared.delivery.Delivery.{Delivery}
use Rattle.mqtt_packets.specs.declared.packet.Packet.{Packet}
use Rattle.mqtt_packets.specs.declared.packet.Packet.TheVariants as packets
use Rattle.mqtt_packets.specs.declared.subscribe.Subscribe.{Subscribe}
use Rattle.mqtt_packets.specs.declared.unsubscribe.Unsubscribe.{Unsubscribe}
use Rattle.bridge_frames.specs.declared.forward.Forward.{Forward}
use Rattle.bridge_routes.specs.declared.plain.PlainCopy.{PlainCopy as Copy}
use Rattle.mqtt_sessions.specs.declared.reaction.Ask.{Ask}
use Rattle.mqtt_sessions.specs.declared.reaction.Ask.TheVariants as asks
use Rattle.mqtt_sessions.specs.Reaction.{Reaction, nothing}
use Rattle.law_sessions.specs.Runs.{takes, answers}
use Rattle.session_table.specs.Calls.{stays}
use Rattle.session_table.specs.Seats.{Seat}
use Rattle.node_work.specs.declared.granted.Granted.{Granted}
use Rattle.node_work.specs.Acts.{Act, Session, Bridge, Acknowledged, Runs, next}
use Rattle.node_work.specs.Calling.{CallsAt}
use Rattle.node_work.specs.Held.Bridge.{Took}
use Rattle.node_work.specs.Held.Sessions.{SessionStep, Called, seat_at}
use Rattle.node_work.specs.View.{Place, HeldView}
use Rattle.node_work.specs.Working.{Returns}
use Rattle.node_work.proofs.Working.{runs_join}
use Rattle.node_clients.specs.Passing as passing
use Rattle.node_clients.specs.Serving as serving
use Rattle.node_clients.specs.Subscribing as subscribing
use Rattle.node_clients.specs.Unsubscribing as unsubscribing
use Rattle.broker_node.specs.declared.event.Event.{Event as NodeEvent}
use Rattle.broker_node.specs.Turns.{Decides}
use Rattle.law_runs.specs.StepAsking.{ComesAfter}
use Rattle.law_runs.proofs.Keeping.{calling_by, Property, IsOther, IsPlain, Joins, Keeps, none_some, k_returns, k_if, k_inturn}
use Rattle.law_runs.proofs.Requests.{are_removed}
use Rattle.law_runs.proofs.Splits.{head_is, tail_is, none_there, alone_is, left_by, splits}
use Rattle.law_runs.proofs.Work.{passes, drops, closes_after, grants, offers_after, unsubscribed, takes_forward}
use Rattle.law_runs.proofs.Events.{decides}
use Rattle.law_runs.proofs.Granting.{AreTold, are_told}
use Rattle.law_runs.proofs.Stores.{AreStores, removed_stores}

-- directly after the answer the offers begin
pub record Offering (client : List ℕ) (id at : ℕ) (grants : List Granted) (after : List Act) : Type 0 where
  pub offers : List Delivery
  pub rest : List Act
  pub is : after ≡ Acknowledged client id at grants offers ∷ rest

-- ---- a request, what was done for it, and what follows its answer
pub record IsSubscribe (p : Place) (mid : HeldView) (s call : SessionStep) (id : ℕ) (codes : List ℕ) (acts after : List Act) : Type 0 where
  pub subscribe : Subscribe
  pub now : ℕ
  pub room : Bool
  pub event : call.event ≡ takes (packets.Subscribe subscribe) now room
  pub identifier : subscribe.identifier ≡ id
  pub grants : List Granted
  pub told : AreTold p mid s.client (subscribing.identifier_of subscribe) subscribe.filters grants acts
  pub codes_are : codes ≡ subscribing.granted_reasons grants
  pub offering : s.reaction.end ≡ None → Offering s.client id s.at grants after

pub record IsUnsubscribe (call : SessionStep) (acts : List Act) : Type 0 where
  pub unsubscribe : Unsubscribe
  pub now : ℕ
  pub room : Bool
  pub event : call.event ≡ takes (packets.Unsubscribe unsubscribe) now room
  pub asked : call.reaction.ask ≡ Some asks.Unsubscribe
  pub stores : AreStores acts

pub record Requested (p : Place) (h : HeldView) (before : List Act) (s : SessionStep) (id : ℕ) (codes : List ℕ) (after : List Act) : Type 0 where
  pub call : SessionStep
  pub acts : List Act
  pub mid : HeldView
  pub comes : ComesAfter p h before s.client call acts mid
  pub kind : IsSubscribe p mid s call id codes acts after ⊎ IsUnsubscribe call acts

-- acts before it
requested_more : (p : Place) (h m : HeldView) (xs front : List Act) (s : SessionStep) (id : ℕ) (codes : List ℕ) (after : List Act) → Runs p h xs m → Requested p m front s id codes after → Requested p h (xs ++ front) s id codes after
requested_more p h m xs front s id codes after runs r =
    let one = Session (Called r.call) ∷ [] in
    record {
      call = r.call;
      acts = r.acts;
      mid = r.mid;
      comes = record {
        earlier = xs ++ r.comes.earlier;
        is = ap (λ zs. xs ++ zs) r.comes.is ∙ sym (append_assoc xs r.comes.earlier (Session (Called r.call) ∷ r.acts));
        runs = subst (λ zs. Runs p h zs r.mid) (sym (append_assoc xs r.comes.earlier one)) (runs_join p xs (r.comes.earlier ++ one) h m r.mid runs r.comes.runs);
        same = r.comes.same;
      };
      kind = r.kind;
    }

-- acts after it
subscribe_later : (p : Place) (mid : HeldView) (s call : SessionStep) (id : ℕ) (codes : List ℕ) (acts after ys : List Act) → IsSubscribe p mid s call id codes acts after → IsSubscribe p mid s call id codes acts (after ++ ys)
subscribe_later p mid s call id codes acts after ys d = record {
  subscribe = d.subscribe;
  now = d.now;
  room = d.room;
  event = d.event;
  identifier = d.identifier;
  grants = d.grants;
  told = d.told;
  codes_are = d.codes_are;
  offering = λ none. (let o = d.offering none in record { offers = o.offers; rest = o.rest ++ ys; is = ap (λ zs. zs ++ ys) o.is });
}

requested_later : (p : Place) (h : HeldView) (before : List Act) (s : SessionStep) (id : ℕ) (codes : List ℕ) (after ys : List Act) → Requested p h before s id codes after → Requested p h before s id codes (after ++ ys)
requested_later p h before s id codes after ys r = record {
  call = r.call;
  acts = r.acts;
  mid = r.mid;
  comes = r.comes;
  kind = elim r.kind [ inl d ↦ inl (subscribe_later p r.mid s r.call id codes r.acts after ys d) | inr d ↦ inr d ];
}

-- ---- the answers among acts
abbrev Answered : Property
Answered p h acts = (before after : List Act) (s : SessionStep) → acts ≡ before ++ Session (Called s) ∷ after → (id : ℕ) (codes : List ℕ) → s.event ≡ answers id codes → Requested p h before s id codes after

one_answered : (p : Place) (h : HeldView) (a : Act) → IsPlain a → Answered p h (a ∷ [])
one_answered p h a plain [] after s is id codes e = absurd (subst IsOther e (subst IsPlain (head_is is) plain))
one_answered p h a plain (b ∷ before) after s is id codes e = none_there before after (Session (Called s)) (tail_is is)

both_answered : (p : Place) (h mid : HeldView) (xs ys : List Act) → Runs p h xs mid → Answered p h xs → Answered p mid ys → Answered p h (xs ++ ys)
both_answered p h mid xs ys runs f g before after s is id codes e =
    elim (splits xs ys before after (Session (Called s)) is) [
      | inl r ↦ subst (Requested p h before s id codes) (sym r.2) (requested_later p h before s id codes r.0 ys (f before r.0 s r.1 id codes e))
      | inr r ↦ subst (λ zs. Requested p h zs s id codes after) (sym r.1) (requested_more p h mid xs r.0 s id codes after runs (g r.0 after s r.2 id codes e))
    ]

answered : Joins Answered
answered = record {
  none = λ p h before after s is. none_there before after (Session (Called s)) is;
  one = one_answered;
  both = both_answered;
}

-- the act that takes a message of a lane gives no codes
took_answered : (from number : ℕ) (m : Forward) (copies : List Copy) (lost : ℕ) (p : Place) (h : HeldView) → Answered p h (Bridge (Took from number m copies lost) ∷ [])
took_answered from number m copies lost p h before after s is id codes e =
    let a = Bridge (Took from number m copies lost) in absurd (let z : a ≡ Session (Called s) = alone_is a (Session (Called s)) before after is in cc)

-- a call that gives no codes
alone_answered : (p : Place) (h : HeldView) (s : SessionStep) → ((id : ℕ) (codes : List ℕ) → s.event ≡ answers id codes → ⊥) → Answered p h (Session (Called s) ∷ [])
alone_answered p h s not_codes [] after t is id codes e = absurd (not_codes id codes (let same : s ≡ t = (let z = head_is is in cc) in ap (λ (v : SessionStep). v.event) same ∙ e))
alone_answered p h s not_codes (b ∷ before) after t is id codes e = none_there before after (Session (Called t)) (tail_is is)

-- a call that gives the codes of a request before it, and what follows
amid_answered : (p : Place) (h mid : HeldView) (xs ys : List Act) (t : SessionStep) → Answered p h xs → Runs p h (xs ++ Session (Called t) ∷ []) mid → Answered p mid ys
    → ((id : ℕ) (codes : List ℕ) → t.event ≡ answers id codes → Requested p h xs t id codes ys) → Answered p h (xs ++ Session (Called t) ∷ ys)
amid_answered p h mid xs ys t f runs k g before after s is id codes e =
    elim (splits xs (Session (Called t) ∷ ys) before after (Session (Called s)) is) [
      | inl r ↦ subst (Requested p h before s id codes) (sym r.2) (requested_later p h before s id codes r.0 (Session (Called t) ∷ ys) (f before r.0 s r.1 id codes e))
      | inr r ↦ from_there r.0 r.1 r.2
    ]
  where
    from_there : (front : List Act) → before ≡ xs ++ front → Session (Called t) ∷ ys ≡ front ++ Session (Called s) ∷ after → Requested p h before s id codes after
    from_there [] b q =
        let same : t ≡ s = (let z = head_is q in cc) in
        subst (λ zs. Requested p h zs s id codes after) (sym (b ∙ append-nil xs))
        (subst (Requested p h xs s id codes) (tail_is q)
        (subst (λ (v : SessionStep). Requested p h xs v id codes ys) same (g id codes (ap (λ (v : SessionStep). v.event) same ∙ e))))
    from_there (x ∷ front) b q =
        let whole : before ≡ (xs ++ Session (Called t) ∷ []) ++ front = b ∙ ap (λ z. xs ++ z ∷ front) (sym (head_is q)) ∙ sym (append_assoc xs (Session (Called t) ∷ []) front) in
        subst (λ zs. Requested p h zs s id codes after) (sym whole)
        (requested_more p h mid (xs ++ Session (Called t) ∷ []) front s id codes after runs (k front after s (tail_is q) id codes e))

-- ---- after a call that takes a request: its operations, the call of its answer, and what follows
module _ (p : Place) (h mid mid2 : HeldView) (step : SessionStep) (ops : List Act) (client : List ℕ) (packet : ℕ) (given : List ℕ) where
  abbrev begun : List Act
  begun = Session (Called step) ∷ ops

  -- the request of an answer that the session gives
  abbrev Asks : Reaction → HeldView → List Act → Type 0
  Asks r mid3 rest = (t : SessionStep) → t.client ≡ client → t.at ≡ mid3.at → t.reaction ≡ r → (id : ℕ) (codes : List ℕ) → packet ≡ id → given ≡ codes → Requested p h begun t id codes rest

  answer_with : (mid3 : HeldView) (found : Option Seat) (r : Reaction) (call rest : List Act) → Runs p h begun mid2 → CallsAt client (λ at. answers packet given) stays found (Some r) p mid2 call → Runs p mid2 call mid3
      → Answered p h begun → Answered p mid3 rest → Asks r mid3 rest → Answered p h (begun ++ (call ++ rest))
  answer_with mid3 None r call rest all d calls f k request =
      let same : mid3 ≡ mid2 = subst (λ zs. Runs p mid2 zs mid3) d.1 calls in
      subst (λ zs. Answered p h (begun ++ (zs ++ rest))) (sym d.1) (both_answered p h mid2 begun rest all f (subst (λ v. Answered p v rest) same k))
  answer_with mid3 (Some seat) r call rest all d calls f k request =
      let c = calling_by client (λ at. answers packet given) stays seat r p mid2 call d in
      let one = Session (Called c.step) ∷ [] in
      let left : mid3 ≡ next mid2 (Session (Called c.step)) = left_by p mid2 mid3 (Session (Called c.step)) call c.acts_are calls in
      let at : c.step.at ≡ mid3.at = c.at_is ∙ ap (λ (v : HeldView). v.at) (sym left) in
      let runs : Runs p h (begun ++ one) mid3 = runs_join p begun one h mid2 mid3 all (subst (λ zs. Runs p mid2 zs mid3) c.acts_are calls) in
      subst (λ zs. Answered p h (begun ++ (zs ++ rest))) (sym c.acts_are)
      (amid_answered p h mid3 begun rest c.step f runs k
      (λ id codes e. (let same : answers packet given ≡ answers id codes = sym c.event_is ∙ e in request c.step c.client_is at c.reaction_is id codes (cc same) (cc same))))

  answer_after : (mid3 : HeldView) (found : Option Seat) (r : Reaction) (call rest : List Act) → Runs p h (Session (Called step) ∷ []) mid → Runs p mid ops mid2
      → CallsAt client (λ at. answers packet given) stays found (Some r) p mid2 call → Runs p mid2 call mid3 → Answered p h (Session (Called step) ∷ []) → Answered p mid ops → Answered p mid3 rest
      → Asks r mid3 rest → Answered p h (Session (Called step) ∷ (ops ++ (call ++ rest)))
  answer_after mid3 found r call rest first runs d calls f g k request =
      answer_with mid3 found r call rest (runs_join p (Session (Called step) ∷ []) ops h mid mid2 first runs) d calls (both_answered p h mid (Session (Called step) ∷ []) ops first f g) k request

-- ---- the offers
offering_by : (end : Option ℕ) (c : ℕ) (client : List ℕ) (packet : ℕ) (given : List Granted) (x : Unit {0}) (p : Place) (h : HeldView) (acts : List Act) → end ≡ None
    → subscribing.OffersAfter end c client packet given (Some x) p h acts → Offering client packet h.at given acts
offering_by (Some code) c client packet given x p h acts none d = none_some (sym none)
offering_by None c client packet given x p h acts none (offers, are, (inl d)) = none_some (sym d.0)
offering_by None c client packet given x p h acts none (offers, are, (inr (y, own, mid, rest, one, runs, more, is))) = record { offers = offers; rest = rest; is = is ∙ ap (λ zs. zs ++ rest) one.1 }

-- ---- a call that takes a packet, and what it asks for
record Takes (p : Place) (h : HeldView) (step : SessionStep) (client : List ℕ) (k : Packet) (mid : HeldView) : Type 0 where
  runs : Runs p h (Session (Called step) ∷ []) mid
  same : step.client ≡ client
  now : ℕ
  room : Bool
  event : step.event ≡ takes k now room

takes_alone : (p : Place) (h : HeldView) (step : SessionStep) (client : List ℕ) (k : Packet) (mid : HeldView) → Takes p h step client k mid → Answered p h (Session (Called step) ∷ [])
takes_alone p h step client k mid t = alone_answered p h step (λ id codes e. (let z : takes k t.now t.room ≡ answers id codes = sym t.event ∙ e in cc))

takes_then : (p : Place) (h : HeldView) (step : SessionStep) (client : List ℕ) (k : Packet) (mid : HeldView) (acts : List Act) → Takes p h step client k mid → Answered p mid acts → Answered p h (Session (Called step) ∷ acts)
takes_then p h step client k mid acts t f = both_answered p h mid (Session (Called step) ∷ []) acts t.runs (takes_alone p h step client k mid t) f

module _ (p : Place) (h mid : HeldView) (step : SessionStep) (c : ℕ) (client : List ℕ) where
  subscribes_after : (q : Subscribe) (x : Unit {0}) (acts : List Act) → Takes p h step client (packets.Subscribe q) mid → subscribing.ServesSubscribe c client q (Some x) p mid acts → Answered p h (Session (Called step) ∷ acts)
  subscribes_after q x acts t (inl d) = none_some (sym d.0)
  subscribes_after q x acts t (inr (all, ops, mid2, others, one, runs, (inl d), is)) = none_some (sym d.0)
  subscribes_after q x acts t (inr (all, ops, mid2, others, one, runs, (inr (r, call, mid3, rest, d, calls, more, is2)), is)) =
      let g = are_told client (subscribing.identifier_of q) q.filters [] all p mid ops one in
      subst (λ zs. Answered p h (Session (Called step) ∷ zs)) (sym (is ∙ ap (λ zs. ops ++ zs) is2))
      (answer_after p h mid mid2 step ops client q.identifier (subscribing.granted_reasons all) mid3 (seat_at client mid2) r call rest t.runs runs d calls (takes_alone p h step client (packets.Subscribe q) mid t)
      ((k_inturn Answered answered (subscribing.Grants client (subscribing.identifier_of q)) q.filters [] (grants Answered answered client (subscribing.identifier_of q))).of all p mid ops one)
      ((offers_after Answered answered r.end c client q.identifier all).of x p mid3 rest more)
      (λ s same at reaction id codes i j. record {
        call = step;
        acts = ops;
        mid = mid;
        comes = record { earlier = []; is = refl; runs = t.runs; same = t.same ∙ sym same };
        kind = inl (record {
          subscribe = q;
          now = t.now;
          room = t.room;
          event = t.event;
          identifier = i;
          grants = all;
          told = subst (λ w. AreTold p mid w (subscribing.identifier_of q) q.filters all ops) (sym same) (subst (λ gs. AreTold p mid client (subscribing.identifier_of q) q.filters gs ops) (sym g.all_is) g.are);
          codes_are = sym j;
          offering = λ none. subst (λ w. Offering w id s.at all rest) (sym same) (subst (λ n. Offering client n s.at all rest) i (subst (λ n. Offering client q.identifier n all rest) (sym at)
              (offering_by r.end c client q.identifier all x p mid3 rest (ap (λ (v : Reaction). v.end) (sym reaction) ∙ none) more)));
        });
      }))

  unsubscribes_after : (u : Unsubscribe) (x : Unit {0}) (acts : List Act) → Takes p h step client (packets.Unsubscribe u) mid → step.reaction.ask ≡ Some asks.Unsubscribe → unsubscribing.ServesUnsubscribe c client u (Some x) p mid acts → Answered p h (Session (Called step) ∷ acts)
  unsubscribes_after u x acts t ask (inl d) = none_some (sym d.0)
  unsubscribes_after u x acts t ask (inr (all, ops, mid2, others, one, runs, (inl d), is)) = none_some (sym d.0)
  unsubscribes_after u x acts t ask (inr (all, ops, mid2, others, one, runs, (inr (r, call, mid3, rest, d, calls, more, is2)), is)) =
      let g = are_removed client u.filters [] all p mid ops one in
      subst (λ zs. Answered p h (Session (Called step) ∷ zs)) (sym (is ∙ ap (λ zs. ops ++ zs) is2))
      (answer_after p h mid mid2 step ops client u.identifier all mid3 (seat_at client mid2) r call rest t.runs runs d calls (takes_alone p h step client (packets.Unsubscribe u) mid t)
      ((k_inturn Answered answered (unsubscribing.Unsubscribed client) u.filters [] (unsubscribed Answered answered client)).of all p mid ops one)
      ((closes_after Answered answered r.end c client).of x p mid3 rest more)
      (λ s same at reaction id codes i j. record {
        call = step;
        acts = ops;
        mid = mid;
        comes = record { earlier = []; is = refl; runs = t.runs; same = t.same ∙ sym same };
        kind = inr (record { unsubscribe = u; now = t.now; room = t.room; event = t.event; asked = ask; stores = removed_stores p mid client u.filters g.others ops g.are });
      }))

  subscribes_by : (k : Packet) (x : Unit {0}) (acts : List Act) → Takes p h step client k mid → serving.SubscribesBy c client k (Some x) p mid acts → Answered p h (Session (Called step) ∷ acts)
  subscribes_by (packets.Subscribe q) x acts t d = subscribes_after q x acts t d
  subscribes_by k x acts t d = takes_then p h step client k mid acts t (subst (Answered p mid) (sym d.1) (answered.none p mid))

  unsubscribes_by : (k : Packet) (x : Unit {0}) (acts : List Act) → Takes p h step client k mid → step.reaction.ask ≡ Some asks.Unsubscribe → serving.UnsubscribesBy c client k (Some x) p mid acts → Answered p h (Session (Called step) ∷ acts)
  unsubscribes_by (packets.Unsubscribe u) x acts t ask d = unsubscribes_after u x acts t ask d
  unsubscribes_by k x acts t ask d = takes_then p h step client k mid acts t (subst (Answered p mid) (sym d.1) (answered.none p mid))

  does_asked : (ask : Option Ask) (k : Packet) (room : Bool) (end : Option ℕ) (x : Unit {0}) (acts : List Act) → Takes p h step client k mid → step.reaction.ask ≡ ask → serving.DoesAsked ask c client k room end (Some x) p mid acts → Answered p h (Session (Called step) ∷ acts)
  does_asked None k room end x acts t e d = takes_then p h step client k mid acts t ((k_if Answered answered (serving.is_dropped k room end) passing.Drops (Returns tt) (drops Answered answered) (k_returns Answered answered tt)).of x p mid acts d)
  does_asked (Some (asks.Pass m)) k room end x acts t e d = takes_then p h step client k mid acts t ((passes Answered answered m).of x p mid acts d)
  does_asked (Some asks.Subscribe) k room end x acts t e d = subscribes_by k x acts t d
  does_asked (Some asks.Unsubscribe) k room end x acts t e d = unsubscribes_by k x acts t e d

  does_reaction : (k : Packet) (room : Bool) (r : Reaction) (x : Unit {0}) (acts : List Act) → Takes p h step client k mid → step.reaction ≡ r → serving.DoesReaction c client k room r (Some x) p mid acts → Answered p h (Session (Called step) ∷ acts)
  does_reaction k room r x acts t e (inl d) = none_some (sym d.0)
  does_reaction k room r x acts t e (inr (y, own, mid2, rest, one, runs, more, is)) =
      let first = does_asked r.ask k room r.end y own t (ap (λ (v : Reaction). v.ask) e) one in
      subst (λ zs. Answered p h (Session (Called step) ∷ zs)) (sym is)
      (both_answered p h mid2 (Session (Called step) ∷ own) rest (runs_join p (Session (Called step) ∷ []) own h mid mid2 t.runs runs) first ((closes_after Answered answered r.end c client).of x p mid2 rest more))

-- where the client has no session, nothing is asked
unserved : (c : ℕ) (client : List ℕ) (k : Packet) (room : Bool) (r : Reaction) (x : Unit {0}) (p : Place) (h : HeldView) (acts : List Act) → r.ask ≡ None → serving.DoesReaction c client k room r (Some x) p h acts → Answered p h acts
unserved c client k room r x p h acts none (inl d) = none_some (sym d.0)
unserved c client k room r x p h acts none (inr (y, own, mid, rest, one, runs, more, is)) =
    let dropped = serving.is_dropped k room r.end in
    let d = subst (λ a. serving.DoesAsked a c client k room r.end (Some y) p h own) none one in
    subst (Answered p h) (sym is) (both_answered p h mid own rest runs ((k_if Answered answered dropped passing.Drops (Returns tt) (drops Answered answered) (k_returns Answered answered tt)).of y p h own d)
    ((closes_after Answered answered r.end c client).of x p mid rest more))

serves_at : (c : ℕ) (client : List ℕ) (k : Packet) (room : Bool) (found : Option Seat) (r : Reaction) (x : Unit {0}) (p : Place) (h mid : HeldView) (own rest : List Act) → CallsAt client (λ at. takes k at room) stays found (Some r) p h own
    → Runs p h own mid → serving.DoesReaction c client k room r (Some x) p mid rest → Answered p h (own ++ rest)
serves_at c client k room None r x p h mid own rest d runs more =
    let same_reaction : r ≡ nothing = (let z = d.0 in cc) in
    let ask : r.ask ≡ None = ap (λ (v : Reaction). v.ask) same_reaction in
    let same : mid ≡ h = subst (λ zs. Runs p h zs mid) d.1 runs in
    subst (λ zs. Answered p h (zs ++ rest)) (sym d.1) (subst (λ v. Answered p v rest) same (unserved c client k room r x p mid rest ask more))
serves_at c client k room (Some seat) r x p h mid own rest d runs more =
    let s = calling_by client (λ at. takes k at room) stays seat r p h own d in
    subst (λ zs. Answered p h (zs ++ rest)) (sym s.acts_are)
    (does_reaction p h mid s.step c client k room r x rest (record { runs = subst (λ zs. Runs p h zs mid) s.acts_are runs; same = s.client_is; now = h.at; room = room; event = s.event_is }) s.reaction_is more)

serves_in : (c : ℕ) (client : List ℕ) (k : Packet) (room : Bool) (x : Unit {0}) (p : Place) (h : HeldView) (acts : List Act) → serving.ServesIn c client k room (Some x) p h acts → Answered p h acts
serves_in c client k room x p h acts (inl d) = none_some (sym d.0)
serves_in c client k room x p h acts (inr (r, own, mid, rest, one, runs, more, is)) = subst (Answered p h) (sym is) (serves_at c client k room (seat_at client h) r x p h mid own rest one runs more)

serves : (c : ℕ) (client : List ℕ) (k : Packet) → Keeps Answered (serving.ServesPacket c client k)
serves c client k = record { of = λ x p h acts d. serves_in c client k (serving.room_for client k h) x p h acts d }

-- in every step
pub answers_asked : (e : NodeEvent) (p : Place) (h : HeldView) (acts : List Act) → Decides e (Some tt) p h acts → (before after : List Act) (s : SessionStep) → acts ≡ before ++ Session (Called s) ∷ after
    → (id : ℕ) (codes : List ℕ) → s.event ≡ answers id codes → Requested p h before s id codes after
answers_asked e p h acts does before after s is id codes event = (decides Answered answered serves (takes_forward Answered answered took_answered) e).of tt p h acts does before after s is id codes event
