-- Directly after a call that takes a SUBSCRIBE or an UNSUBSCRIBE stands what is done for it, and its answer.
use Rattle.std.proofs.Common.{◌≡◌, ◌⊎◌, inl, inr, ℕ, Bool, true, false, cond, List, [], ◌∷◌, ◌++◌, Option, Some, None, refl, sym, ap, ◌∙◌, subst, append_assoc}
use Rattle.std.proofs.lemmas.List.{append-nil}
use Rattle.std.specs.FinMap as map
use Rattle.law_maps.proofs.Texts.{get_inserted}
use Rattle.bridge_frames.specs.declared.forward.Forward.{Forward}
use Rattle.bridge_routes.specs.declared.plain.PlainCopy.{PlainCopy as Copy}
use Rattle.mqtt_packets.specs.declared.packet.Packet.{Packet}
use Rattle.mqtt_packets.specs.declared.packet.Packet.TheVariants as packets
use Rattle.mqtt_packets.specs.declared.subscribe.Subscribe.{Subscribe}
use Rattle.mqtt_packets.specs.declared.subscribe.SubscribeFilter.{SubscribeFilter}
use Rattle.mqtt_packets.specs.declared.unsubscribe.Unsubscribe.{Unsubscribe}
use Rattle.mqtt_topics.specs.Topics.{IsFilter}
use Rattle.mqtt_sessions.specs.declared.reaction.Ask.{Ask}
use Rattle.mqtt_sessions.specs.declared.reaction.Ask.TheVariants as asks
use Rattle.mqtt_sessions.specs.Reaction.{Reaction}
use Rattle.law_sessions.specs.Runs.{takes, answers}
use Rattle.session_table.specs.Calls.{stays}
use Rattle.session_table.specs.Seats.{Seat}
use Rattle.subscription_set.specs.Standing.{any_of}
use Rattle.node_work.specs.declared.granted.Granted.{Granted}
use Rattle.node_work.specs.Acts.{Act, Store, Made, Session, Bridge, Runs, next}
use Rattle.node_work.specs.Calling.{CallsAt}
use Rattle.node_work.specs.Doings.{MakesRemove}
use Rattle.node_work.specs.Held.Bridge.{Took}
use Rattle.node_work.specs.Held.Making.{number_at_end, removal}
use Rattle.node_work.specs.Held.Sessions.{SessionStep, Called, seat_at}
use Rattle.node_work.specs.View.{Place, HeldView}
use Rattle.node_work.specs.Working.{Returns, If, Then, InTurn}
use Rattle.node_clients.specs.Serving as serving
use Rattle.node_clients.specs.Subscribing as subscribing
use Rattle.node_clients.specs.Unsubscribing as unsubscribing
use Rattle.node_clients.proofs.Determined.{runs_determined}
use Rattle.broker_node.specs.declared.event.Event.{Event as NodeEvent}
use Rattle.broker_node.specs.Turns.{Decides}
use Rattle.law_runs.proofs.Keeping.{Property, IsOther, IsPlain, Joins, Keeps, calling_by, none_some}
use Rattle.law_runs.proofs.Passing.{numbered}
use Rattle.law_runs.proofs.Requests.{Given}
use Rattle.law_runs.proofs.Splits.{head_is, tail_is, none_there, alone_is, left_by, splits, runs_split}
use Rattle.law_runs.proofs.Work.{does_reaction, takes_forward}
use Rattle.law_runs.proofs.Events.{decides}
use Rattle.law_runs.proofs.Granting.{IsTold, AreTold, are_told}
use Rattle.law_runs.proofs.Stores.{AreStores, still}

-- ---- the texts of an UNSUBSCRIBE, each by what the node holds
abbrev pub IsTextTold : Place → HeldView → List ℕ → List ℕ → ℕ → List Act → Type 0
IsTextTold p h client text code acts =
    ((¬ IsFilter text) × (code ≡ 143) × (acts ≡ []))
    ⊎ (IsFilter text × (any_of client (Some text) h.store.subscriptions ≡ false) × (code ≡ 17) × (acts ≡ []))
    ⊎ (IsFilter text × (any_of client (Some text) h.store.subscriptions ≡ true) × (code ≡ 0) × (acts ≡ Store (Made (removal p.id client (Some text) h.store)) ∷ []))

abbrev pub AreTextsTold : Place → HeldView → List ℕ → List (List ℕ) → List ℕ → List Act → Type 0
AreTextsTold p h client [] codes acts = (codes ≡ []) × (acts ≡ [])
AreTextsTold p h client (text ∷ texts) codes acts =
    (code : ℕ) × (others : List ℕ) × (own : List Act) × (mid : HeldView) × (rest : List Act) × (codes ≡ code ∷ others) × (acts ≡ own ++ rest)
    × IsTextTold p h client text code own × Runs p h own mid × AreTextsTold p mid client texts others rest

text_by : (client text : List ℕ) (stands : Bool) (code : ℕ) (p : Place) (h : HeldView) (acts : List Act) → IsFilter text → any_of client (Some text) h.store.subscriptions ≡ stands
    → Then (λ out p h acts. If stands (Then (MakesRemove client (Some text)) (λ _. Returns true)) (Returns false) out p h acts) (λ stood. Returns (cond stood 0 17)) (Some code) p h acts → IsTextTold p h client text code acts
text_by client text stands code p h acts is e (inl d) = none_some (sym d.0)
text_by client text true code p h acts is e (inr (y, own, mid, rest, (inl one), runs, more, all)) = none_some (sym one.0)
text_by client text true code p h acts is e (inr (y, own, mid, rest, (inr (x, made, left, none, one, ran, also, same)), runs, more, all)) =
    let yes : y ≡ true = (let z = also.0 in cc) in
    let code_is : code ≡ cond y 0 17 = (let z = more.0 in cc) in
    let alone = numbered (number_at_end p.id h) x (Store (Made (removal p.id client (Some text) h.store))) made one in
    inr (inr (is, e, code_is ∙ ap (λ b. cond b 0 17) yes, all ∙ (λ i. same i ++ more.1 i) ∙ append-nil (made ++ none) ∙ (λ i. alone i ++ also.1 i)))
text_by client text false code p h acts is e (inr (y, own, mid, rest, one, runs, more, all)) =
    let nope : y ≡ false = (let z = one.0 in cc) in
    let code_is : code ≡ cond y 0 17 = (let z = more.0 in cc) in
    inr (inl (is, e, code_is ∙ ap (λ b. cond b 0 17) nope, all ∙ (λ i. one.1 i ++ more.1 i)))

text_told : (client text : List ℕ) (code : ℕ) (p : Place) (h : HeldView) (acts : List Act) → unsubscribing.Unsubscribed client text (Some code) p h acts → IsTextTold p h client text code acts
text_told client text code p h acts (inl d) = text_by client text (any_of client (Some text) h.store.subscriptions) code p h acts d.0 refl d.1
text_told client text code p h acts (inr d) = inl (d.0, (let z = d.1.0 in cc), d.1.1)

texts_told : (client : List ℕ) (texts : List (List ℕ)) (given all : List ℕ) (p : Place) (h : HeldView) (acts : List Act) → InTurn (unsubscribing.Unsubscribed client) texts given (Some all) p h acts
    → Given given all (λ codes. AreTextsTold p h client texts codes acts)
texts_told client [] given all p h acts d = record { others = []; all_is = (let same : all ≡ given = (let z = d.0 in cc) in same ∙ sym (append-nil given)); are = (refl, d.1) }
texts_told client (text ∷ texts) given all p h acts (inl d) = none_some (sym d.0)
texts_told client (text ∷ texts) given all p h acts (inr (code, own, mid, rest, one, runs, more, is)) =
    let r = texts_told client texts (given ++ code ∷ []) all p mid rest more in
    record {
      others = code ∷ r.others;
      all_is = r.all_is ∙ append_assoc given (code ∷ []) r.others;
      are = (code, r.others, own, mid, rest, refl, is, text_told client text code p h own one, runs, r.are);
    }

-- ---- what is done for either are operations alone
stores_both : (xs ys : List Act) → AreStores xs → AreStores ys → AreStores (xs ++ ys)
stores_both [] ys a b = b
stores_both (x ∷ xs) ys a b = (a.0, stores_both xs ys a.1 b)

told_stores : (p : Place) (h : HeldView) (client : List ℕ) (identifier : ℕ) (f : SubscribeFilter) (g : Granted) (acts : List Act) → IsTold p h client identifier f g acts → AreStores acts
told_stores p h client identifier f g acts (inl d) = subst AreStores (sym d.2) tt
told_stores p h client identifier f g acts (inr (inl d)) = subst AreStores (sym d.4) tt
told_stores p h client identifier f g acts (inr (inr d)) = subst AreStores (sym d.3) (tt, tt)

pub filters_stores : (p : Place) (h : HeldView) (client : List ℕ) (identifier : ℕ) (fs : List SubscribeFilter) (gs : List Granted) (acts : List Act) → AreTold p h client identifier fs gs acts → AreStores acts
filters_stores p h client identifier [] gs acts d = subst AreStores (sym d.1) tt
filters_stores p h client identifier (f ∷ fs) gs acts (g, others, own, mid, rest, is, all, one, ran, more) =
    subst AreStores (sym all) (stores_both own rest (told_stores p h client identifier f g own one) (filters_stores p mid client identifier fs others rest more))

text_stores : (p : Place) (h : HeldView) (client text : List ℕ) (code : ℕ) (acts : List Act) → IsTextTold p h client text code acts → AreStores acts
text_stores p h client text code acts (inl d) = subst AreStores (sym d.2) tt
text_stores p h client text code acts (inr (inl d)) = subst AreStores (sym d.3) tt
text_stores p h client text code acts (inr (inr d)) = subst AreStores (sym d.3) (tt, tt)

pub texts_stores : (p : Place) (h : HeldView) (client : List ℕ) (texts : List (List ℕ)) (codes : List ℕ) (acts : List Act) → AreTextsTold p h client texts codes acts → AreStores acts
texts_stores p h client [] codes acts d = subst AreStores (sym d.1) tt
texts_stores p h client (text ∷ texts) codes acts (code, others, own, mid, rest, is, all, one, ran, more) =
    subst AreStores (sym all) (stores_both own rest (text_stores p h client text code own one) (texts_stores p mid client texts others rest more))

-- ---- a request, what is done for it, and its answer
pub record IsAnswered (s : SessionStep) (id : ℕ) (codes : List ℕ) (acts after : List Act) : Type 0 where
  pub answer : SessionStep
  pub rest : List Act
  pub is : after ≡ acts ++ Session (Called answer) ∷ rest
  pub client : answer.client ≡ s.client
  pub event : answer.event ≡ answers id codes

pub record IsSubscribed (p : Place) (mid : HeldView) (s : SessionStep) (q : Subscribe) (after : List Act) : Type 0 where
  pub grants : List Granted
  pub acts : List Act
  pub told : AreTold p mid s.client (subscribing.identifier_of q) q.filters grants acts
  pub answered : IsAnswered s q.identifier (subscribing.granted_reasons grants) acts after

pub record IsUnsubscribed (p : Place) (mid : HeldView) (s : SessionStep) (u : Unsubscribe) (after : List Act) : Type 0 where
  pub codes : List ℕ
  pub acts : List Act
  pub told : AreTextsTold p mid s.client u.filters codes acts
  pub answered : IsAnswered s u.identifier codes acts after

abbrev pub SubscribedBy : Place → HeldView → SessionStep → Packet → List Act → Type 0
SubscribedBy p mid s (packets.Subscribe q) after = IsSubscribed p mid s q after
SubscribedBy p mid s k after = Unit {0}

abbrev pub UnsubscribedBy : Place → HeldView → SessionStep → Packet → List Act → Type 0
UnsubscribedBy p mid s (packets.Unsubscribe u) after = IsUnsubscribed p mid s u after
UnsubscribedBy p mid s k after = Unit {0}

abbrev pub DoneBy : Option Ask → Place → HeldView → SessionStep → Packet → List Act → Type 0
DoneBy None p mid s k after = Unit {0}
DoneBy (Some (asks.Pass m)) p mid s k after = Unit {0}
DoneBy (Some asks.Subscribe) p mid s k after = SubscribedBy p mid s k after
DoneBy (Some asks.Unsubscribe) p mid s k after = UnsubscribedBy p mid s k after

answered_later : (s : SessionStep) (id : ℕ) (codes : List ℕ) (acts after ys : List Act) → IsAnswered s id codes acts after → IsAnswered s id codes acts (after ++ ys)
answered_later s id codes acts after ys d = record {
  answer = d.answer;
  rest = d.rest ++ ys;
  is = ap (λ zs. zs ++ ys) d.is ∙ append_assoc acts (Session (Called d.answer) ∷ d.rest) ys;
  client = d.client;
  event = d.event;
}

subscribed_later : (k : Packet) (p : Place) (mid : HeldView) (s : SessionStep) (after ys : List Act) → SubscribedBy p mid s k after → SubscribedBy p mid s k (after ++ ys)
subscribed_later (packets.Subscribe q) p mid s after ys d = record { grants = d.grants; acts = d.acts; told = d.told; answered = answered_later s q.identifier (subscribing.granted_reasons d.grants) d.acts after ys d.answered }
subscribed_later _ p mid s after ys d = tt

unsubscribed_later : (k : Packet) (p : Place) (mid : HeldView) (s : SessionStep) (after ys : List Act) → UnsubscribedBy p mid s k after → UnsubscribedBy p mid s k (after ++ ys)
unsubscribed_later (packets.Unsubscribe u) p mid s after ys d = record { codes = d.codes; acts = d.acts; told = d.told; answered = answered_later s u.identifier d.codes d.acts after ys d.answered }
unsubscribed_later _ p mid s after ys d = tt

done_later : (ask : Option Ask) (k : Packet) (p : Place) (mid : HeldView) (s : SessionStep) (after ys : List Act) → DoneBy ask p mid s k after → DoneBy ask p mid s k (after ++ ys)
done_later None k p mid s after ys d = tt
done_later (Some (asks.Pass m)) k p mid s after ys d = tt
done_later (Some asks.Subscribe) k p mid s after ys d = subscribed_later k p mid s after ys d
done_later (Some asks.Unsubscribe) k p mid s after ys d = unsubscribed_later k p mid s after ys d

-- ---- among acts
abbrev Follows : Place → HeldView → SessionStep → List Act → Type 0
Follows p held s after = (k : Packet) (now : ℕ) (room : Bool) → s.event ≡ takes k now room → DoneBy s.reaction.ask p (next held (Session (Called s))) s k after

abbrev Followed : Property
Followed p h acts = (before after : List Act) (s : SessionStep) (held : HeldView) → acts ≡ before ++ Session (Called s) ∷ after → Runs p h before held → Follows p held s after

one_followed : (p : Place) (h : HeldView) (a : Act) → IsPlain a → Followed p h (a ∷ [])
one_followed p h a plain before after s held is ran k now room e =
    absurd (subst IsOther e (subst IsPlain (alone_is a (Session (Called s)) before after is) plain))

both_followed : (p : Place) (h mid : HeldView) (xs ys : List Act) → Runs p h xs mid → Followed p h xs → Followed p mid ys → Followed p h (xs ++ ys)
both_followed p h mid xs ys runs f g before after s held is ran k now room e =
    elim (splits xs ys before after (Session (Called s)) is) [
      | inl r ↦ subst (DoneBy s.reaction.ask p (next held (Session (Called s))) s k) (sym r.2) (done_later s.reaction.ask k p (next held (Session (Called s))) s r.0 ys (f before r.0 s held r.1 ran k now room e))
      | inr r ↦ (
          let parts = runs_split p xs r.0 h held (subst (λ zs. Runs p h zs held) r.1 ran) in
          let same : parts.0 ≡ mid = runs_determined p xs h parts.0 mid parts.1 runs in
          g r.0 after s held r.2 (subst (λ v. Runs p v r.0 held) same parts.2) k now room e)
    ]

followed : Joins Followed
followed = record { none = λ p h before after s held is ran. none_there before after (Session (Called s)) is; one = one_followed; both = both_followed }

-- the act that takes a message of a lane is no call
took_followed : (from number : ℕ) (m : Forward) (copies : List Copy) (lost : ℕ) (p : Place) (h : HeldView) → Followed p h (Bridge (Took from number m copies lost) ∷ [])
took_followed from number m copies lost p h before after s held is ran =
    let a = Bridge (Took from number m copies lost) in absurd (let z : a ≡ Session (Called s) = alone_is a (Session (Called s)) before after is in cc)

-- nor does the call of an answer take a packet
answers_followed : (p : Place) (h : HeldView) (s : SessionStep) (id : ℕ) (codes : List ℕ) → s.event ≡ answers id codes → Followed p h (Session (Called s) ∷ [])
answers_followed p h s id codes e before after t held is ran k now room taken =
    let same : s ≡ t = (let z = alone_is (Session (Called s)) (Session (Called t)) before after is in cc) in
    absurd (let z : answers id codes ≡ takes k now room = sym e ∙ ap (λ (v : SessionStep). v.event) same ∙ taken in cc)

-- a call with what follows it
call_followed : (p : Place) (h mid : HeldView) (s : SessionStep) (rest : List Act) → mid ≡ next h (Session (Called s)) → Follows p h s rest → Followed p mid rest → Followed p h (Session (Called s) ∷ rest)
call_followed p h mid s rest left f more [] after t held is ran =
    let same : s ≡ t = (let z = head_is is in cc) in
    subst (λ (v : HeldView). Follows p v t after) (sym ran) (subst (λ (v : SessionStep). Follows p h v after) same (subst (Follows p h s) (tail_is is) f))
call_followed p h mid s rest left f more (b ∷ before) after t held is ran =
    let same : ran.0 ≡ mid = ran.1.1 ∙ ap (next h) (sym (head_is is)) ∙ sym left in
    more before after t held (tail_is is) (subst (λ v. Runs p v before held) same ran.2)

-- ---- a packet of a client whose session is there
abbrev HasSeat : List ℕ → HeldView → Type 0
HasSeat client h = (seat : Seat) × (seat_at client h ≡ Some seat)

-- the call of its answer
answer_at : (s : SessionStep) (client : List ℕ) (id : ℕ) (codes : List ℕ) (p : Place) (h : HeldView) (found : Option Seat) (seat : Seat) (r : Reaction) (ops call rest : List Act) → s.client ≡ client → found ≡ Some seat
    → CallsAt client (λ at. answers id codes) stays found (Some r) p h call → IsAnswered s id codes ops (ops ++ (call ++ rest))
answer_at s client id codes p h found seat r ops call rest same is d =
    let c = calling_by client (λ at. answers id codes) stays seat r p h call (subst (λ o. CallsAt client (λ at. answers id codes) stays o (Some r) p h call) is d) in
    record { answer = c.step; rest = rest; is = ap (λ zs. ops ++ (zs ++ rest)) c.acts_are; client = c.client_is ∙ sym same; event = c.event_is }

module _ (p : Place) (mid : HeldView) (s : SessionStep) (c : ℕ) (client : List ℕ) (same : s.client ≡ client) (has : HasSeat client mid) where
  -- it stays while operations are made
  seat_still : (mid2 : HeldView) (ops : List Act) → AreStores ops → Runs p mid ops mid2 → seat_at client mid2 ≡ Some has.0
  seat_still mid2 ops stores runs = ap (λ m. map.get m client) (still p mid mid2 ops stores runs) ∙ has.1

  subscribed : (q : Subscribe) (x : Unit {0}) (acts : List Act) → subscribing.ServesSubscribe c client q (Some x) p mid acts → IsSubscribed p mid s q acts
  subscribed q x acts (inl d) = none_some (sym d.0)
  subscribed q x acts (inr (all, ops, mid2, others, one, runs, (inl d), is)) = none_some (sym d.0)
  subscribed q x acts (inr (all, ops, mid2, others, one, runs, (inr (r, call, mid3, rest, calls, ran, more, last)), is)) =
      let t = are_told client (subscribing.identifier_of q) q.filters [] all p mid ops one in
      let told : AreTold p mid client (subscribing.identifier_of q) q.filters all ops = subst (λ gs. AreTold p mid client (subscribing.identifier_of q) q.filters gs ops) (sym t.all_is) t.are in
      let stores = filters_stores p mid client (subscribing.identifier_of q) q.filters all ops told in
      record {
        grants = all;
        acts = ops;
        told = subst (λ cl. AreTold p mid cl (subscribing.identifier_of q) q.filters all ops) (sym same) told;
        answered = subst (IsAnswered s q.identifier (subscribing.granted_reasons all) ops) (sym (is ∙ ap (λ zs. ops ++ zs) last))
            (answer_at s client q.identifier (subscribing.granted_reasons all) p mid2 (seat_at client mid2) has.0 r ops call rest same (seat_still mid2 ops stores runs) calls);
      }

  unsubscribed : (u : Unsubscribe) (x : Unit {0}) (acts : List Act) → unsubscribing.ServesUnsubscribe c client u (Some x) p mid acts → IsUnsubscribed p mid s u acts
  unsubscribed u x acts (inl d) = none_some (sym d.0)
  unsubscribed u x acts (inr (all, ops, mid2, others, one, runs, (inl d), is)) = none_some (sym d.0)
  unsubscribed u x acts (inr (all, ops, mid2, others, one, runs, (inr (r, call, mid3, rest, calls, ran, more, last)), is)) =
      let t = texts_told client u.filters [] all p mid ops one in
      let told : AreTextsTold p mid client u.filters all ops = subst (λ cs. AreTextsTold p mid client u.filters cs ops) (sym t.all_is) t.are in
      let stores = texts_stores p mid client u.filters all ops told in
      record {
        codes = all;
        acts = ops;
        told = subst (λ cl. AreTextsTold p mid cl u.filters all ops) (sym same) told;
        answered = subst (IsAnswered s u.identifier all ops) (sym (is ∙ ap (λ zs. ops ++ zs) last))
            (answer_at s client u.identifier all p mid2 (seat_at client mid2) has.0 r ops call rest same (seat_still mid2 ops stores runs) calls);
      }

  subscribed_by : (k : Packet) (x : Unit {0}) (acts : List Act) → serving.SubscribesBy c client k (Some x) p mid acts → SubscribedBy p mid s k acts
  subscribed_by (packets.Subscribe q) x acts d = subscribed q x acts d
  subscribed_by _ x acts d = tt

  unsubscribed_by : (k : Packet) (x : Unit {0}) (acts : List Act) → serving.UnsubscribesBy c client k (Some x) p mid acts → UnsubscribedBy p mid s k acts
  unsubscribed_by (packets.Unsubscribe u) x acts d = unsubscribed u x acts d
  unsubscribed_by _ x acts d = tt

  done_asked : (ask : Option Ask) (k : Packet) (room : Bool) (end : Option ℕ) (x : Unit {0}) (acts : List Act) → serving.DoesAsked ask c client k room end (Some x) p mid acts → DoneBy ask p mid s k acts
  done_asked None k room end x acts d = tt
  done_asked (Some (asks.Pass m)) k room end x acts d = tt
  done_asked (Some asks.Subscribe) k room end x acts d = subscribed_by k x acts d
  done_asked (Some asks.Unsubscribe) k room end x acts d = unsubscribed_by k x acts d

  done_reaction : (k : Packet) (room : Bool) (r : Reaction) (x : Unit {0}) (acts : List Act) → serving.DoesReaction c client k room r (Some x) p mid acts → DoneBy r.ask p mid s k acts
  done_reaction k room r x acts (inl d) = none_some (sym d.0)
  done_reaction k room r x acts (inr (y, own, mid2, rest, one, runs, more, is)) =
      subst (DoneBy r.ask p mid s k) (sym is) (done_later r.ask k p mid s own rest (done_asked r.ask k room r.end y own one))

serves_at : (c : ℕ) (client : List ℕ) (k : Packet) (room : Bool) (found : Option Seat) (r : Reaction) (x : Unit {0}) (p : Place) (h mid : HeldView) (own rest : List Act) → CallsAt client (λ at. takes k at room) stays found (Some r) p h own
    → Runs p h own mid → serving.DoesReaction c client k room r (Some x) p mid rest → Followed p h (own ++ rest)
serves_at c client k room None r x p h mid own rest d runs more =
    let same : mid ≡ h = subst (λ xs. Runs p h xs mid) d.1 runs in
    subst (λ xs. Followed p h (xs ++ rest)) (sym d.1) (subst (λ v. Followed p v rest) same ((does_reaction Followed followed answers_followed c client k room r).of x p mid rest more))
serves_at c client k room (Some seat) r x p h mid own rest d runs more =
    let event : ℕ → _ = λ at. takes k at room in
    let s = calling_by client event stays seat r p h own d in
    let a = Session (Called s.step) in
    let left : mid ≡ next h a = left_by p h mid a own s.acts_are runs in
    let after : Seat = record { session = s.step.after; connection = s.step.on } in
    let has : HasSeat client mid =
    (after, ap (λ (v : HeldView). map.get v.sessions client) left ∙ ap (map.get (map.insert h.sessions s.step.client after)) (sym s.client_is) ∙ get_inserted h.sessions s.step.client after) in
    let done : DoneBy r.ask p mid s.step k rest = done_reaction p mid s.step c client s.client_is has k room r x rest more in
    let follows : Follows p h s.step rest = λ k' now' room' e. (
    let same : k ≡ k' = (let z : takes k h.at room ≡ takes k' now' room' = sym s.event_is ∙ e in cc) in
    subst (λ y. DoneBy s.step.reaction.ask p (next h a) s.step y rest) same
    (subst (λ v. DoneBy s.step.reaction.ask p v s.step k rest) left (subst (λ (v : Reaction). DoneBy v.ask p mid s.step k rest) (sym s.reaction_is) done))) in
    subst (λ xs. Followed p h (xs ++ rest)) (sym s.acts_are) (call_followed p h mid s.step rest left follows ((does_reaction Followed followed answers_followed c client k room r).of x p mid rest more))

serves_in : (c : ℕ) (client : List ℕ) (k : Packet) (room : Bool) (x : Unit {0}) (p : Place) (h : HeldView) (acts : List Act) → serving.ServesIn c client k room (Some x) p h acts → Followed p h acts
serves_in c client k room x p h acts (inl d) = none_some (sym d.0)
serves_in c client k room x p h acts (inr (r, own, mid, rest, one, runs, more, is)) = subst (Followed p h) (sym is) (serves_at c client k room (seat_at client h) r x p h mid own rest one runs more)

serves : (c : ℕ) (client : List ℕ) (k : Packet) → Keeps Followed (serving.ServesPacket c client k)
serves c client k = record { of = λ x p h acts d. serves_in c client k (serving.room_for client k h) x p h acts d }

-- in every step
pub requests_done : (e : NodeEvent) (p : Place) (h held : HeldView) (acts : List Act) → Decides e (Some tt) p h acts → (before after : List Act) (s : SessionStep) → acts ≡ before ++ Session (Called s) ∷ after → Runs p h before held
    → (k : Packet) (now : ℕ) (room : Bool) → s.event ≡ takes k now room → DoneBy s.reaction.ask p (next held (Session (Called s))) s k after
requests_done e p h held acts d before after s is ran k now room taken =
    (decides Followed followed serves (takes_forward Followed followed took_followed) e).of tt p h acts d before after s held is ran k now room taken
