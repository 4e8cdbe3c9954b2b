-- What a SUBACK tells exactly, and what is offered after it.
use Rattle.std.proofs.Common.{◌≡◌, ◌⊎◌, inl, inr, ℕ, Bool, true, false, cond, is_some, List, [], ◌∷◌, ◌++◌, Option, Some, None, refl, sym, ap, ◌∙◌, subst, append_assoc, flat_map, map as map_list}
use Rattle.mqtt_message.specs.declared.delivery.Delivery.{Delivery}
use Rattle.mqtt_message.specs.Identifiers.{identifiers_of}
use Rattle.mqtt_packets.specs.declared.packet.Packet.{Packet}
use Rattle.mqtt_packets.specs.declared.subscribe.SubscribeFilter.{SubscribeFilter}
use Rattle.mqtt_sessions.specs.declared.link.Asked.{Asked as Waiting}
use Rattle.mqtt_sessions.specs.declared.link.Asked.TheVariants.{Subscribing, Unsubscribing}
use Rattle.mqtt_sessions.specs.Answers.{fits, suback}
use Rattle.mqtt_sessions.specs.Asking.{answer_on, asked_of}
use Rattle.mqtt_sessions.specs.Reaction.{Reaction, Comes}
use Rattle.mqtt_sessions.specs.State.{Link, State as SessionState}
use Rattle.law_sessions.specs.Replies.{reaction_of, reply_codes}
use Rattle.law_sessions.specs.Runs.{answers, Reacts}
use Rattle.law_sessions.proofs.ReplyLaws.{keeps_codes}
use Rattle.replica_store.specs.declared.operation.Operation.{Operation}
use Rattle.replica_store.specs.Operations.{dot_of, HaveOwnDots}
use Rattle.replica_store.specs.StateOf.{IsStateOf}
use Rattle.node_work.specs.declared.granted.Asked.{Asked}
use Rattle.node_work.specs.declared.granted.Granted.{Granted}
use Rattle.node_work.specs.Acts.{Act, Session, Acknowledged, Runs, next}
use Rattle.node_work.specs.Held.Sessions.{SessionStep, Called, IsCall, seat_at}
use Rattle.node_work.specs.View.{Place, HeldView}
use Rattle.node_work.proofs.Working.{runs_join}
use Rattle.node_clients.specs.Subscribing.{identifier_of, granted_reasons, granted, stands, wants_retained}
use Rattle.law_runs.specs.StepPublishing.{AnswersWith}
use Rattle.law_runs.proofs.Codes.{unsubscribing_after}
use Rattle.law_runs.proofs.Splits.{left_by, runs_split}
use Rattle.node_clients.proofs.Determined.{runs_determined}
use Rattle.law_maps.proofs.Texts.{get_inserted}
use Rattle.std.specs.FinMap as map
use Rattle.session_table.specs.Seats.{Seat}
use Rattle.cluster_play.specs.Worlds.{World}
use Rattle.cluster_play.specs.Runs.{Played}
use Rattle.cluster_play.specs.Histories.{Reached, site, acts_of, taken_amid, operations_amid}
use Rattle.cluster_play.specs.Answering.{IsOfferedBy, AreOfferedBy, AcknowledgesFilters, BeginsWithOffers}
use Rattle.cluster_play.proofs.Amid.{amid_acts}
use Rattle.cluster_play.proofs.Offering.{answers_as_sent}
use Rattle.cluster_play.proofs.Operations.{own_some}
use Rattle.cluster_play.proofs.Showing.{node_holds_amid}
use Rattle.law_runs.specs.Staying.{CallsSession}
use Rattle.law_runs.proofs.Staying.{CalledAt, called_at}
use Rattle.law_runs.specs.Filters.{FilterReply, AreFiltersAnswered}
use Rattle.law_runs.specs.Subacks.{AnswersEachFilter, SaysInUse, CodesAreExact, IsOfferedFor, AreOfferedFor, with_call, IsOfferedAfter, OffersAreExact}
use Rattle.law_runs.proofs.Granting.{IsTold, AreTold}
use Rattle.law_runs.proofs.Stores.{still}
use Rattle.law_runs.proofs.InUse.{suback_is_of}
use Rattle.law_runs.proofs.AnsweringLaws.{IsSubscribe, IsUnsubscribe, Requested, Offering, answers_asked}
use Rattle.law_runs.proofs.Showing.{reply_of, is_answered}

-- ---- what becomes of the filters of a SUBSCRIBE
abbrev replies_of : List SubscribeFilter → List Granted → List FilterReply
replies_of [] gs = []
replies_of (f ∷ fs) [] = []
replies_of (f ∷ fs) (g ∷ gs) = reply_of f g ∷ replies_of fs gs

abbrev codes_in : List FilterReply → List ℕ
codes_in replies = map_list (λ (r : FilterReply). r.code) replies

codes_told : (p : Place) (h : HeldView) (client : List ℕ) (identifier : ℕ) (fs : List SubscribeFilter) (gs : List Granted) (acts : List Act) → AreTold p h client identifier fs gs acts → granted_reasons gs ≡ codes_in (replies_of fs gs)
codes_told p h client identifier [] gs acts d = ap granted_reasons d.0
codes_told p h client identifier (f ∷ fs) gs acts (g, others, own, mid, rest, is, all, one, ran, more) =
    ap granted_reasons is ∙ ap (λ cs. g.reason ∷ cs) (codes_told p mid client identifier fs others rest more) ∙ sym (ap (λ zs. codes_in (replies_of (f ∷ fs) zs)) is)

-- ---- what is offered to them
module _ (O : List Operation) (at identifier : ℕ) where
  abbrev asked_by : SubscribeFilter → Asked
  asked_by f = record { filter = f.filter; options = f.options; identifiers = identifiers_of identifier }

  offered_if : (b : Bool) (f : SubscribeFilter) (code : ℕ) (own : List Delivery) → IsOfferedBy O at (cond b (Some (asked_by f)) None) own → IsOfferedFor O at identifier (record { filter = f; code = code; asks = is_some (cond b (Some (asked_by f)) None) }) own
  offered_if true f code own d = d
  offered_if false f code own d = d

  offered_one : (p : Place) (h : HeldView) (client : List ℕ) (f : SubscribeFilter) (g : Granted) (acts : List Act) → IsTold p h client identifier f g acts → (own : List Delivery) → IsOfferedBy O at g.asked own → IsOfferedFor O at identifier (reply_of f g) own
  offered_one p h client f g acts (inl d) own = subst (λ (x : Granted). IsOfferedBy O at x.asked own → IsOfferedFor O at identifier (reply_of f x) own) (sym d.1) (λ o. o)
  offered_one p h client f g acts (inr (inl d)) own = subst (λ (x : Granted). IsOfferedBy O at x.asked own → IsOfferedFor O at identifier (reply_of f x) own) (sym d.3) (λ o. o)
  offered_one p h client f g acts (inr (inr d)) own =
      let given = granted f (identifiers_of identifier) (stands client f.filter h) in
      subst (λ (x : Granted). IsOfferedBy O at x.asked own → IsOfferedFor O at identifier (reply_of f x) own) (sym d.2) (λ o. offered_if (wants_retained f.options (stands client f.filter h)) f given.reason own o)

  all_offered : (p : Place) (h : HeldView) (client : List ℕ) (fs : List SubscribeFilter) (gs : List Granted) (acts : List Act) → AreTold p h client identifier fs gs acts
      → (parts : List (List Delivery)) → AreOfferedBy O at gs parts → AreOfferedFor O at identifier (replies_of fs gs) parts
  all_offered p h client [] gs acts d parts o = subst (λ zs. AreOfferedBy O at zs parts) d.0 o
  all_offered p h client (f ∷ fs) gs acts (g, others, own, mid, rest, is, all, one, ran, more) parts o =
      let k = subst (λ zs. AreOfferedBy O at zs parts) is o in
      subst (λ zs. AreOfferedFor O at identifier (replies_of (f ∷ fs) zs) parts) (sym is)
      (k.0, k.1, k.2, offered_one p h client f g own one k.0 k.3, all_offered p mid client fs others rest more k.1 k.4)

-- ---- a SUBACK that is given ends nothing
end_by : (fitting : Bool) (x y : Reaction) (q : Packet) → x.end ≡ None → y.packets ≡ [] → AnswersWith q (cond fitting x y).packets → (cond fitting x y).end ≡ None
end_by true x y q e f g = e
end_by false x y q e f g = absurd (subst (AnswersWith q) f g)

reply_goes_on : (limit id : ℕ) (codes : List ℕ) (a : Option Waiting) (q : Packet) → AnswersWith q (reaction_of limit (reply_codes a id codes)).packets → (reaction_of limit (reply_codes a id codes)).end ≡ None
reply_goes_on limit id codes None q g = refl
reply_goes_on limit id codes (Some Subscribing) q g = end_by (fits limit (suback id codes)) _ _ q refl refl g
reply_goes_on limit id codes (Some Unsubscribing) q g = end_by (fits limit _) _ _ q refl refl g

goes_on : (old new : SessionState) (id : ℕ) (codes : List ℕ) (r : Reaction) (q : Packet) → Reacts old (answers id codes) r new → AnswersWith q r.packets → r.end ≡ None
goes_on old new id codes r q h g = by old.link refl
  where
    by : (o : Option Link) → old.link ≡ o → r.end ≡ None
    by None e = ap (λ (v : Reaction). v.end) ((subst (λ l. Comes (answer_on l id codes old) r new) e h).0)
    by (Some l) e =
        let is = keeps_codes old new l id codes r e h in
        ap (λ (v : Reaction). v.end) is ∙ reply_goes_on l.limit id codes l.asked q (subst (λ (v : Reaction). AnswersWith q v.packets) is g)

-- ---- in a run
module _ (run later : List Played) (m : Played) (w : World) (r : Reached (run ++ m ∷ later) w) (before : List Act) (c : CallsSession m before) where
  abbrev here : CalledAt run m before c
  here = called_at run later m w r before c

  abbrev place : Place
  place = here.finds.there.holds.site.node.place

  abbrev start : HeldView
  start = here.finds.there.held

  own_at : (pre rest after : List Act) (a : Act) → acts_of m.fate ≡ pre ++ (rest ++ a ∷ after) → HaveOwnDots (operations_amid (site m.fate) run pre)
  own_at pre [] after a is = own_some _ (λ o. taken_amid (site m.fate) run pre (dot_of o)) (amid_acts run later m w r pre after a is).grown.own_dots
  own_at pre (x ∷ xs) after a is = own_some _ (λ o. taken_amid (site m.fate) run pre (dot_of o)) (amid_acts run later m w r pre (xs ++ a ∷ after) x is).grown.own_dots

  state_at : (pre rest : List Act) (h : HeldView) → Runs place start pre h → acts_of m.fate ≡ pre ++ rest → IsStateOf (operations_amid (site m.fate) run pre) h.store
  state_at pre rest h runs is =
      let there = here.finds.there in
      (node_holds_amid run here.finds.world here.next m here.finds.reached here.honest here.happens (site m.fate) pre h
      (record { event = there.event; commits = there.commits; at = there.at; rest = rest; acts = is; held = there.held; holds = there.holds; runs = runs })).state

  shifted : (pre own rest post ops : List Act) → ops ≡ own ++ rest → pre ++ (ops ++ post) ≡ (pre ++ own) ++ (rest ++ post)
  shifted pre own rest post ops is = ap (λ zs. pre ++ (zs ++ post)) is ∙ ap (λ zs. pre ++ zs) (append_assoc own rest post) ∙ sym (append_assoc pre own (rest ++ post))

  are_answered : (client : List ℕ) (identifier : ℕ) (fs : List SubscribeFilter) (gs : List Granted) (h : HeldView) (pre ops after : List Act) (a : Act) → Runs place start pre h → acts_of m.fate ≡ pre ++ (ops ++ a ∷ after)
      → AreTold place h client identifier fs gs ops → AreFiltersAnswered run m pre client identifier fs (replies_of fs gs) ops
  are_answered client identifier [] gs h pre ops after a runs all d = (refl, d.1)
  are_answered client identifier (f ∷ fs) gs h pre ops after a runs all (g, others, own, mid, rest, is, parts, one, ran, more) = (
    reply_of f g,
    replies_of fs others,
    own,
    rest,
    ap (replies_of (f ∷ fs)) is,
    refl,
    parts,
    is_answered (operations_amid (site m.fate) run pre) h (own_at pre ops after a all) (state_at pre (ops ++ a ∷ after) h runs all) place client identifier f g own one,
    are_answered client identifier fs others mid (pre ++ own) rest after a (runs_join place pre own start h mid runs ran) (all ∙ shifted pre own rest (a ∷ after) ops parts) more,
  )

  whole_acts : (earlier acts : List Act) (call : SessionStep) → before ≡ earlier ++ Session (Called call) ∷ acts → acts_of m.fate ≡ (earlier ++ Session (Called call) ∷ []) ++ (acts ++ Session (Called c.step) ∷ c.after)
  whole_acts earlier acts call is =
      c.acts ∙ ap (λ zs. zs ++ Session (Called c.step) ∷ c.after) (is ∙ sym (append_assoc earlier (Session (Called call) ∷ []) acts))
      ∙ append_assoc (earlier ++ Session (Called call) ∷ []) acts (Session (Called c.step) ∷ c.after)

  abbrev Exactly : ℕ → List ℕ → Type 0
  Exactly id codes = (a : AnswersEachFilter run m before c.step.client id codes) × IsOfferedAfter run m before c id (identifier_of a.subscribe) a.replies

  module _ (id : ℕ) (codes : List ℕ) (q : Requested place start before c.step id codes c.after) (d : IsSubscribe place q.mid c.step q.call id codes q.acts c.after) where
    abbrev answers_it : AnswersEachFilter run m before c.step.client id codes
    answers_it = record {
      calls = record { call = q.call; earlier = q.comes.earlier; acts = q.acts; is = q.comes.is; same = q.comes.same };
      subscribe = d.subscribe;
      now = d.now;
      room = d.room;
      event = d.event;
      identifier = d.identifier;
      replies = replies_of d.subscribe.filters d.grants;
      answered = are_answered c.step.client (identifier_of d.subscribe) d.subscribe.filters d.grants q.mid (q.comes.earlier ++ Session (Called q.call) ∷ []) q.acts c.after (Session (Called c.step)) q.comes.runs
          (whole_acts q.comes.earlier q.acts q.call q.comes.is) d.told;
      told = d.codes_are ∙ codes_told place q.mid c.step.client (identifier_of d.subscribe) d.subscribe.filters d.grants q.acts d.told;
    }

    offers_it : Offering c.step.client id c.step.at d.grants c.after → IsOfferedAfter run m before c id (identifier_of d.subscribe) (replies_of d.subscribe.filters d.grants)
    offers_it o =
        let ack = Acknowledged c.step.client id c.step.at d.grants o.offers in
        let s : AcknowledgesFilters m (with_call before c) = record {
          client = c.step.client;
          packet = id;
          at = c.step.at;
          grants = d.grants;
          offers = o.offers;
          after = o.rest;
          acts = c.acts ∙ ap (λ zs. before ++ Session (Called c.step) ∷ zs) o.is ∙ sym (append_assoc before (Session (Called c.step) ∷ []) (ack ∷ o.rest));
        } in
        let x = answers_as_sent run later m w r (with_call before c) s in
        let order : o.offers ≡ flat_map (λ own. own) x.0.parts = x.0.answers.in_order in
        record {
          parts = x.0.parts;
          each = all_offered (operations_amid (site m.fate) run (with_call before c)) c.step.at (identifier_of d.subscribe) place q.mid c.step.client d.subscribe.filters d.grants q.acts d.told x.0.parts x.0.answers.each;
          grants = d.grants;
          rest = o.rest;
          is = o.is ∙ ap (λ os. Acknowledged c.step.client id c.step.at d.grants os ∷ o.rest) order;
          follow = subst (λ os. BeginsWithOffers c.step.client c.step.at os o.rest) order x.0.follow;
          moment = x.1;
        }

    both_so : c.step.reaction.end ≡ None → Exactly id codes
    both_so none = (answers_it, offers_it (d.offering none))

  -- the packet before a SUBACK isn't an UNSUBSCRIBE, since its session waits for the codes of a SUBSCRIBE
  no_unsubscribe : {X : Type 0} (id : ℕ) (codes : List ℕ) (q : Requested place start before c.step id codes c.after) → IsUnsubscribe q.call q.acts → asked_of here.finds.seat.session.link ≡ Some Subscribing → X
  no_unsubscribe id codes q d waits =
      let one = Session (Called q.call) ∷ [] in
      let whole : before ≡ (q.comes.earlier ++ one) ++ q.acts = q.comes.is ∙ sym (append_assoc q.comes.earlier one q.acts) in
      let parts = runs_split place (q.comes.earlier ++ one) q.acts start here.finds.held (subst (λ zs. Runs place start zs here.finds.held) whole here.finds.there.runs) in
      let there : parts.0 ≡ q.mid = runs_determined place (q.comes.earlier ++ one) start parts.0 q.mid parts.1 q.comes.runs in
      let stays : here.finds.held.sessions ≡ q.mid.sessions = still place q.mid here.finds.held q.acts d.stores (subst (λ v. Runs place v q.acts here.finds.held) there parts.2) in
      let first = runs_split place q.comes.earlier one start q.mid q.comes.runs in
      let left : q.mid ≡ next first.0 (Session (Called q.call)) = left_by place first.0 q.mid (Session (Called q.call)) one refl first.2 in
      let after : Seat = record { session = q.call.after; connection = q.call.on } in
      let now : seat_at c.step.client here.finds.held ≡ Some after =
      ap (λ m. map.get m c.step.client) stays ∙ ap (λ (v : HeldView). map.get v.sessions c.step.client) left ∙ ap (map.get (map.insert first.0.sessions q.call.client after)) (sym q.comes.same)
      ∙ get_inserted first.0.sessions q.call.client after in
      let same : here.finds.seat ≡ after = (let z = sym here.finds.found ∙ now in cc) in
      let took : IsCall first.0 q.call = first.2.1.0 in
      let asked : asked_of q.call.after.link ≡ Some Unsubscribing =
      unsubscribing_after took.seat.session q.call.after d.now d.room q.call.reaction d.unsubscribe (subst (λ e. Reacts took.seat.session e q.call.reaction q.call.after) d.event took.reacts) d.asked in
      absurd (let z : Some Unsubscribing ≡ Some Subscribing = sym asked ∙ sym (ap (λ (v : Seat). asked_of v.session.link) same) ∙ waits in cc)

  exactly : (id : ℕ) (codes : List ℕ) → c.step.event ≡ answers id codes → c.step.reaction.end ≡ None → asked_of here.finds.seat.session.link ≡ Some Subscribing → Exactly id codes
  exactly id codes event none waits =
      let q = answers_asked here.event place start (acts_of m.fate) here.decides before c.after c.step c.acts id codes event in
      elim q.kind [ inl d ↦ both_so id codes q d none | inr d ↦ no_unsubscribe id codes q d waits ]

  suback_is_exact : (id : ℕ) (codes : List ℕ) → AnswersWith (suback id codes) c.step.reaction.packets → SaysInUse m before c id codes ⊎ Exactly id codes
  suback_is_exact id codes g =
      elim (suback_is_of id codes here.finds.seat.session c.step.after c.step.event c.step.reaction here.reacts g) [
        | inl u ↦ inl (record { subscribe = u.subscribe; now = u.now; room = u.room; event = u.event; identifier = u.identifier; told = u.told; nothing = u.nothing })
        | inr given ↦ inr (exactly id codes given.0
            (goes_on here.finds.seat.session c.step.after id codes c.step.reaction (suback id codes) (subst (λ e. Reacts here.finds.seat.session e c.step.reaction c.step.after) given.0 here.reacts) g) given.1)
      ]

pub offers_are_exact : OffersAreExact
offers_are_exact = λ run later m w r before c id codes g. suback_is_exact run later m w r before c id codes g

pub codes_are_exact : CodesAreExact
codes_are_exact = λ run later m w r before c id codes g. elim (suback_is_exact run later m w r before c id codes g) [ inl used ↦ inl used | inr a ↦ inr a.0 ]
