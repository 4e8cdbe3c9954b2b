-- Each cause has its operation, in every run.
use Rattle.std.proofs.Common.{◌≡◌, inl, inr, ℕ, ◌&&◌, Bool, true, false, cond, List, [], ◌∷◌, ◌++◌, Some, refl, sym, ap, ◌∙◌, subst, append_assoc, map as map_list}
use Rattle.std.specs.Cmp.Lexicographic.{bytes_decides}
use Rattle.std.specs.FinSet as set
use Rattle.std.specs.List.{AllByRecursion, list_any}
use Rattle.std.specs.Ordering.{eq_by_cmp, is_eq}
use Rattle.std.proofs.lemmas.Cmp.{tied_itself}
use Rattle.causal_context.specs.Dots.{Dot, dot_cmp, dot_cmp_total}
use Rattle.mqtt_message.specs.declared.message.Message.{Message}
use Rattle.mqtt_packets.specs.declared.packet.Packet.{Packet}
use Rattle.mqtt_packets.specs.declared.packet.Packet.TheVariants as packets
use Rattle.mqtt_packets.specs.declared.subscribe.SubscribeFilter.{SubscribeFilter}
use Rattle.subscription_set.specs.declared.entry.Entry.{Entry}
use Rattle.subscription_set.specs.Entries.{is_of, same_text}
use Rattle.subscription_set.specs.Standing.{Entries, standing, dots_of, any_of}
use Rattle.subscription_set.proofs.Latest.{any_one}
use Rattle.subscription_set.proofs.Lists.{contains-dots_in}
use Rattle.replica_store.specs.declared.operation.Operation.{Operation}
use Rattle.replica_store.specs.declared.operation.Operation.TheVariants as operations
use Rattle.replica_store.specs.Operations.{dot_of, HaveOwnDots, Stands}
use Rattle.replica_store.specs.Stamps.{Stamp}
use Rattle.replica_store.specs.States.{State}
use Rattle.replica_store.specs.StateOf.{IsStateOf}
use Rattle.replica_store.proofs.Views.{cover_is}
use Rattle.law_sessions.specs.Runs.{takes, answers}
use Rattle.node_work.specs.declared.granted.Granted.{Granted}
use Rattle.node_work.specs.Acts.{Act, Store, Made, Session, Does, Runs, next}
use Rattle.node_work.specs.Held.Sessions.{Called}
use Rattle.node_work.specs.Passing.{content_given}
use Rattle.node_work.specs.View.{Place, HeldView}
use Rattle.node_work.proofs.Working.{runs_join}
use Rattle.node_clients.specs.Subscribing.{identifier_of, granted_reasons}
use Rattle.node_clients.proofs.Determined.{runs_determined}
use Rattle.law_runs.proofs.Passing.{accepted_is_passed_on}
use Rattle.law_runs.proofs.Splits.{runs_split}
use Rattle.cluster_play.specs.Worlds.{World}
use Rattle.cluster_play.specs.Runs.{Played}
use Rattle.cluster_play.specs.Histories.{Reached, site, acts_of, taken_amid, operations_amid}
use Rattle.cluster_play.proofs.Amid.{amid_acts}
use Rattle.cluster_play.proofs.Catching.{operations_of_a_step}
use Rattle.cluster_play.proofs.Operations.{own_some}
use Rattle.cluster_play.proofs.Showing.{node_holds_amid}
use Rattle.law_runs.specs.Staying.{CallsSession}
use Rattle.law_runs.proofs.Staying.{CalledAt, called_at}
use Rattle.law_runs.specs.Filters.{FilterReply, AreFiltersAnswered, IsSubscribedTo}
use Rattle.law_runs.specs.Subacks.{with_call}
use Rattle.law_runs.proofs.Granting.{IsTold, AreTold}
use Rattle.law_runs.proofs.Showing.{reply_of, is_answered}
use Rattle.law_causes.proofs.EndLaws.{none_passes, ends_have_removes}
use Rattle.law_causes.proofs.Evicting.{evictions_have_removes}
use Rattle.law_steps.proofs.WillLaws.{wills_stay_passed_on}
use Rattle.law_causes.specs.Requests.{AsksToSubscribe, EachCovers, NoOtherStands, SubscribesInOrder, AsksToUnsubscribe, IsTextAnswered, AreTextsAnswered, UnsubscribesInOrder, AsksToRetain, CausesHaveOperations}
use Rattle.law_causes.proofs.Equals.{MakesOne, all_made, last_only}
use Rattle.law_causes.proofs.Requesting.{IsTextTold, AreTextsTold, IsSubscribed, IsUnsubscribed, DoneBy, requests_done}

and_both : (a b : Bool) → a ≡ true → b ≡ true → (a && b) ≡ true
and_both true b e h = h
and_both false b e h = cc

and_first : (a b : Bool) → (a && b) ≡ true → a ≡ true
and_first true b e = refl
and_first false b e = cc

and_second : (a b : Bool) → (a && b) ≡ true → b ≡ true
and_second true b e = e
and_second false b e = cc

-- ---- whether a subscription of a client to a text stands
module _ (O : List Operation) (s : State) (own : HaveOwnDots O) (is : IsStateOf O s) (client to : List ℕ) where
  subscribed_if : any_of client (Some to) s.subscriptions ≡ true → IsSubscribedTo O client to
  subscribed_if e =
      let p : Entry → Bool = is_of client (Some to) in
      let es : Entries = standing s.subscriptions in
      let one = any_one (λ (x : Dot × Entry). p x.1) es e in
      let dot = one.0.0 in
      let itself : (p one.0.1 && eq_by_cmp dot_cmp dot dot) ≡ true = and_both (p one.0.1) _ one.1.1 (ap is_eq (tied_itself dot_cmp_total dot)) in
      let there : list_any (λ x. p x.1 && eq_by_cmp dot_cmp dot x.0) es ≡ true = one.1.0 (λ x. p x.1 && eq_by_cmp dot_cmp dot x.0) itself in
      let st = (cover_is O s own is client (Some to) dot).0 (contains-dots_in p es dot ∙ there) in (
        dot,
        st.0,
        st.1,
        sym ((bytes_decides client st.0.client).0 (and_first (same_text client st.0.client) (same_text to st.0.filter) st.2)),
        sym ((bytes_decides to st.0.filter).0 (and_second (same_text client st.0.client) (same_text to st.0.filter) st.2)),
      )

  new_if : any_of client (Some to) s.subscriptions ≡ false → ¬ IsSubscribedTo O client to
  new_if none w =
      let p : Entry → Bool = is_of client (Some to) in
      let es : Entries = standing s.subscriptions in
      let passes : p w.1 ≡ true = and_both (same_text client w.1.client) _ ((bytes_decides client w.1.client).1 (sym w.3)) ((bytes_decides to w.1.filter).1 (sym w.4)) in
      let there : set.contains (dots_of client (Some to) s.subscriptions) w.0 ≡ true = (cover_is O s own is client (Some to) w.0).1 (w.1, w.2, passes) in
      let z : false ≡ true = sym (none_passes p (λ d. eq_by_cmp dot_cmp w.0 d) es none) ∙ sym (contains-dots_in p es w.0) ∙ there in
      absurd (cc z)

text_answered : (O : List Operation) (h : HeldView) → HaveOwnDots O → IsStateOf O h.store → (p : Place) (client text : List ℕ) (code : ℕ) (acts : List Act) → IsTextTold p h client text code acts → IsTextAnswered O client text code acts
text_answered O h own is p client text code acts (inl d) = inl d
text_answered O h own is p client text code acts (inr (inl d)) = inr (inl (d.0, new_if O h.store own is client text d.1, d.2, d.3))
text_answered O h own is p client text code acts (inr (inr d)) = inr (inr (d.0, subscribed_if O h.store own is client text d.1, d.2, (_, _, (λ dot. cover_is O h.store own is client (Some text) dot), d.3)))

-- ---- what becomes of the filters of a SUBSCRIBE
abbrev replies_of : List SubscribeFilter → List Granted → List FilterReply
replies_of [] gs = []
replies_of (f ∷ fs) [] = []
replies_of (f ∷ fs) (g ∷ gs) = reply_of f g ∷ replies_of fs gs

abbrev codes_in : List FilterReply → List ℕ
codes_in replies = map_list (λ (r : FilterReply). r.code) replies

codes_told : (p : Place) (h : HeldView) (client : List ℕ) (identifier : ℕ) (fs : List SubscribeFilter) (gs : List Granted) (acts : List Act) → AreTold p h client identifier fs gs acts → granted_reasons gs ≡ codes_in (replies_of fs gs)
codes_told p h client identifier [] gs acts d = ap granted_reasons d.0
codes_told p h client identifier (f ∷ fs) gs acts (g, others, own, mid, rest, is, all, one, ran, more) =
    ap granted_reasons is ∙ ap (λ cs. g.reason ∷ cs) (codes_told p mid client identifier fs others rest more) ∙ sym (ap (λ zs. codes_in (replies_of (f ∷ fs) zs)) is)

-- its acts are Subscribes
ones_both : (xs ys : List Act) → AllByRecursion MakesOne xs → AllByRecursion MakesOne ys → AllByRecursion MakesOne (xs ++ ys)
ones_both [] ys a b = b
ones_both (x ∷ xs) ys a b = (a.0, ones_both xs ys a.1 b)

ones_after : (xs ys : List Act) → AllByRecursion MakesOne (xs ++ ys) → AllByRecursion MakesOne ys
ones_after [] ys a = a
ones_after (x ∷ xs) ys a = ones_after xs ys a.1

one_made : (p : Place) (h : HeldView) (client : List ℕ) (identifier : ℕ) (f : SubscribeFilter) (g : Granted) (acts : List Act) → IsTold p h client identifier f g acts → AllByRecursion MakesOne acts
one_made p h client identifier f g acts (inl d) = subst (AllByRecursion MakesOne) (sym d.2) tt
one_made p h client identifier f g acts (inr (inl d)) = subst (AllByRecursion MakesOne) (sym d.4) tt
one_made p h client identifier f g acts (inr (inr d)) = subst (AllByRecursion MakesOne) (sym d.3) ((_, _, _, refl), tt)

all_ones : (p : Place) (h : HeldView) (client : List ℕ) (identifier : ℕ) (fs : List SubscribeFilter) (gs : List Granted) (acts : List Act) → AreTold p h client identifier fs gs acts → AllByRecursion MakesOne acts
all_ones p h client identifier [] gs acts d = subst (AllByRecursion MakesOne) (sym d.1) tt
all_ones p h client identifier (f ∷ fs) gs acts (g, others, own, mid, rest, is, all, one, ran, more) =
    subst (AllByRecursion MakesOne) (sym all) (ones_both own rest (one_made p h client identifier f g own one) (all_ones p mid client identifier fs others rest more))

-- ---- in a run
module _ (run later : List Played) (m : Played) (w : World) (r : Reached (run ++ m ∷ later) w) (before : List Act) (c : CallsSession m before) where
  abbrev here : CalledAt run m before c
  here = called_at run later m w r before c

  abbrev place : Place
  place = here.finds.there.holds.site.node.place

  abbrev start : HeldView
  start = here.finds.there.held

  abbrev call : Act
  call = Session (Called c.step)

  abbrev after_call : HeldView
  after_call = next here.finds.held call

  -- the acts up to the call, and with it
  runs_with : Runs place start (with_call before c) after_call
  runs_with =
      let parts = runs_split place before (call ∷ c.after) start here.end (subst (λ zs. Runs place start zs here.end) c.acts here.runs) in
      let same : parts.0 ≡ here.finds.held = runs_determined place before start parts.0 here.finds.held parts.1 here.finds.there.runs in
      let does : Does place here.finds.held call parts.2.0 = subst (λ v. Does place v call parts.2.0) same parts.2.1 in
      runs_join place before (call ∷ []) start here.finds.held after_call here.finds.there.runs (after_call, (does.0, refl), refl)

  done : (k : Packet) (now : ℕ) (room : Bool) → c.step.event ≡ takes k now room → DoneBy c.step.reaction.ask place after_call c.step k c.after
  done k now room e = requests_done here.event place start here.finds.held (acts_of m.fate) here.decides before c.after c.step c.acts here.finds.there.runs k now room e

  -- the acts of the step fall into those up to the call and those after it
  parts_are : (acts rest : List Act) (a : Act) → c.after ≡ acts ++ a ∷ rest → acts_of m.fate ≡ with_call before c ++ (acts ++ a ∷ rest)
  parts_are acts rest a is = c.acts ∙ ap (λ zs. before ++ call ∷ zs) is ∙ sym (append_assoc before (call ∷ []) (acts ++ a ∷ rest))

  -- what was made until an act
  dots_at : (pre rest : List Act) (a : Act) → acts_of m.fate ≡ pre ++ a ∷ rest → HaveOwnDots (all_made run (site m.fate) pre)
  dots_at pre rest a is = (amid_acts run later m w r pre rest a is).grown.own_dots

  own_at : (pre rest : List Act) (a : Act) → acts_of m.fate ≡ pre ++ a ∷ rest → HaveOwnDots (operations_amid (site m.fate) run pre)
  own_at pre rest a is = own_some _ (λ o. taken_amid (site m.fate) run pre (dot_of o)) (dots_at pre rest a is)

  -- until acts before an act
  dots_before : (pre ops after : List Act) (a : Act) → acts_of m.fate ≡ pre ++ (ops ++ a ∷ after) → HaveOwnDots (all_made run (site m.fate) pre)
  dots_before pre [] after a is = dots_at pre after a is
  dots_before pre (x ∷ xs) after a is = dots_at pre (xs ++ a ∷ after) x is

  own_before : (pre ops after : List Act) (a : Act) → acts_of m.fate ≡ pre ++ (ops ++ a ∷ after) → HaveOwnDots (operations_amid (site m.fate) run pre)
  own_before pre ops after a is = own_some _ (λ o. taken_amid (site m.fate) run pre (dot_of o)) (dots_before pre ops after a is)

  state_at : (pre rest : List Act) (h : HeldView) → Runs place start pre h → acts_of m.fate ≡ pre ++ rest → IsStateOf (operations_amid (site m.fate) run pre) h.store
  state_at pre rest h runs is =
      let there = here.finds.there in
      (node_holds_amid run here.finds.world here.next m here.finds.reached here.honest here.happens (site m.fate) pre h
      (record { event = there.event; commits = there.commits; at = there.at; rest = rest; acts = is; held = there.held; holds = there.holds; runs = runs })).state

  shifted : (pre own rest post ops : List Act) → ops ≡ own ++ rest → pre ++ (ops ++ post) ≡ (pre ++ own) ++ (rest ++ post)
  shifted pre own rest post ops is = ap (λ zs. pre ++ (zs ++ post)) is ∙ ap (λ zs. pre ++ zs) (append_assoc own rest post) ∙ sym (append_assoc pre own (rest ++ post))

  -- ---- a SUBSCRIBE
  filters_answered : (client : List ℕ) (identifier : ℕ) (fs : List SubscribeFilter) (gs : List Granted) (h : HeldView) (pre ops after : List Act) (a : Act) → Runs place start pre h → acts_of m.fate ≡ pre ++ (ops ++ a ∷ after)
      → AreTold place h client identifier fs gs ops → AreFiltersAnswered run m pre client identifier fs (replies_of fs gs) ops
  filters_answered client identifier [] gs h pre ops after a runs all d = (refl, d.1)
  filters_answered client identifier (f ∷ fs) gs h pre ops after a runs all (g, others, own, mid, rest, is, parts, one, ran, more) = (
    reply_of f g,
    replies_of fs others,
    own,
    rest,
    ap (replies_of (f ∷ fs)) is,
    refl,
    parts,
    is_answered (operations_amid (site m.fate) run pre) h (own_before pre ops after a all) (state_at pre (ops ++ a ∷ after) h runs all) place client identifier f g own one,
    filters_answered client identifier fs others mid (pre ++ own) rest after a (runs_join place pre own start h mid runs ran) (all ∙ shifted pre own rest (a ∷ after) ops parts) more,
  )

  module _ (acts rest : List Act) (a : Act) (is : c.after ≡ acts ++ a ∷ rest) where
    abbrev first : List Act
    first = with_call before c

    amid_them : (own others : List Act) → acts ≡ own ++ others → acts_of m.fate ≡ (first ++ own) ++ (others ++ a ∷ rest)
    amid_them own others e = parts_are acts rest a is ∙ shifted first own others (a ∷ rest) acts e

    each_covers : EachCovers run m first acts
    each_covers own others dot entry cover e =
        (operations_of_a_step run later m w r (first ++ own) (others ++ a ∷ rest) (operations.Subscribe dot entry cover) (amid_them own (Store (Made (operations.Subscribe dot entry cover)) ∷ others) e)).0.next.1

    none_else : AllByRecursion MakesOne acts → NoOtherStands run m first acts
    none_else ones own others dot entry cover e none =
        let o = Store (Made (operations.Subscribe dot entry cover)) in
        let after : AllByRecursion MakesOne others = (ones_after own (o ∷ others) (subst (AllByRecursion MakesOne) e ones)).1 in
        let alone = last_only run (site m.fate) own others first dot entry cover after
        (λ xs ys q. dots_before (first ++ xs) ys rest a (amid_them xs ys (e ∙ q)))
        (each_covers own others dot entry cover e)
        (λ front back d en cov q. none front back d en cov q) in
        λ d en stands client filter. alone d en (subst (λ zs. Stands (operations_amid (site m.fate) run (first ++ zs)) d en) e stands) client filter

  subscribes : (s : AsksToSubscribe c.step) → SubscribesInOrder run m before c s.subscribe
  subscribes s =
      let d : IsSubscribed place after_call c.step s.subscribe c.after = subst (λ ask. DoneBy ask place after_call c.step (packets.Subscribe s.subscribe) c.after) s.asks (done (packets.Subscribe s.subscribe) s.now s.room s.event) in
      let x = d.answered in
      let answer = Session (Called x.answer) in
      let identifier = identifier_of s.subscribe in
      let fs = s.subscribe.filters in
      record {
        acts = d.acts;
        answer = x.answer;
        rest = x.rest;
        is = x.is;
        replies = replies_of fs d.grants;
        answered = filters_answered c.step.client identifier fs d.grants after_call (with_call before c) d.acts x.rest answer runs_with (parts_are d.acts x.rest answer x.is) d.told;
        covers = each_covers d.acts x.rest answer x.is;
        alone = none_else d.acts x.rest answer x.is (all_ones place after_call c.step.client identifier fs d.grants d.acts d.told);
        client = x.client;
        told = x.event ∙ ap (answers s.subscribe.identifier) (codes_told place after_call c.step.client identifier fs d.grants d.acts d.told);
      }

  -- ---- an UNSUBSCRIBE
  texts_answered : (client : List ℕ) (texts : List (List ℕ)) (codes : List ℕ) (h : HeldView) (pre ops after : List Act) (a : Act) → Runs place start pre h → acts_of m.fate ≡ pre ++ (ops ++ a ∷ after)
      → AreTextsTold place h client texts codes ops → AreTextsAnswered run m pre client texts codes ops
  texts_answered client [] codes h pre ops after a runs all d = d
  texts_answered client (text ∷ texts) codes h pre ops after a runs all (code, others, own, mid, rest, is, parts, one, ran, more) = (
    code,
    others,
    own,
    rest,
    is,
    parts,
    text_answered (operations_amid (site m.fate) run pre) h (own_before pre ops after a all) (state_at pre (ops ++ a ∷ after) h runs all) place client text code own one,
    texts_answered client texts others mid (pre ++ own) rest after a (runs_join place pre own start h mid runs ran) (all ∙ shifted pre own rest (a ∷ after) ops parts) more,
  )

  unsubscribes : (s : AsksToUnsubscribe c.step) → UnsubscribesInOrder run m before c s.unsubscribe
  unsubscribes s =
      let d : IsUnsubscribed place after_call c.step s.unsubscribe c.after =
      subst (λ ask. DoneBy ask place after_call c.step (packets.Unsubscribe s.unsubscribe) c.after) s.asks (done (packets.Unsubscribe s.unsubscribe) s.now s.room s.event) in
      let x = d.answered in
      let answer = Session (Called x.answer) in
      record {
        acts = d.acts;
        answer = x.answer;
        rest = x.rest;
        is = x.is;
        codes = d.codes;
        answered = texts_answered c.step.client s.unsubscribe.filters d.codes after_call (with_call before c) d.acts x.rest answer runs_with (parts_are d.acts x.rest answer x.is) d.told;
        client = x.client;
        told = x.event;
      }

  -- ---- a message with RETAIN
  abbrev IsPutBy : Message → Bool → List Act → Type 0
  IsPutBy x b puts = cond b ((dot : Dot) × (stamp : Stamp) × (puts ≡ Store (Made (operations.Put dot stamp (content_given x))) ∷ [])) (puts ≡ [])

  put_first : (x : Message) (puts rest : List Act) → c.after ≡ puts ++ rest → (b : Bool) → b ≡ true → IsPutBy x b puts
      → (dot : Dot) × (stamp : Stamp) × (others : List Act) × (c.after ≡ Store (Made (operations.Put dot stamp (content_given x))) ∷ others)
  put_first x puts rest is true e (dot, stamp, alone) = (dot, stamp, rest, is ∙ ap (λ zs. zs ++ rest) alone)
  put_first x puts rest is false e d = absurd (let z : false ≡ true = e in cc)

  publishes : (x : Message) → AsksToRetain c.step x → (dot : Dot) × (stamp : Stamp) × (rest : List Act) × (c.after ≡ Store (Made (operations.Put dot stamp (content_given x))) ∷ rest)
  publishes x s =
      let p = accepted_is_passed_on here.event place start here.finds.held (acts_of m.fate) here.decides before c.after c.step x c.acts here.finds.there.runs
      (record { publish = s.publish; now = s.now; room = s.room; event = s.event; asks = s.asks }) in
      put_first x p.puts p.rest p.is x.retain s.retain p.put

pub causes_have_operations : CausesHaveOperations
causes_have_operations = record {
  subscribes = λ run later m w r before c s. subscribes run later m w r before c s;
  unsubscribes = λ run later m w r before c s. unsubscribes run later m w r before c s;
  publishes = λ run later m w r before c x s. publishes run later m w r before c x s;
  wills = wills_stay_passed_on;
  ends = ends_have_removes;
  evictions = evictions_have_removes;
}
