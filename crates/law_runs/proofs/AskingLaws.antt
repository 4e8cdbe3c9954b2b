-- What SUBACK and UNSUBACK tell stays true.
use Rattle.std.proofs.Common.{◌≡◌, ◌⊎◌, inl, inr, ℕ, Bool, true, false, ◌&&◌, ◌||◌, List, [], ◌∷◌, ◌++◌, Some, refl, sym, ap, ◌∙◌, append_assoc}
use Rattle.std.specs.List.{list_any}
use Rattle.std.specs.FinSet as set
use Rattle.std.specs.Ordering.{eq_by_cmp}
use Rattle.causal_context.specs.Dots.{Dot, dot_cmp}
use Rattle.mqtt_packets.specs.declared.subscribe.SubscribeFilter.{SubscribeFilter}
use Rattle.mqtt_sessions.specs.Answers.{suback, unsuback}
use Rattle.subscription_set.specs.declared.entry.Entry.{Entry}
use Rattle.subscription_set.specs.Entries.{is_of}
use Rattle.subscription_set.specs.Standing.{Entries, standing, any_of, dots_of}
use Rattle.subscription_set.proofs.Lists.{contains-dots_in}
use Rattle.replica_store.specs.declared.operation.Operation.{Operation}
use Rattle.replica_store.specs.Making.{subscribe_of}
use Rattle.replica_store.specs.Operations.{dot_of, HaveOwnDots}
use Rattle.replica_store.specs.StateOf.{IsStateOf}
use Rattle.replica_store.proofs.Views.{cover_is}
use Rattle.node_work.specs.Acts.{Act, Store, Session, Made, Runs}
use Rattle.node_work.specs.Held.Making.{removal}
use Rattle.node_work.specs.Held.Sessions.{SessionStep, Called}
use Rattle.node_work.specs.View.{Place, HeldView}
use Rattle.node_work.proofs.Working.{runs_join}
use Rattle.node_clients.specs.Subscribing.{subscription_entry, identifier_of}
use Rattle.law_runs.specs.StepPublishing.{AnswersWith}
use Rattle.law_runs.specs.StepAsking.{AreGranted, FiltersAreRemoved, AreInUse, TakesSubscribe, TakesUnsubscribe}
use Rattle.law_runs.proofs.StepAnswering.{suback_tells, unsuback_tells}
use Rattle.cluster_play.specs.Worlds.{World}
use Rattle.cluster_play.specs.Runs.{Played}
use Rattle.cluster_play.specs.Histories.{Reached, site, acts_of, taken_amid, operations_amid}
use Rattle.cluster_play.specs.NextOperations.{CoversWhatStands}
use Rattle.cluster_play.proofs.Amid.{amid_acts}
use Rattle.cluster_play.proofs.Operations.{own_some}
use Rattle.cluster_play.proofs.Showing.{node_holds_amid}
use Rattle.law_runs.specs.Staying.{CallsSession}
use Rattle.law_runs.specs.Asking.{IsMadeIn, AreSubscribed, NothingStood, AreUnsubscribed, AnswersSubscribe, AnswersUnsubscribe, SubackStaysTrue, UnsubackStaysTrue}
use Rattle.law_runs.proofs.Staying.{CalledAt, called_at, stays_made}

-- ---- what stands where nothing does
none_passes : (p q : Entry → Bool) (r : Dot → Bool) (es : Entries) → list_any (λ x. p x.1) es ≡ false → list_any (λ x. p x.1 && r x.0) es ≡ false
none_passes p q r [] e = refl
none_passes p q r (x ∷ es) e = by (p x.1) (list_any (λ y. p y.1) es) e (none_passes p q r es)
  where
    by : (a b : Bool) → (a || b) ≡ false → (b ≡ false → list_any (λ y. p y.1 && r y.0) es ≡ false) → ((a && r x.0) || list_any (λ y. p y.1 && r y.0) es) ≡ false
    by true b t f = absurd (let z = t in cc)
    by false b t f = f t

module _ (run later : List Played) (m : Played) (w : World) (r : Reached (run ++ m ∷ later) w) (before : List Act) (c : CallsSession m before) where
  abbrev here : CalledAt run m before c
  here = called_at run later m w r before c

  abbrev place : Place
  place = here.finds.there.holds.site.node.place

  abbrev start : HeldView
  start = here.finds.there.held

  -- the acts in parts
  shifted : (pre own rest post : List Act) (ops : List Act) → ops ≡ own ++ rest → pre ++ (ops ++ post) ≡ (pre ++ own) ++ (rest ++ post)
  shifted pre own rest post ops is = ap (λ zs. pre ++ (zs ++ post)) is ∙ ap (λ zs. pre ++ zs) (append_assoc own rest post) ∙ sym (append_assoc pre own (rest ++ post))

  moved : (pre own rest ops : List Act) → ops ≡ own ++ rest → pre ++ ops ≡ (pre ++ own) ++ rest
  moved pre own rest ops is = ap (λ zs. pre ++ zs) is ∙ sym (append_assoc pre own rest)

  -- an operation among them
  abbrev made_in : (pre ops rest post : List Act) (o : Operation) → acts_of m.fate ≡ pre ++ (ops ++ post) → before ≡ pre ++ ops → ops ≡ Store (Made o) ∷ rest → IsMadeIn run later m w before o
  made_in pre ops rest post o all whole is = record {
    made = stays_made run later m w r pre (rest ++ post) o (all ∙ ap (λ zs. pre ++ (zs ++ post)) is);
    rest = rest;
    is = whole ∙ ap (λ zs. pre ++ zs) is;
  }

  -- ---- SUBSCRIBE
  subscribed : (client : List ℕ) (identifier : ℕ) (fs : List SubscribeFilter) (codes : List ℕ) (p : Place) (h : HeldView) (pre ops post : List Act) → acts_of m.fate ≡ pre ++ (ops ++ post) → before ≡ pre ++ ops
      → AreGranted p h client identifier fs codes ops → AreSubscribed run later m w before client identifier fs codes
  subscribed client identifier [] codes p h pre ops post all whole d = d.0
  subscribed client identifier (f ∷ fs) codes p h pre ops post all whole (code, others, own, mid, rest, is, parts, one, ran, more) =
      let next = subscribed client identifier fs others p mid (pre ++ own) rest post (all ∙ shifted pre own rest post ops parts) (whole ∙ moved pre own rest ops parts) more in
      elim one [
        | inl d ↦ (code, others, is, inl (d.0, (_, _, h.homes.version, made_in pre ops rest post (subscribe_of p.id (subscription_entry client f identifier h.homes.version) h.store) all whole (parts ∙ ap (λ zs. zs ++ rest) d.1))), next)
        | inr d ↦ (code, others, is, inr d.0, next)
      ]

  -- ---- UNSUBSCRIBE
  own_at : (pre rest after : List Act) (a : Act) → acts_of m.fate ≡ pre ++ (rest ++ a ∷ after) → HaveOwnDots (operations_amid (site m.fate) run pre)
  own_at pre [] after a is = own_some _ (λ o. taken_amid (site m.fate) run pre (dot_of o)) (amid_acts run later m w r pre after a is).grown.own_dots
  own_at pre (x ∷ xs) after a is = own_some _ (λ o. taken_amid (site m.fate) run pre (dot_of o)) (amid_acts run later m w r pre (xs ++ a ∷ after) x is).grown.own_dots

  state_at : (pre rest : List Act) (h : HeldView) → Runs place start pre h → acts_of m.fate ≡ pre ++ rest → IsStateOf (operations_amid (site m.fate) run pre) h.store
  state_at pre rest h runs is =
      let there = here.finds.there in
      (node_holds_amid run here.finds.world here.next m here.finds.reached here.honest here.happens (site m.fate) pre h
      (record { event = there.event; commits = there.commits; at = there.at; rest = rest; acts = is; held = there.held; holds = there.holds; runs = runs })).state

  covers : (client text : List ℕ) (pre rest after : List Act) (a : Act) (h : HeldView) → Runs place start pre h → acts_of m.fate ≡ pre ++ (rest ++ a ∷ after) → CoversWhatStands (operations_amid (site m.fate) run pre) client (Some text) (dots_of client (Some text) h.store.subscriptions)
  covers client text pre rest after a h runs is = λ d. cover_is (operations_amid (site m.fate) run pre) h.store (own_at pre rest after a is) (state_at pre (rest ++ a ∷ after) h runs is) client (Some text) d

  nothing_stood : (client text : List ℕ) (pre ops after : List Act) (a : Act) (h : HeldView) → Runs place start pre h → acts_of m.fate ≡ pre ++ (ops ++ a ∷ after) → before ≡ pre ++ ops → any_of client (Some text) h.store.subscriptions ≡ false → NothingStood run m before client text
  nothing_stood client text pre ops after a h runs all whole none = record {
    first = pre;
    rest = ops;
    is = whole;
    none = λ s. (
        let p = is_of client (Some text) in
        let es = standing h.store.subscriptions in
        let there : set.contains (dots_of client (Some text) h.store.subscriptions) s.0 ≡ true = (covers client text pre ops after a h runs all s.0).1 (s.1, s.2, s.3) in
        let z : false ≡ true = sym (none_passes p p (λ d. eq_by_cmp dot_cmp s.0 d) es none) ∙ sym (contains-dots_in p es s.0) ∙ there in
        cc);
  }

  unsubscribed : (client : List ℕ) (texts : List (List ℕ)) (codes : List ℕ) (h : HeldView) (pre ops after : List Act) (a : Act) → Runs place start pre h → acts_of m.fate ≡ pre ++ (ops ++ a ∷ after) → before ≡ pre ++ ops
      → FiltersAreRemoved place h client texts codes ops → AreUnsubscribed run later m w before client texts codes
  unsubscribed client [] codes h pre ops after a runs all whole d = d.0
  unsubscribed client (text ∷ texts) codes h pre ops after a runs all whole (code, others, own, mid, rest, is, parts, one, ran, more) =
      let next = unsubscribed client texts others mid (pre ++ own) rest after a (runs_join place pre own start h mid runs ran) (all ∙ shifted pre own rest (a ∷ after) ops parts) (whole ∙ moved pre own rest ops parts) more in
      elim one [
        | inl d ↦ (
          code,
          others,
          is,
          inl (
            d.1,
            record {
              dot = _;
              cover = _;
              made = made_in pre ops rest (a ∷ after) (removal place.id client (Some text) h.store) all whole (parts ∙ ap (λ zs. zs ++ rest) d.2);
              covers = covers client text pre ops after a h runs all;
            },
          ),
          next,
        )
        | inr (inl d) ↦ (code, others, is, inr (inl (d.1, nothing_stood client text pre ops after a h runs all whole d.0)), next)
        | inr (inr d) ↦ (code, others, is, inr (inr (d.1, d.0)), next)
      ]

  -- ---- the answers
  whole_acts : (earlier acts : List Act) (call : SessionStep) → before ≡ earlier ++ Session (Called call) ∷ acts → before ≡ (earlier ++ Session (Called call) ∷ []) ++ acts
  whole_acts earlier acts call is = is ∙ sym (append_assoc earlier (Session (Called call) ∷ []) acts)

  all_acts : (earlier acts : List Act) (call : SessionStep) → before ≡ earlier ++ Session (Called call) ∷ acts → acts_of m.fate ≡ (earlier ++ Session (Called call) ∷ []) ++ (acts ++ Session (Called c.step) ∷ c.after)
  all_acts earlier acts call is =
      c.acts ∙ ap (λ zs. zs ++ Session (Called c.step) ∷ c.after) (whole_acts earlier acts call is) ∙ append_assoc (earlier ++ Session (Called call) ∷ []) acts (Session (Called c.step) ∷ c.after)

  subscribe_told : (id : ℕ) (codes : List ℕ) → TakesSubscribe place start before c.step.client id codes → AnswersSubscribe run later m w before c.step.client id codes
  subscribe_told id codes s = record {
    calls = record { call = s.call; earlier = s.after.earlier; acts = s.acts; is = s.after.is; same = s.after.same };
    subscribe = s.subscribe;
    now = s.now;
    room = s.room;
    event = s.event;
    identifier = s.identifier;
    subscribed = subscribed c.step.client (identifier_of s.subscribe) s.subscribe.filters codes place s.mid (s.after.earlier ++ Session (Called s.call) ∷ []) s.acts (Session (Called c.step) ∷ c.after)
        (all_acts s.after.earlier s.acts s.call s.after.is) (whole_acts s.after.earlier s.acts s.call s.after.is) s.granted;
  }

  unsubscribe_told : (id : ℕ) (codes : List ℕ) → TakesUnsubscribe place start before c.step.client id codes → AnswersUnsubscribe run later m w before c.step.client id codes
  unsubscribe_told id codes s = record {
    calls = record { call = s.call; earlier = s.after.earlier; acts = s.acts; is = s.after.is; same = s.after.same };
    unsubscribe = s.unsubscribe;
    now = s.now;
    room = s.room;
    event = s.event;
    identifier = s.identifier;
    unsubscribed = unsubscribed c.step.client s.unsubscribe.filters codes s.mid (s.after.earlier ++ Session (Called s.call) ∷ []) s.acts c.after (Session (Called c.step)) s.after.runs
        (all_acts s.after.earlier s.acts s.call s.after.is) (whole_acts s.after.earlier s.acts s.call s.after.is) s.removed;
  }

  suback_stays : (id : ℕ) (codes : List ℕ) → AnswersWith (suback id codes) c.step.reaction.packets → AreInUse codes ⊎ AnswersSubscribe run later m w before c.step.client id codes
  suback_stays id codes g =
      elim (suback_tells here.event place start here.end (acts_of m.fate) here.decides here.runs before c.after c.step id codes c.acts g) [ inl used ↦ inl used | inr s ↦ inr (subscribe_told id codes s) ]

  unsuback_stays : (id : ℕ) (codes : List ℕ) → AnswersWith (unsuback id codes) c.step.reaction.packets → AreInUse codes ⊎ AnswersUnsubscribe run later m w before c.step.client id codes
  unsuback_stays id codes g =
      elim (unsuback_tells here.event place start here.end (acts_of m.fate) here.decides here.runs before c.after c.step id codes c.acts g) [ inl used ↦ inl used | inr s ↦ inr (unsubscribe_told id codes s) ]

pub suback_stays_true : SubackStaysTrue
suback_stays_true = λ run later m w r before c id codes g. suback_stays run later m w r before c id codes g

pub unsuback_stays_true : UnsubackStaysTrue
unsuback_stays_true = λ run later m w r before c id codes g. unsuback_stays run later m w r before c id codes g
