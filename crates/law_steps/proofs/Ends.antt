-- A session is over for a reason, which a call before that in its step shows.
use Rattle.std.proofs.Common.{◌≡◌, ◌⊎◌, inl, inr, ℕ, Bool, true, false, is_some, List, [], ◌∷◌, ◌++◌, Option, Some, None, option_and_then, refl, sym, ap, ◌∙◌, subst, append_assoc}
use Rattle.std.proofs.lemmas.List.{append-nil}
use Rattle.std.specs.FinMap as map
use Rattle.bridge_deltas.specs.declared.offer.Offer.{Offer}
use Rattle.bridge_deltas.specs.declared.offer.Offer.TheVariants.{Queued, Full, AtEnd}
use Rattle.bridge_frames.specs.declared.forward.Forward.{Forward}
use Rattle.bridge_routes.specs.declared.plain.PlainCopy.{PlainCopy as Copy}
use Rattle.mqtt_message.specs.declared.message.Message.{Message}
use Rattle.mqtt_packets.specs.declared.packet.Packet.{Packet}
use Rattle.mqtt_packets.specs.declared.packet.Packet.TheVariants as packets
use Rattle.mqtt_packets.specs.declared.subscribe.Subscribe.{Subscribe}
use Rattle.mqtt_packets.specs.declared.unsubscribe.Unsubscribe.{Unsubscribe}
use Rattle.mqtt_sessions.specs.declared.reaction.Ask.{Ask}
use Rattle.mqtt_sessions.specs.declared.reaction.Ask.TheVariants as asks
use Rattle.mqtt_sessions.specs.Ending.{end_due, has_run_out, is_due, ticked_if, timed_out, will_due}
use Rattle.mqtt_sessions.specs.Reaction.{Reaction, nothing}
use Rattle.mqtt_sessions.specs.State.{Link, State}
use Rattle.replica_store.specs.Making.{put_of, subscribe_of}
use Rattle.law_sessions.specs.Runs.{Event, answers, finishes, queues, takes, ticks}
use Rattle.session_table.specs.Calls.{stays}
use Rattle.session_table.specs.Seats.{Seat}
use Rattle.subscription_set.specs.Standing.{any_below}
use Rattle.node_work.specs.declared.counts.Missed.TheVariants.{LaneFull}
use Rattle.node_work.specs.declared.granted.Granted.{Granted}
use Rattle.node_work.specs.Acts.{Act, Store, Made, Session, Bridge, Acknowledged, Passed, Dropped, Runs}
use Rattle.node_work.specs.Calling.{Calls, CallsAt, Queues}
use Rattle.node_work.specs.Doings.{MakesRemoveBelow, PutsInLaneBy, RemovesBelow}
use Rattle.node_work.specs.Held.Bridge.{Put, Took, Left_out}
use Rattle.node_work.specs.Held.Making.{number_at_end, put_at_end, removal, removal_below}
use Rattle.node_work.specs.Held.Sessions.{SessionAct, SessionStep, Begun, Called, Over, end_is_due, seat_at}
use Rattle.node_work.specs.Passing.{turn_at_end}
use Rattle.node_work.specs.View.{Place, HeldView}
use Rattle.node_work.specs.Working.{Doing, Returns, Acting, Looks, FindsWhere, If, Then}
use Rattle.node_work.proofs.Working.{runs_join}
use Rattle.node_clients.specs.Ending as ending
use Rattle.node_clients.specs.Passing as passing
use Rattle.node_clients.specs.Serving as serving
use Rattle.node_clients.specs.Subscribing as subscribing
use Rattle.node_clients.specs.Unsubscribing as unsubscribing
use Rattle.law_runs.proofs.Keeping.{Property, Keeps, none_some}
use Rattle.law_runs.proofs.Splits.{alone_is, none_there, splits}
use Rattle.law_steps.proofs.Joining.{Closed, j_returns, j_stops, j_acting, j_numbered, j_looks, j_finds, j_if, j_where, j_then, j_calls}
use Rattle.law_steps.proofs.DueDone.{Call, call}
use Rattle.law_steps.proofs.Small.{IsStaying, Makes, Small, in_turn, grants, offers, passes, unsubscribed}
use Rattle.law_steps.proofs.Turning.{if_so, if_not}
use Rattle.law_steps.proofs.Walking.{IsBare, IsBareCall, IsBareDue, closes_after, closes_for, due_bare}

-- ---- work by which no session is over
abbrev pub NoneOver : Property
NoneOver p h acts = (before after : List Act) (client : List ℕ) → acts ≡ before ++ Session (Over client) ∷ after → ⊥

none_both : (p : Place) (h : HeldView) (xs ys : List Act) → NoneOver p h xs → NoneOver p h ys → NoneOver p h (xs ++ ys)
none_both p h xs ys f g before after client is = elim (splits xs ys before after (Session (Over client)) is) [ inl r ↦ f before r.0 client r.1 | inr r ↦ g r.0 after client r.2 ]

pub none_closed : Closed NoneOver
none_closed = record { none = λ p h before after client is. none_there before after (Session (Over client)) is; both = λ p h mid xs ys runs f g. none_both p h xs ys f g }

abbrev IsNoEnd : Act → Type 0
IsNoEnd (Session (Over client)) = ⊥
IsNoEnd a = Unit {0}

not_over : (p : Place) (h : HeldView) (a : Act) → IsNoEnd a → NoneOver p h (a ∷ [])
not_over p h a other before after client is = subst IsNoEnd (alone_is a (Session (Over client)) before after is) other

puts_by : (peer : ℕ) (m : Forward) (o : Offer) → Keeps NoneOver (PutsInLaneBy peer m o)
puts_by peer m (Queued n) = j_acting NoneOver none_closed (λ p h. Bridge (Put peer m)) (λ p h. not_over p h (Bridge (Put peer m)) tt)
puts_by peer m Full = j_acting NoneOver none_closed (λ p h. Bridge (Left_out LaneFull)) (λ p h. not_over p h (Bridge (Left_out LaneFull)) tt)
puts_by peer m AtEnd = j_stops NoneOver none_closed

abbrev K : (A : Type 0) → (Option A → Doing) → Type 0
K A P = Keeps NoneOver P

makes : Makes K
makes = record {
  returns = j_returns NoneOver none_closed;
  looks = j_looks NoneOver none_closed;
  by_test = j_if NoneOver none_closed;
  by_whether = j_where NoneOver none_closed;
  join = j_then NoneOver none_closed;
  subscribe = λ entry. j_numbered NoneOver none_closed (λ p h. number_at_end p.id h) (λ p h. Store (Made (subscribe_of p.id entry h.store))) (λ p h. not_over p h (Store (Made (subscribe_of p.id entry h.store))) tt);
  remove = λ client to. j_numbered NoneOver none_closed (λ p h. number_at_end p.id h) (λ p h. Store (Made (removal p.id client to h.store))) (λ p h. not_over p h (Store (Made (removal p.id client to h.store))) tt);
}

small : Small K
small = record {
  makes = makes;
  finds = j_finds NoneOver none_closed;
  calls = λ client event staying. j_calls NoneOver none_closed client event stays (λ p h s is. not_over p h (Session (Called s)) tt);
  put = λ content. j_numbered NoneOver none_closed (λ p h. put_at_end p.id h) (λ p h. Store (Made (put_of p.id content h.store))) (λ p h. not_over p h (Store (Made (put_of p.id content h.store))) tt);
  passed = λ m x. j_numbered NoneOver none_closed turn_at_end (λ p h. Passed m x.0 x.1.0 x.1.1) (λ p h. not_over p h (Passed m x.0 x.1.0 x.1.1) tt);
  puts = puts_by;
  missed = j_acting NoneOver none_closed (λ p h. Bridge (Left_out LaneFull)) (λ p h. not_over p h (Bridge (Left_out LaneFull)) tt);
  dropped = j_acting NoneOver none_closed (λ p h. Dropped) (λ p h. not_over p h Dropped tt);
  acknowledged = λ client packet given os. j_acting NoneOver none_closed (λ p h. Acknowledged client packet h.at given os) (λ p h. not_over p h (Acknowledged client packet h.at given os) tt);
}

wills : (m : Message) → K (Unit {0}) (passing.PassesWill m)
wills m =
    makes.looks (λ p h. passing.lacks_room m h) (λ lacks. If lacks passing.Drops (passing.Passes m)) (λ lacks. makes.by_test lacks passing.Drops (passing.Passes m) small.dropped (passes K small m))

asked_none : (ask : Option Ask) → K (Unit {0}) (ending.PassesAsked ask)
asked_none None = makes.returns tt
asked_none (Some (asks.Pass m)) = wills m
asked_none (Some asks.Subscribe) = makes.returns tt
asked_none (Some asks.Unsubscribe) = makes.returns tt

removes_below : (client : List ℕ) (version : ℕ) → K Bool (RemovesBelow client version)
removes_below client version =
    makes.looks (λ p h. any_below client version h.store.subscriptions) (λ stands. If stands (Then (MakesRemoveBelow client version) (λ _. Returns true)) (Returns false))
    (λ stands. makes.by_test stands (Then (MakesRemoveBelow client version) (λ _. Returns true)) (Returns false)
    (makes.join (MakesRemoveBelow client version) (λ _. Returns true)
    (j_numbered NoneOver none_closed (λ p h. number_at_end p.id h) (λ p h. Store (Made (removal_below p.id client version h.store))) (λ p h. not_over p h (Store (Made (removal_below p.id client version h.store))) tt)) (λ _. makes.returns true))
    (makes.returns false))

removes_own : (client : List ℕ) → K Bool (ending.RemovesOwn client)
removes_own client = small.finds (ending.IsAtHome client) (ending.RemovesFor client) (λ node. makes.looks (ending.ends_below node) (RemovesBelow client) (removes_below client))

queues_all : (copies : List Copy) → K (Unit {0}) (Queues copies)
queues_all [] = makes.returns tt
queues_all (x ∷ copies) =
    makes.join _ (λ _. Queues copies) (makes.join (Calls x.client (queues x.delivery) stays) (λ _. Returns tt) (small.calls x.client (queues x.delivery) (λ at. tt)) (λ _. makes.returns tt)) (λ _. queues_all copies)

-- ---- the reason, by the sessions that may end at once
pub record Reasoned (C : List ℕ → Type 0) (p : Place) (h : HeldView) (before : List Act) (client : List ℕ) : Type 0 where
  pub earlier : List Act
  pub call : SessionStep
  pub later : List Act
  pub is : before ≡ earlier ++ Session (Called call) ∷ later
  pub of : call.client ≡ client
  pub over : call.reaction.over ≡ true
  pub held : HeldView
  pub runs : Runs p h earlier held
  pub why : ((call.event ≡ ticks held.at) × (end_is_due client held ≡ true)) ⊎ ((call.event ≡ finishes held.at) × C client)

-- a call says that a session is over only where its end is due
over_by : (out will end : Bool) (now : ℕ) (s : State) (r : Reaction) → r ≡ (ticked_if out will end now s).reaction → r.over ≡ true → end ≡ true
over_by true will end now s r is over = absurd (none s.link (ap (λ (v : Reaction). v.over) (sym is) ∙ over))
  where
    none : (o : Option Link) → (timed_out o s).reaction.over ≡ true → ⊥
    none None e = (let z : false ≡ true = e in cc)
    none (Some l) e = (let z : false ≡ true = e in cc)
over_by false true end now s r is over = absurd (let z : false ≡ true = ap (λ (v : Reaction). v.over) (sym is) ∙ over in cc)
over_by false false end now s r is over = ap (λ (v : Reaction). v.over) (sym is) ∙ over

module _ (C : List ℕ → Type 0) where
  abbrev pub Over_told : Property
  Over_told p h acts = (before after : List Act) (client : List ℕ) → acts ≡ before ++ Session (Over client) ∷ after → Reasoned C p h before client

  reasoned_more : (p : Place) (h mid : HeldView) (xs before : List Act) (client : List ℕ) → Runs p h xs mid → Reasoned C p mid before client → Reasoned C p h (xs ++ before) client
  reasoned_more p h mid xs before client runs r = record {
    earlier = xs ++ r.earlier;
    call = r.call;
    later = r.later;
    is = ap (λ zs. xs ++ zs) r.is ∙ sym (append_assoc xs r.earlier (Session (Called r.call) ∷ r.later));
    of = r.of;
    over = r.over;
    held = r.held;
    runs = runs_join p xs r.earlier h mid r.held runs r.runs;
    why = r.why;
  }

  pub over_closed : Closed Over_told
  over_closed = record {
    none = λ p h before after client is. none_there before after (Session (Over client)) is;
    both = λ p h mid xs ys runs f g before after client is. elim (splits xs ys before after (Session (Over client)) is) [
      | inl r ↦ f before r.0 client r.1
      | inr r ↦ subst (λ zs. Reasoned C p h zs client) (sym r.1) (reasoned_more p h mid xs r.0 client runs (g r.0 after client r.2))
    ];
  }

  none_told : (p : Place) (h : HeldView) (acts : List Act) → NoneOver p h acts → Over_told p h acts
  none_told p h acts none before after client is = absurd (none before after client is)

  bare_end : (a : Act) → IsBare a → IsNoEnd a
  bare_end (Session (Begun client)) bare = tt
  bare_end (Session (Called s)) bare = tt
  bare_end (Session (Over client)) bare = bare
  bare_end a bare = tt

  pub bare_told : (p : Place) (h : HeldView) (a : Act) → IsBare a → Over_told p h (a ∷ [])
  bare_told p h a bare = none_told p h (a ∷ []) (not_over p h a (bare_end a bare))

  pub due_told : (p : Place) (h : HeldView) (a : Act) → IsBareDue a → Over_told p h (a ∷ [])
  due_told p h a bare = bare_told p h a (due_bare a bare)

  pub call_told : (p : Place) (h : HeldView) (s : SessionStep) → IsBareCall s.event → Over_told p h (Session (Called s) ∷ [])
  call_told p h s bare = none_told p h (Session (Called s) ∷ []) (not_over p h (Session (Called s)) tt)

  -- a call, what it asks for, a Remove if there is one, and the end
  ends_last : (p : Place) (h : HeldView) (client : List ℕ) (s : SessionStep) (asked removed : List Act) → NoneOver p h asked → NoneOver p h removed → s.client ≡ client → s.reaction.over ≡ true
      → ((s.event ≡ ticks h.at) × (end_is_due client h ≡ true)) ⊎ ((s.event ≡ finishes h.at) × C client) → Over_told p h (Session (Called s) ∷ (asked ++ (removed ++ Session (Over client) ∷ [])))
  ends_last p h client s asked removed none none2 of over why before after q is =
      let whole = asked ++ (removed ++ Session (Over client) ∷ []) in
      elim (splits (Session (Called s) ∷ []) whole before after (Session (Over q)) is) [
        | inl r ↦ absurd (not_over p h (Session (Called s)) tt before r.0 q r.1)
        | inr r ↦ elim (splits asked (removed ++ Session (Over client) ∷ []) r.0 after (Session (Over q)) r.2) [
          | inl a ↦ absurd (none r.0 a.0 q a.1)
          | inr a ↦ elim (splits removed (Session (Over client) ∷ []) a.0 after (Session (Over q)) a.2) [
            | inl b ↦ absurd (none2 a.0 b.0 q b.1)
            | inr b ↦ (
                let same : client ≡ q = (let z : Session (Over client) ≡ Session (Over q) = alone_is (Session (Over client)) (Session (Over q)) b.0 after b.2 in cc) in
                subst (Reasoned C p h before) same (record { earlier = []; call = s; later = r.0; is = r.1; of = of; over = over; held = h; runs = refl; why = why }))
          ]
        ]
      ]

  -- what follows a call that may end a session
  followed : (client : List ℕ) (s : SessionStep) (r : Reaction) (x : Unit {0}) (p : Place) (h mid : HeldView) (rest : List Act) → s.client ≡ client → s.reaction ≡ r → (r.over ≡ true → ((s.event ≡ ticks h.at) × (end_is_due client h ≡ true)) ⊎ ((s.event ≡ finishes h.at) × C client))
      → ending.FollowsReaction client r (Some x) p mid rest → Over_told p h (Session (Called s) ∷ rest)
  followed client s r x p h mid rest of same why (inl d) = none_some (sym d.0)
  followed client s r x p h mid rest of same why (inr (y, asked, mid2, last, one, ran, more, is)) = by r.over refl more
    where
      none : NoneOver p h asked
      none = (asked_none r.ask).of y p mid asked one

      by : (b : Bool) → r.over ≡ b → If b (ending.EndsSession client) (Returns tt) (Some x) p mid2 last → Over_told p h (Session (Called s) ∷ rest)
      by true over (inl d) = none_some (sym d.0)
      by true over (inr (z, removed, mid3, end, two, ran2, over_act, is2)) =
          subst (λ zs. Over_told p h (Session (Called s) ∷ zs)) (sym (is ∙ ap (λ zs. asked ++ zs) (is2 ∙ ap (λ zs. removed ++ zs) over_act.1)))
          (ends_last p h client s asked removed none ((removes_own client).of z p mid2 removed two) of (ap (λ (v : Reaction). v.over) same ∙ over) (why over))
      by false over d =
          let alone : rest ≡ asked = is ∙ ap (λ zs. asked ++ zs) d.1 ∙ append-nil asked in
          subst (λ zs. Over_told p h (Session (Called s) ∷ zs)) (sym alone) (none_told p h (Session (Called s) ∷ asked) (none_both p h (Session (Called s) ∷ []) asked (not_over p h (Session (Called s)) tt) none))

  -- a session that isn't there ends no more
  nobody : (client : List ℕ) (r : Reaction) (x : Unit {0}) (p : Place) (h mid : HeldView) (rest : List Act) → r ≡ nothing → ending.FollowsReaction client r (Some x) p mid rest → Over_told p h rest
  nobody client r x p h mid rest same (inl d) = none_some (sym d.0)
  nobody client r x p h mid rest same (inr (y, asked, mid2, last, one, ran, more, is)) =
      let a : asked ≡ [] = (subst (λ (o : Option Ask). ending.PassesAsked o (Some y) p mid asked) (ap (λ (v : Reaction). v.ask) same) one).1 in
      let b : last ≡ [] = (if_not r.over (ending.EndsSession client) (Returns tt) (Some x) p mid2 last (ap (λ (v : Reaction). v.over) same) more).1 in
      none_told p h rest (λ before after q at. none_there before after (Session (Over q)) (sym (is ∙ (λ i. a i ++ b i)) ∙ at))

  -- ---- a tick
  tick_by : (found : Option Seat) (client : List ℕ) (r : Reaction) (x : Unit {0}) (p : Place) (h mid : HeldView) (own rest : List Act) → seat_at client h ≡ found → CallsAt client ticks stays found (Some r) p h own → ending.FollowsReaction client r (Some x) p mid rest
      → Over_told p h (own ++ rest)
  tick_by None client r x p h mid own rest there d more =
      subst (λ zs. Over_told p h (zs ++ rest)) (sym d.1) (nobody client r x p h mid rest (let z : Some r ≡ Some nothing = d.0 in cc) more)
  tick_by (Some seat) client r x p h mid own rest there d more =
      let a = call client ticks stays seat r p h own d in
      subst (λ zs. Over_told p h (zs ++ rest)) (sym a.is) (followed client a.step r x p h mid rest a.of a.reaction (λ over. inl (a.event_is, due d over)) more)
    where
      due : CallsAt client ticks stays (Some seat) (Some r) p h own → r.over ≡ true → end_is_due client h ≡ true
      due (inl e) over = none_some (sym e.0)
      due (inr (q, after, answer, reacts, acts_are)) over =
          let same : r ≡ q = (let z : Some r ≡ Some q = answer in cc) in
          ap (λ (o : Option Seat). is_due (option_and_then (λ s. end_due s.session.kept) o) h.at) there
          ∙ over_by (has_run_out seat.session.link h.at) (is_due (will_due seat.session.kept) h.at) (is_due (end_due seat.session.kept) h.at) h.at seat.session r (same ∙ reacts.0) over

  tick_in : (client : List ℕ) (x : Unit {0}) (p : Place) (h : HeldView) (acts : List Act) → ending.Ticks client (Some x) p h acts → Over_told p h acts
  tick_in client x p h acts (inl d) = none_some (sym d.0)
  tick_in client x p h acts (inr (r, own, mid, rest, one, ran, more, is)) = subst (Over_told p h) (sym is) (tick_by (seat_at client h) client r x p h mid own rest refl one more)

  pub ticks_of : (client : List ℕ) → Keeps Over_told (ending.Ticks client)
  ticks_of client = record { of = λ x p h acts d. tick_in client x p h acts d }

  -- ---- an end at once
  finish_by : (found : Option Seat) (client : List ℕ) (r : Reaction) (x : Unit {0}) (p : Place) (h mid : HeldView) (own rest : List Act) → C client → CallsAt client finishes stays found (Some r) p h own → ending.FollowsReaction client r (Some x) p mid rest → Over_told p h (own ++ rest)
  finish_by None client r x p h mid own rest may d more =
      subst (λ zs. Over_told p h (zs ++ rest)) (sym d.1) (nobody client r x p h mid rest (let z : Some r ≡ Some nothing = d.0 in cc) more)
  finish_by (Some seat) client r x p h mid own rest may d more =
      let a = call client finishes stays seat r p h own d in
      subst (λ zs. Over_told p h (zs ++ rest)) (sym a.is) (followed client a.step r x p h mid rest a.of a.reaction (λ over. inr (a.event_is, may)) more)

  finish_in : (client : List ℕ) → C client → (x : Unit {0}) (p : Place) (h : HeldView) (acts : List Act) → ending.Finishes client (Some x) p h acts → Over_told p h acts
  finish_in client may x p h acts (inl d) = none_some (sym d.0)
  finish_in client may x p h acts (inr (r, own, mid, rest, one, ran, more, is)) = subst (Over_told p h) (sym is) (finish_by (seat_at client h) client r x p h mid own rest may one more)

  pub finishes_of : (client : List ℕ) → C client → Keeps Over_told (ending.Finishes client)
  finishes_of client may = record { of = λ x p h acts d. finish_in client may x p h acts d }

  -- ---- a packet of a client
  as_told : {A : Type 0} (P : Option A → Doing) → K A P → Keeps Over_told P
  as_told P k = record { of = λ x p h acts d. none_told p h acts (k.of x p h acts d) }

  offers_after : (end : Option ℕ) (n : ℕ) (client : List ℕ) (packet : ℕ) (given : List Granted) → Keeps Over_told (subscribing.OffersAfter end n client packet given)
  offers_after None n client packet given = as_told (subscribing.Offers client packet given) (offers K small client packet given)
  offers_after (Some code) n client packet given = closes_for Over_told over_closed due_told call_told ticks_of n client

  subscribes_by : (n : ℕ) (client : List ℕ) (k : Packet) → Keeps Over_told (serving.SubscribesBy n client k)
  subscribes_by n client (packets.Subscribe q) =
      j_then Over_told over_closed _ (subscribing.SendsSuback n client q.identifier) (as_told _ (in_turn K makes (subscribing.Grants client (subscribing.identifier_of q)) q.filters [] (grants K makes client (subscribing.identifier_of q)))) (λ given.
      j_then Over_told over_closed (Calls client (λ at. answers q.identifier (subscribing.granted_reasons given)) stays) (λ r. subscribing.OffersAfter r.end n client q.identifier given)
      (as_told _ (small.calls client (λ at. answers q.identifier (subscribing.granted_reasons given)) (λ at. tt))) (λ r. offers_after r.end n client q.identifier given))
  subscribes_by n client _ = j_returns Over_told over_closed tt

  unsubscribes_by : (n : ℕ) (client : List ℕ) (k : Packet) → Keeps Over_told (serving.UnsubscribesBy n client k)
  unsubscribes_by n client (packets.Unsubscribe u) =
      j_then Over_told over_closed _ (unsubscribing.SendsUnsuback n client u.identifier) (as_told _ (in_turn K makes (unsubscribing.Unsubscribed client) u.filters [] (unsubscribed K makes client))) (λ codes.
      j_then Over_told over_closed (Calls client (λ at. answers u.identifier codes) stays) (λ r. ending.ClosesAfter r.end n client)
      (as_told _ (small.calls client (λ at. answers u.identifier codes) (λ at. tt))) (λ r. closes_after Over_told over_closed due_told call_told ticks_of r.end n client))
  unsubscribes_by n client _ = j_returns Over_told over_closed tt

  does_asked : (ask : Option Ask) (n : ℕ) (client : List ℕ) (k : Packet) (room : Bool) (end : Option ℕ) → Keeps Over_told (serving.DoesAsked ask n client k room end)
  does_asked None n client k room end = as_told _ (makes.by_test (serving.is_dropped k room end) passing.Drops (Returns tt) small.dropped (makes.returns tt))
  does_asked (Some (asks.Pass m)) n client k room end = as_told _ (passes K small m)
  does_asked (Some asks.Subscribe) n client k room end = subscribes_by n client k
  does_asked (Some asks.Unsubscribe) n client k room end = unsubscribes_by n client k

  pub serves : (n : ℕ) (client : List ℕ) (k : Packet) → Keeps Over_told (serving.ServesPacket n client k)
  serves n client k =
      j_looks Over_told over_closed (λ place h. serving.room_for client k h) (serving.ServesIn n client k) (λ room.
      j_then Over_told over_closed (Calls client (λ at. takes k at room) stays) (serving.DoesReaction n client k room) (as_told _ (small.calls client (λ at. takes k at room) (λ at. tt))) (λ r.
      j_then Over_told over_closed (serving.DoesAsked r.ask n client k room r.end) (λ _. ending.ClosesAfter r.end n client) (does_asked r.ask n client k room r.end) (λ _. closes_after Over_told over_closed due_told call_told ticks_of r.end n client)))

  pub takes_forward : (from number : ℕ) (m : Forward) → Keeps Over_told (passing.TakesForward from number m)
  takes_forward from number m =
      as_told _ (small.finds (passing.IsHandedOver m) (passing.TakesCopies from number m)
      (λ x. makes.join (Acting (λ p h. Bridge (Took from number m x.0 x.1))) (λ _. Queues x.0)
      (j_acting NoneOver none_closed (λ p h. Bridge (Took from number m x.0 x.1)) (λ p h. not_over p h (Bridge (Took from number m x.0 x.1)) tt)) (λ _. queues_all x.0)))
