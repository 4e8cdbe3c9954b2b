-- Work that stops does so at a number that is at its end.
use Rattle.std.proofs.Common.{◌≡◌, ◌⊎◌, inl, inr, ℕ, ◌≤◌, ◌^◌, ◌||◌, not, nat_lt, Bool, true, false, cond, List, [], ◌∷◌, ◌++◌, Option, Some, None, refl, sym, subst}
use Rattle.std.proofs.lemmas.Bool.{ltb-false}
use Rattle.mqtt_message.specs.declared.message.Message.{Message}
use Rattle.mqtt_packets.specs.declared.connect.Connect.{Connect}
use Rattle.mqtt_packets.specs.declared.packet.Packet.{Packet}
use Rattle.mqtt_packets.specs.declared.packet.Packet.TheVariants as packets
use Rattle.qos_handshakes.specs.declared.copies.Entry.{Entry as Exchange}
use Rattle.qos_handshakes.specs.declared.answers.Rec.TheVariants as rec
use Rattle.qos_handshakes.specs.Entries.{find_id}
use Rattle.qos_handshakes.specs.Outbox.{ReceivedIf}
use Rattle.bridge_deltas.specs.declared.offer.Offer.{Offer}
use Rattle.bridge_deltas.specs.declared.offer.Offer.TheVariants.{Queued, Full, AtEnd}
use Rattle.bridge_deltas.specs.Lane.{next_number, offer_of}
use Rattle.bridge_lanes.specs.Rows.{Messages}
use Rattle.bridge_frames.specs.declared.forward.Forward.{Forward}
use Rattle.mqtt_sessions.specs.Packets.{PacketEndsIf}
use Rattle.mqtt_sessions.specs.Reaction.{Reaction}
use Rattle.mqtt_sessions.specs.State.{State, limit_of}
use Rattle.node_bridge.specs.View.{has_lanes, lane_to, offer_to}
use Rattle.replica_store.specs.declared.content.Content.{Content}
use Rattle.replica_store.specs.Making.{next_dot, next_count, subscribe_of, put_of}
use Rattle.subscription_set.specs.declared.entry.Entry.{Entry}
use Rattle.subscription_set.specs.Standing.{any_of, any_below}
use Rattle.law_sessions.specs.Runs.{Event, connects, queues, rooms, takes, answers, closes, ticks, finishes, loses, ends_of}
use Rattle.session_table.specs.Seats.{Seat}
use Rattle.node_work.specs.Acts.{Act, Store, Made, Session, MomentTaken, Named, Passed, Runs}
use Rattle.node_work.specs.Calling.{Calls, CallsAt}
use Rattle.node_work.specs.Doings.{MakesPut, MakesSubscribe, MakesRemove, MakesRemoveBelow, Removes, RemovesBelow, PutsInLaneBy, TakesMoment}
use Rattle.node_work.specs.Held.Making.{number_at_end, put_at_end, removal, removal_below}
use Rattle.node_work.specs.Held.Sessions.{Over, seat_at}
use Rattle.node_work.specs.Passing.{turn_at_end}
use Rattle.node_work.specs.View.{Place, HeldView}
use Rattle.node_work.specs.Working.{Doing, Returns, Acting, Numbered, Looks, FindsWhere, If, Where, Then}
use Rattle.node_work.proofs.Working.{runs_join}
use Rattle.node_clients.specs.Connecting as connecting
use Rattle.node_clients.specs.Ending as ending
use Rattle.node_clients.specs.Naming.{IsNextNumber, automatic}
use Rattle.node_clients.specs.Passing as passing
use Rattle.node_clients.proofs.Determined.{runs_determined}
use Rattle.broker_node.specs.declared.event.Event.{Event as NodeEvent}
use Rattle.broker_node.specs.Turns as turns
use Rattle.law_runs.proofs.Keeping.{none_some}
use Rattle.law_causes.specs.Stops.{HasNumberAtEnd, StopsHaveNumbers}
use Rattle.law_causes.proofs.Walk.{IsSimple, simple, Walks, copies_at, decides}
use Rattle.law_causes.proofs.Lower.{Makes, ticks_of, finishes_of, serves, evicts}

-- ---- each number
past : (n : ℕ) → not (nat_lt n (2 ^ 62)) ≡ true → 2 ^ 62 ≤ n
past n e = ltb-false n (2 ^ 62) (by (nat_lt n (2 ^ 62)) e)
  where
    by : (b : Bool) → not b ≡ true → b ≡ false
    by true f = cc
    by false f = refl

number_ends : (p : Place) (h : HeldView) → number_at_end p.id h ≡ true → HasNumberAtEnd p h
number_ends p h e = inl (past (next_dot p.id h.store).number e)

put_ends : (p : Place) (h : HeldView) → put_at_end p.id h ≡ true → HasNumberAtEnd p h
put_ends p h e = by (number_at_end p.id h) refl e
  where
    by : (b : Bool) → number_at_end p.id h ≡ b → (b || not (nat_lt (next_count h.store) (2 ^ 62))) ≡ true → HasNumberAtEnd p h
    by true is f = number_ends p h is
    by false is f = inr (inl (past (next_count h.store) f))

turn_ends : (p : Place) (h : HeldView) → turn_at_end p h ≡ true → HasNumberAtEnd p h
turn_ends p h e = inr (inr (inl (past h.turn e)))

lane_ends : (p : Place) (h : HeldView) (peer : ℕ) → offer_to peer h.bridge ≡ AtEnd → HasNumberAtEnd p h
lane_ends p h peer e = by (has_lanes h.bridge peer) e
  where
    by_number : (l : Messages) (b : Bool) → nat_lt (next_number l) (2 ^ 62) ≡ b → cond b (Queued (next_number l)) AtEnd ≡ AtEnd → 2 ^ 62 ≤ next_number l
    by_number l true is f = cc
    by_number l false is f = ltb-false (next_number l) (2 ^ 62) is

    by_room : (l : Messages) (b : Bool) → cond b (cond (nat_lt (next_number l) (2 ^ 62)) (Queued (next_number l)) AtEnd) Full ≡ AtEnd → 2 ^ 62 ≤ next_number l
    by_room l true f = by_number l (nat_lt (next_number l) (2 ^ 62)) refl f
    by_room l false f = cc

    by : (b : Bool) → cond b (offer_of (lane_to h.bridge peer)) Full ≡ AtEnd → HasNumberAtEnd p h
    by true f = inr (inr (inr (inr (inl (peer, by_room (lane_to h.bridge peer) _ f)))))
    by false f = cc

-- ---- a session's
released_ends : (o : Option Exchange) (s : State) (id reason : ℕ) → ReceivedIf o s.outbox id reason rec.AtEnd s.outbox → 2 ^ 62 ≤ s.outbox.next_order
released_ends None s id reason d = absurd (let z = d.0 in cc)
released_ends (Some x) s id reason d = d.2

packet_ends : (o : Option ℕ) (p : Packet) (s : State) → PacketEndsIf o p s → 2 ^ 62 ≤ s.outbox.next_order
packet_ends None p s d = absurd d
packet_ends (Some limit) (packets.Pubrec a) s d = released_ends (find_id a.identifier s.outbox.copies) s a.identifier a.reason d
packet_ends (Some limit) _ s d = absurd d

session_ends : (e : Event) (s : State) → ends_of e s → (2 ^ 62 ≤ s.outbox.next_place) ⊎ (2 ^ 62 ≤ s.outbox.next_order)
session_ends (queues d now) s ends = inl ends.1.1
session_ends (takes p now room) s ends = inr (packet_ends (limit_of s.link) p s ends)
session_ends (connects c continued room now) s ends = absurd ends
session_ends (rooms bytes now) s ends = absurd ends
session_ends (answers id codes) s ends = absurd ends
session_ends (closes now) s ends = absurd ends
session_ends (ticks now) s ends = absurd ends
session_ends (finishes now) s ends = absurd ends
session_ends loses s ends = absurd ends

-- ---- of work
module _ (at : ℕ) where
  abbrev Ends : Place → HeldView → List Act → Type 0
  Ends p h acts = (2 ^ 62 ≤ at) ⊎ ((left : HeldView) × Runs p h acts left × HasNumberAtEnd p left)

  here : (p : Place) (h : HeldView) (acts : List Act) → acts ≡ [] → HasNumberAtEnd p h → Ends p h acts
  here p h acts is e = inr (h, subst (λ xs. Runs p h xs h) (sym is) refl, e)

  later : (p : Place) (h mid : HeldView) (own rest acts : List Act) → acts ≡ own ++ rest → Runs p h own mid → Ends p mid rest → Ends p h acts
  later p h mid own rest acts is runs (inl late) = inl late
  later p h mid own rest acts is runs (inr e) = inr (e.0, subst (λ xs. Runs p h xs e.0) (sym is) (runs_join p own rest h mid e.0 runs e.1), e.2)

  pub record Halts (A : Type 0) (P : Option A → Doing) : Type 0 where
    pub of : (p : Place) (h : HeldView) (acts : List Act) → P None p h acts → Ends p h acts

  k_returns : {A : Type 0} (y : A) → Halts A (Returns y)
  k_returns y = record { of = λ p h acts d. none_some d.0 }

  k_acting : (a : Place → HeldView → Act) → ((p : Place) (h : HeldView) → IsSimple (a p h)) → Halts (Unit {0}) (Acting a)
  k_acting a simple = record { of = λ p h acts d. none_some d.0 }

  k_over : (a : Place → HeldView → Act) → Halts (Unit {0}) (Acting a)
  k_over a = record { of = λ p h acts d. none_some d.0 }

  abbrev halted : Option (Unit {0})
  halted = None

  numbered_by : (b : Bool) (a : Act) (acts : List Act) {X : Type 0} → (b ≡ true → acts ≡ [] → X) → cond b ((halted ≡ None) × (acts ≡ [])) ((halted ≡ Some tt) × (acts ≡ a ∷ [])) → X
  numbered_by true a acts f d = f refl d.1
  numbered_by false a acts f d = none_some d.0

  k_numbered : (at_end : Place → HeldView → Bool) (a : Place → HeldView → Act) → ((p : Place) (h : HeldView) (acts : List Act) → at_end p h ≡ true → acts ≡ [] → Ends p h acts) → Halts (Unit {0}) (Numbered at_end a)
  k_numbered at_end a ends = record { of = λ p h acts d. numbered_by (at_end p h) (a p h) acts {X = Ends p h acts} (ends p h acts) d }

  k_looks : {A B : Type 0} (see : Place → HeldView → A) (P : A → Option B → Doing) → ((y : A) → Halts B (P y)) → Halts B (Looks see P)
  k_looks see P f = record { of = λ p h acts d. (f (see p h)).of p h acts d }

  k_finds : {A B : Type 0} (Is : Place → HeldView → A → Type 0) (P : A → Option B → Doing) → ((y : A) → Halts B (P y)) → Halts B (FindsWhere Is P)
  k_finds Is P f = record { of = λ p h acts d. (f d.0).of p h acts d.2 }

  k_if : {A : Type 0} (b : Bool) (P Q : Option A → Doing) → Halts A P → Halts A Q → Halts A (If b P Q)
  k_if true P Q f g = record { of = λ p h acts d. f.of p h acts d }
  k_if false P Q f g = record { of = λ p h acts d. g.of p h acts d }

  k_where : {A : Type 0} (X : Type 0) (P Q : Option A → Doing) → Halts A P → Halts A Q → Halts A (Where X P Q)
  k_where X P Q f g = record { of = λ p h acts d. elim d [ inl e ↦ f.of p h acts e.1 | inr e ↦ g.of p h acts e.1 ] }

  k_then : {A B : Type 0} (P : Option A → Doing) (Q : A → Option B → Doing) → Halts A P → ((y : A) → Halts B (Q y)) → Halts B (Then P Q)
  k_then P Q f g = record { of = λ p h acts d. elim d [ inl e ↦ f.of p h acts e.1 | inr e ↦ later p h e.2 e.1 e.3 acts e.7 e.5 ((g e.0).of p e.2 e.3 e.6) ] }

  calls_at : (client : List ℕ) (event : ℕ → Event) (on : Option ℕ → Option ℕ) (found : Option Seat) (p : Place) (h : HeldView) (acts : List Act) → seat_at client h ≡ found → CallsAt client event on found None p h acts → Ends p h acts
  calls_at client event on None p h acts is d = none_some d.0
  calls_at client event on (Some seat) p h acts is (inl d) =
      here p h acts d.2 (inr (inr (inr (inr (inr (record { client = client; seat = seat; found = is; number = session_ends (event h.at) seat.session d.1 }))))))
  calls_at client event on (Some seat) p h acts is (inr d) = none_some d.2

  k_calls : (client : List ℕ) (event : ℕ → Event) (on : Option ℕ → Option ℕ) → Halts Reaction (Calls client event on)
  k_calls client event on = record { of = λ p h acts d. calls_at client event on (seat_at client h) p h acts refl d }

  puts_by : (peer : ℕ) (m : Forward) (o : Offer) (p : Place) (h : HeldView) (acts : List Act) → offer_to peer h.bridge ≡ o → PutsInLaneBy peer m o None p h acts → Ends p h acts
  puts_by peer m (Queued n) p h acts is d = none_some d.0
  puts_by peer m Full p h acts is d = none_some d.0
  puts_by peer m AtEnd p h acts is d = here p h acts d.1 (lane_ends p h peer is)

  names_by : (c : ℕ) (q : Connect) → ((client : List ℕ) → Halts (Unit {0}) (connecting.Accepts c q client)) → (number : Option ℕ) (p : Place) (h : HeldView) (acts : List Act) → IsNextNumber p h number → connecting.NamesBy c q number None p h acts → Ends p h acts
  names_by c q f None p h acts is d = here p h acts d.1 (inr (inr (inr (inl is))))
  names_by c q f (Some number) p h acts is d =
      (k_then (Acting (λ place h. Named number)) (λ _. Looks (λ place h. automatic place.id number) (connecting.Accepts c q)) (k_over (λ place h. Named number))
      (λ _. k_looks (λ place h. automatic place.id number) (connecting.Accepts c q) f)).of p h acts d

  late : (p : Place) (h : HeldView) (acts : List Act) → not (nat_lt at (2 ^ 62)) ≡ true → acts ≡ [] → Ends p h acts
  late p h acts e is = inl (past at e)

  passed : (m : Message) (x : passing.Made) → Halts (Unit {0}) (Numbered turn_at_end (λ p h. Passed m x.0 x.1.0 x.1.1))
  passed m x = k_numbered turn_at_end (λ p h. Passed m x.0 x.1.0 x.1.1) (λ p h acts e is. here p h acts is (turn_ends p h e))

  -- ---- one operation
  makes_put : (content : Content) → Halts (Unit {0}) (MakesPut content)
  makes_put content = k_numbered (λ p h. put_at_end p.id h) (λ p h. Store (Made (put_of p.id content h.store))) (λ p h acts e is. here p h acts is (put_ends p h e))

  makes_subscribe : (entry : Entry) → Halts (Unit {0}) (MakesSubscribe entry)
  makes_subscribe entry = k_numbered (λ p h. number_at_end p.id h) (λ p h. Store (Made (subscribe_of p.id entry h.store))) (λ p h acts e is. here p h acts is (number_ends p h e))

  makes_remove : (client : List ℕ) (to : Option (List ℕ)) → Halts (Unit {0}) (MakesRemove client to)
  makes_remove client to = k_numbered (λ p h. number_at_end p.id h) (λ p h. Store (Made (removal p.id client to h.store))) (λ p h acts e is. here p h acts is (number_ends p h e))

  makes_remove_below : (client : List ℕ) (version : ℕ) → Halts (Unit {0}) (MakesRemoveBelow client version)
  makes_remove_below client version = k_numbered (λ p h. number_at_end p.id h) (λ p h. Store (Made (removal_below p.id client version h.store))) (λ p h acts e is. here p h acts is (number_ends p h e))

  removes : (client : List ℕ) (to : Option (List ℕ)) → Halts Bool (Removes client to)
  removes client to =
      k_looks (λ p h. any_of client to h.store.subscriptions) (λ stands. If stands (Then (MakesRemove client to) (λ _. Returns true)) (Returns false))
      (λ stands. k_if stands (Then (MakesRemove client to) (λ _. Returns true)) (Returns false) (k_then (MakesRemove client to) (λ _. Returns true) (makes_remove client to) (λ _. k_returns true)) (k_returns false))

  removes_below : (client : List ℕ) (version : ℕ) → Halts Bool (RemovesBelow client version)
  removes_below client version =
      k_looks (λ p h. any_below client version h.store.subscriptions) (λ stands. If stands (Then (MakesRemoveBelow client version) (λ _. Returns true)) (Returns false))
      (λ stands. k_if stands (Then (MakesRemoveBelow client version) (λ _. Returns true)) (Returns false) (k_then (MakesRemoveBelow client version) (λ _. Returns true) (makes_remove_below client version) (λ _. k_returns true)) (k_returns false))

-- ---- at the moment of an event
module _ (e : NodeEvent) where
  abbrev K : (A : Type 0) → (Option A → Doing) → Type 0
  K A P = Halts e.at A P

  abbrev Does : (Option (Unit {0}) → Doing) → Type 0
  Does P = Halts e.at (Unit {0}) P

  walks : Walks (Halts e.at)
  walks = record {
    returns = k_returns e.at;
    acting = λ a plain. k_acting e.at a (λ p h. simple (a p h) (plain p h));
    looks = k_looks e.at;
    finds = k_finds e.at;
    by_test = k_if e.at;
    by_whether = k_where e.at;
    join = k_then e.at;
    calls = k_calls e.at;
    puts = λ peer m. record { of = λ p h acts d. puts_by e.at peer m (offer_to peer h.bridge) p h acts refl d };
    names = λ c q f. record { of = λ p h acts d. names_by e.at c q f d.0 p h acts d.1 d.2 };
  }

  removes_own : (client : List ℕ) → K Bool (ending.RemovesOwn client)
  removes_own client = k_finds e.at (ending.IsAtHome client) (ending.RemovesFor client) (λ node. k_looks e.at (ending.ends_below node) (RemovesBelow client) (removes_below e.at client))

  ends_session : (client : List ℕ) → Does (ending.EndsSession client)
  ends_session client = k_then e.at (ending.RemovesOwn client) (λ _. Acting (λ p h. Session (Over client))) (removes_own client) (λ _. k_over e.at (λ p h. Session (Over client)))

  makes : Makes (Halts e.at)
  makes = record {
    put = makes_put e.at;
    subscribe = makes_subscribe e.at;
    remove = removes e.at;
    end = ends_session;
    copied = λ m. k_looks e.at (λ p h. h.at) (passing.CopiesAt m) (copies_at (Halts e.at) walks m (passed e.at m));
  }

  takes_moment : Does (TakesMoment e.at)
  takes_moment = k_numbered e.at (λ p h. not (nat_lt e.at (2 ^ 62))) (λ p h. MomentTaken e.at) (late e.at)

  pub halts : Does (turns.Decides e)
  halts =
      decides (Halts e.at) walks (ticks_of (Halts e.at) walks makes) (finishes_of (Halts e.at) walks makes) (serves (Halts e.at) walks makes) (λ c. record { of = λ p h acts d. absurd d }) (λ c client. record { of = λ p h acts d. absurd d }) e (λ client is. evicts (Halts e.at) walks makes client) takes_moment

-- whatever is held after the acts is what they lead to
pub stops_have_numbers : StopsHaveNumbers
stops_have_numbers = λ p h e acts d. elim ((halts e).of p h acts d) [
  | inl late ↦ inl late
  | inr end ↦ inr (record { held = end.0; runs = end.1; end = λ left runs. subst (HasNumberAtEnd p) (runs_determined p acts h end.0 left end.1 runs) end.2 })
]
