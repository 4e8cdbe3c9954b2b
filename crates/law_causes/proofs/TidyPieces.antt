-- Bytes that come on a connection: directly behind each DISCONNECT its connection is closed.
use Rattle.std.specs.FinMap as map
use Rattle.std.proofs.Common.{◌≡◌, ◌≢◌, ◌⊎◌, inl, inr, ℕ, Bool, true, false, cond, is_some, List, [], ◌∷◌, ◌++◌, Option, Some, None, refl, sym, ap, ◌∙◌, subst}
use Rattle.std.specs.List.{AllByRecursion}
use Rattle.std.specs.Ordering.{eq_by_cmp}
use Rattle.std.specs.Prelude.{◌&&◌, ◌==◌, not, option_and_then}
use Rattle.law_maps.proofs.Texts.{same_text, get_inserted, get_apart, get_removed, get_left}
use Rattle.mqtt_fields.specs.Options.{qos_number}
use Rattle.mqtt_message.specs.declared.delivery.Delivery.{Delivery}
use Rattle.mqtt_packets.specs.declared.connect.Connect.{Connect}
use Rattle.mqtt_packets.specs.declared.fault.PacketFault.{PacketFault}
use Rattle.mqtt_packets.specs.declared.packet.Packet.{Packet}
use Rattle.mqtt_packets.specs.declared.packet.Packet.TheVariants as packets
use Rattle.mqtt_packets.specs.declared.subscribe.Subscribe.{Subscribe}
use Rattle.mqtt_packets.specs.declared.subscribe.SubscribeFilter.{SubscribeFilter}
use Rattle.mqtt_packets.specs.declared.unsubscribe.Unsubscribe.{Unsubscribe}
use Rattle.mqtt_packets.specs.Written.{written}
use Rattle.mqtt_sessions.specs.declared.reaction.Ask.{Ask}
use Rattle.mqtt_sessions.specs.declared.reaction.Ask.TheVariants as asks
use Rattle.mqtt_sessions.specs.Answers.{disconnect, fits}
use Rattle.mqtt_sessions.specs.Reaction.{Reaction, nothing}
use Rattle.mqtt_sessions.specs.State.{limit_in}
use Rattle.law_sessions.specs.Runs.{Event, connects, queues, rooms, takes, answers, closes, ticks, finishes, loses}
use Rattle.session_table.specs.Listing.{text_cmp}
use Rattle.session_table.specs.Seats.{Seat, begun}
use Rattle.node_work.specs.declared.granted.Granted.{Granted}
use Rattle.node_work.specs.declared.outcome.Output.TheVariants.{Send, Close}
use Rattle.node_work.specs.Acts.{Act, StoreAct, MomentTaken, Began, Moved, Store, Connection, Session, Bridge, Out, Named, Acknowledged, Passed, Dropped, Allowed, Runs, next}
use Rattle.node_work.specs.Held.Bridge.{BridgeAct, Put as Put_in, Took, Got, Believed, Greeted, Gave, Left_out}
use Rattle.node_work.specs.Held.Connections.{ConnectionTable, Opened, Fed, Roomed, Accepted, Closed, changed_at, client_at, first_at, is_open, with_client}
use Rattle.node_work.specs.Held.Sessions.{SessionStep, Begun, Called, Over, IsOn, IsCall, connection_at, has_session, takes_disconnect}
use Rattle.node_work.specs.Packets.{refused_packet}
use Rattle.node_work.specs.View.{Place, HeldView, ConnectionView}
use Rattle.node_clients.specs.Pieces.{connack_code, is_connect}
use Rattle.node_clients.specs.Serving.{is_dropped, room_for}
use Rattle.node_clients.specs.Subscribing.{granted_reasons, identifier_of}
use Rattle.cluster_play.proofs.Bools.{nat_cases, some_is}
use Rattle.law_runs.specs.Connects.{IsKnownAs}
use Rattle.law_runs.proofs.Keeping.{none_some}
use Rattle.law_steps.specs.Connects.{AcceptsAlone, BeginsAlone, CleansAlone, FirstAlone, TakesOverAlone}
use Rattle.law_causes.specs.Disconnects.{IsFarewell}
use Rattle.law_steps.specs.Ending.{ClosesOn}
use Rattle.law_steps.specs.Packets.{IsDone, SubscribeIsDone, TakesAlone, UnsubscribeIsDone}
use Rattle.law_steps.specs.Pieces.{AreTakenAlone, FaultAlone, FaultIf, PacketAlone}
use Rattle.law_steps.specs.Requests.{AreOfferedTo, CallsOnce, InTurnAre, IsGrantedBy, IsRemovedBy, OffersAlone, SubacksAlone, SubscribesAlone, UnsubacksAlone, UnsubscribesAlone}
use Rattle.law_steps.proofs.ClosingLaws.{second_runs}
use Rattle.law_steps.proofs.On.{gone_apart, gone_here, put_here}
use Rattle.law_causes.proofs.Farewells.{IsDueEvent, IsMild, fine, other_packet}
use Rattle.law_causes.proofs.Tidy.{CallShuts, EndShuts, IsPlain, Shuts, Tidy, mild_by, plain_tidy, shuts_at, tidy_both, tidy_is, tidy_none, tidy_parts}
use Rattle.law_causes.proofs.TidyDue.{ArePassing, AreDue, IsDueAct, Well, all_is, all_parts, closes_shut, finish_if, message_passing, passing_due, passing_plain}

-- ---- acts by which no connection gets a client
abbrev pub JoinsNone : Event → Type 0
JoinsNone (connects k continued room now) = ⊥
JoinsNone loses = ⊥
JoinsNone e = Unit {0}

abbrev pub IsLater : Act → Type 0
IsLater (Session (Called s)) = JoinsNone s.event
IsLater (Connection (Opened c)) = ⊥
IsLater (Connection (Fed c piece)) = ⊥
IsLater (Connection (Roomed c bytes)) = ⊥
IsLater (Connection (Accepted c client)) = ⊥
IsLater a = Unit {0}

abbrev pub AreLater : List Act → Type 0
AreLater acts = AllByRecursion IsLater acts

due_joins : (e : Event) → IsDueEvent e → JoinsNone e
due_joins (connects k continued room now) due = absurd due
due_joins loses due = absurd due
due_joins e due = tt

due_later : (a : Act) → IsDueAct a → IsLater a
due_later (Session (Called s)) due = due_joins s.event due
due_later (Connection (Opened c)) due = absurd due
due_later (Connection (Fed c piece)) due = absurd due
due_later (Connection (Roomed c bytes)) due = absurd due
due_later (Connection (Accepted c client)) due = absurd due
due_later a due = tt

pub all_later : (acts : List Act) → AreDue acts → AreLater acts
all_later [] due = tt
all_later (a ∷ acts) due = (due_later a due.0, all_later acts due.1)

-- ---- both
pub record Good (acts : List Act) : Type 0 where
  pub tidy : Tidy acts
  pub later : AreLater acts

pub good_none : (acts : List Act) → acts ≡ [] → Good acts
good_none acts is = record { tidy = tidy_none acts is; later = all_is IsLater acts [] is tt }

pub good_parts : (acts xs ys : List Act) → acts ≡ xs ++ ys → Good xs → Good ys → Good acts
good_parts acts xs ys is a b = record { tidy = tidy_parts acts xs ys is a.tidy b.tidy; later = all_parts IsLater acts xs ys is a.later b.later }

pub good_well : (p : Place) (acts : List Act) → Well p acts → Good acts
good_well p acts w = record { tidy = w.tidy; later = all_later acts w.due }

pub good_passing : (acts : List Act) → ArePassing acts → Good acts
good_passing acts a = record { tidy = plain_tidy acts (passing_plain acts a); later = all_later acts (passing_due acts a) }

-- ---- the client's session is on no other connection
abbrev pub IsOnly : ℕ → List ℕ → HeldView → Type 0
IsOnly c client h = (seat : Seat) (q : ℕ) → map.get h.sessions client ≡ Some seat → seat.connection ≡ Some q → q ≡ c

abbrev pub Serves : ℕ → HeldView → Type 0
Serves c h = (client : List ℕ) → client_at c h ≡ Some client → IsOnly c client h

on_before : (e : Event) (before on : Option ℕ) (c : ℕ) → JoinsNone e → IsOn e before on → on ≡ Some c → before ≡ Some c
on_before (connects k continued room now) before on c none is at = absurd none
on_before (queues d now) before on c none is at = sym is ∙ at
on_before (rooms bytes now) before on c none is at = sym is ∙ at
on_before (takes k now room) before on c none is at = sym is ∙ at
on_before (answers id codes) before on c none is at = sym is ∙ at
on_before (closes now) before on c none is at = none_some (sym is ∙ at)
on_before (ticks now) before on c none is at = sym is ∙ at
on_before (finishes now) before on c none is at = sym is ∙ at
on_before loses before on c none is at = absurd none

call_only : (c : ℕ) (client : List ℕ) (h : HeldView) (s : SessionStep) → JoinsNone s.event → IsCall h s → IsOnly c client h → IsOnly c client (next h (Session (Called s)))
call_only c client h s none call only seat q found at = by (eq_by_cmp text_cmp client s.client) refl
  where
    own : Seat
    own = record { session = s.after; connection = s.on }

    by : (b : Bool) → eq_by_cmp text_cmp client s.client ≡ b → q ≡ c
    by true e =
        let same : client ≡ s.client = same_text client s.client e in
        let is : own ≡ seat = some_is (sym (get_inserted h.sessions s.client own) ∙ ap (map.get (map.insert h.sessions s.client own)) (sym same) ∙ found) in
        only call.seat q (ap (map.get h.sessions) same ∙ call.found) (on_before s.event call.seat.connection s.on q none call.on (ap (λ (v : Seat). v.connection) is ∙ at))
    by false e = only seat q (sym (get_apart h.sessions s.client own client e) ∙ found) at

over_only : (c : ℕ) (client other : List ℕ) (h : HeldView) → IsOnly c client h → IsOnly c client (next h (Session (Over other)))
over_only c client other h only seat q found at = by (eq_by_cmp text_cmp client other) refl
  where
    by : (b : Bool) → eq_by_cmp text_cmp client other ≡ b → q ≡ c
    by true e = none_some (sym (get_removed h.sessions other) ∙ ap (map.get (map.remove h.sessions other)) (sym (same_text client other e)) ∙ found)
    by false e = only seat q (sym (get_left h.sessions other client e) ∙ found) at

begun_only : (c : ℕ) (client other : List ℕ) (h : HeldView) → IsOnly c client h → IsOnly c client (next h (Session (Begun other)))
begun_only c client other h only seat q found at = by (eq_by_cmp text_cmp client other) refl
  where
    by : (b : Bool) → eq_by_cmp text_cmp client other ≡ b → q ≡ c
    by true e =
        let is : begun other ≡ seat = some_is (sym (get_inserted h.sessions other (begun other)) ∙ ap (map.get (map.insert h.sessions other (begun other))) (sym (same_text client other e)) ∙ found) in
        none_some (ap (λ (v : Seat). v.connection) is ∙ at)
    by false e = only seat q (sym (get_apart h.sessions other (begun other) client e) ∙ found) at

bridge_serves : (c : ℕ) (h : HeldView) (a : BridgeAct) → Serves c h → Serves c (next h (Bridge a))
bridge_serves c h (Put_in peer m) s = s
bridge_serves c h (Took peer number m copies lost) s = s
bridge_serves c h (Got peer number) s = s
bridge_serves c h (Believed peer dots) s = s
bridge_serves c h (Greeted peer g) s = s
bridge_serves c h (Gave f) s = s
bridge_serves c h (Left_out what) s = s

closed_serves : (c q : ℕ) (h : HeldView) → Serves c h → Serves c (next h (Connection (Closed q)))
closed_serves c q h s client has = by (nat_cases c q)
  where
    by : (c ≡ q) ⊎ (c ≢ q) → IsOnly c client h
    by (inl e) = none_some (sym (ap (option_and_then (λ (v : ConnectionView). v.client)) (ap (map.get (map.remove h.connections q)) e ∙ gone_here h.connections q)) ∙ has)
    by (inr ne) = s client (ap (option_and_then (λ (v : ConnectionView). v.client)) (sym (gone_apart h.connections q c ne)) ∙ has)

act_serves : (c : ℕ) (p : Place) (h : HeldView) (a : Act) → IsLater a → Allowed p h a → Serves c h → Serves c (next h a)
act_serves c p h (Session (Called st)) later allowed s = λ client has. call_only c client h st later allowed (s client has)
act_serves c p h (Session (Over other)) later allowed s = λ client has. over_only c client other h (s client has)
act_serves c p h (Session (Begun other)) later allowed s = λ client has. begun_only c client other h (s client has)
act_serves c p h (Connection (Opened q)) later allowed s = absurd later
act_serves c p h (Connection (Fed q piece)) later allowed s = absurd later
act_serves c p h (Connection (Roomed q bytes)) later allowed s = absurd later
act_serves c p h (Connection (Accepted q client)) later allowed s = absurd later
act_serves c p h (Connection (Closed q)) later allowed s = closed_serves c q h s
act_serves c p h (Bridge a) later allowed s = bridge_serves c h a s
act_serves c p h (Store a) later allowed s = s
act_serves c p h (MomentTaken at) later allowed s = s
act_serves c p h Began later allowed s = s
act_serves c p h (Moved homes) later allowed s = s
act_serves c p h (Out o) later allowed s = s
act_serves c p h (Named number) later allowed s = s
act_serves c p h (Acknowledged client packet at grants offers) later allowed s = s
act_serves c p h (Passed m copies lost routes) later allowed s = s
act_serves c p h Dropped later allowed s = s

pub serves_on : (c : ℕ) (p : Place) (acts : List Act) (h h' : HeldView) → AreLater acts → Runs p h acts h' → Serves c h → Serves c h'
serves_on c p [] h h' later runs s = subst (Serves c) (sym runs) s
serves_on c p (a ∷ acts) h h' later runs s = serves_on c p acts runs.0 h' later.1 runs.2 (subst (Serves c) (sym runs.1.1) (act_serves c p h a later.0 runs.1.0 s))

-- ---- a connection is closed
pub record GoodShut (c : ℕ) (acts : List Act) : Type 0 where
  pub good : Good acts
  pub shuts : Shuts c acts

pub closes_good : (p : Place) (h h' : HeldView) (c : ℕ) (client : List ℕ) (acts : List Act) → ClosesOn p h c client acts → Runs p h acts h' → GoodShut c acts
closes_good p h h' c client acts d runs =
    let s = closes_shut p h h' c client acts d runs in
    record { good = record { tidy = s.tidy; later = all_is IsLater acts _ d.1 (tt, (tt, all_later d.0 s.due)) }; shuts = s.shuts }

-- after a packet of the node's own
pub told_good : (b : Bool) (p : Place) (h h' : HeldView) (c : ℕ) (client bytes : List ℕ) (rest acts : List Act) → acts ≡ cond b (Out (Send c bytes) ∷ []) [] ++ rest → ClosesOn p h c client rest → Runs p h acts h' → Good acts
told_good true p h h' c client bytes rest acts is d runs =
    let r = subst (λ xs. Runs p h xs h') is runs in
    let s = closes_good p h h' c client rest d (subst (λ v. Runs p v rest h') r.1.1 r.2) in
    record { tidy = tidy_is acts _ is ((λ farewell. s.shuts), s.good.tidy); later = all_is IsLater acts _ is (tt, s.good.later) }
told_good false p h h' c client bytes rest acts is d runs =
    let s = closes_good p h h' c client rest d (subst (λ xs. Runs p h xs h') is runs) in
    record { tidy = tidy_is acts rest is s.good.tidy; later = all_is IsLater acts rest is s.good.later }

-- ---- calls
called_if : (b : Bool) (client : List ℕ) (e : Event) (r : Reaction) (acts : List Act) → IsMild e → JoinsNone e → cond b (CallsOnce client e r acts) ((r ≡ nothing) × (acts ≡ [])) → Good acts
called_if true client e r acts mild none d = record {
  tidy = plain_tidy acts (all_is IsPlain acts _ d.is (mild_by d.call e d.event_is mild, tt));
  later = all_is IsLater acts _ d.is (subst JoinsNone (sym d.event_is) none, tt);
}
called_if false client e r acts mild none d = good_none acts d.1

offered_good : (p : Place) (h : HeldView) (client : List ℕ) (ds : List Delivery) (acts : List Act) → AreOfferedTo p h client ds acts → Good acts
offered_good p h client [] acts is = good_none acts is
offered_good p h client (d ∷ ds) acts (r, own, mid, rest, is, ran, one, more) =
    good_parts acts own rest is (called_if (has_session client h) client (queues d h.at) r own tt tt one) (offered_good p mid client ds rest more)

stored_good : (a : StoreAct) (acts : List Act) → acts ≡ Store a ∷ [] → Good acts
stored_good a acts is = record { tidy = tidy_is acts _ is (tt, tt); later = all_is IsLater acts _ is (tt, tt) }

-- ---- SUBSCRIBE and UNSUBSCRIBE
in_turn : {A B : Type 0} (One : Place → HeldView → A → B → List Act → Type 0) → ((p : Place) (h : HeldView) (x : A) (y : B) (acts : List Act) → One p h x y acts → Good acts)
    → (p : Place) (h : HeldView) (xs : List A) (before given : List B) (acts : List Act) → InTurnAre One p h xs before given acts → Good acts
in_turn One f p h [] before given acts d = good_none acts d.1
in_turn One f p h (x ∷ xs) before given acts (y, own, mid, rest, is, ran, one, more) = good_parts acts own rest is (f p h x y own one) (in_turn One f p mid xs (before ++ y ∷ []) given rest more)

stored_if : (b : Bool) (X Y : Type 0) (a : StoreAct) (acts : List Act) → cond b (X × (acts ≡ [])) (Y × (acts ≡ Store a ∷ [])) → Good acts
stored_if true X Y a acts d = good_none acts d.1
stored_if false X Y a acts d = stored_good a acts d.1

removed_if : (b : Bool) (X Y : Type 0) (a : StoreAct) (acts : List Act) → cond b (X × (acts ≡ Store a ∷ [])) (Y × (acts ≡ [])) → Good acts
removed_if true X Y a acts d = stored_good a acts d.1
removed_if false X Y a acts d = good_none acts d.1

granted_good : (client : List ℕ) (identifier : ℕ) (p : Place) (h : HeldView) (f : SubscribeFilter) (given : Granted) (acts : List Act) → IsGrantedBy client identifier p h f given acts → Good acts
granted_good client identifier p h f given acts (inl d) = good_none acts d.2
granted_good client identifier p h f given acts (inr d) = stored_if _ _ _ _ acts d.1

unsubscribed_good : (client : List ℕ) (p : Place) (h : HeldView) (text : List ℕ) (code : ℕ) (acts : List Act) → IsRemovedBy client p h text code acts → Good acts
unsubscribed_good client p h text code acts (inl d) = good_none acts d.2
unsubscribed_good client p h text code acts (inr d) = removed_if _ _ _ _ acts d.1

offers_good : (p : Place) (h : HeldView) (client : List ℕ) (packet : ℕ) (given : List Granted) (acts : List Act) → OffersAlone p h client packet given acts → Good acts
offers_good p h client packet given acts (offers, rest, is, more) =
    let r = offered_good p h client offers rest more in
    record { tidy = tidy_is acts _ is (tt, r.tidy); later = all_is IsLater acts _ is (tt, r.later) }

suback_if : (b : Bool) (p : Place) (h h' : HeldView) (c : ℕ) (client : List ℕ) (packet : ℕ) (given : List Granted) (acts : List Act) → cond b (ClosesOn p h c client acts) (OffersAlone p h client packet given acts) → Runs p h acts h' → Good acts
suback_if true p h h' c client packet given acts d runs = (closes_good p h h' c client acts d runs).good
suback_if false p h h' c client packet given acts d runs = offers_good p h client packet given acts d

subacks_good : (p : Place) (h h' : HeldView) (c : ℕ) (client : List ℕ) (packet : ℕ) (given : List Granted) (acts : List Act) → SubacksAlone p h c client packet given acts → Runs p h acts h' → Good acts
subacks_good p h h' c client packet given acts d runs =
    good_parts acts d.told d.rest d.is (called_if (has_session client h) client (answers packet (granted_reasons given)) d.reaction d.told tt tt d.tells)
    (suback_if (is_some d.reaction.end) p d.left h' c client packet given d.rest d.follows (second_runs p h d.left h' d.told d.rest acts d.is d.leaves runs))

subscribes_good : (p : Place) (h h' : HeldView) (c : ℕ) (client : List ℕ) (q : Subscribe) (acts : List Act) → SubscribesAlone p h c client q acts → Runs p h acts h' → Good acts
subscribes_good p h h' c client q acts d runs =
    good_parts acts d.own d.rest d.is (in_turn (IsGrantedBy client (identifier_of q)) (granted_good client (identifier_of q)) p h q.filters [] d.given d.own d.filters)
    (subacks_good p d.mid h' c client q.identifier d.given d.rest d.gives (second_runs p h d.mid h' d.own d.rest acts d.is d.runs runs))

pub closed_if : (b : Bool) (p : Place) (h h' : HeldView) (c : ℕ) (client : List ℕ) (acts : List Act) → cond b (ClosesOn p h c client acts) (acts ≡ []) → Runs p h acts h' → Good acts
closed_if true p h h' c client acts d runs = (closes_good p h h' c client acts d runs).good
closed_if false p h h' c client acts d runs = good_none acts d

unsubacks_good : (p : Place) (h h' : HeldView) (c : ℕ) (client : List ℕ) (packet : ℕ) (codes : List ℕ) (acts : List Act) → UnsubacksAlone p h c client packet codes acts → Runs p h acts h' → Good acts
unsubacks_good p h h' c client packet codes acts d runs =
    good_parts acts d.told d.rest d.is (called_if (has_session client h) client (answers packet codes) d.reaction d.told tt tt d.tells)
    (closed_if (is_some d.reaction.end) p d.left h' c client d.rest d.follows (second_runs p h d.left h' d.told d.rest acts d.is d.leaves runs))

unsubscribes_good : (p : Place) (h h' : HeldView) (c : ℕ) (client : List ℕ) (u : Unsubscribe) (acts : List Act) → UnsubscribesAlone p h c client u acts → Runs p h acts h' → Good acts
unsubscribes_good p h h' c client u acts d runs =
    good_parts acts d.own d.rest d.is (in_turn (IsRemovedBy client) (unsubscribed_good client) p h u.filters [] d.codes d.own d.filters)
    (unsubacks_good p d.mid h' c client u.identifier d.codes d.rest d.gives (second_runs p h d.mid h' d.own d.rest acts d.is d.runs runs))

-- ---- a packet of an accepted client
dropped_if : (b : Bool) (acts : List Act) → cond b (acts ≡ Dropped ∷ []) (acts ≡ []) → Good acts
dropped_if true acts is = record { tidy = tidy_is acts _ is (tt, tt); later = all_is IsLater acts _ is (tt, tt) }
dropped_if false acts is = good_none acts is

subscribe_good : (p : Place) (h h' : HeldView) (c : ℕ) (client : List ℕ) (k : Packet) (acts : List Act) → SubscribeIsDone p h c client k acts → Runs p h acts h' → Good acts
subscribe_good p h h' c client (packets.Subscribe q) acts d runs = subscribes_good p h h' c client q acts d runs
subscribe_good p h h' c client k acts d runs = good_none acts d

unsubscribe_good : (p : Place) (h h' : HeldView) (c : ℕ) (client : List ℕ) (k : Packet) (acts : List Act) → UnsubscribeIsDone p h c client k acts → Runs p h acts h' → Good acts
unsubscribe_good p h h' c client (packets.Unsubscribe u) acts d runs = unsubscribes_good p h h' c client u acts d runs
unsubscribe_good p h h' c client k acts d runs = good_none acts d

asked_good : (p : Place) (h h' : HeldView) (c : ℕ) (client : List ℕ) (ask : Option Ask) (k : Packet) (room : Bool) (end : Option ℕ) (acts : List Act) → IsDone p h c client ask k room end acts → Runs p h acts h' → Good acts
asked_good p h h' c client None k room end acts d runs = dropped_if (is_dropped k room end) acts d
asked_good p h h' c client (Some (asks.Pass m)) k room end acts d runs = good_passing acts (message_passing m h.at h.bridge acts d)
asked_good p h h' c client (Some asks.Subscribe) k room end acts d runs = subscribe_good p h h' c client k acts d runs
asked_good p h h' c client (Some asks.Unsubscribe) k room end acts d runs = unsubscribe_good p h h' c client k acts d runs

-- where it ends the connection, and asks for nothing, nothing is done
and_false : (a : Bool) → (a && false) ≡ false
and_false true = refl
and_false false = refl

never_dropped : (k : Packet) (room : Bool) (code : ℕ) → is_dropped k room (Some code) ≡ false
never_dropped (packets.Publish p) room code =
    ap (λ b. p.retain && b) (ap (λ b. not room && b) (and_false (qos_number p.qos == 0)) ∙ and_false (not room)) ∙ and_false p.retain
never_dropped k room code = refl

none_if : (b : Bool) (acts : List Act) → b ≡ false → cond b (acts ≡ Dropped ∷ []) (acts ≡ []) → acts ≡ []
none_if true acts e d = absurd (let z : true ≡ false = e in cc)
none_if false acts e d = d

none_asked : (p : Place) (h : HeldView) (c : ℕ) (client : List ℕ) (ask : Option Ask) (k : Packet) (room : Bool) (end : Option ℕ) (code : ℕ) (acts : List Act) → ask ≡ None → end ≡ Some code → IsDone p h c client ask k room end acts → acts ≡ []
none_asked p h c client ask k room end code acts none ends d =
    let e = subst (λ x. IsDone p h c client x k room end acts) none d in
    none_if (is_dropped k room end) acts (ap (is_dropped k room) ends ∙ never_dropped k room code) e

closes_is : (b : Bool) (p : Place) (h : HeldView) (c : ℕ) (client : List ℕ) (acts : List Act) → b ≡ true → cond b (ClosesOn p h c client acts) (acts ≡ []) → Shuts c acts
closes_is true p h c client acts e d = (d.0, d.1)
closes_is false p h c client acts e d = absurd (let z : false ≡ true = e in cc)

module _ (p : Place) (h h' : HeldView) (c : ℕ) (client : List ℕ) (k : Packet) (acts : List Act) (d : TakesAlone p h c client k acts) (only : IsOnly c client h) where
  abbrev taking : Event
  taking = takes k h.at (room_for client k h)

  behind : (s : SessionStep) → s.client ≡ client → s.event ≡ taking → s.reaction ≡ d.reaction → IsCall h s → EndShuts s (d.asked ++ d.closed)
  behind s of event reaction call q code on ends =
      let f = fine call.seat.session s.after s.event s.reaction call.reacts in
      elim (f.asks code ends) [
        | inl zero ↦ inl zero
        | inr none ↦ inr (shut (ap (λ (r : Reaction). r.ask) (sym reaction) ∙ none) (ap (λ (r : Reaction). r.end) (sym reaction) ∙ ends))
      ]
    where
      same : q ≡ c
      same = only call.seat q (ap (map.get h.sessions) (sym of) ∙ call.found) (on_before s.event call.seat.connection s.on q (subst JoinsNone (sym event) tt) call.on on)

      shut : d.reaction.ask ≡ None → d.reaction.end ≡ Some code → Shuts q (d.asked ++ d.closed)
      shut none end =
          let empty : d.asked ≡ [] = none_asked p d.left c client d.reaction.ask k (room_for client k h) d.reaction.end code d.asked none end d.does in
          let shuts = closes_is (is_some d.reaction.end) p d.held c client d.closed (ap is_some end) d.closes in
          subst (λ n. Shuts n (d.asked ++ d.closed)) (sym same) (shuts_at c (d.asked ++ d.closed) d.closed (ap (λ xs. xs ++ d.closed) empty) shuts)

  told_if : (b : Bool) → Runs p h d.told d.left → cond b (CallsOnce client taking d.reaction d.told) ((d.reaction ≡ nothing) × (d.told ≡ [])) → Good (d.asked ++ d.closed) → Good acts
  told_if true runs once rest =
      let r = subst (λ xs. Runs p h xs d.left) once.is runs in
      let is : acts ≡ Session (Called once.call) ∷ (d.asked ++ d.closed) = d.is ∙ ap (λ xs. xs ++ (d.asked ++ d.closed)) once.is in
      let shuts : CallShuts once.call once.call.event (d.asked ++ d.closed) = subst (λ e. CallShuts once.call e (d.asked ++ d.closed)) (sym once.event_is) (behind once.call once.of once.event_is once.reaction r.1.0) in
      record { tidy = tidy_is acts _ is (shuts, rest.tidy); later = all_is IsLater acts _ is (subst JoinsNone (sym once.event_is) tt, rest.later) }
  told_if false runs once rest = good_parts acts d.told (d.asked ++ d.closed) d.is (good_none d.told once.1) rest

  pub takes_good : Runs p h acts h' → Good acts
  takes_good runs =
      let later = second_runs p h d.left h' d.told (d.asked ++ d.closed) acts d.is d.leaves runs in
      let last = second_runs p d.left d.held h' d.asked d.closed (d.asked ++ d.closed) refl d.runs later in
      let asked = asked_good p d.left d.held c client d.reaction.ask k (room_for client k h) d.reaction.end d.asked d.does d.runs in
      let closed = closed_if (is_some d.reaction.end) p d.held h' c client d.closed d.closes last in
      told_if (has_session client h) d.leaves d.tells (good_parts (d.asked ++ d.closed) d.asked d.closed refl asked closed)

-- ---- a CONNECT
-- CONNACK isn't DISCONNECT
no_farewell : (c code : ℕ) (reference : Option (List ℕ)) (after : List Act) → IsFarewell (written (refused_packet code reference)) → Shuts c after
no_farewell c code reference after f = absurd (other_packet (refused_packet code reference) tt f)

refused_good : (b : Bool) (c code : ℕ) (reference : Option (List ℕ)) (acts : List Act) → acts ≡ cond b (Out (Send c (written (refused_packet code reference))) ∷ []) [] ++ Connection (Closed c) ∷ Out (Close c) ∷ [] → Good acts
refused_good true c code reference acts is = record { tidy = tidy_is acts _ is (no_farewell c code reference _, (tt, (tt, tt))); later = all_is IsLater acts _ is (tt, (tt, (tt, tt))) }
refused_good false c code reference acts is = record { tidy = tidy_is acts _ is (tt, (tt, tt)); later = all_is IsLater acts _ is (tt, (tt, tt)) }

named_good : (p : Place) (h : HeldView) (q : Connect) (client : List ℕ) (named : List Act) → IsKnownAs p h q client named → Good named
named_good p h q client named (inl d) = good_none named d.2
named_good p h q client named (inr (empty, (number, next_is, client_is, is))) = record { tidy = tidy_is named _ is (tt, tt); later = all_is IsLater named _ is (tt, tt) }

over_good : (p : Place) (h h' : HeldView) (client : List ℕ) (o : Option ℕ) (acts : List Act) → TakesOverAlone p h client o acts → Runs p h acts h' → Good acts
over_good p h h' client None acts d runs = good_none acts d
over_good p h h' client (Some older) acts (rest, is, closes_it) runs = told_good (takes_disconnect client 142 h) p h h' older client (written (disconnect 142)) rest acts is closes_it runs

clean_good : (b : Bool) (p : Place) (h : HeldView) (client : List ℕ) (acts : List Act) → CleansAlone b p h client acts → Good acts
clean_good false p h client acts d = good_none acts d
clean_good true p h client acts d = good_well p acts (finish_if (has_session client h) p h client acts d)

-- the connection has its client, whose session is on it
joined_tidy : (b : Bool) (client : List ℕ) (s : SessionStep) (e : Event) (own : List Act) → s.event ≡ e → IsMild e → own ≡ cond b [] (Session (Begun client) ∷ []) ++ Session (Called s) ∷ [] → Tidy own
joined_tidy true client s e own event mild is = plain_tidy own (all_is IsPlain own _ is (mild_by s e event mild, tt))
joined_tidy false client s e own event mild is = plain_tidy own (all_is IsPlain own _ is (tt, (mild_by s e event mild, tt)))

pub record Joined (h left : HeldView) (client : List ℕ) (s : SessionStep) : Type 0 where
  pub connections : left.connections ≡ h.connections
  pub found : map.get left.sessions client ≡ Some (record { session = s.after; connection = s.on })

joined : (b : Bool) (p : Place) (h left : HeldView) (client : List ℕ) (s : SessionStep) (own : List Act) → s.client ≡ client → own ≡ cond b [] (Session (Begun client) ∷ []) ++ Session (Called s) ∷ [] → Runs p h own left → Joined h left client s
joined true p h left client s own of is runs =
    let r = subst (λ xs. Runs p h xs left) is runs in
    let same : left ≡ next h (Session (Called s)) = r.2 ∙ r.1.1 in
    record {
      connections = ap (λ (v : HeldView). v.connections) same;
      found = ap (λ (v : HeldView). map.get v.sessions client) same ∙ ap (map.get (map.insert h.sessions s.client _)) (sym of) ∙ get_inserted h.sessions s.client _;
    }
joined false p h left client s own of is runs =
    let r = subst (λ xs. Runs p h xs left) is runs in
    let same : left ≡ next r.0 (Session (Called s)) = r.2.2 ∙ r.2.1.1 in
    record {
      connections = ap (λ (v : HeldView). v.connections) same ∙ ap (λ (v : HeldView). v.connections) r.1.1;
      found = ap (λ (v : HeldView). map.get v.sessions client) same ∙ ap (map.get (map.insert r.0.sessions s.client _)) (sym of) ∙ get_inserted r.0.sessions s.client _;
    }

accepted_client : (c : ℕ) (client other : List ℕ) (m : ConnectionTable) (o : Option ConnectionView) → map.get m c ≡ o → option_and_then (λ (v : ConnectionView). v.client) (map.get (changed_at (with_client client) c m o) c) ≡ Some other → client ≡ other
accepted_client c client other m None is has = none_some (sym (ap (option_and_then (λ (v : ConnectionView). v.client)) is) ∙ has)
accepted_client c client other m (Some found) is has =
    some_is (sym (ap (option_and_then (λ (v : ConnectionView). v.client)) (put_here m c (with_client client found))) ∙ has)

-- what is left of work on the connection
pub record Taken (c : ℕ) (acts : List Act) (h' : HeldView) : Type 0 where
  pub tidy : Tidy acts
  pub serves : Serves c h'

good_taken : (c : ℕ) (p : Place) (h h' : HeldView) (acts : List Act) → Good acts → Runs p h acts h' → Serves c h → Taken c acts h'
good_taken c p h h' acts g runs s = record { tidy = g.tidy; serves = serves_on c p acts h h' g.later runs s }

begins_taken : (p : Place) (h h' : HeldView) (c : ℕ) (client : List ℕ) (q : Connect) (acts : List Act) → BeginsAlone p h c client q acts → Runs p h acts h' → Taken c acts h'
begins_taken p h h' c client q acts d runs =
    let a = Connection (Accepted c client) in
    let r = subst (λ xs. Runs p h xs h') d.is runs in
    let later : Runs p (next h a) (d.own ++ d.rest) h' = subst (λ v. Runs p v (d.own ++ d.rest) h') r.1.1 r.2 in
    let last = second_runs p (next h a) d.left h' d.own d.rest (d.own ++ d.rest) refl d.leaves later in
    let j = joined (has_session client (next h a)) p (next h a) d.left client d.call d.own d.of d.joins d.leaves in
    let serves : Serves c d.left = λ other has seat n found at.
    (let one : client ≡ other = accepted_client c client other h.connections (map.get h.connections c) refl (sym (ap (λ (m : ConnectionTable). option_and_then (λ (v : ConnectionView). v.client) (map.get m c)) j.connections) ∙ has) in
    let is : record { session = d.call.after; connection = d.call.on } ≡ seat = some_is (sym j.found ∙ ap (map.get d.left.sessions) one ∙ found) in
    some_is (sym at ∙ ap (λ (v : Seat). v.connection) (sym is) ∙ d.on)) in
    let closed = closed_if (is_some d.call.reaction.end) p d.left h' c client d.rest d.closes last in
    record {
      tidy = tidy_is acts _ d.is (tt, tidy_both d.own d.rest (joined_tidy (has_session client (next h a)) client d.call _ d.own d.event tt d.joins) closed.tidy);
      serves = serves_on c p d.rest d.left h' closed.later last serves;
    }

accepts_taken : (p : Place) (h h' : HeldView) (c : ℕ) (q : Connect) (acts : List Act) → AcceptsAlone p h c q acts → Runs p h acts h' → Taken c acts h'
accepts_taken p h h' c q acts d runs =
    let two = second_runs p h d.mid h' d.named (d.over ++ (d.clean ++ d.rest)) acts d.is d.runs runs in
    let three = second_runs p d.mid d.mid2 h' d.over (d.clean ++ d.rest) (d.over ++ (d.clean ++ d.rest)) refl d.runs2 two in
    let four = second_runs p d.mid2 d.mid3 h' d.clean d.rest (d.clean ++ d.rest) refl d.runs3 three in
    let named = named_good p h q d.client d.named d.known in
    let over = over_good p d.mid d.mid2 d.client (connection_at d.client d.mid) d.over d.takes_over d.runs2 in
    let clean = clean_good q.clean_start p d.mid2 d.client d.clean d.cleans in
    let begins = begins_taken p d.mid3 h' c d.client q d.rest d.begins four in
    record {
      tidy = tidy_parts acts d.named (d.over ++ (d.clean ++ d.rest)) d.is named.tidy (tidy_both d.over (d.clean ++ d.rest) over.tidy (tidy_both d.clean d.rest clean.tidy begins.tidy));
      serves = begins.serves;
    }

shut_good : (c : ℕ) (acts : List Act) → acts ≡ Connection (Closed c) ∷ Out (Close c) ∷ [] → Good acts
shut_good c acts is = record { tidy = tidy_is acts _ is (tt, (tt, tt)); later = all_is IsLater acts _ is (tt, (tt, tt)) }

first_taken : (p : Place) (h h' : HeldView) (c : ℕ) (k : Packet) (acts : List Act) → FirstAlone p h c k acts → Runs p h acts h' → Serves c h → Taken c acts h'
first_taken p h h' c (packets.Connect q) acts (inl (code, reference, why, is)) runs s = good_taken c p h h' acts (refused_good (fits (limit_in q.properties) (refused_packet code reference)) c code reference acts is) runs s
first_taken p h h' c (packets.Connect q) acts (inr d) runs s = accepts_taken p h h' c q acts d.1 runs
first_taken p h h' c k acts d runs s = good_taken c p h h' acts (shut_good c acts d) runs s

-- ---- bytes
packet_taken : (o : Option (List ℕ)) (p : Place) (h h' : HeldView) (c : ℕ) (k : Packet) (acts : List Act) → client_at c h ≡ o → PacketAlone p h c k o acts → Runs p h acts h' → Serves c h → Taken c acts h'
packet_taken None p h h' c k acts is d runs s = first_taken p h h' c k acts d runs s
packet_taken (Some client) p h h' c k acts is d runs s = good_taken c p h h' acts (takes_good p h h' c client k acts d (s client is) runs) runs s

packet_if : (b : Bool) (p : Place) (h h' : HeldView) (c : ℕ) (k : Packet) (acts : List Act) → cond b (PacketAlone p h c k (client_at c h) acts) (acts ≡ []) → Runs p h acts h' → Serves c h → Taken c acts h'
packet_if true p h h' c k acts d runs s = packet_taken (client_at c h) p h h' c k acts refl d runs s
packet_if false p h h' c k acts d runs s = good_taken c p h h' acts (good_none acts d) runs s

shut_told : (b : Bool) (c : ℕ) (fault : PacketFault) (told acts : List Act) → cond b ((code : ℕ) × (connack_code fault ≡ Some code) × (told ≡ Out (Send c (written (refused_packet code None))) ∷ [])) (told ≡ []) → acts ≡ told ++ Connection (Closed c) ∷ Out (Close c) ∷ [] → Tidy acts
shut_told true c fault told acts d is = tidy_is acts _ (is ∙ ap (λ xs. xs ++ Connection (Closed c) ∷ Out (Close c) ∷ []) d.2) (no_farewell c d.0 None _, (tt, (tt, tt)))
shut_told false c fault told acts d is = tidy_is acts _ (is ∙ ap (λ xs. xs ++ Connection (Closed c) ∷ Out (Close c) ∷ []) d) (tt, (tt, tt))

fault_tidy : (o : Option (List ℕ)) (p : Place) (h h' : HeldView) (c : ℕ) (fault : PacketFault) (acts : List Act) → FaultAlone p h c fault o acts → Runs p h acts h' → Tidy acts
fault_tidy None p h h' c fault acts d runs = shut_told (is_connect (first_at c h)) c fault d.told acts d.tells d.is
fault_tidy (Some client) p h h' c fault acts d runs = (told_good (takes_disconnect client d.code h) p h h' c client (written (disconnect d.code)) d.rest acts d.is d.closes runs).tidy

fault_if : (b : Bool) (p : Place) (h h' : HeldView) (c : ℕ) (fault : PacketFault) (acts : List Act) → cond b (FaultAlone p h c fault (client_at c h) acts) (acts ≡ []) → Runs p h acts h' → Tidy acts
fault_if true p h h' c fault acts d runs = fault_tidy (client_at c h) p h h' c fault acts d runs
fault_if false p h h' c fault acts d runs = tidy_none acts d

faults_tidy : (o : Option PacketFault) (p : Place) (h h' : HeldView) (c : ℕ) (acts : List Act) → FaultIf p h c o acts → Runs p h acts h' → Tidy acts
faults_tidy None p h h' c acts d runs = tidy_none acts d
faults_tidy (Some fault) p h h' c acts d runs = fault_if (is_open c h) p h h' c fault acts d runs

pub taken_tidy : (ks : List Packet) (fault : Option PacketFault) (p : Place) (h h' : HeldView) (c : ℕ) (acts : List Act) → AreTakenAlone p h c ks fault acts → Runs p h acts h' → Serves c h → Tidy acts
taken_tidy [] fault p h h' c acts d runs s = faults_tidy fault p h h' c acts d runs
taken_tidy (k ∷ ks) fault p h h' c acts (own, mid, rest, is, ran, one, more) runs s =
    let first = packet_if (is_open c h) p h mid c k own one ran s in
    tidy_parts acts own rest is first.tidy (taken_tidy ks fault p mid h' c rest more (second_runs p h mid h' own rest acts is ran runs) first.serves)
