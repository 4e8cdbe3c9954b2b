-- A packet of an accepted client: what goes out, and whether its connection ends.
use Rattle.std.proofs.Common.{◌≡◌, ◌⊎◌, inl, inr, ℕ, Bool, true, false, cond, is_some, length, replicate, List, [], ◌++◌, Option, Some, None, refl, sym, ap, ◌∙◌, subst}
use Rattle.std.proofs.lemmas.List.{append-nil}
use Rattle.std.specs.List.{AllByRecursion}
use Rattle.mqtt_packets.specs.declared.packet.Packet.{Packet}
use Rattle.mqtt_packets.specs.declared.packet.Packet.TheVariants as packets
use Rattle.mqtt_packets.specs.declared.subscribe.Subscribe.{Subscribe}
use Rattle.mqtt_packets.specs.declared.unsubscribe.Unsubscribe.{Unsubscribe}
use Rattle.mqtt_sessions.specs.declared.reaction.Ask.{Ask}
use Rattle.mqtt_sessions.specs.declared.reaction.Ask.TheVariants as asks
use Rattle.mqtt_sessions.specs.Answers.{fits, suback, unsuback}
use Rattle.mqtt_sessions.specs.Asking.{SubscribeStep, asking, subscribed, unsubscribed}
use Rattle.mqtt_sessions.specs.declared.link.Asked.TheVariants.{Subscribing, Unsubscribing}
use Rattle.mqtt_sessions.specs.Packets.{PacketIf}
use Rattle.mqtt_sessions.specs.Reaction.{Reaction, Outcome, nothing, answered}
use Rattle.mqtt_sessions.specs.State.{State, heard, limit_of}
use Rattle.qos_handshakes.specs.Incoming.{opened}
use Rattle.law_sessions.specs.Runs.{Event, answers, takes}
use Rattle.session_table.specs.Calls.{stays}
use Rattle.session_table.specs.Seats.{Seat}
use Rattle.node_work.specs.declared.granted.Granted.{Granted}
use Rattle.node_work.specs.Acts.{Act, Runs}
use Rattle.node_work.specs.Calling.{CallsAt}
use Rattle.node_work.specs.Held.Connections.{client_at}
use Rattle.node_work.specs.Held.Sessions.{seat_at}
use Rattle.node_work.specs.View.{Place, HeldView}
use Rattle.node_clients.specs.Ending as ending
use Rattle.node_clients.specs.Serving as serving
use Rattle.node_clients.specs.Subscribing as subscribing
use Rattle.node_clients.specs.Unsubscribing as unsubscribing
use Rattle.law_runs.proofs.Keeping.{none_some}
use Rattle.law_steps.specs.Outputs.{Occasion, SessionsAreOnTheirs, WhyClosed}
use Rattle.law_steps.proofs.Alone.{K, low, calling}
use Rattle.law_steps.proofs.Below.{in_turn, grants, offers, passes, unsubscribed as unsubscribed_one}
use Rattle.law_steps.proofs.ClosingLaws.{Ending, Reacted, calm_ends, ending_then, second_runs, closes_after, closes_for, reacted, ended_by}
use Rattle.law_steps.proofs.On.{IsCalm, Kept, calm_kind, calmly, same_client}

-- the client of a connection stays so
kept_client : (h h' : HeldView) (c : ℕ) (client : List ℕ) → Kept h h' → client_at c h ≡ Some client → client_at c h' ≡ Some client
kept_client h h' c client k has = same_client h h' c k.connections ∙ has

-- a cause stays one after more acts
why_later : (occasion : Occasion) (p : Place) (pre own later : List Act) (h : HeldView) (c : ℕ) (client : List ℕ) (r : Reaction) (code : ℕ) → client_at c h ≡ Some client → Reacted own client r → r.end ≡ Some code → WhyClosed occasion p ((pre ++ own) ++ later) h c
why_later occasion p pre own later h c client r code has react ends = ended_by occasion p pre own later h c client r code has react ends

why_here : (occasion : Occasion) (p : Place) (pre own : List Act) (h : HeldView) (c : ℕ) (client : List ℕ) (r : Reaction) (code : ℕ) → client_at c h ≡ Some client → Reacted own client r → r.end ≡ Some code → WhyClosed occasion p (pre ++ own) h c
why_here occasion p pre own h c client r code has react ends = subst (λ xs. WhyClosed occasion p xs h c) (append-nil (pre ++ own)) (ended_by occasion p pre own [] h c client r code has react ends)

-- ---- the answers to SUBSCRIBE and UNSUBSCRIBE
offers_after : (occasion : Occasion) (pre : List Act) (end : Option ℕ) (c : ℕ) (client : List ℕ) (packet : ℕ) (given : List Granted) (x : Unit {0}) (p : Place) (h h' : HeldView) (acts : List Act) → SessionsAreOnTheirs h → client_at c h ≡ Some client
    → ((code : ℕ) → end ≡ Some code → WhyClosed occasion p pre h c) → subscribing.OffersAfter end c client packet given (Some x) p h acts → Runs p h acts h' → Ending occasion pre p c h h' acts
offers_after occasion pre None c client packet given x p h h' acts on has why d runs =
    calm_ends occasion pre p c h h' acts (calmly occasion pre p acts h h' ((offers (K IsCalm calm_kind) (low IsCalm calm_kind) client packet given).of x p h acts d) on runs)
offers_after occasion pre (Some code) c client packet given x p h h' acts on has why d runs = closes_for occasion pre c client x p h h' acts on has (why code refl) d runs

acknowledges : (occasion : Occasion) (pre : List Act) (c : ℕ) (client : List ℕ) (packet : ℕ) (given : List Granted) (x : Unit {0}) (p : Place) (h h' : HeldView) (acts : List Act) → SessionsAreOnTheirs h → client_at c h ≡ Some client
    → subscribing.SendsSuback c client packet given (Some x) p h acts → Runs p h acts h' → Ending occasion pre p c h h' acts
acknowledges occasion pre c client packet given x p h h' acts on has (inl d) runs = none_some (sym d.0)
acknowledges occasion pre c client packet given x p h h' acts on has (inr (r, own, mid, rest, one, ran, more, is)) runs =
    let event : ℕ → Event = λ at. answers packet (subscribing.granted_reasons given) in
    let first = calmly occasion pre p own h mid ((calling IsCalm calm_kind client event stays (λ at. tt)).of r p h own one) on ran in
    let there = kept_client h mid c client first.kept has in
    let react = reacted client event stays (seat_at client h) r p h own one in
    ending_then occasion pre p c h mid h' own rest acts is ran (calm_ends occasion pre p c h mid own first)
    (offers_after occasion (pre ++ own) r.end c client packet given x p mid h' rest first.kept.on there (λ code ends. why_here occasion p pre own mid c client r code there react ends) more (second_runs p h mid h' own rest acts is ran runs))

unacknowledges : (occasion : Occasion) (pre : List Act) (c : ℕ) (client : List ℕ) (packet : ℕ) (codes : List ℕ) (x : Unit {0}) (p : Place) (h h' : HeldView) (acts : List Act) → SessionsAreOnTheirs h → client_at c h ≡ Some client
    → unsubscribing.SendsUnsuback c client packet codes (Some x) p h acts → Runs p h acts h' → Ending occasion pre p c h h' acts
unacknowledges occasion pre c client packet codes x p h h' acts on has (inl d) runs = none_some (sym d.0)
unacknowledges occasion pre c client packet codes x p h h' acts on has (inr (r, own, mid, rest, one, ran, more, is)) runs =
    let event : ℕ → Event = λ at. answers packet codes in
    let first = calmly occasion pre p own h mid ((calling IsCalm calm_kind client event stays (λ at. tt)).of r p h own one) on ran in
    let there = kept_client h mid c client first.kept has in
    let react = reacted client event stays (seat_at client h) r p h own one in
    ending_then occasion pre p c h mid h' own rest acts is ran (calm_ends occasion pre p c h mid own first)
    (closes_after occasion (pre ++ own) r.end c client x p mid h' rest first.kept.on there (λ code ends. why_here occasion p pre own mid c client r code there react ends) more (second_runs p h mid h' own rest acts is ran runs))

subscribes : (occasion : Occasion) (pre : List Act) (c : ℕ) (client : List ℕ) (q : Subscribe) (x : Unit {0}) (p : Place) (h h' : HeldView) (acts : List Act) → SessionsAreOnTheirs h → client_at c h ≡ Some client
    → subscribing.ServesSubscribe c client q (Some x) p h acts → Runs p h acts h' → Ending occasion pre p c h h' acts
subscribes occasion pre c client q x p h h' acts on has (inl d) runs = none_some (sym d.0)
subscribes occasion pre c client q x p h h' acts on has (inr (given, own, mid, rest, one, ran, more, is)) runs =
    let calm : AllByRecursion IsCalm own =
    (in_turn (K IsCalm calm_kind) (low IsCalm calm_kind) (subscribing.Grants client (subscribing.identifier_of q)) q.filters [] (grants (K IsCalm calm_kind) (low IsCalm calm_kind) client (subscribing.identifier_of q))).of given p h own one in
    let first = calmly occasion pre p own h mid calm on ran in
    ending_then occasion pre p c h mid h' own rest acts is ran (calm_ends occasion pre p c h mid own first)
    (acknowledges occasion (pre ++ own) c client q.identifier given x p mid h' rest first.kept.on (kept_client h mid c client first.kept has) more (second_runs p h mid h' own rest acts is ran runs))

unsubscribes : (occasion : Occasion) (pre : List Act) (c : ℕ) (client : List ℕ) (u : Unsubscribe) (x : Unit {0}) (p : Place) (h h' : HeldView) (acts : List Act) → SessionsAreOnTheirs h → client_at c h ≡ Some client
    → unsubscribing.ServesUnsubscribe c client u (Some x) p h acts → Runs p h acts h' → Ending occasion pre p c h h' acts
unsubscribes occasion pre c client u x p h h' acts on has (inl d) runs = none_some (sym d.0)
unsubscribes occasion pre c client u x p h h' acts on has (inr (codes, own, mid, rest, one, ran, more, is)) runs =
    let calm : AllByRecursion IsCalm own =
    (in_turn (K IsCalm calm_kind) (low IsCalm calm_kind) (unsubscribing.Unsubscribed client) u.filters [] (unsubscribed_one (K IsCalm calm_kind) (low IsCalm calm_kind) client)).of codes p h own one in
    let first = calmly occasion pre p own h mid calm on ran in
    ending_then occasion pre p c h mid h' own rest acts is ran (calm_ends occasion pre p c h mid own first)
    (unacknowledges occasion (pre ++ own) c client u.identifier codes x p mid h' rest first.kept.on (kept_client h mid c client first.kept has) more (second_runs p h mid h' own rest acts is ran runs))

-- ---- a call that asks for these ends no connection
answered_ends : (limit : ℕ) (q : Packet) (s : State) (ask : Ask) → (answered limit q None s).reaction.ask ≡ Some ask → (answered limit q None s).reaction.end ≡ None
answered_ends limit q s ask is = none_some (sym (asks_none (fits limit q) _ _ refl refl) ∙ is)
  where
    asks_none : (b : Bool) (x y : Outcome) → x.reaction.ask ≡ None → y.reaction.ask ≡ None → (cond b x y).reaction.ask ≡ None
    asks_none true x y e f = e
    asks_none false x y e f = f

asked_by : (b : Bool) (x y : Outcome) (ask : Ask) → (x.reaction.ask ≡ Some ask → x.reaction.end ≡ None) → (y.reaction.ask ≡ Some ask → y.reaction.end ≡ None) → (cond b x y).reaction.ask ≡ Some ask → (cond b x y).reaction.end ≡ None
asked_by true x y ask f g is = f is
asked_by false x y ask f g is = g is

of_outcome : (o : Outcome) (r : Reaction) (ask : Ask) → r ≡ o.reaction → (o.reaction.ask ≡ Some ask → o.reaction.end ≡ None) → r.ask ≡ Some ask → r.end ≡ None
of_outcome o r ask is f e = ap (λ (v : Reaction). v.end) is ∙ f (ap (λ (v : Reaction). v.ask) (sym is) ∙ e)

subscribe_ends : (q : Subscribe) (limit : ℕ) (s new : State) (r : Reaction) (ask : Ask) → SubscribeStep q limit s r new → r.ask ≡ Some ask → r.end ≡ None
subscribe_ends q limit s new r ask (inl d) e = none_some (ap (λ (v : Reaction). v.ask) (sym d.1.0) ∙ e)
subscribe_ends q limit s new r ask (inr d) e =
    of_outcome (subscribed q limit s) r ask d.1.0
    (asked_by (is_some (opened q.identifier s.incoming)) (answered limit (suback q.identifier (replicate (length q.filters) 145)) None s) (asking asks.Subscribe Subscribing s) ask
    (answered_ends limit (suback q.identifier (replicate (length q.filters) 145)) s ask) (λ _. refl)) e

unsubscribe_ends : (u : Unsubscribe) (limit : ℕ) (s new : State) (r : Reaction) (ask : Ask) → r ≡ (unsubscribed u limit s).reaction → r.ask ≡ Some ask → r.end ≡ None
unsubscribe_ends u limit s new r ask is e =
    of_outcome (unsubscribed u limit s) r ask is
    (asked_by (is_some (opened u.identifier s.incoming)) (answered limit (unsuback u.identifier (replicate (length u.filters) 145)) None s) (asking asks.Unsubscribe Unsubscribing s) ask
    (answered_ends limit (unsuback u.identifier (replicate (length u.filters) 145)) s ask) (λ _. refl)) e

-- of a packet
abbrev IsRequest : Packet → Type 0
IsRequest (packets.Subscribe q) = Unit {0}
IsRequest (packets.Unsubscribe u) = Unit {0}
IsRequest k = ⊥

request_by : (o : Option ℕ) (k : Packet) (now : ℕ) (room : Bool) (s new : State) (r : Reaction) (ask : Ask) → IsRequest k → PacketIf o k now room s r new → r.ask ≡ Some ask → r.end ≡ None
request_by None k now room s new r ask request d e = none_some (ap (λ (v : Reaction). v.ask) (sym d.0) ∙ e)
request_by (Some limit) (packets.Subscribe q) now room s new r ask request d e = subscribe_ends q limit (heard s now) new r ask d e
request_by (Some limit) (packets.Unsubscribe u) now room s new r ask request d e = unsubscribe_ends u limit (heard s now) new r ask d.0 e
request_by (Some limit) k now room s new r ask request d e = absurd request

request_ends : (client : List ℕ) (k : Packet) (room : Bool) (found : Option Seat) (r : Reaction) (p : Place) (h : HeldView) (own : List Act) (ask : Ask) → IsRequest k → CallsAt client (λ at. takes k at room) stays found (Some r) p h own → r.ask ≡ Some ask → r.end ≡ None
request_ends client k room None r p h own ask request d e = none_some (let z : Some r ≡ Some nothing = d.0 in let same : r ≡ nothing = cc in ap (λ (v : Reaction). v.ask) (sym same) ∙ e)
request_ends client k room (Some seat) r p h own ask request (inl d) e = none_some (sym d.0)
request_ends client k room (Some seat) r p h own ask request (inr (q, after, answer, reacts, acts_are)) e =
    let same : r ≡ q = (let z : Some r ≡ Some q = answer in cc) in
    ap (λ (v : Reaction). v.end) same ∙ request_by (limit_of seat.session.link) k h.at room seat.session after q ask request reacts (ap (λ (v : Reaction). v.ask) (sym same) ∙ e)

-- ---- what is done for the packet
-- nothing, or calmly; or for a request, by which no connection ends but by the answer to it
asked : (occasion : Occasion) (pre : List Act) (ask : Option Ask) (c : ℕ) (client : List ℕ) (k : Packet) (room : Bool) (end : Option ℕ) (x : Unit {0}) (p : Place) (h h' : HeldView) (acts : List Act) → SessionsAreOnTheirs h → client_at c h ≡ Some client
    → serving.DoesAsked ask c client k room end (Some x) p h acts → Runs p h acts h' → AllByRecursion IsCalm acts ⊎ (IsRequest k × ((a : Ask) × (ask ≡ Some a)) × Ending occasion pre p c h h' acts)
asked occasion pre None c client k room end x p h h' acts on has d runs = inl (((low IsCalm calm_kind).by_test (serving.is_dropped k room end) _ _ (low IsCalm calm_kind).dropped ((low IsCalm calm_kind).returns tt)).of x p h acts d)
asked occasion pre (Some (asks.Pass m)) c client k room end x p h h' acts on has d runs = inl ((passes (K IsCalm calm_kind) (low IsCalm calm_kind) m).of x p h acts d)
asked occasion pre (Some asks.Subscribe) c client (packets.Subscribe q) room end x p h h' acts on has d runs = inr (tt, (asks.Subscribe, refl), subscribes occasion pre c client q x p h h' acts on has d runs)
asked occasion pre (Some asks.Subscribe) c client k room end x p h h' acts on has d runs = inl (subst (AllByRecursion IsCalm) (sym d.1) tt)
asked occasion pre (Some asks.Unsubscribe) c client (packets.Unsubscribe u) room end x p h h' acts on has d runs = inr (tt, (asks.Unsubscribe, refl), unsubscribes occasion pre c client u x p h h' acts on has d runs)
asked occasion pre (Some asks.Unsubscribe) c client k room end x p h h' acts on has d runs = inl (subst (AllByRecursion IsCalm) (sym d.1) tt)

-- and then the connection closes, where the reaction says so
reaction_right : (occasion : Occasion) (pre own : List Act) (c : ℕ) (client : List ℕ) (k : Packet) (room : Bool) (r : Reaction) (x : Unit {0}) (p : Place) (h h' : HeldView) (acts : List Act) → SessionsAreOnTheirs h → client_at c h ≡ Some client → Reacted own client r
    → ((a : Ask) → IsRequest k → r.ask ≡ Some a → r.end ≡ None) → serving.DoesReaction c client k room r (Some x) p h acts → Runs p h acts h' → Ending occasion (pre ++ own) p c h h' acts
reaction_right occasion pre own c client k room r x p h h' acts on has react open_still (inl d) runs = none_some (sym d.0)
reaction_right occasion pre own c client k room r x p h h' acts on has react open_still (inr (y, first, mid, rest, one, ran, more, is)) runs =
    elim (asked occasion (pre ++ own) r.ask c client k room r.end y p h mid first on has one ran) [
      | inl calm ↦ (
          let a = calmly occasion (pre ++ own) p first h mid calm on ran in
          let there = kept_client h mid c client a.kept has in
          ending_then occasion (pre ++ own) p c h mid h' first rest acts is ran (calm_ends occasion (pre ++ own) p c h mid first a)
          (closes_after occasion ((pre ++ own) ++ first) r.end c client x p mid h' rest a.kept.on there (λ code ends. why_later occasion p pre own first mid c client r code there react ends) more (second_runs p h mid h' first rest acts is ran runs)))
      | inr s ↦ (
          let none : r.end ≡ None = open_still s.1.0 s.0 s.1.1 in
          let nothing_more : rest ≡ [] = (subst (λ (e : Option ℕ). ending.ClosesAfter e c client (Some x) p mid rest) none more).1 in
          let ran_more = second_runs p h mid h' first rest acts is ran runs in
          ending_then occasion (pre ++ own) p c h mid h' first rest acts is ran s.2
          (calm_ends occasion ((pre ++ own) ++ first) p c mid h' rest (calmly occasion ((pre ++ own) ++ first) p rest mid h' (subst (AllByRecursion IsCalm) (sym nothing_more) tt) s.2.ends.on ran_more)))
    ]

pub serves : (occasion : Occasion) (pre : List Act) (c : ℕ) (client : List ℕ) (k : Packet) (x : Unit {0}) (p : Place) (h h' : HeldView) (acts : List Act) → SessionsAreOnTheirs h → client_at c h ≡ Some client → serving.ServesPacket c client k (Some x) p h acts → Runs p h acts h'
    → Ending occasion pre p c h h' acts
serves occasion pre c client k x p h h' acts on has (inl d) runs = none_some (sym d.0)
serves occasion pre c client k x p h h' acts on has (inr (r, own, mid, rest, one, ran, more, is)) runs =
    let room = serving.room_for client k h in
    let event : ℕ → Event = λ at. takes k at room in
    let first = calmly occasion pre p own h mid ((calling IsCalm calm_kind client event stays (λ at. tt)).of r p h own one) on ran in
    let there = kept_client h mid c client first.kept has in
    ending_then occasion pre p c h mid h' own rest acts is ran (calm_ends occasion pre p c h mid own first)
    (reaction_right occasion pre own c client k room r x p mid h' rest first.kept.on there (reacted client event stays (seat_at client h) r p h own one)
    (λ a request asks. request_ends client k room (seat_at client h) r p h own a request one asks) more (second_runs p h mid h' own rest acts is ran runs))
