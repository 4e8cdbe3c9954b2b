-- The answer to the first CONNECT of a connection.
use Rattle.std.proofs.Common.{◌≡◌, ◌≢◌, ◌⊎◌, inl, inr, ℕ, ◌^◌, ◌==◌, nat_lt, not, Bool, true, false, cond, is_some, length, List, [], ◌∷◌, ◌++◌, Option, Some, None, option_and_then, refl, sym, ap, ◌∙◌, subst, append_assoc, arith}
use Rattle.std.proofs.lemmas.Bool.{eqb-true, eqb-false, ltb-true, ltb-false}
use Rattle.std.proofs.lemmas.Cmp.{tied_itself}
use Rattle.std.proofs.lemmas.List.{append-nil}
use Rattle.std.specs.Cmp.{nat_cmp_total}
use Rattle.std.specs.FinMap as map
use Rattle.std.specs.Ordering.{is_eq}
use Rattle.law_maps.proofs.Texts.{get_inserted, get_removed}
use Rattle.mqtt_packets.specs.declared.connect.Connect.{Connect}
use Rattle.mqtt_packets.specs.declared.fault.PacketFault.{PacketFault}
use Rattle.mqtt_packets.specs.declared.packet.Packet.{Packet}
use Rattle.mqtt_packets.specs.declared.packet.Packet.TheVariants as packets
use Rattle.mqtt_packets.specs.Written.{written}
use Rattle.mqtt_sessions.specs.Answers.{connack, disconnect, fits}
use Rattle.mqtt_sessions.specs.Arriving.{has_property}
use Rattle.mqtt_sessions.specs.Connecting.{OpensIf}
use Rattle.mqtt_sessions.specs.Reaction.{Reaction}
use Rattle.mqtt_sessions.specs.State.{State, limit_in}
use Rattle.law_sessions.specs.Runs.{closes, connects, finishes}
use Rattle.session_table.specs.Calls.{leaves, moves, stays}
use Rattle.session_table.specs.Seats.{Seat, Seats, begun, run_outs, wills_due, ends_due}
use Rattle.node_work.specs.declared.outcome.Output.TheVariants.{Send, Close}
use Rattle.node_work.specs.Acts.{Act, MomentTaken, Connection, Session, Out, Named, Runs, next}
use Rattle.node_work.specs.Calling.{CallsAt}
use Rattle.node_work.specs.Doings.{TakesMoment}
use Rattle.node_work.specs.Held.Connections.{Accepted, Closed, Fed, ConnectionTable, changed_at, changed, with_client, with_piece, client_at, is_open, room_at}
use Rattle.node_work.specs.Held.Feeding.{cut_of}
use Rattle.node_work.specs.Held.Sessions.{SessionStep, Begun, Called, Over, connection_at, has_session, seat_at, takes_disconnect}
use Rattle.node_work.specs.Packets.{refused_packet}
use Rattle.node_work.specs.View.{Place, HeldView, ConnectionView}
use Rattle.node_work.specs.Working.{Doing, Returns, If, Each}
use Rattle.node_work.proofs.Working.{runs_join}
use Rattle.node_clients.specs.Connecting as connecting
use Rattle.node_clients.specs.Ending as ending
use Rattle.node_clients.specs.Naming.{IsNextNumber, automatic}
use Rattle.node_clients.specs.Pieces as pieces
use Rattle.broker_node.specs.declared.event.Event.{Event}
use Rattle.broker_node.specs.declared.event.EventKind.TheVariants as kinds
use Rattle.broker_node.specs.Due as due
use Rattle.broker_node.specs.Idle.{NothingDue}
use Rattle.broker_node.specs.Turns as turns
use Rattle.law_runs.proofs.Keeping.{calling_by, none_some}
use Rattle.law_runs.proofs.Passing.{numbered, has_of}
use Rattle.law_runs.proofs.Splits.{left_by, runs_split}
use Rattle.law_runs.specs.Connects.{HasMethod, HasLongClient, LivesAt, IsRefusedFor, IsRefusedBy, IsWelcome, IsKnownAs, IsTakenOver, EndsNow, IsCleaned, TellsFirst, TellsSuccess, IsAccepted, AnswersConnect, BringsConnect, AnswersFirst, FirstConnectIsAnswered}

-- ---- a refusal
told_by : (fitting : Bool) (c : ℕ) (packet : Packet) (x : Unit {0}) (p : Place) (h : HeldView) (acts : List Act) → connecting.SendsIf fitting c packet (Some x) p h acts → acts ≡ cond fitting (Out (Send c (written packet)) ∷ []) []
told_by true c packet x p h acts d = d.1
told_by false c packet x p h acts d = d.1

closed : (c : ℕ) (x : Unit {0}) (p : Place) (h : HeldView) (acts : List Act) → ending.ClosesConnection c (Some x) p h acts → acts ≡ Connection (Closed c) ∷ Out (Close c) ∷ []
closed c x p h acts (inl d) = none_some (sym d.0)
closed c x p h acts (inr (y, own, mid, rest, one, runs, more, is)) = is ∙ (λ i. one.1 i ++ more.1 i)

refused : (c : ℕ) (q : Connect) (code : ℕ) (reference : Option (List ℕ)) (x : Unit {0}) (p : Place) (h : HeldView) (acts : List Act) → connecting.RefusesConnect c q code reference (Some x) p h acts → IsRefusedBy c q code reference acts
refused c q code reference x p h acts (inl d) = none_some (sym d.0)
refused c q code reference x p h acts (inr (y, own, mid, rest, one, runs, more, is)) =
    is ∙ (λ i. told_by (fits (limit_in q.properties) (refused_packet code reference)) c (refused_packet code reference) y p h own one i ++ closed c x p mid rest more i)

-- ---- by a test
pub if_so : {A : Type 0} (b : Bool) (P Q : Option A → Doing) (out : Option A) (p : Place) (h : HeldView) (acts : List Act) → b ≡ true → If b P Q out p h acts → P out p h acts
if_so true P Q out p h acts e d = d
if_so false P Q out p h acts e d = absurd (let z : false ≡ true = e in cc)

-- ---- the session's call
success_told : (fitting : Bool) (old : State) (q : Connect) (answer : Packet) (room : Option ℕ) (now : ℕ) (r : Reaction) (new : State) → fits (limit_in q.properties) answer ≡ fitting → OpensIf fitting old q answer room now r new → TellsFirst (limit_in q.properties) answer r
success_told true old q answer room now r new is o = inl (_, ap (λ (v : Reaction). v.packets) o.reacts)
success_told false old q answer room now r new is o = inr (is, ap (λ (v : Reaction). v.packets) o.0, ap (λ (v : Reaction). v.end) o.0)

-- a client that brings an identifier is told none
same_connack : (continued : Bool) (given known client : List ℕ) → given ≢ [] → connack continued given known ≡ connack continued given client
same_connack continued [] known client some = absurd (some refl)
same_connack continued (b ∷ bs) known client some = refl

record Joined (c : ℕ) (client : List ℕ) (q : Connect) (continued : Bool) (room : Option ℕ) (acts : List Act) : Type 0 where
  begun : List Act
  call : SessionStep
  is : acts ≡ begun ++ Session (Called call) ∷ []
  begins : begun ≡ cond continued [] (Session (Begun client) ∷ [])
  of : call.client ≡ client
  on : call.on ≡ Some c
  event : call.event ≡ connects q continued room call.at
  tells : TellsSuccess continued q client call.reaction

called : (c : ℕ) (client : List ℕ) (q : Connect) (continued : Bool) (room : Option ℕ) (seat : Seat) (r : Reaction) (p : Place) (h : HeldView) (acts : List Act) → CallsAt client (connects q continued room) (moves c) (Some seat) (Some r) p h acts
    → (call : SessionStep) × (acts ≡ Session (Called call) ∷ []) × (call.client ≡ client) × (call.on ≡ Some c) × (call.event ≡ connects q continued room call.at) × TellsFirst (limit_in q.properties) (connack continued q.client seat.session.kept.client) call.reaction
called c client q continued room seat r p h acts (inl d) = none_some (sym d.0)
called c client q continued room seat r p h acts (inr d) = (
  record { client = client; on = Some c; at = h.at; event = connects q continued room h.at; reaction = d.0; after = d.1 },
  d.4,
  refl,
  refl,
  refl,
  success_told (fits (limit_in q.properties) (connack continued q.client seat.session.kept.client)) seat.session q (connack continued q.client seat.session.kept.client) room h.at d.0 d.1 refl d.3.1,
)

joined : (continued : Bool) (c : ℕ) (client : List ℕ) (q : Connect) (room : Option ℕ) (r : Reaction) (p : Place) (h : HeldView) (acts : List Act) → has_session client h ≡ continued → (continued ≡ true → q.client ≢ []) → connecting.JoinsBy continued c client q room (Some r) p h acts → Joined c client q continued room acts
joined true c client q room r p h acts has some d =
    let found = has_of client h has in
    let k = called c client q true room found.0 r p h acts (subst (λ f. CallsAt client (connects q true room) (moves c) f (Some r) p h acts) found.1 d) in
    let told : TellsSuccess true q client k.0.reaction = subst (λ (a : Packet). TellsFirst (limit_in q.properties) a k.0.reaction) (same_connack true q.client found.0.session.kept.client client (some refl)) k.5 in
    record { begun = []; call = k.0; is = k.1; begins = refl; of = k.2; on = k.3; event = k.4; tells = told }
joined false c client q room r p h acts has some (inl d) = none_some (sym d.0)
joined false c client q room r p h acts has some (inr (y, own, mid, rest, one, runs, more, is)) =
    let a = Session (Begun client) in
    let left : mid ≡ next h a = left_by p h mid a own one.1 runs in
    let found : seat_at client mid ≡ Some (begun client) = ap (λ (v : HeldView). seat_at client v) left ∙ get_inserted h.sessions client (begun client) in
    let k = called c client q false room (begun client) r p mid rest (subst (λ f. CallsAt client (connects q false room) (moves c) f (Some r) p mid rest) found more) in
    record { begun = a ∷ []; call = k.0; is = is ∙ (λ i. one.1 i ++ k.1 i); begins = refl; of = k.2; on = k.3; event = k.4; tells = k.5 }

-- ---- the room of a connection
put_at : (m : ConnectionTable) (c : ℕ) (v : ConnectionView) → map.get (map.insert m c v) c ≡ Some v
put_at m c v = map.get-insert nat_cmp_total m c v c ∙ ap (λ b. cond b (Some v) (map.get m c)) (ap is_eq (tied_itself nat_cmp_total c))

-- it stays where the connection is given its client
room_stays : (m : ConnectionTable) (c : ℕ) (client : List ℕ) (o : Option ConnectionView) → map.get m c ≡ o
    → option_and_then (λ (v : ConnectionView). v.room) (map.get (changed_at (with_client client) c m o) c) ≡ option_and_then (λ (v : ConnectionView). v.room) (map.get m c)
room_stays m c client None is = refl
room_stays m c client (Some found) is = ap (option_and_then (λ (v : ConnectionView). v.room)) (put_at m c (with_client client found)) ∙ sym (ap (option_and_then (λ (v : ConnectionView). v.room)) is)

-- ---- what comes before
-- an older connection of the client
left_older : (client : List ℕ) (r : Reaction) (seat : Seat) (p : Place) (h : HeldView) (acts : List Act) → CallsAt client closes leaves (Some seat) (Some r) p h acts
    → (leave : SessionStep) × (acts ≡ Session (Called leave) ∷ []) × (leave.client ≡ client) × (leave.on ≡ None) × (leave.event ≡ closes leave.at)
left_older client r seat p h acts (inl d) = none_some (sym d.0)
left_older client r seat p h acts (inr d) = (record { client = client; on = None; at = h.at; event = closes h.at; reaction = d.0; after = d.1 }, d.4, refl, refl, refl)

seat_on : (client : List ℕ) (h : HeldView) (older : ℕ) → connection_at client h ≡ Some older → (seat : Seat) × (seat_at client h ≡ Some seat)
seat_on client h older on = by (seat_at client h) refl on
  where
    by : (o : Option Seat) → seat_at client h ≡ o → option_and_then (λ (s : Seat). s.connection) o ≡ Some older → (seat : Seat) × (seat_at client h ≡ Some seat)
    by None is e = none_some e
    by (Some seat) is e = (seat, is)

-- a packet, and a close, leave the sessions as they are
told_same : (b : Bool) (c : ℕ) (packet : Packet) (x : Unit {0}) (p : Place) (h mid : HeldView) (acts : List Act) → connecting.SendsIf b c packet (Some x) p h acts → Runs p h acts mid → mid.sessions ≡ h.sessions
told_same true c packet x p h mid acts d runs = ap (λ (v : HeldView). v.sessions) (left_by p h mid (Out (Send c (written packet))) acts d.1 runs)
told_same false c packet x p h mid acts d runs = ap (λ (v : HeldView). v.sessions) (subst (λ zs. Runs p h zs mid) d.1 runs)

closed_same : (c : ℕ) (x : Unit {0}) (p : Place) (h mid : HeldView) (acts : List Act) → ending.ClosesConnection c (Some x) p h acts → Runs p h acts mid → mid.sessions ≡ h.sessions
closed_same c x p h mid acts d runs =
    let r = subst (λ zs. Runs p h zs mid) (closed c x p h acts d) runs in
    ap (λ (v : HeldView). v.sessions) (r.2.2 ∙ r.2.1.1) ∙ ap (λ (v : HeldView). v.sessions) r.1.1

older_left : (client : List ℕ) (o : Option ℕ) (x : Unit {0}) (p : Place) (h : HeldView) (acts : List Act) → connection_at client h ≡ o → connecting.TakesOverFrom client o (Some x) p h acts → IsTakenOver h client o acts
older_left client None x p h acts on d = d.1
older_left client (Some older) x p h acts on (inl d) = none_some (sym d.0)
older_left client (Some older) x p h acts on (inr (y, told, mid, rest, one, runs, (inl d), is)) = none_some (sym d.0)
older_left client (Some older) x p h acts on (inr (y, told, mid, rest, one, runs, (inr (y2, shut, mid2, rest2, two, runs2, (inl d), is2)), is)) = none_some (sym d.0)
older_left client (Some older) x p h acts on (inr (y, told, mid, rest, one, runs, (inr (y2, shut, mid2, rest2, two, runs2, (inr (r, left, mid3, rest3, three, runs3, more, is3)), is2)), is)) =
    let found = seat_on client h older on in
    let same : mid2.sessions ≡ h.sessions = closed_same older y2 p mid mid2 shut two runs2 ∙ told_same (takes_disconnect client 142 h) older (disconnect 142) y p h mid told one runs in
    let there : seat_at client mid2 ≡ Some found.0 = ap (λ (m : Seats). map.get m client) same ∙ found.1 in
    let k = left_older client r found.0 p mid2 left (subst (λ f. CallsAt client closes leaves f (Some r) p mid2 left) there three) in
    record {
      leave = k.0;
      rest = rest3;
      is = is ∙ (λ i. told_by (takes_disconnect client 142 h) older (disconnect 142) y p h told one i ++ (is2 ∙ (λ j. closed older y2 p mid shut two j ++ (is3 ∙ ap (λ zs. zs ++ rest3) k.1) j)) i);
      of = k.2;
      off = k.3;
      event = k.4;
    }

-- the session, with Clean Start
over_then : (client : List ℕ) (seat : Seat) (r : Reaction) (p : Place) (h : HeldView) (acts : List Act) → CallsAt client finishes stays (Some seat) (Some r) p h acts → r.over ≡ true
over_then client seat r p h acts (inl d) = none_some (sym d.0)
over_then client seat r p h acts (inr (q, after, answer, reacts, acts_are)) = let same : r ≡ q = (let z : Some r ≡ Some q = answer in cc) in ap (λ (v : Reaction). v.over) (same ∙ reacts.0)

ends_now : (client : List ℕ) (x : Unit {0}) (p : Place) (h : HeldView) (acts : List Act) → has_session client h ≡ true → ending.Finishes client (Some x) p h acts → EndsNow client acts
ends_now client x p h acts has (inl d) = none_some (sym d.0)
ends_now client x p h acts has (inr (r, own, mid, rest, one, runs, (inl d), is)) = none_some (sym d.0)
ends_now client x p h acts has (inr (r, own, mid, rest, one, runs, (inr (y, asked, mid2, rest2, two, runs2, last, is2)), is)) =
    let found = has_of client h has in
    let call = subst (λ f. CallsAt client finishes stays f (Some r) p h own) found.1 one in
    let k = calling_by client finishes stays found.0 r p h own call in
    let end = ended client x p mid2 rest2 (if_so r.over (ending.EndsSession client) (Returns tt) (Some x) p mid2 rest2 (over_then client found.0 r p h own call) last) in
    record {
      call = k.step;
      rest = asked ++ end.0;
      is = is ∙ (λ i. k.acts_are i ++ (is2 ∙ ap (λ zs. asked ++ zs) end.1 ∙ sym (append_assoc asked end.0 (Session (Over client) ∷ []))) i);
      of = k.client_is;
      event = k.event_is ∙ ap finishes (sym k.at_is);
    }
  where
    ended : (client : List ℕ) (x : Unit {0}) (p : Place) (h : HeldView) (acts : List Act) → ending.EndsSession client (Some x) p h acts → (removed : List Act) × (acts ≡ removed ++ Session (Over client) ∷ [])
    ended client x p h acts (inl d) = none_some (sym d.0)
    ended client x p h acts (inr (stood, removed, mid, over, one, runs, more, is)) = (removed, is ∙ ap (λ zs. removed ++ zs) more.1)

cleaned_by : (has : Bool) (client : List ℕ) (x : Unit {0}) (p : Place) (h : HeldView) (acts : List Act) → has_session client h ≡ has → If has (ending.Finishes client) (Returns tt) (Some x) p h acts → cond has (EndsNow client acts) (acts ≡ [])
cleaned_by true client x p h acts has d = ends_now client x p h acts has d
cleaned_by false client x p h acts has d = d.1

cleaned : (clean : Bool) (client : List ℕ) (x : Unit {0}) (p : Place) (h : HeldView) (acts : List Act) → connecting.Cleans clean client (Some x) p h acts → IsCleaned clean client h acts
cleaned false client x p h acts d = d.1
cleaned true client x p h acts d = cleaned_by (has_session client h) client x p h acts refl d

-- none is left then
over_last : (client : List ℕ) (p : Place) (h h' : HeldView) (acts : List Act) → Runs p h (acts ++ Session (Over client) ∷ []) h' → has_session client h' ≡ false
over_last client p h h' acts runs =
    let parts = runs_split p acts (Session (Over client) ∷ []) h h' runs in
    let left : h' ≡ next parts.0 (Session (Over client)) = left_by p parts.0 h' (Session (Over client)) (Session (Over client) ∷ []) refl parts.2 in
    ap (λ (v : HeldView). has_session client v) left ∙ ap is_some (get_removed parts.0.sessions client)

none_left_by : (has : Bool) (client : List ℕ) (p : Place) (h h' : HeldView) (acts : List Act) → has_session client h ≡ has → cond has (EndsNow client acts) (acts ≡ []) → Runs p h acts h' → has_session client h' ≡ false
none_left_by true client p h h' acts has ends runs = over_last client p h h' (Session (Called ends.call) ∷ ends.rest) (subst (λ zs. Runs p h zs h') ends.is runs)
none_left_by false client p h h' acts has none runs = ap (λ (v : HeldView). has_session client v) (subst (λ zs. Runs p h zs h') none runs) ∙ has

-- where there was none, there is none
still_none : (clean : Bool) (client : List ℕ) (p : Place) (h mid mid2 : HeldView) (over acts : List Act) → has_session client h ≡ false → IsTakenOver h client (connection_at client h) over → Runs p h over mid → IsCleaned clean client mid acts → Runs p mid acts mid2
    → has_session client mid2 ≡ false
still_none clean client p h mid mid2 over acts has taken runs cleans runs2 = by clean cleans
  where
    none_by : (o : Option Seat) → is_some o ≡ false → option_and_then (λ (s : Seat). s.connection) o ≡ None
    none_by None e = refl
    none_by (Some seat) e = absurd (let z : true ≡ false = e in cc)

    nothing : over ≡ []
    nothing = subst (λ o. IsTakenOver h client o over) (none_by (seat_at client h) has) taken

    here : has_session client mid ≡ false
    here = ap (λ (v : HeldView). has_session client v) (subst (λ zs. Runs p h zs mid) nothing runs) ∙ has

    by : (b : Bool) → IsCleaned b client mid acts → has_session client mid2 ≡ false
    by false none = ap (λ (v : HeldView). has_session client v) (subst (λ zs. Runs p mid zs mid2) none runs2) ∙ here
    by true ends = none_left_by (has_session client mid) client p mid mid2 acts refl ends runs2

-- ---- an acceptance
module _ (c : ℕ) (q : Connect) (client : List ℕ) (p : Place) (start h : HeldView) (named : List Act) (known : IsKnownAs p start q client named) (ran : Runs p start named h)
    (none : (q.client ≢ []) ⊎ (has_session client h ≡ false)) (same : (over : List Act) → IsTakenOver h client (connection_at client h) over → IsTakenOver start client (connection_at client start) over) where
  accepted : (x : Unit {0}) (acts : List Act) → connecting.Accepts c q client (Some x) p h acts → IsAccepted p start c q (named ++ acts)
  accepted x acts (inl d) = none_some (sym d.0)
  accepted x acts (inr (y, over, mid, rest, one, runs, (inl d), is)) = none_some (sym d.0)
  accepted x acts (inr (y, over, mid, rest, one, runs, (inr (y2, clean, mid2, rest2, two, runs2, (inl d), is2)), is)) = none_some (sym d.0)
  accepted x acts (inr (y, over, mid, rest, one, runs, (inr (y2, clean, mid2, rest2, two, runs2, (inr (y3, own3, mid3, rest3, three, runs3, (inl d), is3)), is2)), is)) = none_some (sym d.0)
  accepted x acts (inr (y, over, mid, rest, one, runs, (inr (y2, clean, mid2, rest2, two, runs2, (inr (y3, own3, mid3, rest3, three, runs3, (inr (r, own4, mid4, rest4, four, runs4, more, is4)), is3)), is2)), is)) =
      let a = Connection (Accepted c client) in
      let left : mid3 ≡ next mid2 a = left_by p mid2 mid3 a own3 three.1 runs3 in
      let same_room : room_at c mid3 ≡ room_at c mid2 = ap (λ (v : HeldView). room_at c v) left ∙ room_stays mid2.connections c client (map.get mid2.connections c) refl in
      let has : has_session client mid3 ≡ has_session client mid2 = ap (λ (v : HeldView). has_session client v) left in
      let taken : IsTakenOver h client (connection_at client h) over = older_left client (connection_at client h) y p h over refl one in
      let cleans : IsCleaned q.clean_start client mid clean = cleaned q.clean_start client y2 p mid clean two in
      let some : has_session client mid3 ≡ true → q.client ≢ [] = λ e. elim none [
        | inl given ↦ given
        | inr nobody ↦ absurd (let z : false ≡ true = sym (still_none q.clean_start client p h mid mid2 over clean nobody taken runs cleans runs2) ∙ sym has ∙ e in cc)
      ] in
      let k = joined (has_session client mid3) c client q (room_at c mid3) r p mid3 own4 refl some four in
      record {
        client = client;
        named = named;
        known = known;
        over = over;
        clean = clean;
        begun = k.begun;
        call = k.call;
        rest = rest4;
        is = ap (λ zs. named ++ zs) (is ∙ ap (λ zs. over ++ zs) (is2 ∙ ap (λ zs. clean ++ zs) (is3 ∙ (λ i. three.1 i ++ (is4 ∙ ap (λ zs. zs ++ rest4) k.is ∙ append_assoc k.begun (Session (Called k.call) ∷ []) rest4) i))));
        takes_over = same over taken;
        left = mid;
        leaves = runs_join p named over start h mid ran runs;
        cleans = cleans;
        held = mid2;
        runs = runs2;
        continued = has_session client mid3;
        session = sym has;
        fresh = λ e. has ∙ none_left_by (has_session client mid) client p mid mid2 clean refl (subst (λ b. IsCleaned b client mid clean) e cleans) runs2;
        begins = k.begins;
        of = k.of;
        on = k.on;
        event = k.event ∙ ap (λ o. connects q (has_session client mid3) o k.call.at) same_room;
        tells = k.tells;
      }

-- ---- in the order of the refusals
abbrev Answered : Place → HeldView → ℕ → Connect → List Act → Type 0
Answered p h c q acts =
    ((code : ℕ) × (reference : Option (List ℕ)) × IsRefusedFor p h q code reference × IsRefusedBy c q code reference acts)
    ⊎ (IsWelcome p h q × IsAccepted p h c q acts)

empty : (t : List ℕ) → length t ≡ 0 → t ≡ []
empty [] e = refl
empty (b ∷ bs) e = absurd (omega (arith, e))

-- at its home
as_here : (c : ℕ) (q : Connect) (x : Unit {0}) (p : Place) (h : HeldView) (acts : List Act) → (¬ HasMethod q) → (¬ HasLongClient q) → LivesAt h q p.id → connecting.AcceptsAs c q q.client (Some x) p h acts → Answered p h c q acts
as_here c q x p h acts plain short lives (inl d) = inr ((plain, short, inr lives, d.0), accepted c q q.client p h h [] (inl (lives.0, refl, refl)) refl (inl lives.0) (λ over taken. taken) x acts d.1)
as_here c q x p h acts plain short lives (inr d) = inl (144, None, inr (inr (inr (plain, short, inr lives, d.0, refl, refl))), refused c q 144 None x p h acts d.1)

comes : (here : Bool) (c : ℕ) (q : Connect) (node : ℕ) (x : Unit {0}) (p : Place) (h : HeldView) (acts : List Act) → (¬ HasMethod q) → (¬ HasLongClient q) → LivesAt h q node → (node == p.id) ≡ here
    → If here (connecting.AcceptsAs c q q.client) (connecting.Refers c q node) (Some x) p h acts → Answered p h c q acts
comes true c q node x p h acts plain short lives is d = as_here c q x p h acts plain short (subst (LivesAt h q) (eqb-true node p.id is) lives) d
comes false c q node x p h acts plain short lives is d =
    inl (156, connecting.address_of h node, inr (inr (inl (plain, short, (node, lives, eqb-false node p.id is, refl, refl)))), refused c q 156 (connecting.address_of h node) x p h acts d)

-- without an identifier; that it is named changes nothing of its connections
named_over : (h : HeldView) (number : ℕ) (client : List ℕ) (o : Option ℕ) (over : List Act) → IsTakenOver (next h (Named number)) client o over → IsTakenOver h client o over
named_over h number client None over taken = taken
named_over h number client (Some older) over taken = record { leave = taken.leave; rest = taken.rest; is = taken.is; of = taken.of; off = taken.off; event = taken.event }

named : (c : ℕ) (q : Connect) (number : Option ℕ) (x : Unit {0}) (p : Place) (h : HeldView) (acts : List Act) → q.client ≡ [] → IsNextNumber p h number → connecting.NamesBy c q number (Some x) p h acts → IsAccepted p h c q acts
named c q None x p h acts none is d = none_some (sym d.0)
named c q (Some number) x p h acts none is (inl d) = none_some (sym d.0)
named c q (Some number) x p h acts none is (inr (y, own, mid, rest, one, runs, more, same)) =
    let a = Named number in
    let left : mid ≡ next h a = left_by p h mid a own one.1 runs in
    let nobody : has_session (automatic p.id number) mid ≡ false = ap (λ (v : HeldView). has_session (automatic p.id number) v) left ∙ is.2 in
    subst (IsAccepted p h c q) (sym same)
    (accepted c q (automatic p.id number) p h mid own (inr (none, (number, is, refl, one.1))) runs (inr nobody)
    (λ over taken. named_over h number (automatic p.id number) (connection_at (automatic p.id number) h) over
    (subst (λ (v : HeldView). IsTakenOver v (automatic p.id number) (connection_at (automatic p.id number) v) over) left taken)) x rest more)

connects_at : (bare : Bool) (c : ℕ) (q : Connect) (x : Unit {0}) (p : Place) (h : HeldView) (acts : List Act) → (¬ HasMethod q) → (¬ HasLongClient q) → (length q.client == 0) ≡ bare → connecting.ConnectsAt bare c q (Some x) p h acts → Answered p h c q acts
connects_at true c q x p h acts plain short e (inl d) =
    let none : q.client ≡ [] = empty q.client (eqb-true (length q.client) 0 e) in
    inr ((plain, short, inl none, d.0), named c q d.1.0 x p h acts none d.1.1 d.1.2)
connects_at true c q x p h acts plain short e (inr d) =
    let none : q.client ≡ [] = empty q.client (eqb-true (length q.client) 0 e) in
    inl (144, None, inr (inr (inr (plain, short, inl none, d.0, refl, refl))), refused c q 144 None x p h acts d.1)
connects_at false c q x p h acts plain short e (node, home, d) =
    let some : q.client ≢ [] = λ none. eqb-false (length q.client) 0 e (ap length none) in
    comes (node == p.id) c q node x p h acts plain short (some, home) refl d

connected : (a b : Bool) (c : ℕ) (q : Connect) (x : Unit {0}) (p : Place) (h : HeldView) (acts : List Act) → has_property 21 q.properties ≡ a → nat_lt 256 (length q.client) ≡ b
    → connecting.ConnectsBy (cond a (Some 140) (cond b (Some 133) None)) c q (Some x) p h acts → Answered p h c q acts
connected true b c q x p h acts is long d = inl (140, None, inl (is, refl, refl), refused c q 140 None x p h acts d)
connected false true c q x p h acts is long d = inl (133, None, inr (inl ((λ e. (let z : false ≡ true = sym is ∙ e in cc)), ltb-true 256 (length q.client) long, refl, refl)), refused c q 133 None x p h acts d)
connected false false c q x p h acts is long d =
    let plain : ¬ HasMethod q = λ e. (let z : false ≡ true = sym is ∙ e in cc) in
    let few = ltb-false 256 (length q.client) long in
    let short : ¬ HasLongClient q = λ e. omega (arith, few, e) in
    connects_at (length q.client == 0) c q x p h acts plain short refl d

answered : (c : ℕ) (q : Connect) (x : Unit {0}) (p : Place) (h : HeldView) (acts : List Act) → connecting.Connects c q (Some x) p h acts → Answered p h c q acts
answered c q x p h acts d = connected (has_property 21 q.properties) (nat_lt 256 (length q.client)) c q x p h acts refl refl d

-- ---- where nothing is due, nothing is done
pub no_acts : (p : Place) (h mid : HeldView) (acts : List Act) → acts ≡ [] → Runs p h acts mid → mid ≡ h
no_acts p h mid acts is runs = subst (λ zs. Runs p h zs mid) is runs

each_none : {A : Type 0} (One : A → Option (Unit {0}) → Doing) (xs : List A) (x : Unit {0}) (p : Place) (h : HeldView) (acts : List Act) → xs ≡ [] → Each One xs (Some x) p h acts → acts ≡ []
each_none One xs x p h acts none d = (subst (λ zs. Each One zs (Some x) p h acts) none d).1

pub none_due : (x : Unit {0}) (p : Place) (h : HeldView) (acts : List Act) → NothingDue h → due.DoesDue (Some x) p h acts → acts ≡ []
none_due x p h acts none (inl d) = none_some (sym d.0)
none_due x p h acts none (inr (y, own, mid, rest, one, runs, (inl d), is)) = none_some (sym d.0)
none_due x p h acts none (inr (y, own, mid, rest, one, runs, (inr (y2, own2, mid2, rest2, two, runs2, more, is2)), is)) =
    let first : own ≡ [] = each_none due.RunsOut (run_outs h.sessions h.at) y p h own none.connections one in
    let here : mid ≡ h = no_acts p h mid own first runs in
    let second : own2 ≡ [] = each_none due.TicksOf (wills_due h.sessions h.at) y2 p h own2 none.wills (subst (λ v. due.PublishesWills (Some y2) p v own2) here two) in
    let there : mid2 ≡ h = no_acts p h mid2 own2 second (subst (λ v. Runs p v own2 mid2) here runs2) in
    let third : rest2 ≡ [] = each_none due.TicksOf (ends_due h.sessions h.at) x p h rest2 none.ends (subst (λ v. due.EndsSessions (Some x) p v rest2) there more) in
    is ∙ (λ i. first i ++ (is2 ∙ (λ j. second j ++ third j)) i)

-- ---- a piece
took : (m : ConnectionTable) (c : ℕ) (piece : List ℕ) (found : ConnectionView) → map.get m c ≡ Some found → map.get (changed (with_piece piece) c m) c ≡ Some (with_piece piece found)
took m c piece found is =
    ap (λ o. map.get (changed_at (with_piece piece) c m o) c) is ∙ put_at m c (with_piece piece found)

if_not : {A : Type 0} (b : Bool) (P Q : Option A → Doing) (out : Option A) (p : Place) (h : HeldView) (acts : List Act) → b ≡ false → If b P Q out p h acts → Q out p h acts
if_not true P Q out p h acts e d = absurd (let z : true ≡ false = e in cc)
if_not false P Q out p h acts e d = d

-- the first packet of a connection without a client
first_answered : (c : ℕ) (piece : List ℕ) (q : Connect) (found : ConnectionView) (x : Unit {0}) (p : Place) (h : HeldView) (acts : List Act) → map.get h.connections c ≡ Some (with_piece piece found) → found.client ≡ None
    → pieces.AnswersIfOpen c (packets.Connect q) (Some x) p h acts → Answered p h c q acts
first_answered c piece q found x p h acts there none d =
    let open_there : is_open c h ≡ true = ap is_some there in
    let bare : client_at c h ≡ None = ap (option_and_then (λ (v : ConnectionView). v.client)) there ∙ none in
    answered c q x p h acts (subst (λ o. pieces.AnswersPacketBy c (packets.Connect q) o (Some x) p h acts) bare (if_so (is_open c h) (pieces.AnswersPacket c (packets.Connect q)) (Returns tt) (Some x) p h acts open_there d))

record Taken (p : Place) (h : HeldView) (c : ℕ) (piece : List ℕ) (q : Connect) (acts : List Act) : Type 0 where
  own : List Act
  rest : List Act
  is : acts ≡ own ++ rest
  answer : Answered p h c q own

taken : (c : ℕ) (piece : List ℕ) (q : Connect) (more : List Packet) (fault : Option PacketFault) (found : ConnectionView) (x : Unit {0}) (p : Place) (h : HeldView) (acts : List Act) → map.get h.connections c ≡ Some (with_piece piece found) → found.client ≡ None
    → pieces.TakesPackets c (packets.Connect q ∷ more) fault (Some x) p h acts → Taken p h c piece q acts
taken c piece q more fault found x p h acts there none (inl d) = none_some (sym d.0)
taken c piece q more fault found x p h acts there none (inr (y, own, mid, rest, (inl one), runs, last, is)) = none_some (sym one.0)
taken c piece q more fault found x p h acts there none (inr (y, own, mid, rest, (inr (y2, own2, mid2, rest2, one, runs2, others, is2)), runs, last, is)) =
    record { own = own2; rest = rest2 ++ rest; is = is ∙ ap (λ zs. zs ++ rest) is2 ∙ append_assoc own2 rest2 rest; answer = first_answered c piece q found y2 p h own2 there none one }

-- ---- in a step
module _ (p : Place) (h : HeldView) (c : ℕ) (piece : List ℕ) (found : ConnectionView) (there : map.get h.connections c ≡ Some found) (q : Connect) (brings : BringsConnect found piece q) where
  abbrev fed : HeldView
  fed = next h (Connection (Fed c piece))

  feeds : (x : Unit {0}) (acts : List Act) → pieces.Feeds c piece found (Some x) p h acts → AnswersConnect p h c piece q acts
  feeds x acts (inl d) = none_some (sym d.0)
  feeds x acts (inr (y, own, mid, rest, one, runs, after, is)) =
      let a = Connection (Fed c piece) in
      let left : mid ≡ fed = left_by p h mid a own one.1 runs in
      let d = subst (λ v. pieces.TakesPackets c (cut_of found.stream piece).packets (cut_of found.stream piece).fault (Some x) p v rest) left after in
      let t = taken c piece q brings.2.0 (cut_of found.stream piece).fault found x p fed rest (took h.connections c piece found there) brings.0
      (subst (λ ps. pieces.TakesPackets c ps (cut_of found.stream piece).fault (Some x) p fed rest) brings.2.1 d) in
      record {
        own = t.own;
        rest = t.rest;
        is = is ∙ (λ i. one.1 i ++ t.is i);
        held = fed;
        runs = (fed, (ap is_some there, refl), refl);
        answer = t.answer;
      }

  -- the piece, after what is due
  at_piece : (x : Unit {0}) (acts : List Act) → turns.AnswersEvent (kinds.Piece c piece) (Some x) p h acts → AnswersConnect p h c piece q acts
  at_piece x acts d =
      let on = subst (λ o. pieces.PieceAt c piece o (Some x) p h acts) there d in
      feeds x acts (if_not found.stream.failed (pieces.Shuts c) (pieces.Feeds c piece found) (Some x) p h acts brings.1 on)

if_is : {A : Type 0} (b : Bool) (P Q : Option A → Doing) (out : Option A) (p : Place) (h : HeldView) (acts : List Act) → b ≡ true → P out p h acts → If b P Q out p h acts
if_is true P Q out p h acts e d = d
if_is false P Q out p h acts e d = absurd (let z : false ≡ true = e in cc)

-- the acts of what is due are those of a Tick
module _ (e : Event) (p : Place) (h : HeldView) (c : ℕ) (piece : List ℕ) (kind : e.kind ≡ kinds.Piece c piece) (started : h.started ≡ true) where
  abbrev tick : Event
  tick = record { at = e.at; kind = kinds.Tick }

  ticked : (x : Unit {0}) (first : List Act) (mid : HeldView) (y : Unit {0}) (own : List Act) (last : HeldView) → TakesMoment e.at (Some x) p h first → Runs p h first mid → mid.started ≡ true → due.DoesDue (Some y) p mid own → Runs p mid own last
      → turns.Decides tick (Some tt) p h (first ++ own)
  ticked x first mid y own last moment runs so does ran =
      inr (x, first, mid, own, moment, runs, if_is mid.started (turns.AnswersAfterDue kinds.Tick) (turns.AwaitsStart kinds.Tick) (Some tt) p mid own so (inr (y, own, last, [], does, ran, (refl, refl), sym (append-nil own))), refl)

  answers_by : (x : Unit {0}) (first : List Act) (mid : HeldView) (acts : List Act) → TakesMoment e.at (Some x) p h first → Runs p h first mid → mid.started ≡ true → turns.AnswersAfterDue (kinds.Piece c piece) (Some tt) p mid acts → AnswersFirst p h e.at c piece (first ++ acts)
  answers_by x first mid acts moment runs so (inl d) = none_some (sym d.0)
  answers_by x first mid acts moment runs so (inr (y, own, last, rest, one, ran, after, is)) = record {
    due = first ++ own;
    rest = rest;
    is = ap (λ zs. first ++ zs) is ∙ sym (append_assoc first own rest);
    ticks = ticked x first mid y own last moment runs so one ran;
    held = last;
    runs = runs_join p first own h mid last runs ran;
    answers = λ found q there brings. at_piece p last c piece found there q brings tt rest after;
  }

  answers_first : (acts : List Act) → turns.Decides e (Some tt) p h acts → AnswersFirst p h e.at c piece acts
  answers_first acts (inl d) = none_some (sym d.0)
  answers_first acts (inr (x, own, mid, rest, one, runs, after, is)) =
      let a = MomentTaken e.at in
      let alone : own ≡ a ∷ [] = numbered (not (nat_lt e.at (2 ^ 62))) x a own one in
      let left : mid ≡ next h a = left_by p h mid a own alone runs in
      let so : mid.started ≡ true = ap (λ (v : HeldView). v.started) left ∙ started in
      let turn = subst (λ k. turns.Turn k (Some tt) p mid rest) kind after in
      let goes = if_so mid.started (turns.AnswersAfterDue (kinds.Piece c piece)) (turns.AwaitsStart (kinds.Piece c piece)) (Some tt) p mid rest so turn in
      subst (AnswersFirst p h e.at c piece) (sym is) (answers_by x own mid rest one runs so goes)

pub first_connect_is_answered : FirstConnectIsAnswered
first_connect_is_answered = λ e p h acts d c piece kind started. answers_first e p h c piece kind started acts d
