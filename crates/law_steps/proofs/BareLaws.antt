-- Bytes on a connection that has no client yet.
use Rattle.std.proofs.Common.{◌≡◌, ◌⊎◌, inl, inr, ℕ, ◌==◌, Bool, true, false, cond, is_some, length, List, [], ◌∷◌, ◌++◌, Option, Some, None, option_and_then, refl, sym, ap, ◌∙◌, subst, append_assoc}
use Rattle.std.specs.FinMap as map
use Rattle.law_maps.proofs.Texts.{get_inserted}
use Rattle.mqtt_packets.specs.declared.connect.Connect.{Connect}
use Rattle.mqtt_packets.specs.declared.fault.PacketFault.{PacketFault}
use Rattle.mqtt_packets.specs.declared.packet.Packet.{Packet}
use Rattle.mqtt_packets.specs.declared.packet.Packet.TheVariants as packets
use Rattle.mqtt_packets.specs.Written.{written}
use Rattle.mqtt_sessions.specs.Reaction.{Reaction}
use Rattle.law_sessions.specs.Runs.{Event, connects, queues, rooms, takes, answers, closes, ticks, finishes, loses}
use Rattle.session_table.specs.Calls.{moves}
use Rattle.session_table.specs.Seats.{Seat, Seats, begun}
use Rattle.node_work.specs.declared.outcome.Output.TheVariants.{Send, Close}
use Rattle.node_work.specs.Acts.{Act, Connection, Session, Out, Runs, next}
use Rattle.node_work.specs.Calling.{CallsAt}
use Rattle.node_work.specs.Held.Connections.{ConnectionTable, Accepted, Closed as Shut, Fed, changed_at, client_at, first_at, is_open, room_at, with_client, with_piece}
use Rattle.node_work.specs.Held.Feeding.{cut_of}
use Rattle.node_work.specs.Held.Sessions.{SessionStep, Begun, Called, Over, has_session, seat_at}
use Rattle.node_work.specs.Packets.{refused_packet}
use Rattle.node_work.specs.View.{Place, HeldView, ConnectionView}
use Rattle.node_work.specs.Working.{Returns, If, Each}
use Rattle.node_work.proofs.Working.{gather-append}
use Rattle.node_clients.specs.Connecting as connecting
use Rattle.node_clients.specs.Ending as ending
use Rattle.node_clients.specs.Pieces as pieces
use Rattle.broker_node.specs.declared.event.Event.{Event as NodeEvent}
use Rattle.broker_node.specs.declared.event.EventKind.{EventKind}
use Rattle.broker_node.specs.declared.event.EventKind.TheVariants as kinds
use Rattle.broker_node.specs.Turns as turns
use Rattle.law_runs.proofs.Keeping.{IsOther, IsPlain, Joins, none_some}
use Rattle.law_runs.proofs.Passing.{has_of}
use Rattle.law_runs.proofs.Splits.{left_by}
use Rattle.law_runs.proofs.Work.{connects_by}
use Rattle.law_steps.proofs.ClosingLaws.{open_with, second_runs}
use Rattle.law_steps.proofs.On.{gone_here, put_here}
use Rattle.law_steps.specs.Bare.{IsShut, EndsBare, IsFirst, AreTakenBare, TakesBareBytes, BareBytesAreTaken, FirstPacketsAreTaken}
use Rattle.law_steps.specs.Taking.{AreTaken, IsServed, TakeNothing, taken_by, taken_in}
use Rattle.law_steps.proofs.ServingLaws.{Left, after_left}
use Rattle.law_steps.proofs.TakenLaws.{all_taken, closed, none_after, none_left}
use Rattle.law_steps.proofs.Turning.{IsAfterStart, if_so, if_not, turned}
use Rattle.law_steps.proofs.Untaken.{Untaken}

-- ---- a connection is closed
shut_now : (c : ℕ) (x : Unit {0}) (p : Place) (h h' : HeldView) (acts : List Act) → ending.ClosesConnection c (Some x) p h acts → Runs p h acts h' → is_open c h' ≡ false
shut_now c x p h h' acts (inl d) runs = none_some (sym d.0)
shut_now c x p h h' acts (inr (y, own, mid, rest, one, ran, more, is)) runs =
    let first : mid ≡ next h (Connection (Shut c)) = left_by p h mid (Connection (Shut c)) own one.1 ran in
    let second : h' ≡ mid = left_by p mid h' (Out (Close c)) rest more.1 (second_runs p h mid h' own rest acts is ran runs) in
    ap (λ (v : HeldView). is_open c v) (second ∙ first) ∙ ap is_some (gone_here h.connections c)

-- ---- a CONNECT: by it the connection is closed, or has its client
abbrev Ended : ℕ → HeldView → Type 0
Ended c h = (is_open c h ≡ false) ⊎ ((client : List ℕ) × IsServed h c client)

ended : (c : ℕ) (client : List ℕ) (h : HeldView) → Left c client h → Ended c h
ended c client h (inl shut) = inl shut
ended c client h (inr s) = inr (client, s)

refused : (c : ℕ) (q : Connect) (code : ℕ) (reference : Option (List ℕ)) (x : Unit {0}) (p : Place) (h h' : HeldView) (acts : List Act) → connecting.RefusesConnect c q code reference (Some x) p h acts → Runs p h acts h' → Ended c h'
refused c q code reference x p h h' acts (inl d) runs = none_some (sym d.0)
refused c q code reference x p h h' acts (inr (y, own, mid, rest, one, ran, more, is)) runs = inl (shut_now c x p mid h' rest more (second_runs p h mid h' own rest acts is ran runs))

-- the connection has its client where it is open
has_client : (o : Option ConnectionView) (c : ℕ) (client : List ℕ) (m : ConnectionTable) → map.get m c ≡ o
    → (is_some (map.get (changed_at (with_client client) c m o) c) ≡ false) ⊎ (option_and_then (λ (v : ConnectionView). v.client) (map.get (changed_at (with_client client) c m o) c) ≡ Some client)
has_client None c client m is = inl (ap is_some is)
has_client (Some found) c client m is = inr (ap (option_and_then (λ (v : ConnectionView). v.client)) (put_here m c (with_client client found)))

-- its session is called on it
record Seated (c : ℕ) (client : List ℕ) (h h' : HeldView) : Type 0 where
  same : h'.connections ≡ h.connections
  seat : Seat
  found : map.get h'.sessions client ≡ Some seat
  on : seat.connection ≡ Some c

called : (c : ℕ) (client : List ℕ) (event : ℕ → Event) (seat : Seat) (r : Reaction) (p : Place) (h h' : HeldView) (acts : List Act) → CallsAt client event (moves c) (Some seat) (Some r) p h acts → Runs p h acts h' → Seated c client h h'
called c client event seat r p h h' acts (inl d) runs = none_some (sym d.0)
called c client event seat r p h h' acts (inr d) runs =
    let s : SessionStep = record { client = client; on = Some c; at = h.at; event = event h.at; reaction = d.0; after = d.1 } in
    let left : h' ≡ next h (Session (Called s)) = left_by p h h' (Session (Called s)) acts d.4 runs in
    record {
      same = ap (λ (v : HeldView). v.connections) left;
      seat = record { session = d.1; connection = Some c };
      found = ap (λ (v : HeldView). map.get v.sessions client) left ∙ get_inserted h.sessions client (record { session = d.1; connection = Some c });
      on = refl;
    }

joined : (continued : Bool) (c : ℕ) (client : List ℕ) (q : Connect) (room : Option ℕ) (r : Reaction) (p : Place) (h h' : HeldView) (acts : List Act) → has_session client h ≡ continued → connecting.JoinsBy continued c client q room (Some r) p h acts → Runs p h acts h' → Seated c client h h'
joined true c client q room r p h h' acts has d runs =
    let found = has_of client h has in
    called c client (connects q true room) found.0 r p h h' acts (subst (λ f. CallsAt client (connects q true room) (moves c) f (Some r) p h acts) found.1 d) runs
joined false c client q room r p h h' acts has (inl d) runs = none_some (sym d.0)
joined false c client q room r p h h' acts has (inr (y, own, mid, rest, one, ran, more, is)) runs =
    let left : mid ≡ next h (Session (Begun client)) = left_by p h mid (Session (Begun client)) own one.1 ran in
    let found : seat_at client mid ≡ Some (begun client) = ap (λ (v : HeldView). seat_at client v) left ∙ get_inserted h.sessions client (begun client) in
    let s = called c client (connects q false room) (begun client) r p mid h' rest (subst (λ f. CallsAt client (connects q false room) (moves c) f (Some r) p mid rest) found more) (second_runs p h mid h' own rest acts is ran runs) in
    record { same = s.same ∙ ap (λ (v : HeldView). v.connections) left; seat = s.seat; found = s.found; on = s.on }

seated : (c : ℕ) (client : List ℕ) (h h' : HeldView) → Seated c client h h' → (is_open c h ≡ false) ⊎ (client_at c h ≡ Some client) → Left c client h'
seated c client h h' s (inl shut) = inl (ap (λ (m : ConnectionTable). is_some (map.get m c)) s.same ∙ shut)
seated c client h h' s (inr has) = inr (record { has = ap (λ (m : ConnectionTable). option_and_then (λ (v : ConnectionView). v.client) (map.get m c)) s.same ∙ has; seat = s.seat; found = s.found; on = s.on })

begins : (c : ℕ) (client : List ℕ) (q : Connect) (x : Unit {0}) (p : Place) (h h' : HeldView) (acts : List Act) → connecting.BeginsSession c client q (Some x) p h acts → Runs p h acts h' → Left c client h'
begins c client q x p h h' acts (inl d) runs = none_some (sym d.0)
begins c client q x p h h' acts (inr (y, own, mid, rest, one, ran, (inl d), is)) runs = none_some (sym d.0)
begins c client q x p h h' acts (inr (y, own, mid, rest, one, ran, (inr (r, own2, mid2, rest2, two, ran2, more, is2)), is)) runs =
    let left : mid ≡ next h (Connection (Accepted c client)) = left_by p h mid (Connection (Accepted c client)) own one.1 ran in
    let has : (is_open c mid ≡ false) ⊎ (client_at c mid ≡ Some client) = subst (λ (v : HeldView). (is_open c v ≡ false) ⊎ (client_at c v ≡ Some client)) (sym left) (has_client (map.get h.connections c) c client h.connections refl) in
    let s = joined (has_session client mid) c client q (room_at c mid) r p mid mid2 own2 refl two ran2 in
    let later = second_runs p h mid h' own rest acts is ran runs in
    after_left r.end c client x p mid2 h' rest2 (seated c client mid mid2 s has) more (second_runs p mid mid2 h' own2 rest2 rest is2 ran2 later)

accepts : (c : ℕ) (q : Connect) (client : List ℕ) (x : Unit {0}) (p : Place) (h h' : HeldView) (acts : List Act) → connecting.Accepts c q client (Some x) p h acts → Runs p h acts h' → Ended c h'
accepts c q client x p h h' acts (inl d) runs = none_some (sym d.0)
accepts c q client x p h h' acts (inr (y, own, mid, rest, one, ran, (inl d), is)) runs = none_some (sym d.0)
accepts c q client x p h h' acts (inr (y, own, mid, rest, one, ran, (inr (y2, own2, mid2, rest2, two, ran2, more, is2)), is)) runs =
    ended c client h' (begins c client q x p mid2 h' rest2 more (second_runs p mid mid2 h' own2 rest2 rest is2 ran2 (second_runs p h mid h' own rest acts is ran runs)))

accepts_as : (c : ℕ) (q : Connect) (client : List ℕ) (x : Unit {0}) (p : Place) (h h' : HeldView) (acts : List Act) → connecting.AcceptsAs c q client (Some x) p h acts → Runs p h acts h' → Ended c h'
accepts_as c q client x p h h' acts (inl d) runs = accepts c q client x p h h' acts d.1 runs
accepts_as c q client x p h h' acts (inr d) runs = refused c q 144 None x p h h' acts d.1 runs

comes : (here : Bool) (c : ℕ) (q : Connect) (node : ℕ) (x : Unit {0}) (p : Place) (h h' : HeldView) (acts : List Act) → If here (connecting.AcceptsAs c q q.client) (connecting.Refers c q node) (Some x) p h acts → Runs p h acts h' → Ended c h'
comes true c q node x p h h' acts d runs = accepts_as c q q.client x p h h' acts d runs
comes false c q node x p h h' acts d runs = refused c q 156 (connecting.address_of h node) x p h h' acts d runs

named : (c : ℕ) (q : Connect) (number : Option ℕ) (x : Unit {0}) (p : Place) (h h' : HeldView) (acts : List Act) → connecting.NamesBy c q number (Some x) p h acts → Runs p h acts h' → Ended c h'
named c q None x p h h' acts d runs = none_some (sym d.0)
named c q (Some number) x p h h' acts (inl d) runs = none_some (sym d.0)
named c q (Some number) x p h h' acts (inr (y, own, mid, rest, one, ran, more, is)) runs = accepts c q _ x p mid h' rest more (second_runs p h mid h' own rest acts is ran runs)

at : (bare : Bool) (c : ℕ) (q : Connect) (x : Unit {0}) (p : Place) (h h' : HeldView) (acts : List Act) → connecting.ConnectsAt bare c q (Some x) p h acts → Runs p h acts h' → Ended c h'
at true c q x p h h' acts (inl d) runs = named c q d.1.0 x p h h' acts d.1.2 runs
at true c q x p h h' acts (inr d) runs = refused c q 144 None x p h h' acts d.1 runs
at false c q x p h h' acts (node, home, d) runs = comes (node == p.id) c q node x p h h' acts d runs

by : (code : Option ℕ) (c : ℕ) (q : Connect) (x : Unit {0}) (p : Place) (h h' : HeldView) (acts : List Act) → connecting.ConnectsBy code c q (Some x) p h acts → Runs p h acts h' → Ended c h'
by (Some code) c q x p h h' acts d runs = refused c q code None x p h h' acts d runs
by None c q x p h h' acts d runs = at (length q.client == 0) c q x p h h' acts d runs

-- by which no session takes a packet
other_none : (client : List ℕ) (e : Event) → IsOther e → taken_by client e ≡ []
other_none client (connects q continued room now) other = refl
other_none client (rooms bytes now) other = refl
other_none client (queues d now) other = refl
other_none client (takes k now room) other = absurd other
other_none client (answers id codes) other = absurd other
other_none client (closes now) other = refl
other_none client (ticks now) other = refl
other_none client (finishes now) other = refl
other_none client loses other = refl

plain_none : (p : Place) (h : HeldView) (a : Act) → IsPlain a → Untaken p h (a ∷ [])
plain_none p h (Session (Called s)) plain = ap (λ (xs : List (List ℕ × Packet)). xs ++ []) (other_none s.client s.event plain)
plain_none p h (Session (Begun client)) plain = refl
plain_none p h (Session (Over client)) plain = refl
plain_none p h a plain = refl

joins : Joins Untaken
joins = record { none = λ p h. refl; one = plain_none; both = λ p h mid xs ys runs a b. gather-append taken_in xs ys ∙ (λ i. a i ++ b i) }

-- ---- the first packet
record First (c : ℕ) (k : Packet) (acts : List Act) (h' : HeldView) : Type 0 where
  is : IsFirst c k acts
  left : Ended c h'

no_connect : (c : ℕ) (x : Unit {0}) (p : Place) (h h' : HeldView) (acts : List Act) → ending.ClosesConnection c (Some x) p h acts → Runs p h acts h' → (acts ≡ Connection (Shut c) ∷ Out (Close c) ∷ []) × Ended c h'
no_connect c x p h h' acts d runs = (closed c x p h acts d, inl (shut_now c x p h h' acts d runs))

first : (c : ℕ) (k : Packet) (x : Unit {0}) (p : Place) (h h' : HeldView) (acts : List Act) → pieces.AnswersFirstPacket c k (Some x) p h acts → Runs p h acts h' → First c k acts h'
first c (packets.Connect q) x p h h' acts d runs =
    let code = connecting.connect_refusal q in
    record { is = (connects_by Untaken joins code c q).of x p h acts d; left = by code c q x p h h' acts d runs }
first c k x p h h' acts d runs = let s = no_connect c x p h h' acts d runs in record { is = s.0; left = s.1 }

-- ---- a fault before any packet
refusal : (code : Option ℕ) (c : ℕ) (x : Unit {0}) (p : Place) (h : HeldView) (acts : List Act) → pieces.SendsRefusal c code (Some x) p h acts → (n : ℕ) × (code ≡ Some n) × (acts ≡ Out (Send c (written (refused_packet n None))) ∷ [])
refusal None c x p h acts d = absurd d
refusal (Some n) c x p h acts d = (n, refl, d.1)

tells : (b : Bool) (c : ℕ) (fault : PacketFault) (x : Unit {0}) (p : Place) (h : HeldView) (acts : List Act) → If b (pieces.SendsRefusal c (pieces.connack_code fault)) (Returns tt) (Some x) p h acts
    → cond b ((code : ℕ) × (pieces.connack_code fault ≡ Some code) × (acts ≡ Out (Send c (written (refused_packet code None))) ∷ [])) (acts ≡ [])
tells true c fault x p h acts d = refusal (pieces.connack_code fault) c x p h acts d
tells false c fault x p h acts d = d.1

shut_by : (c : ℕ) (fault : PacketFault) (x : Unit {0}) (p : Place) (h : HeldView) (acts : List Act) → pieces.BreaksBy c fault None (Some x) p h acts → IsShut h c fault acts
shut_by c fault x p h acts (inl d) = none_some (sym d.0)
shut_by c fault x p h acts (inr (y, own, mid, rest, one, ran, more, is)) =
    record { told = own; tells = tells (pieces.is_connect (first_at c h)) c fault y p h own one; is = is ∙ ap (λ zs. own ++ zs) (closed c x p mid rest more) }

ends_bare : (fault : Option PacketFault) (c : ℕ) (x : Unit {0}) (p : Place) (h : HeldView) (acts : List Act) → is_open c h ≡ true → client_at c h ≡ None → pieces.BreaksIfOpen c fault (Some x) p h acts → EndsBare h c fault acts
ends_bare None c x p h acts there bare d = d.1
ends_bare (Some fault) c x p h acts there bare d =
    shut_by c fault x p h acts (subst (λ o. pieces.BreaksBy c fault o (Some x) p h acts) bare (if_so (is_open c h) (pieces.Breaks c fault) (Returns tt) (Some x) p h acts there d))

-- ---- the packets
bare_goes_on : (ks : List Packet) (fault : Option PacketFault) (c : ℕ) (x y : Unit {0}) (p : Place) (left mid : HeldView) (others rest : List Act) → Each (pieces.AnswersIfOpen c) ks (Some x) p left others → Runs p left others mid
    → pieces.BreaksIfOpen c fault (Some y) p mid rest → Ended c left → cond (is_open c left) ((client : List ℕ) × IsServed left c client × AreTaken p left c client ks fault (others ++ rest)) (others ++ rest ≡ [])
bare_goes_on ks fault c x y p left mid others rest more later last (inl shut) =
    subst (λ b. cond b ((client : List ℕ) × IsServed left c client × AreTaken p left c client ks fault (others ++ rest)) (others ++ rest ≡ [])) (sym shut) (none_after ks fault c x y p left mid others rest shut more later last)
bare_goes_on ks fault c x y p left mid others rest more later last (inr s) =
    subst (λ b. cond b ((client : List ℕ) × IsServed left c client × AreTaken p left c client ks fault (others ++ rest)) (others ++ rest ≡ [])) (sym (open_with left c s.0 s.1.has))
    (s.0, s.1, all_taken ks fault c s.0 x y p left mid others rest s.1 more later last)

bare_taken : (ks : List Packet) (fault : Option PacketFault) (c : ℕ) (x y : Unit {0}) (p : Place) (h mid : HeldView) (own rest : List Act) → is_open c h ≡ true → client_at c h ≡ None → Each (pieces.AnswersIfOpen c) ks (Some x) p h own → Runs p h own mid
    → pieces.BreaksIfOpen c fault (Some y) p mid rest → AreTakenBare p h c ks fault (own ++ rest)
bare_taken [] fault c x y p h mid own rest there bare d runs last =
    let same : mid ≡ h = none_left p h mid own d.1 runs in
    subst (EndsBare h c fault) (ap (λ zs. zs ++ rest) (sym d.1)) (ends_bare fault c y p h rest there bare (subst (λ v. pieces.BreaksIfOpen c fault (Some y) p v rest) same last))
bare_taken (k ∷ ks) fault c x y p h mid own rest there bare (inl d) runs last = none_some (sym d.0)
bare_taken (k ∷ ks) fault c x y p h mid own rest there bare (inr (z, one_acts, left, others, one, ran, more, is)) runs last =
    let opened = if_so (is_open c h) (pieces.AnswersPacket c k) (Returns tt) (Some z) p h one_acts there one in
    let f = first c k z p h left one_acts (subst (λ o. pieces.AnswersPacketBy c k o (Some z) p h one_acts) bare opened) ran in
    let later : Runs p left others mid = second_runs p h left mid one_acts others own is ran runs in
    (one_acts, left, others ++ rest, ap (λ zs. zs ++ rest) is ∙ append_assoc one_acts others rest, ran, f.is, bare_goes_on ks fault c x y p left mid others rest more later last f.left)

-- ---- the bytes
module _ (c : ℕ) (bytes : List ℕ) (p : Place) (h : HeldView) (found : ConnectionView) (there : map.get h.connections c ≡ Some found) (bare : found.client ≡ None) where
  abbrev fed : HeldView
  fed = next h (Connection (Fed c bytes))

  now : map.get fed.connections c ≡ Some (with_piece bytes found)
  now = ap (λ (o : Option ConnectionView). map.get (changed_at (with_piece bytes) c h.connections o) c) there ∙ put_here h.connections c (with_piece bytes found)

  feeds : (x : Unit {0}) (acts : List Act) → pieces.Feeds c bytes found (Some x) p h acts → TakesBareBytes p h c bytes found acts
  feeds x acts (inl d) = none_some (sym d.0)
  feeds x acts (inr (y, own, mid, rest, one, ran, (inl d), is)) = none_some (sym d.0)
  feeds x acts (inr (y, own, mid, rest, one, ran, (inr (y2, own2, mid2, rest2, two, ran2, more, is2)), is)) =
      let left : mid ≡ fed = left_by p h mid (Connection (Fed c bytes)) own one.1 ran in
      let cut = cut_of found.stream bytes in
      record {
        own = rest;
        is = is ∙ ap (λ zs. zs ++ rest) one.1;
        held = fed;
        runs = (fed, (ap is_some there, refl), refl);
        taken = subst (AreTakenBare p fed c cut.packets cut.fault) (sym is2) (bare_taken cut.packets cut.fault c y2 x p fed mid2 own2 rest2 (ap is_some now) (ap (option_and_then (λ (v : ConnectionView). v.client)) now ∙ bare)
            (subst (λ v. Each (pieces.AnswersIfOpen c) cut.packets (Some y2) p v own2) left two) (subst (λ v. Runs p v own2 mid2) left ran2) more);
      }

module _ (e : NodeEvent) (p : Place) (h : HeldView) (c : ℕ) (bytes : List ℕ) (kind : e.kind ≡ kinds.Piece c bytes) (started : h.started ≡ true) where
  taken : (acts : List Act) → turns.Decides e (Some tt) p h acts → BareBytesAreTaken p h e.at c bytes acts
  taken acts d =
      let t = turned e p h (subst IsAfterStart (sym kind) tt) started acts d in
      record {
        first = t.first;
        none = λ shut. (subst (λ o. pieces.PieceAt c bytes o (Some tt) p t.first.held t.first.rest) shut (subst (λ (k : EventKind). turns.AnswersEvent k (Some tt) p t.first.held t.first.rest) kind t.answers)).1;
        taken = λ found there bare sound.
            feeds c bytes p t.first.held found there bare tt t.first.rest
            (if_not found.stream.failed (pieces.Shuts c) (pieces.Feeds c bytes found) (Some tt) p t.first.held t.first.rest sound
            (subst (λ o. pieces.PieceAt c bytes o (Some tt) p t.first.held t.first.rest) there
            (subst (λ (k : EventKind). turns.AnswersEvent k (Some tt) p t.first.held t.first.rest) kind t.answers)));
      }

pub first_packets_are_taken : FirstPacketsAreTaken
first_packets_are_taken = λ e p h acts d c bytes kind started. taken e p h c bytes kind started acts d
