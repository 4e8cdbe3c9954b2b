-- A piece of a client's stream: what goes out, and which connections end.
use Rattle.std.proofs.Common.{◌≡◌, ◌≢◌, ◌⊎◌, inl, inr, ℕ, Bool, true, false, List, [], ◌∷◌, ◌++◌, Option, Some, None, refl, sym, ap, ◌∙◌, subst}
use Rattle.std.specs.FinMap as map
use Rattle.std.specs.Prelude.{is_some, option_and_then}
use Rattle.mqtt_packets.specs.declared.connect.Connect.{Connect}
use Rattle.mqtt_packets.specs.declared.fault.PacketFault.{PacketFault}
use Rattle.mqtt_packets.specs.declared.packet.Packet.{Packet}
use Rattle.mqtt_packets.specs.declared.packet.Packet.TheVariants as packets
use Rattle.node_work.specs.Acts.{Act, Connection, Runs, next}
use Rattle.node_work.specs.Held.Connections.{ConnectionTable, Fed, changed_at, client_at, first_at, is_open, with_piece}
use Rattle.node_work.specs.Held.Feeding.{cut_of}
use Rattle.node_work.specs.Packets.{refused_packet}
use Rattle.node_work.specs.View.{Place, HeldView, ConnectionView}
use Rattle.node_work.specs.Working.{Returns, If, Each}
use Rattle.node_clients.specs.Ending as ending
use Rattle.node_clients.specs.Pieces as pieces
use Rattle.broker_node.specs.declared.event.EventKind.TheVariants as kinds
use Rattle.cluster_play.proofs.Bools.{nat_cases}
use Rattle.law_runs.specs.StepSending.{IsIn}
use Rattle.law_runs.proofs.Keeping.{none_some}
use Rattle.law_runs.proofs.Splits.{left_by}
use Rattle.law_steps.specs.Outputs.{Occasion, SessionsAreOnTheirs, FaultIsRefused, IsTurnedAway, SentLast, WhyClosed}
use Rattle.law_steps.proofs.Accepting.{IsBare, Overs, Shuts, disconnects_right, nothing_right, sends_right}
use Rattle.law_steps.proofs.ClosingLaws.{closes_bare, closes_for, second_runs}
use Rattle.law_steps.proofs.Connecting.{IsKnownTo, connects_right}
use Rattle.law_steps.proofs.On.{Right, right_one, right_both, right_again, put_apart, put_here}
use Rattle.law_steps.proofs.OutputServing.{serves}

module _ (occasion : Occasion) (c : ℕ) (bytes : List ℕ) where
  abbrev Done : List Act → Place → HeldView → HeldView → List Act → Type 0
  Done pre p h h' acts = Right occasion pre p h acts × SessionsAreOnTheirs h'

  nothing_done : (pre : List Act) (p : Place) (h h' : HeldView) (acts : List Act) → acts ≡ [] → SessionsAreOnTheirs h → Runs p h acts h' → Done pre p h h' acts
  nothing_done pre p h h' acts none on runs = let s = nothing_right occasion pre p h h' acts none runs in (s.0, subst SessionsAreOnTheirs (sym s.1) on)

  done_then : (pre : List Act) (p : Place) (h mid h' : HeldView) (xs ys acts : List Act) → acts ≡ xs ++ ys → Runs p h xs mid → Right occasion pre p h xs → Done (pre ++ xs) p mid h' ys → Done pre p h h' acts
  done_then pre p h mid h' xs ys acts is runs a b = (right_again occasion pre p h (xs ++ ys) acts is (right_both occasion pre p h mid xs ys runs a b.0), b.1)

  -- of a connection that was this before the event
  module _ (event : occasion.kind ≡ kinds.Piece c bytes) (found : ConnectionView) (was : map.get occasion.held.connections c ≡ Some found) where
    abbrev Cut_packets : List Packet
    Cut_packets = (cut_of found.stream bytes).packets

    -- why one without a client is closed
    abbrev Refused : List Act → HeldView → Type 0
    Refused before h =
        (found.stream.failed ≡ true)
        ⊎ ((packet : Packet) × IsIn packet Cut_packets × IsTurnedAway before c packet)
        ⊎ ((fault : PacketFault) × ((cut_of found.stream bytes).fault ≡ Some fault) × FaultIsRefused before h c fault)

    refused_why : (p : Place) (before : List Act) (h : HeldView) → client_at c h ≡ None → Refused before h → WhyClosed occasion p before h c
    refused_why p before h bare why = inr (inr (inr (inl (record { bytes = bytes; event = event; bare = bare; found = found; was = was; why = why }))))

    -- a connection without a client is closed
    bare_closed : (pre : List Act) (x : Unit {0}) (p : Place) (h h' : HeldView) (acts : List Act) → SessionsAreOnTheirs h → IsBare h c → Refused pre h → ending.ClosesConnection c (Some x) p h acts → Runs p h acts h' → Done pre p h h' acts
    bare_closed pre x p h h' acts on is why d runs = let e = closes_bare occasion pre c x p h h' acts on is.open_there is.bare (refused_why p pre h is.bare why) d runs in (e.right, e.ends.on)

    -- ---- packets
    shuts : (q : Connect) → IsIn (packets.Connect q) Cut_packets → Shuts occasion c q
    shuts q among p before h bare turned = refused_why p before h bare (inr (inl (packets.Connect q, among, turned)))

    overs : (q : Connect) → IsIn (packets.Connect q) Cut_packets → (client : List ℕ) → IsKnownTo q client → Overs occasion c client
    overs q among client known p before h older there bare told = inr (inr (inl (record {
      client = client;
      there = there;
      other = c;
      bytes = bytes;
      event = event;
      bare = bare;
      found = found;
      was = was;
      connect = q;
      among = among;
      known = known;
      told = told;
    })))

    first_done : (k : Packet) (pre : List Act) (x : Unit {0}) (p : Place) (h h' : HeldView) (acts : List Act) → IsIn k Cut_packets → SessionsAreOnTheirs h → IsBare h c → pieces.AnswersFirstPacket c k (Some x) p h acts → Runs p h acts h' → Done pre p h h' acts
    first_done (packets.Connect q) pre x p h h' acts among on is d runs = let a = connects_right occasion c q (shuts q among) (overs q among) pre x p h h' acts on is d runs in (a.right, a.on)
    first_done k pre x p h h' acts among on is d runs = bare_closed pre x p h h' acts on is (inr (inl (k, among, tt))) d runs

    answered_by : (client : Option (List ℕ)) (k : Packet) (pre : List Act) (x : Unit {0}) (p : Place) (h h' : HeldView) (acts : List Act) → IsIn k Cut_packets → SessionsAreOnTheirs h → is_open c h ≡ true → client_at c h ≡ client → pieces.AnswersPacketBy c k client (Some x) p h acts → Runs p h acts h'
        → Done pre p h h' acts
    answered_by None k pre x p h h' acts among on there is d runs = first_done k pre x p h h' acts among on (record { open_there = there; bare = is }) d runs
    answered_by (Some client) k pre x p h h' acts among on there is d runs = let e = serves occasion pre c client k x p h h' acts on is d runs in (e.right, e.ends.on)

    if_open : (b : Bool) (k : Packet) (pre : List Act) (x : Unit {0}) (p : Place) (h h' : HeldView) (acts : List Act) → IsIn k Cut_packets → SessionsAreOnTheirs h → is_open c h ≡ b → If b (pieces.AnswersPacket c k) (Returns tt) (Some x) p h acts → Runs p h acts h' → Done pre p h h' acts
    if_open true k pre x p h h' acts among on there d runs = answered_by (client_at c h) k pre x p h h' acts among on there refl d runs
    if_open false k pre x p h h' acts among on there d runs = nothing_done pre p h h' acts d.1 on runs

    each_done : (ks : List Packet) (pre : List Act) (x : Unit {0}) (p : Place) (h h' : HeldView) (acts : List Act) → ((k : Packet) → IsIn k ks → IsIn k Cut_packets) → SessionsAreOnTheirs h → Each (pieces.AnswersIfOpen c) ks (Some x) p h acts → Runs p h acts h' → Done pre p h h' acts
    each_done [] pre x p h h' acts among on d runs = nothing_done pre p h h' acts d.1 on runs
    each_done (k ∷ ks) pre x p h h' acts among on (inl d) runs = none_some (sym d.0)
    each_done (k ∷ ks) pre x p h h' acts among on (inr (y, own, mid, rest, one, ran, more, is)) runs =
        let first = if_open (is_open c h) k pre y p h mid own (among k (inl refl)) on refl one ran in
        done_then pre p h mid h' own rest acts is ran first.0 (each_done ks (pre ++ own) x p mid h' rest (λ q there. among q (inr there)) first.1 more (second_runs p h mid h' own rest acts is ran runs))

    -- ---- faults
    -- what was told directly before, if anything was to be told
    abbrev ToldBare : Option ℕ → List Act → Type 0
    ToldBare code before = (n : ℕ) × (code ≡ Some n) × SentLast before c (refused_packet n None)

    refusal_told : (code : Option ℕ) (pre : List Act) (x : Unit {0}) (p : Place) (h h' : HeldView) (acts : List Act) → IsBare h c → pieces.SendsRefusal c code (Some x) p h acts → Runs p h acts h' → Right occasion pre p h acts × (h' ≡ h) × ToldBare code (pre ++ acts)
    refusal_told None pre x p h h' acts is d runs = absurd d
    refusal_told (Some code) pre x p h h' acts is d runs =
        let s = sends_right occasion pre c (refused_packet code None) x p h h' acts (inl (record { open_there = is.open_there; bare = is.bare; code = code; reference = None; is = refl })) d runs in
        (s.0, s.1, (code, refl, (pre, ap (λ xs. pre ++ xs) d.1)))

    told_bare : (b : Bool) (fault : PacketFault) (pre : List Act) (x : Unit {0}) (p : Place) (h h' : HeldView) (acts : List Act) → IsBare h c → pieces.is_connect (first_at c h) ≡ b → If b (pieces.SendsRefusal c (pieces.connack_code fault)) (Returns tt) (Some x) p h acts → Runs p h acts h'
        → Right occasion pre p h acts × (h' ≡ h) × FaultIsRefused (pre ++ acts) h' c fault
    told_bare true fault pre x p h h' acts is first d runs = let s = refusal_told (pieces.connack_code fault) pre x p h h' acts is d runs in (s.0, s.1, λ connects. s.2)
    told_bare false fault pre x p h h' acts is first d runs =
        let s = nothing_right occasion pre p h h' acts d.1 runs in
        (s.0, s.1, λ connects. absurd (let z : true ≡ false = sym connects ∙ ap (λ (v : HeldView). pieces.is_connect (first_at c v)) s.1 ∙ first in cc))

    told_client : (code : Option ℕ) (fault : PacketFault) (client : List ℕ) (pre : List Act) (x : Unit {0}) (p : Place) (h h' : HeldView) (acts : List Act) → (cut_of found.stream bytes).fault ≡ Some fault → client_at c h ≡ Some client → pieces.disconnect_code fault ≡ code
        → pieces.SendsDisconnect c client code (Some x) p h acts → Runs p h acts h' → Right occasion pre p h acts × (h' ≡ h) × WhyClosed occasion p (pre ++ acts) h' c
    told_client None fault client pre x p h h' acts came has is d runs = absurd d
    told_client (Some code) fault client pre x p h h' acts came has is d runs =
        let s = disconnects_right occasion pre c client code x p h h' acts has d runs in
        (s.right, s.same, inr (inr (inr (inr (inl (record { bytes = bytes; event = event; client = client; there = ap (client_at c) s.same ∙ has; found = found; was = was; why = inr (fault, code, came, is, s.told) }))))))

    broken_by : (client : Option (List ℕ)) (fault : PacketFault) (pre : List Act) (x : Unit {0}) (p : Place) (h h' : HeldView) (acts : List Act) → (cut_of found.stream bytes).fault ≡ Some fault → SessionsAreOnTheirs h → is_open c h ≡ true → client_at c h ≡ client
        → pieces.BreaksBy c fault client (Some x) p h acts → Runs p h acts h' → Done pre p h h' acts
    broken_by client fault pre x p h h' acts came on there is (inl d) runs = none_some (sym d.0)
    broken_by None fault pre x p h h' acts came on there is (inr (y, own, mid, rest, one, ran, more, all)) runs =
        let bare : IsBare h c = record { open_there = there; bare = is } in
        let first = told_bare (pieces.is_connect (first_at c h)) fault pre y p h mid own bare refl one ran in
        done_then pre p h mid h' own rest acts all ran first.0
        (bare_closed (pre ++ own) x p mid h' rest (subst SessionsAreOnTheirs (sym first.1) on) (subst (λ v. IsBare v c) (sym first.1) bare) (inr (inr (fault, came, first.2))) more (second_runs p h mid h' own rest acts all ran runs))
    broken_by (Some client) fault pre x p h h' acts came on there is (inr (y, own, mid, rest, one, ran, more, all)) runs =
        let first = told_client (pieces.disconnect_code fault) fault client pre y p h mid own came is refl one ran in
        let e = closes_for occasion (pre ++ own) c client x p mid h' rest (subst SessionsAreOnTheirs (sym first.1) on) (ap (client_at c) first.1 ∙ is) first.2 more (second_runs p h mid h' own rest acts all ran runs) in
        done_then pre p h mid h' own rest acts all ran first.0 (e.right, e.ends.on)

    broken_if : (b : Bool) (fault : PacketFault) (pre : List Act) (x : Unit {0}) (p : Place) (h h' : HeldView) (acts : List Act) → (cut_of found.stream bytes).fault ≡ Some fault → SessionsAreOnTheirs h → is_open c h ≡ b → If b (pieces.Breaks c fault) (Returns tt) (Some x) p h acts → Runs p h acts h'
        → Done pre p h h' acts
    broken_if true fault pre x p h h' acts came on there d runs = broken_by (client_at c h) fault pre x p h h' acts came on there refl d runs
    broken_if false fault pre x p h h' acts came on there d runs = nothing_done pre p h h' acts d.1 on runs

    breaks : (fault : Option PacketFault) (pre : List Act) (x : Unit {0}) (p : Place) (h h' : HeldView) (acts : List Act) → (cut_of found.stream bytes).fault ≡ fault → SessionsAreOnTheirs h → pieces.BreaksIfOpen c fault (Some x) p h acts → Runs p h acts h' → Done pre p h h' acts
    breaks None pre x p h h' acts came on d runs = nothing_done pre p h h' acts d.1 on runs
    breaks (Some fault) pre x p h h' acts came on d runs = broken_if (is_open c h) fault pre x p h h' acts came on refl d runs

    -- ---- a piece
    fed_on : (h : HeldView) → map.get h.connections c ≡ Some found → SessionsAreOnTheirs h → SessionsAreOnTheirs (next h (Connection (Fed c bytes)))
    fed_on h is on q seat n at where_on = by (nat_cases n c)
      where
        table : (next h (Connection (Fed c bytes))).connections ≡ map.insert h.connections c (with_piece bytes found)
        table = ap (changed_at (with_piece bytes) c h.connections) is

        by : (n ≡ c) ⊎ (n ≢ c) → client_at n (next h (Connection (Fed c bytes))) ≡ Some q
        by (inl e) =
            subst (λ k. client_at k (next h (Connection (Fed c bytes))) ≡ Some q) (sym e)
            (ap (option_and_then (λ (v : ConnectionView). v.client)) (ap (λ (m : ConnectionTable). map.get m c) table ∙ put_here h.connections c (with_piece bytes found))
            ∙ sym (ap (option_and_then (λ (v : ConnectionView). v.client)) is) ∙ subst (λ k. client_at k h ≡ Some q) e (on q seat n at where_on))
        by (inr ne) =
            ap (option_and_then (λ (v : ConnectionView). v.client)) (ap (λ (m : ConnectionTable). map.get m n) table ∙ put_apart h.connections c (with_piece bytes found) n ne) ∙ on q seat n at where_on

    fed : (pre : List Act) (x : Unit {0}) (p : Place) (h h' : HeldView) (acts : List Act) → SessionsAreOnTheirs h → map.get h.connections c ≡ Some found → pieces.Feeds c bytes found (Some x) p h acts → Runs p h acts h' → Done pre p h h' acts
    fed pre x p h h' acts on is (inl d) runs = none_some (sym d.0)
    fed pre x p h h' acts on is (inr (y, own, mid, rest, one, ran, (inl d), all)) runs = none_some (sym d.0)
    fed pre x p h h' acts on is (inr (y, own, mid, rest, one, ran, (inr (y2, own2, mid2, rest2, two, ran2, more, all2)), all)) runs =
        let a = Connection (Fed c bytes) in
        let left : mid ≡ next h a = left_by p h mid a own one.1 ran in
        let later = second_runs p h mid h' own rest acts all ran runs in
        let second = each_done Cut_packets (pre ++ own) y2 p mid mid2 own2 (λ k there. there) (subst SessionsAreOnTheirs (sym left) (fed_on h is on)) two ran2 in
        done_then pre p h mid h' own rest acts all ran (right_again occasion pre p h (a ∷ []) own one.1 (right_one occasion pre p h a tt))
        (done_then (pre ++ own) p mid mid2 h' own2 rest2 rest all2 ran2 second.0 (breaks (cut_of found.stream bytes).fault ((pre ++ own) ++ own2) x p mid2 h' rest2 refl second.1 more (second_runs p mid mid2 h' own2 rest2 rest all2 ran2 later)))

    shut_by : (client : Option (List ℕ)) (pre : List Act) (x : Unit {0}) (p : Place) (h h' : HeldView) (acts : List Act) → SessionsAreOnTheirs h → map.get h.connections c ≡ Some found → found.stream.failed ≡ true → client_at c h ≡ client → ending.ClosesBy c client (Some x) p h acts → Runs p h acts h'
        → Done pre p h h' acts
    shut_by None pre x p h h' acts on is failed bare d runs = bare_closed pre x p h h' acts on (record { open_there = ap is_some is; bare = bare }) (inl failed) d runs
    shut_by (Some client) pre x p h h' acts on is failed has d runs =
        let e = closes_for occasion pre c client x p h h' acts on has (inr (inr (inr (inr (inl (record { bytes = bytes; event = event; client = client; there = has; found = found; was = was; why = inl failed })))))) d runs in (e.right, e.ends.on)

    piece_by : (b : Bool) (pre : List Act) (x : Unit {0}) (p : Place) (h h' : HeldView) (acts : List Act) → SessionsAreOnTheirs h → map.get h.connections c ≡ Some found → found.stream.failed ≡ b → If b (pieces.Shuts c) (pieces.Feeds c bytes found) (Some x) p h acts → Runs p h acts h' → Done pre p h h' acts
    piece_by true pre x p h h' acts on is failed d runs = shut_by (client_at c h) pre x p h h' acts on is failed refl d runs
    piece_by false pre x p h h' acts on is failed d runs = fed pre x p h h' acts on is d runs

  piece_at : (event : occasion.kind ≡ kinds.Piece c bytes) (o : Option ConnectionView) (pre : List Act) (x : Unit {0}) (p : Place) (h h' : HeldView) (acts : List Act) → ((found : ConnectionView) → o ≡ Some found → map.get occasion.held.connections c ≡ Some found) → SessionsAreOnTheirs h
      → map.get h.connections c ≡ o → pieces.PieceAt c bytes o (Some x) p h acts → Runs p h acts h' → Done pre p h h' acts
  piece_at event None pre x p h h' acts was on is d runs = nothing_done pre p h h' acts d.1 on runs
  piece_at event (Some found) pre x p h h' acts was on is d runs = piece_by event found (was found refl) found.stream.failed pre x p h h' acts on is refl d runs

  -- where the connection, if it is open, is what it was when the event came
  pub piece_right : (event : occasion.kind ≡ kinds.Piece c bytes) (pre : List Act) (x : Unit {0}) (p : Place) (h h' : HeldView) (acts : List Act) → ((found : ConnectionView) → map.get h.connections c ≡ Some found → map.get occasion.held.connections c ≡ Some found) → SessionsAreOnTheirs h
      → pieces.Piece c bytes (Some x) p h acts → Runs p h acts h' → Right occasion pre p h acts × SessionsAreOnTheirs h'
  piece_right event pre x p h h' acts was on d runs = piece_at event (map.get h.connections c) pre x p h h' acts was on refl d runs
