-- A CONNECT: what goes out, and which connections end.
use Rattle.std.proofs.Common.{◌≡◌, ◌≢◌, ◌⊎◌, inl, inr, ℕ, Bool, true, false, List, [], ◌∷◌, ◌++◌, Option, Some, None, refl, sym, ap, ◌∙◌, subst}
use Rattle.std.specs.FinMap as map
use Rattle.std.specs.List.{AllByRecursion}
use Rattle.std.specs.Prelude.{is_some, option_and_then}
use Rattle.mqtt_packets.specs.declared.connect.Connect.{Connect}
use Rattle.mqtt_packets.specs.declared.packet.Packet.{Packet}
use Rattle.mqtt_packets.specs.declared.packet.Packet.TheVariants as packets
use Rattle.mqtt_packets.specs.Written.{written}
use Rattle.mqtt_sessions.specs.Answers.{disconnect, fits}
use Rattle.mqtt_sessions.specs.Reaction.{Reaction}
use Rattle.mqtt_sessions.specs.State.{limit_in}
use Rattle.law_sessions.specs.Runs.{connects}
use Rattle.session_table.specs.Calls.{moves}
use Rattle.session_table.specs.Seats.{Seat}
use Rattle.node_work.specs.declared.outcome.Output.TheVariants.{Send}
use Rattle.node_work.specs.Acts.{Act, Connection, Session, Out, Runs, next}
use Rattle.node_work.specs.Calling.{CallsAt}
use Rattle.node_work.specs.Doings.{Disconnects as Sends_disconnect, Sends}
use Rattle.node_work.specs.Held.Connections.{ConnectionTable, Accepted, changed_at, client_at, is_open, with_client}
use Rattle.node_work.specs.Held.Sessions.{SessionStep, Called, connection_at, has_session, seat_at, takes_disconnect}
use Rattle.node_work.specs.Packets.{refused_packet}
use Rattle.node_work.specs.View.{Place, HeldView, ConnectionView}
use Rattle.node_work.specs.Working.{Returns, If}
use Rattle.node_clients.specs.Connecting as connecting
use Rattle.node_clients.specs.Ending as ending
use Rattle.law_runs.proofs.Keeping.{none_some}
use Rattle.law_runs.proofs.Splits.{left_by}
use Rattle.law_steps.specs.Outputs.{Occasion, SessionsAreOnTheirs, GoesRight, IsTurnedAway, SentLast, ToldLast, WhyClosed}
use Rattle.law_steps.proofs.Alone.{finishes_of, low}
use Rattle.law_steps.proofs.ClosingLaws.{Ending, Reacted, second_runs, closes_bare, closes_for, reacted}
use Rattle.law_steps.proofs.On.{Right, right_none, right_one, right_both, right_again, IsCalm, Kept, Calmly, calm_kind, called_kept, calmly, put_apart, put_here}

-- ---- one packet of the node's own
pub sends_right : (occasion : Occasion) (pre : List Act) (c : ℕ) (packet : Packet) (x : Unit {0}) (p : Place) (h h' : HeldView) (acts : List Act) → GoesRight occasion p pre [] h (Out (Send c (written packet))) → Sends c packet (Some x) p h acts → Runs p h acts h'
    → Right occasion pre p h acts × (h' ≡ h)
sends_right occasion pre c packet x p h h' acts right d runs =
    let a = Out (Send c (written packet)) in (right_again occasion pre p h (a ∷ []) acts d.1 (right_one occasion pre p h a right), left_by p h h' a acts d.1 runs)

pub nothing_right : (occasion : Occasion) (pre : List Act) (p : Place) (h h' : HeldView) (acts : List Act) → acts ≡ [] → Runs p h acts h' → Right occasion pre p h acts × (h' ≡ h)
nothing_right occasion pre p h h' acts none runs = (right_again occasion pre p h [] acts none (right_none occasion pre p h), subst (λ xs. Runs p h xs h') none runs)

-- DISCONNECT, where it isn't longer than the client takes
pub record Disconnected (occasion : Occasion) (pre : List Act) (p : Place) (c : ℕ) (client : List ℕ) (code : ℕ) (h h' : HeldView) (acts : List Act) : Type 0 where
  pub right : Right occasion pre p h acts
  pub same : h' ≡ h
  pub told : ToldLast (pre ++ acts) h' c client code

disconnects_by : (b : Bool) (occasion : Occasion) (pre : List Act) (c : ℕ) (client : List ℕ) (code : ℕ) (x : Unit {0}) (p : Place) (h h' : HeldView) (acts : List Act) → client_at c h ≡ Some client → takes_disconnect client code h ≡ b
    → If b (Sends c (disconnect code)) (Returns tt) (Some x) p h acts → Runs p h acts h' → Disconnected occasion pre p c client code h h' acts
disconnects_by true occasion pre c client code x p h h' acts has fitting d runs =
    let s = sends_right occasion pre c (disconnect code) x p h h' acts (inr (inl (record { client = client; there = has; code = code; is = refl }))) d runs in
    record { right = s.0; same = s.1; told = inl (pre, ap (λ xs. pre ++ xs) d.1) }
disconnects_by false occasion pre c client code x p h h' acts has fitting d runs =
    let s = nothing_right occasion pre p h h' acts d.1 runs in record { right = s.0; same = s.1; told = inr (ap (takes_disconnect client code) s.1 ∙ fitting) }

pub disconnects_right : (occasion : Occasion) (pre : List Act) (c : ℕ) (client : List ℕ) (code : ℕ) (x : Unit {0}) (p : Place) (h h' : HeldView) (acts : List Act) → client_at c h ≡ Some client → Sends_disconnect c client code (Some x) p h acts → Runs p h acts h'
    → Disconnected occasion pre p c client code h h' acts
disconnects_right occasion pre c client code x p h h' acts has d runs = disconnects_by (takes_disconnect client code h) occasion pre c client code x p h h' acts has refl d runs

-- ---- refusals
-- a connection without a client
pub record IsBare (h : HeldView) (c : ℕ) : Type 0 where
  pub open_there : is_open c h ≡ true
  pub bare : client_at c h ≡ None

refused_by : (b : Bool) (occasion : Occasion) (pre : List Act) (c : ℕ) (code : ℕ) (reference : Option (List ℕ)) (x : Unit {0}) (p : Place) (h h' : HeldView) (acts : List Act) → IsBare h c
    → connecting.SendsIf b c (refused_packet code reference) (Some x) p h acts → Runs p h acts h' → Right occasion pre p h acts × (h' ≡ h) × (SentLast (pre ++ acts) c (refused_packet code reference) ⊎ (b ≡ false))
refused_by true occasion pre c code reference x p h h' acts is d runs =
    let s = sends_right occasion pre c (refused_packet code reference) x p h h' acts (inl (record { open_there = is.open_there; bare = is.bare; code = code; reference = reference; is = refl })) d runs in
    (s.0, s.1, inl (pre, ap (λ xs. pre ++ xs) d.1))
refused_by false occasion pre c code reference x p h h' acts is d runs = let s = nothing_right occasion pre p h h' acts d.1 runs in (s.0, s.1, inr refl)

-- a connection may be closed after a CONNECT that is refused
abbrev pub Shuts : Occasion → ℕ → Connect → Type 0
Shuts occasion c q = (p : Place) (before : List Act) (h : HeldView) → client_at c h ≡ None → IsTurnedAway before c (packets.Connect q) → WhyClosed occasion p before h c

pub refuses : (occasion : Occasion) (pre : List Act) (c : ℕ) (q : Connect) (code : ℕ) (reference : Option (List ℕ)) (x : Unit {0}) (p : Place) (h h' : HeldView) (acts : List Act) → Shuts occasion c q → SessionsAreOnTheirs h → IsBare h c
    → connecting.RefusesConnect c q code reference (Some x) p h acts → Runs p h acts h' → Ending occasion pre p c h h' acts
refuses occasion pre c q code reference x p h h' acts shut on is (inl d) runs = none_some (sym d.0)
refuses occasion pre c q code reference x p h h' acts shut on is (inr (y, own, mid, rest, one, ran, more, all)) runs =
    let first = refused_by (fits (limit_in q.properties) (refused_packet code reference)) occasion pre c code reference y p h mid own is one ran in
    let still : IsBare mid c = subst (λ v. IsBare v c) (sym first.1) is in
    let why : WhyClosed occasion p (pre ++ own) mid c = shut p (pre ++ own) mid still.bare (code, reference, first.2) in
    let second = closes_bare occasion (pre ++ own) c x p mid h' rest (subst SessionsAreOnTheirs (sym first.1) on) still.open_there still.bare why more (second_runs p h mid h' own rest acts all ran runs) in
    record {
      right = right_again occasion pre p h (own ++ rest) acts all (right_both occasion pre p h mid own rest ran first.0 second.right);
      ends = record { on = second.ends.on; others = λ n ne. second.ends.others n ne ∙ ap (λ (v : HeldView). map.get v.connections n) first.1 };
    }

-- ---- an older connection of the client
pub older_at : (h : HeldView) (client : List ℕ) (older : ℕ) → SessionsAreOnTheirs h → connection_at client h ≡ Some older → client_at older h ≡ Some client
older_at h client older on at = by (seat_at client h) refl at
  where
    by : (o : Option Seat) → seat_at client h ≡ o → option_and_then (λ (s : Seat). s.connection) o ≡ Some older → client_at older h ≡ Some client
    by None is e = none_some e
    by (Some seat) is e = on client seat older is e

pub bare_again : (h h' : HeldView) (c : ℕ) → map.get h'.connections c ≡ map.get h.connections c → IsBare h c → IsBare h' c
bare_again h h' c same is = record { open_there = (λ i. is_some (same i)) ∙ is.open_there; bare = ap (option_and_then (λ (v : ConnectionView). v.client)) same ∙ is.bare }

-- an older connection of a client may be closed, where it is accepted on this one
abbrev pub Overs : Occasion → ℕ → List ℕ → Type 0
Overs occasion c client = (p : Place) (before : List Act) (h : HeldView) (older : ℕ) → client_at older h ≡ Some client → client_at c h ≡ None → ToldLast before h older client 142 → WhyClosed occasion p before h older

pub takes_over : (occasion : Occasion) (pre : List Act) (c : ℕ) (client : List ℕ) (older : Option ℕ) (x : Unit {0}) (p : Place) (h h' : HeldView) (acts : List Act) → Overs occasion c client → SessionsAreOnTheirs h → IsBare h c → connection_at client h ≡ older
    → connecting.TakesOverFrom client older (Some x) p h acts → Runs p h acts h' → Right occasion pre p h acts × (SessionsAreOnTheirs h' × (map.get h'.connections c ≡ map.get h.connections c))
takes_over occasion pre c client None x p h h' acts overs on is at d runs =
    let s = nothing_right occasion pre p h h' acts d.1 runs in (s.0, (subst SessionsAreOnTheirs (sym s.1) on, ap (λ (v : HeldView). map.get v.connections c) s.1))
takes_over occasion pre c client (Some older) x p h h' acts overs on is at (inl d) runs = none_some (sym d.0)
takes_over occasion pre c client (Some older) x p h h' acts overs on is at (inr (y, own, mid, rest, one, ran, more, all)) runs =
    let has = older_at h client older on at in
    let apart : c ≢ older = λ e. none_some (sym is.bare ∙ ap (λ n. client_at n h) e ∙ has) in
    let first = disconnects_right occasion pre older client 142 y p h mid own has one ran in
    let there : client_at older mid ≡ Some client = ap (client_at older) first.same ∙ has in
    let why : WhyClosed occasion p (pre ++ own) mid older = overs p (pre ++ own) mid older there (ap (client_at c) first.same ∙ is.bare) first.told in
    let second = closes_for occasion (pre ++ own) older client x p mid h' rest (subst SessionsAreOnTheirs (sym first.same) on) there why more (second_runs p h mid h' own rest acts all ran runs) in (
      right_again occasion pre p h (own ++ rest) acts all (right_both occasion pre p h mid own rest ran first.right second.right),
      (second.ends.on, second.ends.others c apart ∙ ap (λ (v : HeldView). map.get v.connections c) first.same),
    )

pub cleans : (occasion : Occasion) (pre : List Act) (clean : Bool) (client : List ℕ) (x : Unit {0}) (p : Place) (h h' : HeldView) (acts : List Act) → SessionsAreOnTheirs h → connecting.Cleans clean client (Some x) p h acts → Runs p h acts h' → Calmly occasion pre p h h' acts
cleans occasion pre false client x p h h' acts on d runs = calmly occasion pre p acts h h' (subst (AllByRecursion IsCalm) (sym d.1) tt) on runs
cleans occasion pre true client x p h h' acts on d runs =
    let w = low IsCalm calm_kind in
    calmly occasion pre p acts h h' ((w.by_test (has_session client h) (ending.Finishes client) (Returns tt) (finishes_of IsCalm calm_kind client) (w.returns tt)).of x p h acts d) on runs

-- ---- the client is accepted
found_at : (h : HeldView) (c : ℕ) → is_open c h ≡ true → (found : ConnectionView) × (map.get h.connections c ≡ Some found)
found_at h c is = by (map.get h.connections c) refl is
  where
    by : (o : Option ConnectionView) → map.get h.connections c ≡ o → is_some o ≡ true → (found : ConnectionView) × (map.get h.connections c ≡ Some found)
    by None e t = absurd (let z : false ≡ true = t in cc)
    by (Some found) e t = (found, e)

module _ (h : HeldView) (c : ℕ) (client : List ℕ) (on : SessionsAreOnTheirs h) (is : IsBare h c) where
  abbrev after : HeldView
  after = next h (Connection (Accepted c client))

  abbrev found : ConnectionView
  found = (found_at h c is.open_there).0

  table : after.connections ≡ map.insert h.connections c (with_client client found)
  table = ap (changed_at (with_client client) c h.connections) (found_at h c is.open_there).1

  pub has_client : client_at c after ≡ Some client
  has_client = ap (option_and_then (λ (v : ConnectionView). v.client)) (ap (λ (m : ConnectionTable). map.get m c) table ∙ put_here h.connections c (with_client client found))

  pub others_stay : (q : ℕ) → q ≢ c → map.get after.connections q ≡ map.get h.connections q
  others_stay q ne = ap (λ (m : ConnectionTable). map.get m q) table ∙ put_apart h.connections c (with_client client found) q ne

  pub still_on : SessionsAreOnTheirs after
  still_on q seat n at where_on =
      let there = on q seat n at where_on in
      ap (option_and_then (λ (v : ConnectionView). v.client)) (others_stay n (λ e. none_some (sym is.bare ∙ ap (λ k. client_at k h) (sym e) ∙ there))) ∙ there

-- its session's call on this connection
joined_at : (occasion : Occasion) (pre : List Act) (c : ℕ) (client : List ℕ) (q : Connect) (continued : Bool) (room : Option ℕ) (found : Option Seat) (r : Reaction) (p : Place) (h h' : HeldView) (acts : List Act) → SessionsAreOnTheirs h → client_at c h ≡ Some client
    → CallsAt client (connects q continued room) (moves c) found (Some r) p h acts → Runs p h acts h' → Calmly occasion pre p h h' acts
joined_at occasion pre c client q continued room None r p h h' acts on has d runs =
    let s = nothing_right occasion pre p h h' acts d.1 runs in record { right = s.0; kept = record { connections = ap (λ (v : HeldView). v.connections) s.1; on = subst SessionsAreOnTheirs (sym s.1) on } }
joined_at occasion pre c client q continued room (Some seat) r p h h' acts on has (inl d) runs = none_some (sym d.0)
joined_at occasion pre c client q continued room (Some seat) r p h h' acts on has (inr (answer, after, is, reacts, acts_are)) runs =
    let s : SessionStep = record { client = client; on = Some c; at = h.at; event = connects q continued room h.at; reaction = answer; after = after } in
    let right : (n : ℕ) → s.on ≡ Some n → client_at n h ≡ Some client = λ n e. (let same : c ≡ n = (let z : Some c ≡ Some n = e in cc) in subst (λ k. client_at k h ≡ Some client) same has) in
    let left : h' ≡ next h (Session (Called s)) = left_by p h h' (Session (Called s)) acts acts_are runs in
    record { right = right_again occasion pre p h (Session (Called s) ∷ []) acts acts_are (right_one occasion pre p h (Session (Called s)) right); kept = subst (Kept h) (sym left) (called_kept h s on right) }

pub record Joined (occasion : Occasion) (pre : List Act) (p : Place) (c : ℕ) (client : List ℕ) (r : Reaction) (h h' : HeldView) (acts : List Act) : Type 0 where
  pub calm : Calmly occasion pre p h h' acts
  pub earlier : List Act
  pub own : List Act
  pub is : acts ≡ earlier ++ own
  pub react : Reacted own client r

pub joins : (occasion : Occasion) (pre : List Act) (continued : Bool) (c : ℕ) (client : List ℕ) (q : Connect) (room : Option ℕ) (r : Reaction) (p : Place) (h h' : HeldView) (acts : List Act) → SessionsAreOnTheirs h → client_at c h ≡ Some client
    → connecting.JoinsBy continued c client q room (Some r) p h acts → Runs p h acts h' → Joined occasion pre p c client r h h' acts
joins occasion pre true c client q room r p h h' acts on has d runs = record {
  calm = joined_at occasion pre c client q true room (seat_at client h) r p h h' acts on has d runs;
  earlier = [];
  own = acts;
  is = refl;
  react = reacted client (connects q true room) (moves c) (seat_at client h) r p h acts d;
}
joins occasion pre false c client q room r p h h' acts on has (inl d) runs = none_some (sym d.0)
joins occasion pre false c client q room r p h h' acts on has (inr (y, own, mid, rest, one, ran, more, is)) runs =
    let first = calmly occasion pre p own h mid (subst (AllByRecursion IsCalm) (sym one.1) (tt, tt)) on ran in
    let there : client_at c mid ≡ Some client = ap (λ (m : ConnectionTable). client_at c (record h { connections = m })) first.kept.connections ∙ has in
    let second = joined_at occasion (pre ++ own) c client q false room (seat_at client mid) r p mid h' rest first.kept.on there more (second_runs p h mid h' own rest acts is ran runs) in
    record {
      calm = record {
        right = right_again occasion pre p h (own ++ rest) acts is (right_both occasion pre p h mid own rest ran first.right second.right);
        kept = record { connections = second.kept.connections ∙ first.kept.connections; on = second.kept.on };
      };
      earlier = own;
      own = rest;
      is = is;
      react = reacted client (connects q false room) (moves c) (seat_at client mid) r p mid rest more;
    }
