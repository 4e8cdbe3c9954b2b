-- The sessions of rows, and the copies that they have.
use Rattle.std.specs.FinMap as map
use Rattle.std.specs.List.{slice_get}
use Rattle.std.specs.Option.{option_map}
use Rattle.std.specs.Ordering.{eq_by_cmp}
use Rattle.std.proofs.Common.{◌≡◌, ◌⊎◌, inl, inr, ℕ, Bool, true, false, cond, List, [], ◌∷◌, ◌++◌, Option, Some, None, refl, sym, ap, ◌∙◌, subst, length}
use Rattle.home_table.specs.Table.{Table}
use Rattle.law_maps.proofs.Texts.{same_text, get_inserted, get_apart, get_left}
use Rattle.mqtt_message.specs.declared.delivery.Delivery.{Delivery}
use Rattle.mqtt_sessions.specs.Saved.{durable_of}
use Rattle.mqtt_sessions.specs.State.{new_session}
use Rattle.qos_handshakes.specs.Entries.{Entries}
use Rattle.qos_handshakes.specs.Outbox.{away, waiting, waits}
use Rattle.law_deliveries.specs.Copies.{GoesFrom, KeepsCopies, channel_over, no_channel}
use Rattle.law_handshakes.specs.Resends.{published, published_part}
use Rattle.law_sessions.specs.Runs.{Run, Step}
use Rattle.session_rows.specs.Durable.{Durable}
use Rattle.session_table.specs.Listing.{text_cmp}
use Rattle.session_table.specs.Seats.{Seat}
use Rattle.node_keeper.specs.Keeping.{AreLasting}
use Rattle.law_nodes.specs.Lives.{life, step_in}
use Rattle.law_nodes.specs.Moves.{Move, Acted, Reopened, Moves}
use Rattle.law_nodes.proofs.LifeLaws as lives
use Rattle.node_rows.proofs.OneNode.{rows_tell_all}
use Rattle.node_rows.specs.Reading.{IsLasting}
use Rattle.node_rows.specs.Rows.{Lasting}
use Rattle.node_rows.specs.Sessions.{opened_seat}
use Rattle.node_work.specs.Acts.{Act, Connection, Session, Bridge, next}
use Rattle.node_work.specs.Held.Bridge.{BridgeAct, Put, Took, Got, Believed, Greeted, Gave, Left_out, bridged}
use Rattle.node_work.specs.Held.Connections.{ConnectionAct, Opened, Fed, Accepted, Roomed, Closed, after_connection_act}
use Rattle.node_work.specs.Held.Sessions.{Begun, Called, Over}
use Rattle.node_work.specs.Lasting.{lasting, IsWoken}
use Rattle.node_work.specs.View.{Place, HeldView, fresh}
use Rattle.cluster_play.specs.Worlds.{Site, World}
use Rattle.cluster_play.specs.Runs.{Played}
use Rattle.cluster_play.specs.Histories.{Reached, site, moves_at}
use Rattle.cluster_play.proofs.Explaining.{Seated, lasts_here, past}
use Rattle.cluster_play.proofs.Kept.{explained}
use Rattle.law_runs.specs.Calling.{SessionIsOver, StaysCalled}
use Rattle.law_runs.proofs.CallingLaws.{calls_stay}
use Rattle.law_causes.specs.Copies.{IsOfItsLife, SessionsOfRowsAreRuns, RowsHaveCopy, QueuesCopy, CopyStays}

-- ---- what lasts of the copies
waits_away : (es : Entries) → waiting (away es) ≡ waiting es
waits_away [] = refl
waits_away (e ∷ es) = ap (λ ds. cond (waits e.1.stage) (e.1.delivery ∷ ds) ds) (waits_away es)

published_away : (es : Entries) → published (away es) ≡ published es
published_away [] = refl
published_away (e ∷ es) = ap (λ ps. published_part e.1 ++ ps) (published_away es)

-- ---- a session stays until it is over
abbrev HasSeat : List ℕ → HeldView → Type 0
HasSeat client h = (seat : Seat) × (map.get h.sessions client ≡ Some seat)

seat_by : (client : List ℕ) (h h' : HeldView) → h'.sessions ≡ h.sessions → HasSeat client h → HasSeat client h'
seat_by client h h' same has = (has.0, ap (λ m. map.get m client) same ∙ has.1)

-- what is put in for one client
seat_put : (client other : List ℕ) (h : HeldView) (v : Seat) (b : Bool) → eq_by_cmp text_cmp client other ≡ b → HasSeat client h → (seat : Seat) × (map.get (map.insert h.sessions other v) client ≡ Some seat)
seat_put client other h v true e has = (v, ap (map.get (map.insert h.sessions other v)) (same_text client other e) ∙ get_inserted h.sessions other v)
seat_put client other h v false e has = (has.0, get_apart h.sessions other v client e ∙ has.1)

seat_out : (client other : List ℕ) (h : HeldView) (b : Bool) → eq_by_cmp text_cmp client other ≡ b → HasSeat client h → (other ≡ client) ⊎ ((seat : Seat) × (map.get (map.remove h.sessions other) client ≡ Some seat))
seat_out client other h true e has = inl (sym (same_text client other e))
seat_out client other h false e has = inr (has.0, get_left h.sessions other client e ∙ has.1)

connection_same : (h : HeldView) (a : ConnectionAct) → (after_connection_act h a).sessions ≡ h.sessions
connection_same h (Opened c) = refl
connection_same h (Fed c piece) = refl
connection_same h (Accepted c client) = refl
connection_same h (Roomed c bytes) = refl
connection_same h (Closed c) = refl

bridge_same : (h : HeldView) (a : BridgeAct) → (bridged h a).sessions ≡ h.sessions
bridge_same h (Put peer m) = refl
bridge_same h (Took peer number m copies lost) = refl
bridge_same h (Got peer number) = refl
bridge_same h (Believed peer dots) = refl
bridge_same h (Greeted peer g) = refl
bridge_same h (Gave f) = refl
bridge_same h (Left_out what) = refl

seat_act : (client : List ℕ) (h : HeldView) (a : Act) → HasSeat client h → (a ≡ Session (Over client)) ⊎ HasSeat client (next h a)
seat_act client h (Session (Begun other)) has = inr (seat_put client other h _ (eq_by_cmp text_cmp client other) refl has)
seat_act client h (Session (Called s)) has = inr (seat_put client s.client h _ (eq_by_cmp text_cmp client s.client) refl has)
seat_act client h (Session (Over other)) has = elim (seat_out client other h (eq_by_cmp text_cmp client other) refl has) [ inl e ↦ inl (ap (λ c. Session (Over c)) e) | inr s ↦ inr s ]
seat_act client h (Connection a) has = inr (seat_by client h (after_connection_act h a) (connection_same h a) has)
seat_act client h (Bridge a) has = inr (seat_by client h (bridged h a) (bridge_same h a) has)
seat_act client h a has = inr has

-- what was kept of it is opened again
seat_woken : (client : List ℕ) (homes : Table) (h h' : HeldView) → IsWoken homes (lasting h) h' → HasSeat client h → HasSeat client h'
seat_woken client homes h h' w has =
    (opened_seat (durable_of has.0.session), ap (λ (v : HeldView). map.get v.sessions client) w.2 ∙ w.1 client ∙ ap (λ o. option_map opened_seat (option_map (λ (s : Seat). durable_of s.session) o)) has.1)

over_later : (client : List ℕ) (m : Move) (moves : List Move) → SessionIsOver client moves → SessionIsOver client (m ∷ moves)
over_later client m moves o = record {
  before = m ∷ o.before;
  after = o.after;
  is = elim o.is [ inl e ↦ inl (ap (λ ns. m ∷ ns) e) | inr e ↦ inr (ap (λ ns. m ∷ ns) e) ];
}

seat_stays : (client : List ℕ) (p : Place) (moves : List Move) (h h' : HeldView) → Moves p h moves h' → HasSeat client h → SessionIsOver client moves ⊎ HasSeat client h'
seat_stays client p [] h h' r has = inr (subst (HasSeat client) (sym r) has)
seat_stays client p (Acted a ∷ moves) h h' r has =
    elim (seat_act client h a has) [
      | inl over ↦ inl (record { before = []; after = moves; is = inl (ap (λ x. Acted x ∷ moves) over) })
      | inr still ↦ elim (seat_stays client p moves r.0 h' r.2 (subst (HasSeat client) (sym r.1.1) still)) [ inl o ↦ inl (over_later client (Acted a) moves o) | inr s ↦ inr s ]
    ]
seat_stays client p (Reopened homes ∷ moves) h h' r has =
    elim (seat_stays client p moves r.0 h' r.2 (seat_woken client homes h r.0 r.1 has)) [ inl o ↦ inl (over_later client (Reopened homes) moves o) | inr s ↦ inr s ]

moves_split : (p : Place) (xs ys : List Move) (a b : HeldView) → Moves p a (xs ++ ys) b → (m : HeldView) × Moves p a xs m × Moves p m ys b
moves_split p [] ys a b r = (a, refl, r)
moves_split p (x ∷ xs) ys a b r = let s = moves_split p xs ys r.0 b r.2 in (s.0, (r.0, r.1, s.1), s.2)

-- ---- what the rows of a node say
module _ (run : List Played) (w : World) (r : Reached run w) (i : ℕ) (s : Site) (at : slice_get w.sites i ≡ Some s) where
  x : Seated (past r.start run) (length w.sites) i s
  x = (explained run w r).sites i s at

  can : IsLasting s.node.place.id s.node.place.nodes (lasting x.held)
  can = lasts_here (past r.start run) w (explained run w r) i s at x

  are : AreLasting s.node.place s.rows (lasting x.held)
  are = (can, x.rows)

  of_life : (client : List ℕ) (seat : Seat) → map.get x.held.sessions client ≡ Some seat → IsOfItsLife run i client (durable_of seat.session)
  of_life client seat found = record { session = seat.session; lived = lives.sessions_are_runs s.node.place x.first x.held (moves_at i run) x.moves client seat found; lasts = refl }

  some_seat : (client : List ℕ) (d : Durable) (o : Option Seat) → map.get x.held.sessions client ≡ o → option_map (λ (v : Seat). durable_of v.session) o ≡ Some d → IsOfItsLife run i client d
  some_seat client d None is e = absurd (let z : ◌≡◌ {A = Option Durable} None (Some d) = e in cc)
  some_seat client d (Some seat) is e = subst (IsOfItsLife run i client) (let z : Some (durable_of seat.session) ≡ Some d = e in cc) (of_life client seat is)

  of_rows : (said : Lasting) → AreLasting s.node.place s.rows said → (client : List ℕ) (d : Durable) → said.sessions client ≡ Some d → IsOfItsLife run i client d
  of_rows said told client d e =
      let same : said ≡ lasting x.held = rows_tell_all s.node.place.nodes s.node.place.id said (lasting x.held) told.0 can (λ key. sym (told.1 key) ∙ x.rows key) in
      some_seat client d (map.get x.held.sessions client) refl (ap (λ (l : Lasting). l.sessions client) (sym same) ∙ e)

pub sessions_of_rows_are_runs : SessionsOfRowsAreRuns
sessions_of_rows_are_runs = λ run w r i s said at told client d e. of_rows run w r i s at said told client d e

-- ---- a copy that was queued
module _ (run later : List Played) (m : Played) (w : World) (r : Reached (run ++ m ∷ later) w) (before : List Act) (d : Delivery) (q : QueuesCopy m before d) (s : Site) (at : slice_get w.sites (site m.fate) ≡ Some s) where
  abbrev whole : List Played
  whole = run ++ m ∷ later

  abbrev client : List ℕ
  client = q.call.step.client

  stays : StaysCalled run later m before q.call
  stays = calls_stay run later m w r before q.call

  abbrev held : HeldView
  held = (x whole w r (site m.fate) s at).held

  -- the session is there after the call
  has : SessionIsOver client stays.after ⊎ HasSeat client held
  has =
      let place = s.node.place in
      let first = fresh (x whole w r (site m.fate) s at).first in
      let a = Session (Called q.call.step) in
      let parts = moves_split place stays.earlier (Acted a ∷ stays.after) first held (subst (λ ms. Moves place first ms held) stays.moves (x whole w r (site m.fate) s at).moves) in
      let after : Seat = record { session = q.call.step.after; connection = q.call.step.on } in
      let there : HasSeat client parts.2.0 = (after, ap (λ (v : HeldView). map.get v.sessions client) parts.2.1.1 ∙ get_inserted parts.0.sessions client after) in
      seat_stays client place stays.after parts.2.0 held parts.2.2 there

  in_rows : KeepsCopies → HasSeat client held → (since : List Step) → life client (moves_at (site m.fate) whole) [] ≡ life client stays.earlier [] ++ step_in q.call.step ∷ since → RowsHaveCopy whole (site m.fate) s stays.earlier q.call.step d
  in_rows law seat since is =
      let of = of_life whole w r (site m.fate) s at client seat.0 seat.1 in
      let end = seat.0.session in
      let past = life client stays.earlier [] in
      let lived = lives.sessions_are_runs s.node.place (x whole w r (site m.fate) s at).first held (moves_at (site m.fate) whole) (x whole w r (site m.fate) s at).moves client seat.0 seat.1 in
      let goes = law client past since (step_in q.call.step) d q.now end q.event q.twice (subst (λ steps. Run (new_session client) steps end) is lived) in
      record {
        said = lasting held;
        are = are whole w r (site m.fate) s at;
        durable = durable_of end;
        found = ap (option_map (λ (v : Seat). durable_of v.session)) seat.1;
        life_is = of;
        since = since;
        calls = is;
        goes = subst (λ ds. (q.call.step.reaction.full ≡ true) ⊎ GoesFrom (channel_over no_channel past) (step_in q.call.step ∷ since) d ds (published (durable_of end).copies)) (sym (waits_away end.outbox.copies))
            (subst (λ ps. (q.call.step.reaction.full ≡ true) ⊎ GoesFrom (channel_over no_channel past) (step_in q.call.step ∷ since) d (waiting end.outbox.copies) ps) (sym (published_away end.outbox.copies)) goes);
      }

  copy_stays_here : KeepsCopies → SessionIsOver client stays.after ⊎ RowsHaveCopy whole (site m.fate) s stays.earlier q.call.step d
  copy_stays_here law = elim stays.stays [
    | inl over ↦ inl over
    | inr since ↦ elim has [ inl over ↦ inl over | inr seat ↦ inr (in_rows law seat since.0 since.1) ]
  ]

pub copy_stays : KeepsCopies → CopyStays
copy_stays law = λ run later m w r before d q s at. (stays run later m w r before d q s at, copy_stays_here run later m w r before d q s at law)
