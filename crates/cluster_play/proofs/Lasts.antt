-- What lasts of what a node holds, and its rows.
use Rattle.std.proofs.Common.{◌≡◌, ◌≤◌, ◌^◌, ℕ, List, [], ◌∷◌, length, arith, Option, Some, None, option_map, refl, sym, ap, ◌∙◌, inl, inr, subst}
use Rattle.std.specs.FinMap as map
use Rattle.home_table.specs.Table.{Table}
use Rattle.mqtt_sessions.specs.Saved.{durable_of}
use Rattle.row_store.specs.Rows.{Content, key_cmp, Plain}
use Rattle.session_rows.specs.Durable.{Durable, IsDurable}
use Rattle.session_table.specs.Seats.{Seat}
use Rattle.session_table.proofs.RowLaws.{durable-again}
use Rattle.node_bridge.specs.View.{woken_bridge}
use Rattle.node_keeper.specs.Keeping.{AreLasting, AreOf, AreOfNone, marked_or_raised, may_be_marked}
use Rattle.node_rows.specs.Reading.{HasNoLane, IsAmong, IsLasting, RowsTellAll}
use Rattle.node_rows.specs.Sessions.{opened_seat}
use Rattle.node_rows.specs.Versions.{AreOlder}
use Rattle.node_rows.proofs.Raising.{not_both}
use Rattle.node_rows.specs.Rows.{Lasting, mark_key, node_row}
use Rattle.node_work.specs.Lasting.{CanLast, IsWoken, lasting}
use Rattle.node_work.specs.View.{HeldView, Place, nodes_of}
use Rattle.cluster_play.proofs.Bools.{some_is, none-some}

-- ---- sessions
abbrev pub lasts_of : Option Seat → Option Durable
lasts_of o = option_map (λ (s : Seat). durable_of s.session) o

-- a session that can last can be made again, and is then what it was
again : (o : Option Durable) → ((d : Durable) → o ≡ Some d → IsDurable d) → lasts_of (option_map opened_seat o) ≡ o
again None durable = refl
again (Some d) durable = ap Some (durable-again d (durable d refl))

pub woken_lasts : (id count : ℕ) (homes : Table) (x : Lasting) (h : HeldView) → IsLasting id count x → IsWoken homes x h → lasting h ≡ x
woken_lasts id count homes x h is woken =
    let seats = woken.0 in
    let sessions : (client : List ℕ) → lasts_of (map.get seats client) ≡ x.sessions client =
    λ client. ap lasts_of (woken.1 client) ∙ again (x.sessions client) (λ d e. (is.sessions client d e).0) in
    ap lasting woken.2 ∙ (λ i. record { named = x.named; sessions = λ client. sessions client i; store = x.store; lanes = x.lanes })

-- ---- what can last
seat_lasts : (h : HeldView) (client : List ℕ) (d : Durable) → CanLast h → (o : Option Seat) → map.get h.sessions client ≡ o → lasts_of o ≡ Some d → IsDurable d × (d.client ≡ client)
seat_lasts h client d can None there is = none-some is
seat_lasts h client d can (Some seat) there is = subst (λ (x : Durable). IsDurable x × (x.client ≡ client)) (some_is is) (can.sessions client seat there)

pub is_lasting : (id count : ℕ) (h : HeldView) → CanLast h → IsAmong count h.store → length h.bridge.lanes ≡ count → HasNoLane id h.bridge.lanes → count ≤ 2 ^ 16 → IsLasting id count (lasting h)
is_lasting id count h can among long none few = record {
  few = few;
  named = can.named;
  sessions = λ client d e. seat_lasts h client d can (map.get h.sessions client) refl e;
  store = can.store;
  among = among;
  lanes = record { count = long; sound = can.lanes.sound };
  others = none;
}

pub can_last : (id count : ℕ) (h : HeldView) → IsLasting id count (lasting h) → CanLast h
can_last id count h is = record {
  named = is.named;
  sessions = λ client seat e. is.sessions client (durable_of seat.session) (ap lasts_of e);
  store = is.store;
  lanes = record { count = refl; sound = is.lanes.sound };
}

-- ---- a node that is opened again
-- rows that have a mark aren't none
has_rows : (p : Place) (rows : Content) (h : HeldView) → AreOf p rows h → rows ≡ map.empty → ⊥
has_rows p rows h are none = none-some (sym (map.get-empty {X = List ℕ} key_cmp mark_key) ∙ ap (λ (c : Content). map.get c mark_key) (sym none) ∙ are mark_key)

-- no node has no rows
pub none_without : (p : Place) → AreOfNone p map.empty
none_without p x (inl says) = none-some (sym (map.get-empty {X = List ℕ} key_cmp mark_key) ∙ says.1 mark_key)
none_without p x (inr says) =
    let none : Content = map.empty in
    no_first (map.entries none) (sym (map.len-entries none) ∙ map.len-empty key_cmp (List ℕ)) says.1
  where
    no_first : (rows : List Plain) → length rows ≡ 0 → AreOlder rows → ⊥
    no_first [] none first = first
    no_first (row ∷ rows) none first = absurd (omega (arith, none))

-- the rows of what a node holds are of version 3
not_older : (p : Place) (rows : Content) (h : HeldView) → AreOf p rows h → AreOlder (map.entries rows) → ⊥
not_older p rows h are = not_both p.id (lasting h).named (map.entries rows) (sym (map.get-entries rows mark_key) ∙ are mark_key)

marked_same : (p : Place) (rows rows' : Content) (h : HeldView) → AreOf p rows h → marked_or_raised p.id rows rows' → rows' ≡ rows
marked_same p rows rows' h are (inl e) = absurd (has_rows p rows h are e.0)
marked_same p rows rows' h are (inr (some, inl first)) = absurd (not_older p rows h are first.0)
marked_same p rows rows' h are (inr (some, inr same)) = same.1

pub may_be_same : (p : Place) (rows rows' : Content) (h : HeldView) → AreOf p rows h → may_be_marked p.id rows rows' → rows' ≡ rows
may_be_same p rows rows' h are (inl e) = e
may_be_same p rows rows' h are (inr e) = absurd (has_rows p rows h are e.0)

pub record WokenAlike (p : Place) (homes : Table) (rows : Content) (h h' : HeldView) : Type 0 where
  pub woken : IsWoken homes (lasting h) h'
  pub are : AreOf p rows h'
  pub lasts : CanLast h'
  pub store : h'.store ≡ h.store
  pub bridge : h'.bridge ≡ woken_bridge h.bridge.lanes

-- from the rows of what it held
pub reopened : RowsTellAll → (p : Place) (homes : Table) (rows rows' : Content) (h h' : HeldView) (x : Lasting) → IsLasting p.id (nodes_of p) (lasting h) → AreOf p rows h → marked_or_raised p.id rows rows'
    → AreLasting p rows' x → IsWoken homes x h' → WokenAlike p homes rows' h h'
reopened tell p homes rows rows' h h' x can are m says woken =
    let same = marked_same p rows rows' h are m in
    let one : x ≡ lasting h = tell (nodes_of p) p.id x (lasting h) says.0 can (λ key. sym (says.1 key) ∙ ap (λ (c : Content). map.get c key) same ∙ are key) in
    let lasts : lasting h' ≡ x = woken_lasts p.id (nodes_of p) homes x h' says.0 woken in
    record {
      woken = subst (λ (y : Lasting). IsWoken homes y h') one woken;
      are = λ key. says.1 key ∙ ap (λ (y : Lasting). node_row p.id y key) (sym lasts);
      lasts = can_last p.id (nodes_of p) h' (subst (IsLasting p.id (nodes_of p)) (sym lasts) says.0);
      store = ap (λ (y : Lasting). y.store) (lasts ∙ one);
      bridge = ap (λ (v : HeldView). v.bridge) woken.2 ∙ ap (λ (y : Lasting). woken_bridge y.lanes) one;
    }
