-- What lasts of a new node, and its rows.
use Rattle.std.proofs.Common.{◌≡◌, ◌≤◌, ◌^◌, ℕ, zero, suc, ◌==◌, Bool, true, false, cond, List, [], ◌∷◌, ◌++◌, length, Option, Some, None, if◌then◌else◌, refl, sym, ap, ◌∙◌, inl, inr, subst, arith}
use Rattle.std.proofs.lemmas.List.{length-replicate}
use Rattle.std.specs.List.{AllByRecursion}
use Rattle.std.specs.Prelude.{is_some}
use Rattle.std.specs.FinMap as map
use Rattle.std.specs.FinMap.{find}
use Rattle.std.specs.FinSet as set
use Rattle.std.specs.Cmp.{Equal-is, tied_itself}
use Rattle.std.specs.Cmp.Lexicographic.{slice_cmp, nat_list_cmp_total}
use Rattle.std.specs.Ordering.{eq_by_cmp, is_eq, nat_cmp}
use Rattle.causal_context.specs.Dots.{Dot, dot_cmp, dot_cmp_total, dot_cmp_antisym}
use Rattle.causal_context.specs.Spelling.{HasSpelling}
use Rattle.causal_context.proofs.RangeSets.{set_of_none}
use Rattle.home_table.specs.Table.{Table}
use Rattle.bridge_lanes.specs.Changes.{is_lane_kind}
use Rattle.bridge_lanes.specs.Reading.{IsLane}
use Rattle.bridge_lanes.specs.Rows.{Messages, each, numbers_of, waiting_of}
use Rattle.bridge_lanes.specs.Rows as lane_rows
use Rattle.bridge_lanes.specs.Lanes.{new_lane, new_lanes}
use Rattle.replica_store.specs.declared.kept.Kept.{Kept}
use Rattle.replica_store.specs.Retained.{topic_cmp}
use Rattle.replica_store.specs.States.{nothing}
use Rattle.replica_store.proofs.Seeing.{nothing_seen}
use Rattle.row_store.specs.Rows.{Content, Key, key_cmp, Plain}
use Rattle.row_store.proofs.Keys.{keys_total, exact_keys}
use Rattle.session_table.specs.Rows.{is_session_kind}
use Rattle.session_table.specs.Seats.{Seat, Seats}
use Rattle.law_maps.proofs.Texts.{alike}
use Rattle.replica_rows.specs.Reading.{IsStore}
use Rattle.replica_rows.specs.Rows.{row_at}
use Rattle.replica_rows.proofs.Empty.{no_rows}
use Rattle.subscription_set.specs.Standing.{seen_of}
use Rattle.subscription_set.proofs.Seen.{contains-seen_of}
use Rattle.subscription_set.specs.Statuses.{Status}
use Rattle.node_keeper.specs.Keeping.{AreOf, OpensFromRows}
use Rattle.node_rows.specs.Reading.{AreOpened, IsLasting, RowsTellAll}
use Rattle.node_rows.specs.Rows.{Lasting, mark, mark_at, mark_key, new_node, node_row}
use Rattle.node_work.specs.Lasting.{CanLast, IsWoken, lasting}
use Rattle.node_work.specs.View.{NodeView, Place, fresh, fresh_node, place_of, woken}
use Rattle.cluster_play.proofs.Bools.{none-some, nat_is}
use Rattle.cluster_play.proofs.Bridging.{one_of_alike}
use Rattle.cluster_play.proofs.Lasts.{lasts_of}

-- ---- what lasts of it
pub fresh_lasts : (homes : Table) → lasting (fresh homes) ≡ new_node (length homes.nodes)
fresh_lasts homes =
    let none : (client : List ℕ) → lasts_of (map.get {X = Seat} {R = slice_cmp nat_cmp} map.empty client) ≡ None = λ client. ap lasts_of (map.get-empty {X = Seat} (slice_cmp nat_cmp) client) in
    λ i. record { named = 0; sessions = λ client. none client i; store = nothing; lanes = new_lanes (length homes.nodes) }

none_spelled : HasSpelling set.empty
none_spelled = record {
  ranges = [];
  context = record { sound = record { fine = λ k d lt. absurd (omega (arith, lt)); apart = λ i j d lt less. absurd (omega (arith, less)) }; few = omega arith };
  set = set_of_none [] refl;
}

no_status : (q : Dot) → map.get nothing.subscriptions q ≡ None
no_status q = map.get-empty {X = Status} dot_cmp q

no_seen : seen_of nothing.subscriptions ≡ set.empty
no_seen = set.same_set dot_cmp_total dot_cmp_antisym _ _ (λ q. contains-seen_of nothing.subscriptions q ∙ ap is_some (no_status q) ∙ sym (set.contains-empty dot_cmp q))

none_seen : (d : Dot) → set.contains {R = dot_cmp} set.empty d ≡ true → ⊥
none_seen d h = let no : false ≡ true = sym (set.contains-empty dot_cmp d) ∙ h in cc

none_stands : {P : Type 0} (q : Dot) (x : Option Status) → map.get nothing.subscriptions q ≡ x → is_some x ≡ true → P
none_stands q x e h = let no : false ≡ true = ap is_some (sym (no_status q) ∙ e) ∙ h in cc

none_kept : {P : Type 0} (topic : List ℕ) (k : Kept) → map.get nothing.retained topic ≡ Some k → P
none_kept topic k e = none-some (sym (map.get-empty {X = Kept} topic_cmp topic) ∙ e)

nothing_is_store : IsStore nothing
nothing_is_store = record {
  all_seen = nothing_seen;
  taken = none_spelled;
  seen = subst HasSpelling (sym no_seen) none_spelled;
  dots = λ q e is. none_stands q (Some (Some e)) is refl;
  clients = λ q e is. none_stands q (Some (Some e)) is refl;
  entries = λ q e is. none_stands q (Some (Some e)) is refl;
  topics = λ topic k is. none_kept topic k is;
  kept = λ topic k is. none_kept topic k is;
}

-- no message waits in a new lane, and none was taken
new_lane_sound : IsLane new_lane
new_lane_sound = record { few = omega arith; below = omega arith; took = omega arith; spelled = tt }

new_sound : (count : ℕ) → AllByRecursion IsLane (new_lanes count)
new_sound zero = tt
new_sound (suc count) = (new_lane_sound, new_sound count)

pub new_is_lasting : (id count : ℕ) → count ≤ 2 ^ 16 → IsLasting id count (new_node count)
new_is_lasting id count few = record {
  few = few;
  named = omega arith;
  sessions = λ client d e. none-some e;
  store = nothing_is_store;
  among = record {
    taken = λ d h. absurd (none_seen d h);
    seen = λ d h. absurd (none_seen d (subst (λ s. set.contains s d ≡ true) no_seen h));
    stamps = λ topic k is. none_kept topic k is;
  };
  lanes = record { count = length-replicate count new_lane; sound = new_sound count };
  others = one_of_alike count id new_lane;
}

pub fresh_can_last : (homes : Table) → CanLast (fresh homes)
fresh_can_last homes = record {
  named = omega arith;
  sessions = λ client seat e. none-some (sym (map.get-empty {X = Seat} (slice_cmp nat_cmp) client) ∙ e);
  store = nothing_is_store;
  lanes = record { count = refl; sound = new_sound (length homes.nodes) };
}

-- ---- its rows are its mark
no_row : (key : Key) → row_at nothing key ≡ None
no_row key = sym (no_rows key) ∙ map.get-empty key_cmp key

none_each : (f : ℕ → Messages → List Plain) → ((peer : ℕ) → f peer new_lane ≡ []) → (peer count : ℕ) → each f peer (new_lanes count) ≡ []
none_each f none peer zero = refl
none_each f none peer (suc count) = (λ i. none peer i ++ each f (suc peer) (new_lanes count)) ∙ none_each f none (suc peer) count

no_lane_row : (count : ℕ) (key : Key) → lane_rows.row_at (new_lanes count) key ≡ None
no_lane_row count key = ap (find key_cmp key) (λ i. none_each waiting_of (λ peer. refl) 0 count i ++ none_each numbers_of (λ peer. refl) 0 count i)

other_mark : (value owner place : List ℕ) (a : ℕ) → a ≡ 1 → eq_by_cmp key_cmp (a, (owner, place)) mark_key ≡ false → mark_at value owner place ≡ None
other_mark value [] [] a one apart = absurd (let no : true ≡ false = sym (ap is_eq (tied_itself keys_total mark_key)) ∙ ap (λ n. eq_by_cmp key_cmp (n, ([], [])) mark_key) (sym one) ∙ apart in cc)
other_mark value [] (b ∷ place) a one apart = refl
other_mark value (b ∷ owner) place a one apart = refl

no_other : (a b c : Bool) (x y z v : Option (List ℕ)) → (a ≡ true → x ≡ None) → y ≡ None → z ≡ None → v ≡ None → (if a then x else if b then y else if c then z else v) ≡ None
no_other true b c x y z v p q r s = p refl
no_other false true c x y z v p q r s = q
no_other false false true x y z v p q r s = r
no_other false false false x y z v p q r s = s

mark_there : (count id : ℕ) (key : Key) → eq_by_cmp key_cmp key mark_key ≡ true → node_row id (new_node count) key ≡ Some (mark id 0)
mark_there count id key t = ap (node_row id (new_node count)) (exact_keys key mark_key ((Equal-is (key_cmp key mark_key)).0 t))

mark_alone : (count id : ℕ) (key : Key) (b : Bool) → eq_by_cmp key_cmp key mark_key ≡ b → cond b (Some (mark id 0)) None ≡ node_row id (new_node count) key
mark_alone count id key true t = sym (mark_there count id key t)
mark_alone count id key false t =
    sym (no_other (key.0 == 1) (is_session_kind key.0) (is_lane_kind key.0) (mark_at (mark id 0) key.1.0 key.1.1) None (lane_rows.row_at (new_lanes count) key) (row_at nothing key)
    (λ one. other_mark (mark id 0) key.1.0 key.1.1 key.0 (nat_is key.0 1 one) t) refl (no_lane_row count key) (no_row key))

pub marked_row : (count id : ℕ) (key : Key) → map.get {R = key_cmp} (map.insert map.empty mark_key (mark id 0)) key ≡ node_row id (new_node count) key
marked_row count id key =
    map.get-insert keys_total map.empty mark_key (mark id 0) key ∙ ap (cond (eq_by_cmp key_cmp key mark_key) (Some (mark id 0))) (map.get-empty {X = List ℕ} key_cmp key)
    ∙ mark_alone count id key (eq_by_cmp key_cmp key mark_key) refl

pub fresh_rows : (p : Place) (homes : Table) (rows : Content) → rows ≡ map.insert map.empty mark_key (mark p.id 0) → AreOf p rows (fresh homes)
fresh_rows p homes rows is key = ap (λ (c : Content). map.get c key) is ∙ marked_row (length homes.nodes) p.id key ∙ ap (λ (x : Lasting). node_row p.id x key) (sym (fresh_lasts homes))

-- ---- a node that is opened from its mark alone is new
empty_seats : (count : ℕ) (seats : Seats) → AreOpened (new_node count) seats → seats ≡ map.empty
empty_seats count seats are = map.same_map nat_list_cmp_total alike _ _ (λ client. are client ∙ sym (map.get-empty {X = Seat} (slice_cmp nat_cmp) client))

pub opened_new : RowsTellAll → (id : ℕ) (homes : Table) (rows rows' : Content) (n : NodeView) → rows ≡ map.empty → OpensFromRows (place_of id homes) homes rows rows' n
    → (n ≡ fresh_node id homes) × (rows' ≡ map.insert map.empty mark_key (mark id 0))
opened_new tell id homes rows rows' n none opens =
    let o = opens.reopened in
    let alone : rows' ≡ map.insert map.empty mark_key (mark id 0) = elim opens.mark [ inl e ↦ e.1 | inr e ↦ absurd (e.0 none) ] in
    let x = o.lasting in
    let count = length homes.nodes in
    let one : x ≡ new_node count = tell count id x (new_node count) o.are.0 (new_is_lasting id count o.are.0.few) (λ key. sym (o.are.1 key) ∙ ap (λ (c : Content). map.get c key) alone ∙ marked_row count id key) in
    let w : IsWoken homes (new_node count) o.held = subst (λ (y : Lasting). IsWoken homes y o.held) one o.woken in
    let held : o.held ≡ fresh homes = w.2 ∙ ap (λ (s : Seats). woken homes 0 s nothing (new_lanes count)) (empty_seats count w.0 w.1) in
    (o.is ∙ (λ i. record { place = place_of id homes; homes = homes; up = Some (held i) }), alone)
