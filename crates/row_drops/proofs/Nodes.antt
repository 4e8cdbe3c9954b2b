-- The rows of a node that are edited are those of the node without what is dropped.
use Rattle.std.proofs.Common.{◌≡◌, ◌⊎◌, inl, inr, ℕ, zero, suc, ◌<◌, ◌≤◌, ◌^◌, false, ◌&&◌, ◌||◌, List, [], map, Option, Some, None, arith, refl, sym, ap, subst, ◌∙◌}
use Rattle.std.specs.Prelude.{◌==◌, if◌then◌else◌}
use Rattle.std.specs.FinMap.{entries, find, get, get-entries, get-from_entries}
use Rattle.std.specs.Option.{option_and_then}
use Rattle.std.specs.Str.{bytes_eq}
use Rattle.std.proofs.lemmas.Bool.Decides.{nat_tests}
use Rattle.bridge_lanes.specs.Changes.{is_lane_kind, left_of}
use Rattle.bridge_lanes.specs.Rows.{owner, rows_of}
use Rattle.bridge_lanes.specs.Rows as lane_rows
use Rattle.bridge_lanes.proofs.Order.{left_by_in, left_in, sorted_rises}
use Rattle.bridge_lanes.proofs.Rising.{rows_in_order}
use Rattle.node_rows.specs.Reading.{AreNodeRows, IsLasting, Say}
use Rattle.node_rows.specs.Rows.{Lasting, mark, mark_at, node_row, session_row}
use Rattle.node_rows.specs.Versions.{AreOlder}
use Rattle.replica_rows.specs.Rows.{row_at}
use Rattle.row_store.specs.Leading.{Lead, left_or}
use Rattle.row_store.specs.declared.row.Change.{Change}
use Rattle.row_store.specs.declared.row.Row.{Row}
use Rattle.row_store.specs.Rows.{Content, Key, after_all, content_of, entry_of, key_cmp}
use Rattle.row_store.proofs.Keys.{keys_total}
use Rattle.row_store.proofs.Leaving.{content_follows}
use Rattle.session_table.specs.Rows.{is_session_kind}
use Rattle.row_drops.specs.declared.target.Target.{Target}
use Rattle.row_drops.specs.declared.target.Target.TheVariants.{Session, Queue, Lane}
use Rattle.row_drops.specs.Dropping.{AreDropped, IsDropped, IsInside, dropped, edit, ended, ended_value, is_waiting, lane_edit, nobody_value, queue_edit, session_edit, unheard_at, without_queue}
use Rattle.row_drops.specs.Editing.{edited, edits}
use Rattle.row_drops.proofs.Edited.{edits_leave, found_edited, stays}
use Rattle.row_drops.proofs.Lanes.{lanes_last, lanes_rows, no_lane}
use Rattle.row_drops.proofs.Queues.{end_lasts, queue_lasts}
use Rattle.row_drops.proofs.Sessions.{ended_rows, queue_others, queue_rows, session_others, sessions_last, sessions_lead}

-- ---- it can last
pub still_lasts : (id nodes : ℕ) (target : Target) (x : Lasting) → IsLasting id nodes x → IsLasting id nodes (dropped target x)
still_lasts id nodes (Session client) x is = record {
  few = is.few;
  named = is.named;
  sessions = sessions_last session_edit ended ended_rows session_others x.sessions is.sessions end_lasts (λ d. refl) client.bytes.items;
  store = is.store;
  among = is.among;
  lanes = is.lanes;
  others = is.others;
}
still_lasts id nodes (Queue client) x is = record {
  few = is.few;
  named = is.named;
  sessions = sessions_last queue_edit without_queue queue_rows queue_others x.sessions is.sessions queue_lasts (λ d. refl) client.bytes.items;
  store = is.store;
  among = is.among;
  lanes = is.lanes;
  others = is.others;
}
still_lasts id nodes (Lane node) x is = record {
  few = is.few;
  named = is.named;
  sessions = is.sessions;
  store = is.store;
  among = is.among;
  lanes = lanes_last node nodes x.lanes is.lanes;
  others = no_lane node id x.lanes is.others;
}

-- ---- key by key
lane_leads : (nodes node : ℕ) (x : Lasting) (id : ℕ) → IsLasting id nodes x → node < nodes → (q : Key)
    → find key_cmp q (rows_of (unheard_at node 0 x.lanes)) ≡ left_or (option_and_then (lane_edit node q) (find key_cmp q (rows_of x.lanes))) (find key_cmp q (rows_of x.lanes))
lane_leads nodes node x id is inside q =
    ap (find key_cmp q) (sym (lanes_rows node x.lanes (omega (arith, is.few, is.lanes.count)) (omega (arith, is.few, inside))))
    ∙ found_edited (lane_edit node) (rows_of x.lanes) (sorted_rises (rows_of x.lanes) (rows_in_order nodes x.lanes is.few is.lanes)) q

-- rows of other kinds stay
other_kind : (k m : ℕ) → m < k → (k == m) ≡ false
other_kind k m later = grind (arith, nat_tests)

no_queue : (client : List ℕ) (q : Key) (v : List ℕ) → (q.0 == 3) ≡ false → queue_edit client q v ≡ None
no_queue client q v three = ap (λ b. if b && (bytes_eq q.1.0 client && is_waiting v) then Some None else None) three

no_session : (client : List ℕ) (q : Key) (v : List ℕ) → (q.0 == 3) ≡ false → (q.0 == 2) ≡ false → session_edit client q v ≡ None
no_session client q v three two =
    ap (λ b. if b && bytes_eq q.1.0 client then Some None else if (q.0 == 2) && bytes_eq q.1.0 client then Some (Some (ended_value v)) else None) three
    ∙ ap (λ b. if b && bytes_eq q.1.0 client then Some (Some (ended_value v)) else None) two

no_lane_row : (node : ℕ) (q : Key) (v : List ℕ) → (q.0 == 7) ≡ false → lane_edit node q v ≡ None
no_lane_row node q v seven = ap (λ b. if b && bytes_eq q.1.0 (owner node) then Some (Some nobody_value) else None) seven

-- the row of a node at a key that is neither its mark's nor a session's, and at one that is no lane's
unmarked : (id : ℕ) (x : Lasting) (q : Key) → (q.0 == 1) ≡ false → is_session_kind q.0 ≡ false → node_row id x q ≡ (if is_lane_kind q.0 then lane_rows.row_at x.lanes q else row_at x.store q)
unmarked id x q mark_no session_no =
    ap (λ b. if b then mark_at (mark id x.named) q.1.0 q.1.1 else if is_session_kind q.0 then session_row (x.sessions q.1.0) q else if is_lane_kind q.0 then lane_rows.row_at x.lanes q else row_at x.store q) mark_no
    ∙ ap (λ b. if b then session_row (x.sessions q.1.0) q else if is_lane_kind q.0 then lane_rows.row_at x.lanes q else row_at x.store q) session_no

unlaned : (id : ℕ) (x : Lasting) (q : Key) → is_lane_kind q.0 ≡ false
    → node_row id x q ≡ (if q.0 == 1 then mark_at (mark id x.named) q.1.0 q.1.1 else if is_session_kind q.0 then session_row (x.sessions q.1.0) q else row_at x.store q)
unlaned id x q lane_no =
    ap (λ b. if q.0 == 1 then mark_at (mark id x.named) q.1.0 q.1.1 else if is_session_kind q.0 then session_row (x.sessions q.1.0) q else if b then lane_rows.row_at x.lanes q else row_at x.store q) lane_no

no_session_kind : (k : ℕ) → 3 < k → is_session_kind k ≡ false
no_session_kind k later = λ i. other_kind k 2 (omega (arith, later)) i || other_kind k 3 later i

no_lane_kind : (k : ℕ) → 8 < k → is_lane_kind k ≡ false
no_lane_kind k later = λ i. other_kind k 7 (omega (arith, later)) i || other_kind k 8 later i

leads : (id nodes : ℕ) (target : Target) (x : Lasting) → IsInside target nodes → IsLasting id nodes x → (q : Key) → node_row id (dropped target x) q ≡ edited (edit target) (node_row id x) q
leads id nodes (Queue client) x inside is (zero, r) = stays (queue_edit client.bytes.items) (0, r) (node_row id x (0, r)) (λ v. refl)
leads id nodes (Queue client) x inside is (suc zero, r) = stays (queue_edit client.bytes.items) (1, r) (node_row id x (1, r)) (λ v. refl)
leads id nodes (Queue client) x inside is (suc (suc zero), r) = sessions_lead queue_edit without_queue queue_rows queue_others x.sessions is.sessions client.bytes.items (2, r)
leads id nodes (Queue client) x inside is (suc (suc (suc zero)), r) = sessions_lead queue_edit without_queue queue_rows queue_others x.sessions is.sessions client.bytes.items (3, r)
leads id nodes (Queue client) x inside is (suc (suc (suc (suc n))), r) =
    let kind = suc (suc (suc (suc n))) in
    let mark_no = other_kind kind 1 (omega arith) in
    let session_no = no_session_kind kind (omega arith) in
    unmarked id (dropped (Queue client) x) (kind, r) mark_no session_no ∙ sym (unmarked id x (kind, r) mark_no session_no)
    ∙ stays (queue_edit client.bytes.items) (kind, r) (node_row id x (kind, r)) (λ v. no_queue client.bytes.items (kind, r) v (other_kind kind 3 (omega arith)))
leads id nodes (Session client) x inside is (zero, r) = stays (session_edit client.bytes.items) (0, r) (node_row id x (0, r)) (λ v. refl)
leads id nodes (Session client) x inside is (suc zero, r) = stays (session_edit client.bytes.items) (1, r) (node_row id x (1, r)) (λ v. refl)
leads id nodes (Session client) x inside is (suc (suc zero), r) = sessions_lead session_edit ended ended_rows session_others x.sessions is.sessions client.bytes.items (2, r)
leads id nodes (Session client) x inside is (suc (suc (suc zero)), r) = sessions_lead session_edit ended ended_rows session_others x.sessions is.sessions client.bytes.items (3, r)
leads id nodes (Session client) x inside is (suc (suc (suc (suc n))), r) =
    let kind = suc (suc (suc (suc n))) in
    let mark_no = other_kind kind 1 (omega arith) in
    let session_no = no_session_kind kind (omega arith) in
    unmarked id (dropped (Session client) x) (kind, r) mark_no session_no ∙ sym (unmarked id x (kind, r) mark_no session_no)
    ∙ stays (session_edit client.bytes.items) (kind, r) (node_row id x (kind, r)) (λ v. no_session client.bytes.items (kind, r) v (other_kind kind 3 (omega arith)) (other_kind kind 2 (omega arith)))
leads id nodes (Lane node) x inside is (zero, r) = stays (lane_edit node) (0, r) (node_row id x (0, r)) (λ v. refl)
leads id nodes (Lane node) x inside is (suc zero, r) = stays (lane_edit node) (1, r) (node_row id x (1, r)) (λ v. refl)
leads id nodes (Lane node) x inside is (suc (suc zero), r) = stays (lane_edit node) (2, r) (node_row id x (2, r)) (λ v. refl)
leads id nodes (Lane node) x inside is (suc (suc (suc zero)), r) = stays (lane_edit node) (3, r) (node_row id x (3, r)) (λ v. refl)
leads id nodes (Lane node) x inside is (suc (suc (suc (suc zero))), r) = stays (lane_edit node) (4, r) (node_row id x (4, r)) (λ v. refl)
leads id nodes (Lane node) x inside is (suc (suc (suc (suc (suc zero)))), r) = stays (lane_edit node) (5, r) (node_row id x (5, r)) (λ v. refl)
leads id nodes (Lane node) x inside is (suc (suc (suc (suc (suc (suc zero))))), r) = stays (lane_edit node) (6, r) (node_row id x (6, r)) (λ v. refl)
leads id nodes (Lane node) x inside is (suc (suc (suc (suc (suc (suc (suc zero)))))), r) = lane_leads nodes node x id is inside (7, r)
leads id nodes (Lane node) x inside is (suc (suc (suc (suc (suc (suc (suc (suc zero))))))), r) = lane_leads nodes node x id is inside (8, r)
leads id nodes (Lane node) x inside is (suc (suc (suc (suc (suc (suc (suc (suc (suc n)))))))), r) =
    let kind = suc (suc (suc (suc (suc (suc (suc (suc (suc n)))))))) in
    let lane_no = no_lane_kind kind (omega arith) in
    unlaned id (dropped (Lane node) x) (kind, r) lane_no ∙ sym (unlaned id x (kind, r) lane_no)
    ∙ stays (lane_edit node) (kind, r) (node_row id x (kind, r)) (λ v. no_lane_row node (kind, r) v (other_kind kind 7 (omega arith)))

-- ---- all rows
pub drops : (id nodes : ℕ) (target : Target) (x : Lasting) (rows : List Row) (changes : List Change) → IsInside target nodes → IsLasting id nodes x → AreNodeRows rows id x
    → map left_of changes ≡ edits (edit target) (map entry_of rows) → Lead (node_row id x) (node_row id (dropped target x)) changes
drops id nodes target x rows changes inside is are made q =
    let at : find key_cmp q (map entry_of rows) ≡ node_row id x q = sym (get-from_entries keys_total (map entry_of rows) q) ∙ are.are q in
    let left = left_by_in changes q ∙ ap (λ cs. left_in cs q) made ∙ edits_leave (edit target) (map entry_of rows) (sorted_rises (map entry_of rows) are.rise) q ∙ ap (option_and_then (edit target q)) at in
    leads id nodes target x inside is q ∙ ap (λ l. left_or l (node_row id x q)) (sym left)

-- rows that say this of the node, in the version of today
pub found : (id nodes : ℕ) (target : Target) (x : Lasting) (rows : List Row) (changes : List Change) → IsInside target nodes → IsLasting id nodes x → Say rows id x → (rows ≡ [] → ⊥) → (AreOlder (map entry_of rows) → ⊥)
    → map left_of changes ≡ edits (edit target) (map entry_of rows) → AreDropped rows id nodes target changes
found id nodes target x rows changes inside is (inl (inl none)) some third made = absurd (some none.0)
found id nodes target x rows changes inside is (inl (inr are)) some third made = record {
  lasting = x;
  lasts = is;
  said = are;
  still = still_lasts id nodes target x is;
  lead = drops id nodes target x rows changes inside is are made;
}
found id nodes target x rows changes inside is (inr older) some third made = absurd (third older.older)

-- ---- a content that has these rows
get_loaded : (rows : List Row) (c : Content) → map entry_of rows ≡ entries c → (key : Key) → get (content_of rows) key ≡ get c key
get_loaded rows c is key = get-from_entries keys_total (map entry_of rows) key ∙ ap (find key_cmp key) is ∙ sym (get-entries c key)

pub content_drops : (id nodes : ℕ) (target : Target) (rows : List Row) (changes : List Change) (old new : Content) → AreDropped rows id nodes target changes → map entry_of rows ≡ entries old → new ≡ after_all old changes
    → IsDropped id nodes target old new
content_drops id nodes target rows changes old new are loaded made =
    let were : (key : Key) → get old key ≡ node_row id are.lasting key = λ key. sym (get_loaded rows old loaded key) ∙ are.said.are key in
    record {
      lasting = are.lasting;
      lasts = are.lasts;
      were = were;
      still = are.still;
      are = λ key. ap (λ c. get c key) made ∙ content_follows old (node_row id are.lasting) (node_row id (dropped target are.lasting)) changes were are.lead key;
    }
