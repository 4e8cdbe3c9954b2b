-- Rows say one thing at most of a node.
use Rattle.std.proofs.Common.{◌≡◌, ◌≢◌, ◌⊎◌, inl, inr, ℕ, ◌<◌, ◌^◌, true, false, List, [], ◌∷◌, map as map_list, drop, Option, Some, None, arith, refl, sym, ap, subst, ◌∙◌}
use Rattle.std.specs.FinMap as map
use Rattle.std.specs.Int.{w64}
use Rattle.std.specs.List.{AllByRecursion}
use Rattle.std.proofs.lemmas.Bool.{cases_Bool, cases_eq, cases_lt}
use Rattle.mqtt_fields.specs.Numbers.{number}
use Rattle.mqtt_fields.proofs.NumberLaws.{number_is, wide64}
use Rattle.row_store.specs.declared.row.Row.{Row}
use Rattle.row_store.specs.Rows.{Key, content_of, entry_of, key_cmp}
use Rattle.row_store.proofs.Keys.{keys_total}
use Rattle.session_rows.specs.Durable.{Durable, IsDurable}
use Rattle.session_rows.specs.Fields.{main}
use Rattle.session_rows.specs.Reading.{durable_in, whole}
use Rattle.session_rows.specs.Rows.{main_key, copy_rows, rows_of}
use Rattle.session_rows.proofs.DurableLaws.{durable_again, whole_again}
use Rattle.replica_rows.proofs.OneStore.{one_store}
use Rattle.node_rows.specs.Reading.{AreNodeRows, IsLasting, RowsTellAll, SayOneThing}
use Rattle.node_rows.specs.Versions.{AreOlder}
use Rattle.node_rows.specs.Rows.{Lasting, mark, mark_key, new_node, node_row, session_row}
use Rattle.node_rows.proofs.Clients.{client_is, client_itself, copies_of, rows_rise, same_client}
use Rattle.node_rows.proofs.Cuts.{copy_kind, last_row, no_high_row, no_low_row, other_row, own_kind}
use Rattle.node_rows.proofs.Lanes.{lane_high, lane_row, lanes_tell, low_row}
use Rattle.node_rows.proofs.Lists.{all_turned, find_none, itself, one_list}
use Rattle.node_rows.proofs.Raising.{not_both}

-- ---- the number in the mark
one_number : (n m : ℕ) → Some n ≡ Some m → n ≡ m
one_number n m e = cc

one_value : (v w : List ℕ) → Some v ≡ Some w → v ≡ w
one_value v w e = cc

one_name : (id n m : ℕ) → n < 2 ^ 62 → m < 2 ^ 62 → mark id n ≡ mark id m → n ≡ m
one_name id n m low also same =
    let bytes : (number w64).bytes n ≡ (number w64).bytes m = ap (drop 4) same in
    one_number n m (sym (whole_again (number w64) (number_is w64 wide64) n (omega (arith, low))) ∙ ap (whole (number w64)) bytes ∙ whole_again (number w64) (number_is w64 wide64) m (omega (arith, also)))

-- ---- a session
abbrev IsTheirs : List ℕ → Key → Type 0
IsTheirs client k = (k.1.0 ≡ client) × ((k.0 ≡ 2) ⊎ (k.0 ≡ 3))

theirs : (d : Durable) → AllByRecursion (λ e. IsTheirs d.client e.0) (rows_of d)
theirs d = ((refl, inl refl), all_turned _ (λ e. IsTheirs d.client e.0) (copy_rows d.client d.copies) (λ e h. (h.1, inr h.0)) (copies_of d.client d.copies))

-- whether a key is theirs
is_theirs : (client : List ℕ) (q : Key) → IsTheirs client q ⊎ (IsTheirs client q → ⊥)
is_theirs client q = elim (cases_Bool (same_client q.1.0 client)) [
  | inr other ↦ inr (λ h. (let bad : true ≡ false = sym (client_itself client) ∙ ap (λ c. same_client c client) (sym h.0) ∙ other in cc))
  | inl same ↦ elim (cases_eq q.0 2) [
    | inl two ↦ inl (client_is q.1.0 client same, inl two)
    | inr not_two ↦ elim (cases_eq q.0 3) [
      | inl three ↦ inl (client_is q.1.0 client same, inr three)
      | inr not_three ↦ inr (λ h. elim h.1 [ inl two ↦ not_two two | inr three ↦ not_three three ])
    ]
  ]
]

abbrev AreAlike : List ℕ → Option Durable → Option Durable → Type 0
AreAlike client o p = (q : Key) → IsTheirs client q → session_row o q ≡ session_row p q

abbrev IsSessionOf : List ℕ → Durable → Type 0
IsSessionOf client d = IsDurable d × (d.client ≡ client)

same_rows : (client : List ℕ) (d e : Durable) → d.client ≡ client → e.client ≡ client → AreAlike client (Some d) (Some e) → (q : Key) → map.find key_cmp q (rows_of d) ≡ map.find key_cmp q (rows_of e)
same_rows client d e own also same q = elim (is_theirs client q) [
  | inl h ↦ sym (map.get-from_entries keys_total (rows_of d) q) ∙ same q h ∙ map.get-from_entries keys_total (rows_of e) q
  | inr not ↦ none d own q not ∙ sym (none e also q not)
]
  where
    none : (x : Durable) → x.client ≡ client → (q : Key) → (IsTheirs client q → ⊥) → map.find key_cmp q (rows_of x) ≡ None
    none x is q not = find_none q (IsTheirs x.client) (rows_of x) (theirs x) (λ h. not (h.0 ∙ is, h.1))

one_durable : (d e : Durable) → Some d ≡ Some e → d ≡ e
one_durable d e is = cc

same_session : (client : List ℕ) (d e : Durable) → IsSessionOf client d → IsSessionOf client e → AreAlike client (Some d) (Some e) → d ≡ e
same_session client d e a b same =
    let rows = one_list (rows_of d) (rows_of e) (rows_rise d a.0) (rows_rise e b.0) (same_rows client d e a.1 b.1 same) in
    one_durable d e (sym (durable_again d a.0.form) ∙ ap durable_in rows ∙ durable_again e b.0.form)

has_own : (client : List ℕ) (d : Durable) → d.client ≡ client → None ≡ session_row (Some d) (main_key client) → ⊥
has_own client d is none = no_value (main.bytes d.main) (none ∙ map.get-from_entries keys_total (rows_of d) (main_key client) ∙ rw (is, itself (main_key client)) refl)
  where
    no_value : (v : List ℕ) → None ≡ Some v → ⊥
    no_value v e = cc

one_session : (client : List ℕ) (o p : Option Durable) → ((d : Durable) → o ≡ Some d → IsSessionOf client d) → ((d : Durable) → p ≡ Some d → IsSessionOf client d) → AreAlike client o p → o ≡ p
one_session client None None a b same = refl
one_session client None (Some e) a b same = absurd (has_own client e (b e refl).1 (same (main_key client) (refl, inl refl)))
one_session client (Some d) None a b same = absurd (has_own client d (a d refl).1 (sym (same (main_key client) (refl, inl refl))))
one_session client (Some d) (Some e) a b same = ap Some (same_session client d e (a d refl) (b e refl) same)

-- ---- a node
module _ (nodes id : ℕ) (x y : Lasting) (a : IsLasting id nodes x) (b : IsLasting id nodes y) (same : (key : Key) → node_row id x key ≡ node_row id y key) where
  same_named : x.named ≡ y.named
  same_named = one_name id x.named y.named a.named b.named (one_value (mark id x.named) (mark id y.named) (same mark_key))

  same_sessions : (client : List ℕ) → x.sessions client ≡ y.sessions client
  same_sessions client = one_session client (x.sessions client) (y.sessions client) (a.sessions client) (b.sessions client) (λ q h. by q h.0 h.1)
    where
      moved : (q : Key) → q.1.0 ≡ client → session_row (x.sessions q.1.0) q ≡ session_row (y.sessions q.1.0) q → session_row (x.sessions client) q ≡ session_row (y.sessions client) q
      moved q is e = subst (λ (c : List ℕ). session_row (x.sessions c) q ≡ session_row (y.sessions c) q) is e

      by : (q : Key) → q.1.0 ≡ client → (q.0 ≡ 2) ⊎ (q.0 ≡ 3) → session_row (x.sessions client) q ≡ session_row (y.sessions client) q
      by q is (inl two) = moved q is (sym (own_kind id x q two) ∙ same q ∙ own_kind id y q two)
      by q is (inr three) = moved q is (sym (copy_kind id x q three) ∙ same q ∙ copy_kind id y q three)

  same_last : (q : Key) → 3 < q.0 → last_row x q ≡ last_row y q
  same_last q high =
      let one : q.0 ≢ 1 = λ e. absurd (omega (arith, e, high)) in
      let two : q.0 ≢ 2 = λ e. absurd (omega (arith, e, high)) in
      let three : q.0 ≢ 3 = λ e. absurd (omega (arith, e, high)) in
      sym (other_row id x q one two three) ∙ same q ∙ other_row id y q one two three

  same_store : x.store ≡ y.store
  same_store = one_store x.store y.store a.store b.store (λ q. elim (cases_lt 3 q.0) [
    | inr low ↦ no_low_row x.store q low ∙ sym (no_low_row y.store q low)
    | inl high ↦ elim (cases_lt 6 q.0) [
      | inl higher ↦ no_high_row x.store q higher ∙ sym (no_high_row y.store q higher)
      | inr low ↦ sym (low_row x q low) ∙ same_last q high ∙ low_row y q low
    ]
  ])

  same_lanes : x.lanes ≡ y.lanes
  same_lanes = lanes_tell nodes x y a.few a.lanes b.lanes (λ q is. sym (lane_row x q is) ∙ same_last q (let high = lane_high q.0 is in omega (arith, high)) ∙ lane_row y q is)

pub rows_tell_all : RowsTellAll
rows_tell_all nodes id x y a b same =
    let named = same_named nodes id x y a b same in
    let sessions = same_sessions nodes id x y a b same in
    let store = same_store nodes id x y a b same in
    let lanes = same_lanes nodes id x y a b same in
    λ i. record { named = named i; sessions = λ client. sessions client i; store = store i; lanes = lanes i }

no_mark : (id : ℕ) (rows : List Row) (x : Lasting) → rows ≡ [] → AreNodeRows rows id x → ⊥
no_mark id rows x none are = (let other : None ≡ Some (mark id x.named) = sym (map.get-from_entries keys_total [] mark_key) ∙ ap (λ (es : List Row). map.get (content_of es) mark_key) (sym none) ∙ are.are mark_key in cc)

-- the mark is of one version
pub two_marks : (id : ℕ) (rows : List Row) (x : Lasting) → AreNodeRows rows id x → AreOlder (map_list entry_of rows) → ⊥
two_marks id rows x are first = not_both id x.named (map_list entry_of rows) (sym (map.get-from_entries keys_total (map_list entry_of rows) mark_key) ∙ are.are mark_key) first

pub no_first : (rows : List Row) → rows ≡ [] → AreOlder (map_list entry_of rows) → ⊥
no_first [] none first = first
no_first (row ∷ rows) none first = absurd (cc)

pub say_one_thing : SayOneThing
say_one_thing nodes id rows x y a b (inl (inl h)) (inl (inl k)) = h.1 ∙ ap new_node (a.lanes.count ∙ sym b.lanes.count) ∙ sym k.1
say_one_thing nodes id rows x y a b (inl (inl h)) (inl (inr are)) = absurd (no_mark id rows y h.0 are)
say_one_thing nodes id rows x y a b (inl (inl h)) (inr older) = absurd (no_first rows h.0 older.older)
say_one_thing nodes id rows x y a b (inl (inr are)) (inl (inl k)) = absurd (no_mark id rows x k.0 are)
say_one_thing nodes id rows x y a b (inl (inr are)) (inl (inr also)) = rows_tell_all nodes id x y a b (λ key. sym (are.are key) ∙ also.are key)
say_one_thing nodes id rows x y a b (inl (inr are)) (inr older) = absurd (two_marks id rows x are older.older)
say_one_thing nodes id rows x y a b (inr older) (inl (inl k)) = absurd (no_first rows k.0 older.older)
say_one_thing nodes id rows x y a b (inr older) (inl (inr are)) = absurd (two_marks id rows y are older.older)
say_one_thing nodes id rows x y a b (inr older) (inr also) = rows_tell_all nodes id x y a b (λ key. sym (older.are key) ∙ also.are key)
