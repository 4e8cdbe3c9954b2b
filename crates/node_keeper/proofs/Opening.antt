-- What a node is that is opened from its rows.
use Rattle.std.proofs.Common.{◌≡◌, ◌⊎◌, ℕ, T, List, [], ◌∷◌, map as map_list, Option, Some, None, Result, Ok, Err, IfOk, OnOk, OnErr, length, arith, refl, sym, ap, subst, ◌∙◌, inl, inr}
use Rattle.std.proofs.lemmas.List.{length-map}
use Rattle.std.specs.Option.{option_map}
use Rattle.std.specs.FinMap as map
use Rattle.std.specs.FinMap.{get-insert, get-empty, get-entries, get-from_entries, entries_sorted, empty_of_len, len-entries, same_map}
use Rattle.broker_node.specs.Opening.{IsOpenedFrom}
use Rattle.home_table.specs.Table.{Table}
use Rattle.mqtt_sessions.specs.Saved.{durable_of}
use Rattle.node_keeper.specs.Keeping.{RowsAreKept, AreLasting, AreOfNone, HaveOneVersion, HoldsWhatLasts, LastsIn, OpeningKeepsWhatLasts, OpensFromRows, are_raised, given_mark, marked_or_raised, may_be_raised, may_be_marked, only_mark}
use Rattle.node_rows.specs.Reading.{IsLasting, Say, SayNothing}
use Rattle.node_rows.specs.Sessions.{opened_seat}
use Rattle.node_rows.specs.Versions.{AreOlder, Raise, raised_all, raised_content}
use Rattle.node_rows.proofs.OneNode.{two_marks}
use Rattle.node_rows.proofs.Raising.{not_both}
use Rattle.node_rows.specs.Rows.{Lasting, mark, mark_key, node_row}
use Rattle.node_work.specs.Lasting.{IsWoken, held_row, lasting}
use Rattle.node_work.specs.View.{HeldView, NodeView, Place, nodes_of, place_of}
use Rattle.row_store.specs.declared.row.Row.{Row}
use Rattle.row_store.specs.Leading.{left_by, left_or}
use Rattle.row_store.proofs.Leaving.{changes_leave}
use Rattle.row_store.specs.declared.row.Change.{Change}
use Rattle.row_store.specs.Rows.{Content, Key, after_all, content_of, entry_of, key_cmp, Plain}
use Rattle.row_store.proofs.Keys.{exact_keys, keys_total}
use Rattle.session_rows.specs.Durable.{Durable, IsDurable}
use Rattle.session_table.specs.Seats.{Seat}
use Rattle.session_table.proofs.RowLaws.{durable-again}

-- ---- what a node that was opened holds

again : (o : Option Durable) → ((d : Durable) → o ≡ Some d → IsDurable d) → option_map (λ (s : Seat). durable_of s.session) (option_map opened_seat o) ≡ o
again None can = refl
again (Some d) can = ap Some (durable-again d (can d refl))

-- lasts as it did
lasts_again : (id nodes : ℕ) (homes : Table) (x : Lasting) (h : HeldView) → IsLasting id nodes x → IsWoken homes x h → lasting h ≡ x
lasts_again id nodes homes x h can is =
    let same : (client : List ℕ) → option_map (λ (s : Seat). durable_of s.session) (map.get is.0 client) ≡ x.sessions client =
    λ client. ap (option_map (λ (s : Seat). durable_of s.session)) (is.1 client) ∙ again (x.sessions client) (λ d at. (can.sessions client d at).0)
    in
    ap lasting is.2 ∙ (λ i. record { named = x.named; sessions = λ client. same client i; store = x.store; lanes = x.lanes })

pub kept_again : (p : Place) (homes : Table) (c : Content) (n : NodeView) → HoldsWhatLasts p homes c n → RowsAreKept n c
kept_again p homes c n r h up key =
    let same : r.held ≡ h = cc (ap (λ (x : NodeView). x.up) r.is, up) in
    r.are.1 key
    ∙ ap (λ (x : Lasting). node_row p.id x key) (sym (lasts_again p.id (nodes_of p) homes r.lasting r.held r.are.0 r.woken))
    ∙ ap (λ (x : HeldView). held_row p.id x key) same
    ∙ ap (λ (x : NodeView). held_row x.place.id h key) (sym r.is)

-- ---- the rows that were loaded

get_loaded : (rows : List Row) (c : Content) → map_list entry_of rows ≡ map.entries c → (key : Key) → map.get (content_of rows) key ≡ map.get c key
get_loaded rows c is key = get-from_entries keys_total (map_list entry_of rows) key ∙ ap (map.find key_cmp key) is ∙ sym (get-entries c key)

pub none_loaded : (rows : List Row) (c : Content) → rows ≡ [] → map_list entry_of rows ≡ map.entries c → c ≡ map.empty
none_loaded rows c none is = empty_of_len c (len-entries c ∙ ap length (sym is ∙ ap (map_list entry_of) none))

pub left_rows : (rows : List Row) (c : Content) → (length rows ≡ 0 → ⊥) → map_list entry_of rows ≡ map.entries c → ¬ (c ≡ map.empty)
left_rows rows c some is none = some (sym (length-map rows entry_of) ∙ ap length is ∙ sym (len-entries c) ∙ ap map.len none ∙ map.len-empty key_cmp (List ℕ))

pub no_rows : (rows : List Row) → length rows ≡ 0 → rows ≡ []
no_rows [] is = refl
no_rows (r ∷ rows) is = absurd (omega arith)

-- ---- the mark

pub marks : (id : ℕ) (old mid put new : Content) → old ≡ map.empty → mid ≡ old → put ≡ map.insert mid mark_key (mark id 0) → new ≡ put → (old ≡ map.empty) × (new ≡ only_mark id)
marks id old mid put new none same made kept = (none, kept ∙ made ∙ ap (λ (m : Content). map.insert m mark_key (mark id 0)) (same ∙ none))

-- what holds of a good answer, where something else holds of each
pub with_ok : {A E P : Type 0} {Q S : A → Type 0} (r : Result A E) → OnOk r P → IfOk r Q → (P → (a : A) → Q a → S a) → IfOk r S
with_ok (Ok a) p q f = f p a q
with_ok (Err e) p q f = tt

pub marked_may : (id : ℕ) (old new : Content) → given_mark id old new → may_be_marked id old new
marked_may id old new (inl m) = inr m
marked_may id old new (inr m) = inl m.1

pub on_err : {A E P : Type 0} (r : Result A E) → P → OnErr r P
on_err (Ok x) p = tt
on_err (Err e) p = p

-- it is a row
some_row : (id : ℕ) (old c : Content) → given_mark id old c → ¬ (c ≡ map.empty)
some_row id old c (inl m) none =
    let here : map.get c mark_key ≡ Some (mark id 0) = ap (λ (x : Content). map.get x mark_key) m.1 ∙ get-insert keys_total map.empty mark_key (mark id 0) mark_key in
    let gone : map.get c mark_key ≡ None = ap (λ (x : Content). map.get x mark_key) none ∙ get-empty key_cmp mark_key in
    cc (here, gone)
some_row id old c (inr m) none = m.0 (sym m.1 ∙ none)

-- ---- rows of older versions

-- the mark of a new node is of version 3
new_mark : (id : ℕ) (c : Content) → c ≡ only_mark id → ¬ AreOlder (map.entries c)
new_mark id c is = not_both id 0 (map.entries c) (sym (get-entries c mark_key) ∙ ap (λ (x : Content). map.get x mark_key) is ∙ get-insert keys_total map.empty mark_key (mark id 0) mark_key)

pub raised_after : (rows : List Row) (c : Content) (changes : List Change) → map_list entry_of rows ≡ map.entries c → Raise (map_list entry_of rows) changes → after_all c changes ≡ raised_content c
raised_after rows c changes is raise =
    let lead = (subst (λ es. Raise es changes) is raise).lead (entries_sorted c) in
    same_map keys_total exact_keys (after_all c changes) (raised_content c)
    (λ key. changes_leave c changes key ∙ ap (left_or (left_by changes key)) (get-entries c key) ∙ sym (lead key) ∙ sym (get-from_entries keys_total (raised_all (map.entries c)) key))

pub stays_older : (rows : List Row) (c : Content) → map_list entry_of rows ≡ map.entries c → AreOlder (map_list entry_of rows) → AreOlder (map.entries c)
stays_older rows c is first = subst AreOlder is first

pub not_older : (rows : List Row) (c : Content) → map_list entry_of rows ≡ map.entries c → (AreOlder (map_list entry_of rows) → ⊥) → ¬ AreOlder (map.entries c)
not_older rows c is not first = not (subst AreOlder (sym is) first)

-- the rows that were there are marked, and then raised
pub both : (id : ℕ) (old mid new : Content) → given_mark id old mid → are_raised mid new → marked_or_raised id old new
both id old mid new (inl m) (inl r) = absurd (new_mark id mid m.1 r.0)
both id old mid new (inl m) (inr r) = inl (m.0, r.1 ∙ m.1)
both id old mid new (inr m) r = inr (m.0, subst (λ (c : Content). are_raised c new) m.1 r)

pub may_be_both : (id : ℕ) (old mid new : Content) → given_mark id old mid → (new ≡ mid) ⊎ are_raised mid new → may_be_raised id old new
may_be_both id old mid new m (inl e) = inl (subst (may_be_marked id old) (sym e) (marked_may id old mid m))
may_be_both id old mid new m (inr (inr r)) = inl (subst (may_be_marked id old) (sym r.1) (marked_may id old mid m))
may_be_both id old mid new (inl m) (inr (inl r)) = absurd (new_mark id mid m.1 r.0)
may_be_both id old mid new (inr m) (inr (inl r)) = inr (subst (λ (c : Content). AreOlder (map.entries c) × (new ≡ raised_content c)) m.1 r)

-- ---- what they say

raised_rows : (c : Content) (rows : List Row) → map_list entry_of rows ≡ map.entries c → (key : Key) → map.get (raised_content c) key ≡ map.get {R = key_cmp} (map.from_entries (raised_all (map_list entry_of rows))) key
raised_rows c rows is key = ap (λ (es : List Plain). map.get {R = key_cmp} (map.from_entries (raised_all es)) key) (sym is)

say_lasting : (p : Place) (rows : List Row) (mid c : Content) (x : Lasting) → ¬ (mid ≡ map.empty) → map_list entry_of rows ≡ map.entries mid → are_raised mid c → IsLasting p.id (nodes_of p) x → Say rows p.id x → AreLasting p c x
say_lasting p rows mid c x some is r can (inl (inl new)) = absurd (some (none_loaded rows mid new.0 is))
say_lasting p rows mid c x some is (inl r) can (inl (inr are)) = absurd (two_marks p.id rows x are (subst AreOlder (sym is) r.0))
say_lasting p rows mid c x some is (inr r) can (inl (inr are)) = (can, λ key. ap (λ (m : Content). map.get m key) r.1 ∙ sym (get_loaded rows mid is key) ∙ are.are key)
say_lasting p rows mid c x some is (inl r) can (inr older) = (can, λ key. ap (λ (m : Content). map.get m key) r.1 ∙ raised_rows mid rows is key ∙ older.are key)
say_lasting p rows mid c x some is (inr r) can (inr older) = absurd (r.0 (subst AreOlder is older.older))

pub opens : (id : ℕ) (homes : Table) (rows : List Row) (old mid c : Content) (n : NodeView) → given_mark id old mid → map_list entry_of rows ≡ map.entries mid → are_raised mid c → IsOpenedFrom rows id homes n
    → OpensFromRows (place_of id homes) homes old c n
opens id homes rows old mid c n m is r o =
    let p = place_of id homes in
    let again : HoldsWhatLasts p homes c n = record { lasting = o.lasting; held = o.held; are = say_lasting p rows mid c o.lasting (some_row id old mid m) is r o.can_last o.say; woken = o.woken; is = o.is } in
    record { mark = both id old mid c m r; reopened = again; kept = kept_again p homes c n again }

pub none_have : (p : Place) (rows : List Row) (c : Content) → map_list entry_of rows ≡ map.entries c → SayNothing rows p.id (nodes_of p) → AreOfNone p c
none_have p rows c is nothing x (inl are) =
    nothing x are.0 (inl (inr (record { rise = subst (λ es. T (map.is_sorted key_cmp es)) (sym is) (entries_sorted c); are = λ key. get_loaded rows c is key ∙ are.1 key })))
none_have p rows c is nothing x (inr are) =
    nothing x are.0 (inr (record {
      older = subst AreOlder (sym is) are.1;
      rise = subst (λ es. T (map.is_sorted key_cmp es)) (sym is) (entries_sorted c);
      are = λ key. sym (raised_rows c rows is key) ∙ are.2 key;
    }))

-- ---- laws

has_mark : (p : Place) (c : Content) (x : Lasting) → AreLasting p c x → ¬ (c ≡ map.empty)
has_mark p c x are none =
    let here : map.get c mark_key ≡ Some (mark p.id x.named) = are.1 mark_key in
    let gone : map.get c mark_key ≡ None = ap (λ (y : Content). map.get y mark_key) none ∙ get-empty key_cmp mark_key in
    cc (here, gone)

has_older : (c : Content) → AreOlder (map.entries c) → ¬ (c ≡ map.empty)
has_older c first none = by (map.entries c) first (sym (len-entries c) ∙ ap map.len none ∙ map.len-empty key_cmp (List ℕ))
  where
    by : (rows : List Plain) → AreOlder rows → length rows ≡ 0 → ⊥
    by [] first few = first
    by (row ∷ rows) first few = absurd (omega (arith, few))

pub have_one_version : HaveOneVersion
have_one_version p rows x y are first = not_both p.id x.named (map.entries rows) (sym (get-entries rows mark_key) ∙ are.1 mark_key) first.1

pub opening_keeps : OpeningKeepsWhatLasts
opening_keeps p rows rows' x (inl (inl same)) lasts = subst (λ (c : Content). LastsIn p c x) (sym same) lasts
opening_keeps p rows rows' x (inl (inr marked_or_raised)) (inl are) = absurd (has_mark p rows x are marked_or_raised.0)
opening_keeps p rows rows' x (inl (inr marked_or_raised)) (inr older) = absurd (has_older rows older.1 marked_or_raised.0)
opening_keeps p rows rows' x (inr raised) (inl are) = absurd (not_both p.id x.named (map.entries rows) (sym (get-entries rows mark_key) ∙ are.1 mark_key) raised.0)
opening_keeps p rows rows' x (inr raised) (inr older) = inl (older.0, λ key. ap (λ (c : Content). map.get c key) raised.1 ∙ older.2 key)
