-- Lists of changes.
use Rattle.std.proofs.Common.{◌≡◌, ℕ, zero, suc, ◌<◌, ◌+◌, List, [], ◌∷◌, ◌++◌, map, length, take, get_or, Option, Some, refl, sym, ap, ◌∙◌, append_assoc, append-nil, arith}
use Rattle.std.proofs.lemmas.List.{take_more, map-append}
use Rattle.qos_handshakes.specs.declared.copies.Entry.{Entry}
use Rattle.qos_handshakes.specs.Entries.{Entries, at_place}
use Rattle.row_store.specs.declared.row.Row.{Row}
use Rattle.row_store.specs.declared.row.Change.{Change}
use Rattle.row_store.specs.declared.row.Change.TheVariants.{Put}
use Rattle.row_store.specs.Rows.{Key, entry_of}
use Rattle.session_rows.specs.Changes.{PlainChange, plain_of, copy_change, copy_changes}
use Rattle.session_rows.specs.Fields.{copy, copy_of}
use Rattle.std.proofs.Common.{◌≢◌}
use Rattle.std.proofs.lemmas.Cmp.{ranked}
use Rattle.std.proofs.lemmas.Map.Keys.{sorted_head, sorted_tail}
use Rattle.std.specs.declared.cmp.Ordering.TheVariants.{Less}
use Rattle.std.specs.List.{AllByRecursion}
use Rattle.std.specs.List.Sorted.{IsStrictlySortedBy}
use Rattle.std.specs.Map.{keys_of}
use Rattle.std.specs.Ordering.{nat_cmp}
use Rattle.qos_handshakes.proofs.Indexed.{is_at-here, is_at-apart}
use Rattle.session_rows.proofs.WrittenLaws.{none-of}
use Rattle.session_rows.specs.Rows.{main_key, copy_key, row_at, rows_at, copy_rows}

pushed : (old new : List Change) (c : Change) (p : PlainChange) → new ≡ old ++ c ∷ [] → plain_of c ≡ p → map plain_of new ≡ map plain_of old ++ p ∷ []
pushed old new c p is same = ap (map plain_of) is ∙ map-append plain_of old (c ∷ []) ∙ ap (λ x. map plain_of old ++ x ∷ []) same

put-plain : (row : Row) (k : Key) (v : List ℕ) → entry_of row ≡ (k, v) → plain_of (Put row) ≡ (k, Some v)
put-plain row k v e = (λ i. ((e i).0, Some (e i).1))

pub pushed-put : (old new : List Change) (row : Row) (client : List ℕ) (next place : ℕ) (o : Option Entry) (x : Entry) → new ≡ old ++ Put row ∷ [] → entry_of row ≡ (copy_key client place, copy.bytes (copy_of x)) → Some x ≡ o
    → map plain_of new ≡ map plain_of old ++ copy_change client next place o
pushed-put old new row client next place o x is same there = rw (← there) (pushed old new (Put row) _ is (put-plain row _ _ same))

pub changes-next : (client : List ℕ) (next : ℕ) (es : Entries) (ps : List ℕ) (i : ℕ) → i < length ps → copy_changes client next es (take (i + 1) ps) ≡ copy_changes client next es (take i ps) ++ copy_change client next (get_or ps i 0) (at_place (get_or ps i 0) es)
changes-next client next es ps i lt = ap (copy_changes client next es) (take_more ps i 0 lt) ∙ last (take i ps)
  where
    last : (qs : List ℕ) → copy_changes client next es (qs ++ get_or ps i 0 ∷ []) ≡ copy_changes client next es qs ++ copy_change client next (get_or ps i 0) (at_place (get_or ps i 0) es)
    last [] = append-nil _
    last (q ∷ qs) = ap (λ r. copy_change client next q (at_place q es) ++ r) (last qs) ∙ sym (append_assoc (copy_change client next q (at_place q es)) _ _)

pub changes-step : (client : List ℕ) (next : ℕ) (es : Entries) (ps : List ℕ) (i : ℕ) (base now new : List PlainChange) → i < length ps → new ≡ now ++ copy_change client next (get_or ps i 0) (at_place (get_or ps i 0) es)
    → now ≡ base ++ copy_changes client next es (take i ps) → new ≡ base ++ copy_changes client next es (take (i + 1) ps)
changes-step client next es ps i base now new lt one so_far =
    one ∙ ap (λ r. r ++ copy_change client next (get_or ps i 0) (at_place (get_or ps i 0) es)) so_far
    ∙ append_assoc base (copy_changes client next es (take i ps)) (copy_change client next (get_or ps i 0) (at_place (get_or ps i 0) es)) ∙ ap (λ r. base ++ r) (sym (changes-next client next es ps i lt))

-- where one of the places has a change there are some
pub changes-some : (client : List ℕ) (next : ℕ) (es : Entries) (ps : List ℕ) (i : ℕ) → i < length ps → copy_change client next (get_or ps i 0) (at_place (get_or ps i 0) es) ≢ [] → copy_changes client next es ps ≢ []
changes-some client next es [] i lt some = absurd (omega (arith, lt))
changes-some client next es (p ∷ ps) zero lt some = λ e. some (none-of (copy_change client next p (at_place p es)) (copy_changes client next es ps) e).0
changes-some client next es (p ∷ ps) (suc i) lt some = λ e. changes-some client next es ps i (omega (arith, lt)) some (none-of (copy_change client next p (at_place p es)) (copy_changes client next es ps) e).1

-- ---- rows
pub rows-step : (client : List ℕ) (es : Entries) (ps : List ℕ) (i : ℕ) (base now new : List (Key × List ℕ)) → i < length ps → new ≡ now ++ row_at client (get_or ps i 0) (at_place (get_or ps i 0) es)
    → now ≡ base ++ rows_at client es (take i ps) → new ≡ base ++ rows_at client es (take (i + 1) ps)
rows-step client es ps i base now new lt one so_far =
    one ∙ ap (λ r. r ++ row_at client (get_or ps i 0) (at_place (get_or ps i 0) es)) so_far
    ∙ append_assoc base (rows_at client es (take i ps)) (row_at client (get_or ps i 0) (at_place (get_or ps i 0) es)) ∙ ap (λ r. base ++ r) (sym next)
  where
    last : (qs : List ℕ) → rows_at client es (qs ++ get_or ps i 0 ∷ []) ≡ rows_at client es qs ++ row_at client (get_or ps i 0) (at_place (get_or ps i 0) es)
    last [] = append-nil _
    last (q ∷ qs) = ap (λ r. row_at client q (at_place q es) ++ r) (last qs) ∙ sym (append_assoc (row_at client q (at_place q es)) _ _)

    next : rows_at client es (take (i + 1) ps) ≡ rows_at client es (take i ps) ++ row_at client (get_or ps i 0) (at_place (get_or ps i 0) es)
    next = ap (rows_at client es) (take_more ps i 0 lt) ∙ last (take i ps)

-- at places past the first one it stands out
rows-past : (client : List ℕ) (e : ℕ × Entry) (es : Entries) (ps : List ℕ) → AllByRecursion (λ p. nat_cmp e.0 p ≡ Less) ps → rows_at client (e ∷ es) ps ≡ rows_at client es ps
rows-past client e es [] past = refl
rows-past client e es (p ∷ ps) past =
    let lt : e.0 < p = ranked e.0 p Less (sym past.0) in
    let apart : e.0 ≢ p = omega arith in
    rw (is_at-apart p e.0 apart, rows-past client e es ps past.1) refl

pub rows-all : (client : List ℕ) (es : Entries) → IsStrictlySortedBy nat_cmp (keys_of es) → rows_at client es (keys_of es) ≡ copy_rows client es
rows-all client [] sorted = refl
rows-all client (e ∷ es) sorted =
    rw (is_at-here e.0 e.0 refl, rows-past client e es (keys_of es) (sorted_head nat_cmp e.0 (keys_of es) sorted), rows-all client es (sorted_tail nat_cmp e.0 (keys_of es) sorted)) refl

pub pushed-row : (old new : List Row) (row : Row) (client : List ℕ) (place : ℕ) (o : Option Entry) (x : Entry) → new ≡ old ++ row ∷ [] → entry_of row ≡ (copy_key client place, copy.bytes (copy_of x)) → Some x ≡ o
    → map entry_of new ≡ map entry_of old ++ row_at client place o
pushed-row old new row client place o x is same there = rw (← there) (ap (map entry_of) is ∙ map-append entry_of old (row ∷ []) ∙ ap (λ y. map entry_of old ++ y ∷ []) same)

pub rows-made : (client value : List ℕ) (es : Entries) (ps : List ℕ) (none one all : List Row) (row : Row) → none ≡ [] → one ≡ none ++ row ∷ [] → entry_of row ≡ (main_key client, value) → ps ≡ keys_of es → IsStrictlySortedBy nat_cmp (keys_of es)
    → map entry_of all ≡ map entry_of one ++ rows_at client es ps → map entry_of all ≡ (main_key client, value) ∷ copy_rows client es
rows-made client value es ps none one all row empty first own places sorted is =
    let alone : map entry_of one ≡ (main_key client, value) ∷ [] = rw (first, empty) (ap (λ y. y ∷ []) own) in
    is ∙ rw (alone, places) (ap (λ ys. (main_key client, value) ∷ ys) (rows-all client es sorted))
