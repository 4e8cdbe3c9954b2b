-- A row that is put in its place among rows.
use Rattle.std.proofs.Common.{◌≡◌, ◌≢◌, true, false, ℕ, suc, ◌+◌, ◌<◌, ◌≤◌, List, [], ◌∷◌, ◌++◌, map, length, take, drop, get_or, append_assoc, Ordering, Less, Equal, Greater, Option, Some, None, arith, refl, sym, ap, subst, ◌∙◌}
use Rattle.std.specs.FinMap.{find}
use Rattle.std.specs.FinMap.Entries.{put, by_order}
use Rattle.std.specs.List.{insert}
use Rattle.std.specs.Ordering.{is_eq}
use Rattle.std.proofs.Math.ListN.{set}
use Rattle.std.proofs.lemmas.List.{take-append-drop, take-set, drop-set, drop_all}
use Rattle.row_store.specs.declared.row.Row.{Row}
use Rattle.row_store.specs.Rows.{Key, entry_of, key_cmp, key_of, Plain}
use Rattle.row_store.proofs.Keys.{exact_keys}
use Rattle.node_rows.proofs.Counted.{all_before_end, left_at, mapped_both, taken_more}
use Rattle.node_rows.proofs.Lists.{find_both, other_key, same_key, itself}

-- the rows before the place are all below the row: it is put among the later ones
abbrev pub IsPlaced : (rows : List Row) → ℕ → Row → Type 0
IsPlaced rows i new = put key_cmp (key_of new) new.value.items (map entry_of rows) ≡ map entry_of (take i rows) ++ put key_cmp (key_of new) new.value.items (map entry_of (drop i rows))

set_is : (rows : List Row) (i : ℕ) (new : Row) → i < length rows → set rows i new ≡ take i rows ++ (new ∷ drop (i + 1) rows)
set_is rows i new lt = sym (take-append-drop i (set rows i new)) ∙ (λ j. take-set rows i new j ++ drop-set rows i new lt j)

module _ (rows : List Row) (i : ℕ) (r new : Row) (lt : i < length rows) (at : r ≡ get_or rows i r) (placed : IsPlaced rows i new) where
  there : (o : Ordering) → key_cmp (key_of new) (key_of r) ≡ o
      → put key_cmp (key_of new) new.value.items (map entry_of rows) ≡ map entry_of (take i rows) ++ by_order o (entry_of new ∷ entry_of r ∷ map entry_of (drop (i + 1) rows)) ((key_of r, new.value.items) ∷ map entry_of (drop (i + 1) rows)) (entry_of r ∷ put key_cmp (key_of new) new.value.items (map entry_of (drop (i + 1) rows)))
  there o is =
      placed ∙ ap (λ (es : List Plain). map entry_of (take i rows) ++ es) (ap (put key_cmp (key_of new) new.value.items) (left_at rows i r lt at)
      ∙ ap (λ p. by_order p (entry_of new ∷ entry_of r ∷ map entry_of (drop (i + 1) rows)) ((key_of r, new.value.items) ∷ map entry_of (drop (i + 1) rows)) (entry_of r ∷ put key_cmp (key_of new) new.value.items (map entry_of (drop (i + 1) rows)))) is)

  pub placed_before : key_cmp (key_of new) (key_of r) ≡ Less → map entry_of (insert rows i new) ≡ put key_cmp (key_of new) new.value.items (map entry_of rows)
  placed_before low =
      mapped_both (take i rows) (new ∷ drop i rows) ∙ ap (λ (es : List Plain). map entry_of (take i rows) ++ (entry_of new ∷ es)) (left_at rows i r lt at) ∙ sym (there Less low)

  pub placed_over : key_cmp (key_of new) (key_of r) ≡ Equal → map entry_of (set rows i new) ≡ put key_cmp (key_of new) new.value.items (map entry_of rows)
  placed_over same =
      ap (map entry_of) (set_is rows i new lt) ∙ mapped_both (take i rows) (new ∷ drop (i + 1) rows)
      ∙ ap (λ (q : Key). map entry_of (take i rows) ++ ((q, new.value.items) ∷ map entry_of (drop (i + 1) rows))) (exact_keys (key_of new) (key_of r) same) ∙ sym (there Equal same)

  pub placed_behind : key_cmp (key_of new) (key_of r) ≡ Greater → IsPlaced rows (i + 1) new
  placed_behind high =
      let later = put key_cmp (key_of new) new.value.items (map entry_of (drop (i + 1) rows)) in
      there Greater high ∙ sym (append_assoc (map entry_of (take i rows)) (entry_of r ∷ []) later) ∙ ap (λ (es : List Plain). es ++ later) (sym (taken_more rows i r lt at))

pub placed_last : (rows : List Row) (i : ℕ) (new : Row) → length rows ≤ i → IsPlaced rows i new → map entry_of (rows ++ new ∷ []) ≡ put key_cmp (key_of new) new.value.items (map entry_of rows)
placed_last rows i new end placed =
    mapped_both rows (new ∷ [])
    ∙ sym (placed ∙ ap (λ (es : List Plain). es ++ put key_cmp (key_of new) new.value.items (map entry_of (drop i rows))) (all_before_end rows i end)
    ∙ ap (λ (rs : List Row). map entry_of rows ++ put key_cmp (key_of new) new.value.items (map entry_of rs)) (drop_all i rows end))

-- ---- the value that is found at a key
module _ (rows : List Row) (i : ℕ) (r : Row) (q : Key) (lt : i < length rows) (at : r ≡ get_or rows i r) (none : find key_cmp q (map entry_of (take i rows)) ≡ None) where
  pub found_here : key_of r ≡ q → Some r.value.items ≡ find key_cmp q (map entry_of rows)
  found_here is =
      let cut : map entry_of rows ≡ map entry_of (take i rows) ++ (entry_of r ∷ map entry_of (drop (i + 1) rows)) =
      ap (map entry_of) (sym (take-append-drop i rows)) ∙ mapped_both (take i rows) (drop i rows) ∙ ap (λ (es : List Plain). map entry_of (take i rows) ++ es) (left_at rows i r lt at)
      in
      let same : same_key q (key_of r) ≡ true = ap (same_key q) is ∙ itself q in
      sym (ap (find key_cmp q) cut ∙ find_both q (map entry_of (take i rows)) (entry_of r ∷ map entry_of (drop (i + 1) rows)) ∙ rw (none, same) refl)

  pub found_later : key_of r ≢ q → find key_cmp q (map entry_of (take (i + 1) rows)) ≡ None
  found_later apart =
      let other : same_key q (key_of r) ≡ false = other_key q (key_of r) (λ e. apart (sym e)) in
      ap (find key_cmp q) (taken_more rows i r lt at) ∙ find_both q (map entry_of (take i rows)) (entry_of r ∷ []) ∙ rw (none, other) refl
