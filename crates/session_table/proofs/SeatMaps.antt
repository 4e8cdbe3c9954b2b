-- The seats in a table of the library, as the map that they are.
use Rattle.std.proofs.Common.{◌≡◌, ℕ, Bool, true, false, cond, ◌&&◌, T, List, [], ◌∷◌, map as map_list, length, suc, Option, Some, None, is_some, refl, sym, ap, subst, ◌∙◌}
use Rattle.std.specs.Ordering.{is_lt, eq_by_cmp}
use Rattle.std.specs.Cmp.Lexicographic.{nat_list_cmp_total}
use Rattle.std.specs.List.Sorted.{IsStrictlySortedBy}
use Rattle.std.specs.Map.{keys_of}
use Rattle.std.specs.Option.{option_map}
use Rattle.std.specs.FinMap.{find}
use Rattle.std.specs.FinMap.Entries.{below_all, is_sorted}
use Rattle.std.specs.FinMap as map
use Rattle.law_maps.proofs.Texts.{alike, same_text, get_inserted, get_apart, get_removed, get_left, rising, entries_sorted}
use Rattle.session_table.specs.Seats.{Seat}
use Rattle.session_table.specs.Listing.{Table, seat_of, seats_in, text_cmp}
use Rattle.session_table.specs.declared.seated.Seated.{Seated}

abbrev pub seat_entries : List (List ℕ × Seated) → List (List ℕ × Seat)
seat_entries es = map_list (λ e. (e.0, seat_of e.1)) es

find_seat : (q : List ℕ) (es : List (List ℕ × Seated)) → find text_cmp q (seat_entries es) ≡ option_map seat_of (find text_cmp q es)
find_seat q [] = refl
find_seat q (e ∷ es) =
    ap (cond (eq_by_cmp text_cmp q e.0) (Some (seat_of e.1))) (find_seat q es) ∙ by (eq_by_cmp text_cmp q e.0) (find text_cmp q es)
  where
    by : (b : Bool) (x : Option Seated) → cond b (Some (seat_of e.1)) (option_map seat_of x) ≡ option_map seat_of (cond b (Some e.1) x)
    by true x = refl
    by false x = refl

pub get_seat : (t : Table) (q : List ℕ) → map.get (seats_in t) q ≡ option_map seat_of (map.get t q)
get_seat t q = map.get-from_entries nat_list_cmp_total (seat_entries (map.entries t)) q ∙ find_seat q (map.entries t) ∙ ap (option_map seat_of) (sym (map.get-entries t q))

pub seats_empty : seats_in map.empty ≡ map.empty
seats_empty = map.same_map nat_list_cmp_total alike _ _ (λ q. get_seat map.empty q ∙ ap (option_map seat_of) (map.get-empty text_cmp q) ∙ sym (map.get-empty text_cmp q))

pub seats_insert : (t : Table) (k : List ℕ) (x : Seated) → seats_in (map.insert t k x) ≡ map.insert (seats_in t) k (seat_of x)
seats_insert t k x = map.same_map nat_list_cmp_total alike _ _ (λ q. by q (eq_by_cmp text_cmp q k) refl)
  where
    by : (q : List ℕ) (b : Bool) → eq_by_cmp text_cmp q k ≡ b → map.get (seats_in (map.insert t k x)) q ≡ map.get (map.insert (seats_in t) k (seat_of x)) q
    by q true e =
        get_seat (map.insert t k x) q ∙ ap (λ p. option_map seat_of (map.get (map.insert t k x) p)) (same_text q k e) ∙ ap (option_map seat_of) (get_inserted t k x)
        ∙ sym (ap (map.get (map.insert (seats_in t) k (seat_of x))) (same_text q k e) ∙ get_inserted (seats_in t) k (seat_of x))
    by q false e = get_seat (map.insert t k x) q ∙ ap (option_map seat_of) (get_apart t k x q e) ∙ sym (get_apart (seats_in t) k (seat_of x) q e ∙ get_seat t q)

pub seats_remove : (t : Table) (k : List ℕ) → seats_in (map.remove t k) ≡ map.remove (seats_in t) k
seats_remove t k = map.same_map nat_list_cmp_total alike _ _ (λ q. by q (eq_by_cmp text_cmp q k) refl)
  where
    by : (q : List ℕ) (b : Bool) → eq_by_cmp text_cmp q k ≡ b → map.get (seats_in (map.remove t k)) q ≡ map.get (map.remove (seats_in t) k) q
    by q true e =
        get_seat (map.remove t k) q ∙ ap (λ p. option_map seat_of (map.get (map.remove t k) p)) (same_text q k e) ∙ ap (option_map seat_of) (get_removed t k)
        ∙ sym (ap (map.get (map.remove (seats_in t) k)) (same_text q k e) ∙ get_removed (seats_in t) k)
    by q false e = get_seat (map.remove t k) q ∙ ap (option_map seat_of) (get_left t k q e) ∙ sym (get_left (seats_in t) k q e ∙ get_seat t q)

same_below : (d : List ℕ) (es : List (List ℕ × Seated)) → below_all text_cmp d (seat_entries es) ≡ below_all text_cmp d es
same_below d [] = refl
same_below d (e ∷ es) = ap (λ b. is_lt (text_cmp d e.0) && b) (same_below d es)

same_sorted : (es : List (List ℕ × Seated)) → is_sorted text_cmp (seat_entries es) ≡ is_sorted text_cmp es
same_sorted [] = refl
same_sorted (e ∷ es) = λ i. same_below e.0 es i && same_sorted es i

pub entries_of_seats : (t : Table) → map.entries (seats_in t) ≡ seat_entries (map.entries t)
entries_of_seats t = entries_sorted (seat_entries (map.entries t)) (subst T (sym (same_sorted (map.entries t))) (map.entries_sorted t))

pub some_seat : (t : Table) (q : List ℕ) → is_some (map.get (seats_in t) q) ≡ is_some (map.get t q)
some_seat t q = ap is_some (get_seat t q) ∙ by (map.get t q)
  where
    by : (g : Option Seated) → is_some (option_map seat_of g) ≡ is_some g
    by None = refl
    by (Some x) = refl

same_count : (es : List (List ℕ × Seated)) → length es ≡ length (seat_entries es)
same_count [] = refl
same_count (e ∷ es) = ap suc (same_count es)

-- there are as many seats as entries
pub count_of : (es : List (List ℕ × Seated)) → IsStrictlySortedBy text_cmp (keys_of es) → length es ≡ map.len (seats_in (map.from_entries {R = text_cmp} es))
count_of es h =
    same_count es ∙ ap (λ xs. length (seat_entries xs)) (sym (entries_sorted es (rising es h))) ∙ ap length (sym (entries_of_seats (map.from_entries {R = text_cmp} es)))
    ∙ sym (map.len-entries (seats_in (map.from_entries {R = text_cmp} es)))
