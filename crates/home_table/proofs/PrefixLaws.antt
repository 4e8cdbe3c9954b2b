-- The prefixes as a finite map.
use Rattle.std.proofs.Common.{◌≡◌, ◌<◌, ◌+◌, ℕ, Bool, true, false, cond, ◌||◌, List, [], ◌∷◌, map, take, length, get_or, Option, Some, None, Vec, Global, Ordering, Less, Equal, Greater, nat_cmp, is_eq, refl, sym, ap, ◌∙◌, subst}
use Rattle.std.specs.Prelude.{is_some, unwrap_or}
use Rattle.std.specs.List.{list_any}
use Rattle.std.specs.Str.{bytes_eq}
use Rattle.std.specs.Ordering.{match_ordering, eq_by_cmp}
use Rattle.std.specs.Cmp.{eq_by_cmp_equiv}
use Rattle.std.specs.Cmp.Lexicographic.{slice_cmp, nat_list_cmp_total}
use Rattle.std.specs.Map.{lookup}
use Rattle.std.specs.BTreeMap.{is_at, insert_entry}
use Rattle.std.specs.FinMap.{FinMap, find, nat_cmp-IsAntisymmetric, slice_cmp-IsAntisymmetric}
use Rattle.std.specs.FinMap as finite
use Rattle.std.specs.FinMap.Entries.{put, find-put, by_order}
use Rattle.std.proofs.lemmas.List.{take_more, map_push}
use Rattle.std.specs.Prelude.{nat_lt}
use Rattle.std.specs.List.{position_or_len}
use Rattle.std.proofs.lemmas.Bool.{ltb-true}
use Rattle.std.proofs.lemmas.Map.Text.{is_eq-slice_cmp}
use Rattle.home_table.specs.declared.rows.NodeEntry.{NodeEntry}
use Rattle.home_table.specs.declared.rows.HomeEntry.{HomeEntry}
use Rattle.home_table.specs.Table.{number_of, home_of_row}

abbrev pub Key : Type 0
Key = Vec ℕ Global

-- an entry by the bytes of its key
abbrev pub by_bytes : Key × ℕ → List ℕ × ℕ
by_bytes e = (e.0.items, e.1)

-- only equal texts tie
pub alike : finite.IsAntisymmetric (slice_cmp nat_cmp)
alike = slice_cmp-IsAntisymmetric nat_cmp-IsAntisymmetric

find-by_bytes : (prefix : List ℕ) (es : List (Key × ℕ)) → find (slice_cmp nat_cmp) prefix (map by_bytes es) ≡ lookup (is_at (λ k. slice_cmp nat_cmp prefix k.items)) es
find-by_bytes prefix [] = refl
find-by_bytes prefix (e ∷ es) = ap (cond (is_eq (slice_cmp nat_cmp prefix e.0.items)) (Some e.1)) (find-by_bytes prefix es)

-- what the map finds
pub get-prefixes : (prefix : List ℕ) (es : List (Key × ℕ)) → lookup (is_at (λ k. slice_cmp nat_cmp prefix k.items)) es ≡ finite.get (finite.from_entries {R = slice_cmp nat_cmp} (map by_bytes es)) prefix
get-prefixes prefix es = sym (finite.get-from_entries nat_list_cmp_total (map by_bytes es) prefix ∙ find-by_bytes prefix es)

match_map : (o : Ordering) (a b c : List (Key × ℕ)) → map by_bytes (match_ordering o a b c) ≡ match_ordering o (map by_bytes a) (map by_bytes b) (map by_bytes c)
match_map Less a b c = refl
match_map Equal a b c = refl
match_map Greater a b c = refl

entry_put : (es : List (Key × ℕ)) (key : Key) (node : ℕ) → map by_bytes (insert_entry (λ x y. slice_cmp nat_cmp x.items y.items) es key node) ≡ insert_entry (slice_cmp nat_cmp) (map by_bytes es) key.items node
entry_put [] key node = refl
entry_put (e ∷ es) key node = match_map (slice_cmp nat_cmp key.items e.0.items) _ _ _ ∙ ap (match_ordering (slice_cmp nat_cmp key.items e.0.items) _ _) (ap (λ t. by_bytes e ∷ t) (entry_put es key node))

chosen : (o : Ordering) (a b c d : List (List ℕ × ℕ)) → c ≡ d → match_ordering o a b c ≡ by_order o a b d
chosen Less a b c d e = refl
chosen Equal a b c d e = refl
chosen Greater a b c d e = e

same_put : (es : List (List ℕ × ℕ)) (k : List ℕ) (v : ℕ) → insert_entry (slice_cmp nat_cmp) es k v ≡ put (slice_cmp nat_cmp) k v es
same_put [] k v = refl
same_put (e ∷ es) k v = chosen (slice_cmp nat_cmp k e.0) _ _ _ _ (ap (λ t. e ∷ t) (same_put es k v))

-- the map after an insert
pub insert-prefixes : (es : List (Key × ℕ)) (key : Key) (node : ℕ)
    → finite.from_entries (map by_bytes (insert_entry (λ x y. slice_cmp nat_cmp x.items y.items) es key node)) ≡ finite.insert (finite.from_entries {R = slice_cmp nat_cmp} (map by_bytes es)) key.items node
insert-prefixes es key node =
    ap finite.from_entries (entry_put es key node ∙ same_put (map by_bytes es) key.items node)
    ∙ finite.same_map nat_list_cmp_total alike _ _ (λ q.
    finite.get-from_entries nat_list_cmp_total (put (slice_cmp nat_cmp) key.items node (map by_bytes es)) q
    ∙ find-put (slice_cmp nat_cmp) nat_list_cmp_total q key.items node (map by_bytes es)
    ∙ sym (finite.get-insert nat_list_cmp_total (finite.from_entries (map by_bytes es)) key.items node q
    ∙ ap (cond (eq_by_cmp (slice_cmp nat_cmp) q key.items) (Some node)) (finite.get-from_entries nat_list_cmp_total (map by_bytes es) q)))

-- a home's prefix among others
some_or : (b : Bool) (v : ℕ) (r : Option ℕ) (c : Bool) → is_some r ≡ c → is_some (cond b (Some v) r) ≡ (b || c)
some_or true v r c e = refl
some_or false v r c e = e

placed_found : (nodes : List NodeEntry) (prefix : List ℕ) (hs : List HomeEntry) → is_some (find (slice_cmp nat_cmp) prefix (map (home_of_row nodes) hs)) ≡ list_any (λ h. bytes_eq h.prefix prefix) hs
placed_found nodes prefix [] = refl
placed_found nodes prefix (h ∷ hs) =
    some_or (is_eq (slice_cmp nat_cmp prefix h.prefix)) _ _ _ (placed_found nodes prefix hs)
    ∙ ap (λ b. b || list_any (λ k. bytes_eq k.prefix prefix) hs) ((eq_by_cmp_equiv nat_list_cmp_total).symm prefix h.prefix ∙ is_eq-slice_cmp h.prefix prefix)

pub is_placed : (nodes : List NodeEntry) (homes : List HomeEntry) (prefix : List ℕ)
    → is_some (finite.get (finite.from_entries {R = slice_cmp nat_cmp} (map (home_of_row nodes) homes)) prefix) ≡ list_any (λ h. bytes_eq h.prefix prefix) homes
is_placed nodes homes prefix = ap is_some (finite.get-from_entries nat_list_cmp_total (map (home_of_row nodes) homes) prefix) ∙ placed_found nodes prefix homes

none_from_some : (r : Option ℕ) → is_some r ≡ false → r ≡ None
none_from_some None h = refl
none_from_some (Some x) h = absurd (cc)

-- one more home, whose prefix is new
pub place_more : (nodes : List NodeEntry) (homes : List HomeEntry) (i : ℕ) (d : HomeEntry) (m : FinMap (slice_cmp nat_cmp) ℕ)
    → i < length homes → m ≡ finite.from_entries (map (home_of_row nodes) (take i homes)) → is_some (finite.get m (get_or homes i d).prefix) ≡ false
    → finite.insert m (get_or homes i d).prefix (unwrap_or (number_of nodes (get_or homes i d).node) 0) ≡ finite.from_entries (map (home_of_row nodes) (take (i + 1) homes))
place_more nodes homes i d m inside same new =
    let home = get_or homes i d in
    let es = map (home_of_row nodes) (take i homes) in
    let none : find (slice_cmp nat_cmp) home.prefix es ≡ None =
    sym (finite.get-from_entries nat_list_cmp_total es home.prefix) ∙ ap (λ n. finite.get n home.prefix) (sym same) ∙ none_from_some _ new in
    ap (λ n. finite.insert n home.prefix (unwrap_or (number_of nodes home.node) 0)) same
    ∙ sym (finite.from_entries_push nat_list_cmp_total alike es home.prefix (unwrap_or (number_of nodes home.node) 0) none)
    ∙ ap finite.from_entries (sym (ap (map (home_of_row nodes)) (take_more homes i d inside) ∙ map_push (home_of_row nodes) (take i homes) home))

below_or : (b : Bool) (i n : ℕ) → nat_lt i n ≡ b → 0 < n → unwrap_or (cond b (Some i) None) 0 < n
below_or true i n e some = ltb-true i n e
below_or false i n e some = some

number_below : (nodes : List NodeEntry) (name : List ℕ) → 0 < length nodes → unwrap_or (number_of nodes name) 0 < length nodes
number_below nodes name some = below_or _ (position_or_len (λ n. bytes_eq n.name name) nodes) (length nodes) refl some

known_or : (nodes : List NodeEntry) (node : ℕ) (b : Bool) (v : ℕ) (r : Option ℕ) → v < length nodes → (r ≡ Some node → node < length nodes) → cond b (Some v) r ≡ Some node → node < length nodes
known_or nodes node true v r low later e = let same : v ≡ node = cc in subst (λ n. n < length nodes) same low
known_or nodes node false v r low later e = later e

known_found : (nodes : List NodeEntry) (prefix : List ℕ) (node : ℕ) (hs : List HomeEntry) → 0 < length nodes → find (slice_cmp nat_cmp) prefix (map (home_of_row nodes) hs) ≡ Some node → node < length nodes
known_found nodes prefix node [] some e = absurd (cc)
known_found nodes prefix node (h ∷ hs) some e = known_or nodes node _ _ _ (number_below nodes h.node some) (known_found nodes prefix node hs some) e

-- each prefix is at a node
pub homes_known : (nodes : List NodeEntry) (homes : List HomeEntry) → 0 < length nodes → (prefix : List ℕ) (node : ℕ)
    → finite.get (finite.from_entries {R = slice_cmp nat_cmp} (map (home_of_row nodes) homes)) prefix ≡ Some node → node < length nodes
homes_known nodes homes some prefix node is = known_found nodes prefix node homes some (sym (finite.get-from_entries nat_list_cmp_total (map (home_of_row nodes) homes) prefix) ∙ is)
