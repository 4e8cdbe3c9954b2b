-- Walks over the table and over what is due.
use Rattle.std.proofs.Common.{◌≡◌, ℕ, Bool, true, false, cond, ◌||◌, List, [], ◌∷◌, ◌++◌, map as map_list, Option, Some, None, is_some, MatchOption, unwrap_or, refl, sym, ap, subst, ◌∙◌}
use Rattle.std.proofs.lemmas.List.{append-nil}
use Rattle.std.specs.List.{filter, flat_map, list_any}
use Rattle.std.specs.List.Sorted.{IsStrictlySortedBy}
use Rattle.std.specs.Ordering.{eq_by_cmp}
use Rattle.std.specs.FinMap as map
use Rattle.session_table.specs.Dues.{Due, Dues, due_cmp, in_order, set_of}
use Rattle.session_table.proofs.Tables.{has_inserted, has_of, keys_of_set, same_dues}
use Rattle.filter_trie.specs.Selected.{IsSelected}
use Rattle.filter_trie.proofs.Selecting.{Follows, begins, ends, follows_with, goes_without, silent_here, silent_later}
use Rattle.home_table.specs.Table.{Table as HomeTable}
use Rattle.mqtt_sessions.specs.Ending.{is_connected}
use Rattle.mqtt_sessions.specs.Saved.{state_of}
use Rattle.mqtt_sessions.specs.State.{State, new_session}
use Rattle.session_table.specs.Seats.{AreElsewhere, IsElsewhere, at_number, connected}
use Rattle.session_table.specs.Listing.{Table, connected_of, connection_in, on_connection, seat_of, seats_in, table, was_connected}
use Rattle.session_table.specs.declared.seated.Seated.{Seated}
use Rattle.session_table.proofs.SeatMaps.{entries_of_seats, seat_entries}

-- ---- clients that were connected
pub was : (x : Seated) (b : Bool) → MatchOption (state_of x.session) (b ≡ false) (λ s. b ≡ is_connected s.kept.phase) → b ≡ was_connected x
was x b h = by (state_of x.session) refl h
  where
    by : (o : Option State) → state_of x.session ≡ o → MatchOption o (b ≡ false) (λ s. b ≡ is_connected s.kept.phase) → b ≡ was_connected x
    by None e h = h ∙ ap (λ p. is_connected (unwrap_or p (new_session [])).kept.phase) (sym e)
    by (Some s) e h = h ∙ ap (λ p. is_connected (unwrap_or p (new_session [])).kept.phase) (sym e)

connected_at : (client : List ℕ) (x : Seated) (es : List (List ℕ × Seated)) (b : Bool) → was_connected x ≡ b → connected_of ((client, x) ∷ es) ≡ cond b (client ∷ connected_of es) (connected_of es)
connected_at client x es true e = ap (λ b. map_list (λ p. p.0) (cond b ((client, x) ∷ filter (λ p. was_connected p.1) es) (filter (λ p. was_connected p.1) es))) e
connected_at client x es false e = ap (λ b. map_list (λ p. p.0) (cond b ((client, x) ∷ filter (λ p. was_connected p.1) es) (filter (λ p. was_connected p.1) es))) e

module _ (all left rest : List (List ℕ × Seated)) (out : List (List ℕ)) (client : List ℕ) (x : Seated) (step : left ≡ (client, x) ∷ rest) (so : out ++ connected_of left ≡ connected_of all) where
  -- where none was, the next one wasn't
  pub none_here : true ≡ was_connected x → connected_of all ≡ [] → ⊥
  none_here is none = not_empty out client (connected_of rest) (ap (λ xs. out ++ xs) (sym (connected_at client x rest true (sym is))) ∙ ap (λ l. out ++ connected_of l) (sym step) ∙ so ∙ none)
    where
      not_empty : (xs : List (List ℕ)) (d : List ℕ) (ys : List (List ℕ)) → xs ++ d ∷ ys ≡ [] → ⊥
      not_empty [] d ys e = cc
      not_empty (y ∷ xs) d ys e = cc

pub ends_there : (all left : List (List ℕ × Seated)) (out : List (List ℕ)) → left ≡ [] → out ++ connected_of left ≡ connected_of all → out ≡ connected_of all
ends_there all left out over so = sym (append-nil out) ∙ ap (λ l. out ++ connected_of l) (sym over) ∙ so

filter_seats : (es : List (List ℕ × Seated)) → connected_of es ≡ map_list (λ e. e.0) (filter (λ e. is_connected e.1.session.kept.phase) (seat_entries es))
filter_seats [] = refl
filter_seats (e ∷ es) = by (was_connected e.1) (filter_seats es)
  where
    by : (b : Bool) → connected_of es ≡ map_list (λ x. x.0) (filter (λ x. is_connected x.1.session.kept.phase) (seat_entries es))
        → map_list (λ x. x.0) (cond b (e ∷ filter (λ x. was_connected x.1) es) (filter (λ x. was_connected x.1) es))
        ≡ map_list (λ x. x.0) (cond b ((e.0, seat_of e.1) ∷ filter (λ x. is_connected x.1.session.kept.phase) (seat_entries es)) (filter (λ x. is_connected x.1.session.kept.phase) (seat_entries es)))
    by true h = ap (λ xs. e.0 ∷ xs) h
    by false h = h

pub connected_are : (es : List (List ℕ × Seated)) → map.entries (table es) ≡ es → connected_of es ≡ connected (seats_in (table es))
connected_are es whole = filter_seats es ∙ ap (λ xs. map_list (λ e. e.0) (filter (λ e. is_connected e.1.session.kept.phase) xs)) (sym (entries_of_seats (table es) ∙ ap seat_entries whole))

-- ---- clients whose home is elsewhere
abbrev pub clients_of : List (List ℕ × Seated) → List (List ℕ)
clients_of es = map_list (λ e. e.0) es

clients_are : (es : List (List ℕ × Seated)) → map.entries (table es) ≡ es → clients_of es ≡ map_list (λ e. e.0) (map.entries (seats_in (table es)))
clients_are es whole = names es ∙ ap (λ xs. map_list (λ e. e.0) xs) (sym (entries_of_seats (table es) ∙ ap seat_entries whole))
  where
    names : (xs : List (List ℕ × Seated)) → clients_of xs ≡ map_list (λ e. e.0) (seat_entries xs)
    names [] = refl
    names (x ∷ xs) = ap (λ ys. x.0 ∷ ys) (names xs)

-- a walk from the front: who has been found, and where nobody is, nobody is left
abbrev pub Seeks : HomeTable → ℕ → List (List ℕ × Seated) → List (List ℕ) → List (List ℕ × Seated) → Type 0
Seeks homes node all out left =
    Follows (IsElsewhere homes node) (clients_of all) out (clients_of left) × (IsSelected (IsElsewhere homes node) (clients_of all) [] → IsSelected (IsElsewhere homes node) (clients_of left) [])

module _ (homes : HomeTable) (node : ℕ) (all : List (List ℕ × Seated)) where
  pub seeks : (out : List (List ℕ)) → out ≡ [] → Seeks homes node all out all
  seeks out none = (begins (IsElsewhere homes node) (clients_of all) (clients_of all) out refl none, λ h. h)

  module _ (left rest : List (List ℕ × Seated)) (out : List (List ℕ)) (client : List ℕ) (x : Seated) (step : left ≡ (client, x) ∷ rest) (so : Seeks homes node all out left) where
    later : IsSelected (IsElsewhere homes node) (clients_of all) [] → IsSelected (IsElsewhere homes node) (clients_of rest) []
    later none = silent_later (IsElsewhere homes node) (clients_of left) (clients_of rest) client (ap clients_of step) (so.1 none)

    pub found : (new : List (List ℕ)) → new ≡ out ++ client ∷ [] → IsElsewhere homes node client → Seeks homes node all new rest
    found new added away =
        let before = subst (λ es. Follows (IsElsewhere homes node) (clients_of all) out es) (ap clients_of step) so.0 in
        (subst (λ o. Follows (IsElsewhere homes node) (clients_of all) o (clients_of rest)) (sym added) (follows_with (IsElsewhere homes node) (clients_of all) client (clients_of rest) out before away), later)

    pub not_found : ¬ (IsElsewhere homes node client) → Seeks homes node all out rest
    not_found here = (goes_without (IsElsewhere homes node) (clients_of all) (clients_of left) (clients_of rest) out client (ap clients_of step) here so.0, later)

    pub none_found : map.entries (table all) ≡ all → IsElsewhere homes node client → AreElsewhere homes node (seats_in (table all)) [] → ⊥
    none_found whole away none =
        silent_here (IsElsewhere homes node) (clients_of left) (clients_of rest) client (ap clients_of step)
        (so.1 (subst (λ xs. IsSelected (IsElsewhere homes node) xs []) (sym (clients_are all whole)) none)) away

  pub all_found : (left : List (List ℕ × Seated)) (out : List (List ℕ)) → left ≡ [] → map.entries (table all) ≡ all → Seeks homes node all out left → AreElsewhere homes node (seats_in (table all)) out
  all_found left out over whole so =
      subst (λ xs. IsSelected (IsElsewhere homes node) xs out) (clients_are all whole) (ends (IsElsewhere homes node) (clients_of all) (clients_of left) out (ap clients_of over) so.0)

-- ---- connections of what is due
-- a walk from the front: `order` has what came before `left`
abbrev pub Gathers : Table → List Due → Dues → List Due → Type 0
Gathers t all order left =
    (q : Due) → (map.contains_key order q || list_any (eq_by_cmp due_cmp q) (flat_map (on_connection t) left)) ≡ list_any (eq_by_cmp due_cmp q) (flat_map (on_connection t) all)

or_true : (b : Bool) → (b || true) ≡ true
or_true true = refl
or_true false = refl

or_false : (b : Bool) → (b || false) ≡ b
or_false true = refl
or_false false = refl

module _ (t : Table) (all : List Due) where
  pub gathers : (left : List Due) (order : Dues) → order ≡ map.empty → left ≡ all → Gathers t all order left
  gathers left order none whole q =
      ap (λ m. map.contains_key m q || list_any (eq_by_cmp due_cmp q) (flat_map (on_connection t) left)) none
      ∙ (λ i. is_none i || list_any (eq_by_cmp due_cmp q) (flat_map (on_connection t) (whole i)))
    where
      is_none : map.contains_key (map.empty {X = Unit {0}} {R = due_cmp}) q ≡ false
      is_none = ap is_some (map.get-empty due_cmp q)

  pub gathers_one : (left rest : List Due) (d : Due) (n : ℕ) (order new : Dues) → left ≡ d ∷ rest → Some n ≡ connection_in (map.get t d.1) → new ≡ map.insert order (n, d.1) tt → Gathers t all order left
      → Gathers t all new rest
  gathers_one left rest d n order new step is put so q =
      ap (λ m. map.contains_key m q || list_any (eq_by_cmp due_cmp q) (flat_map (on_connection t) rest)) put
      ∙ ap (λ b. b || list_any (eq_by_cmp due_cmp q) (flat_map (on_connection t) rest)) (has_inserted order (n, d.1) q)
      ∙ swap (eq_by_cmp due_cmp q (n, d.1)) (map.contains_key order q) (list_any (eq_by_cmp due_cmp q) (flat_map (on_connection t) rest))
      ∙ ap (λ xs. map.contains_key order q || list_any (eq_by_cmp due_cmp q) (xs ++ flat_map (on_connection t) rest)) (ap (λ o. at_number o d.1) is)
      ∙ ap (λ l. map.contains_key order q || list_any (eq_by_cmp due_cmp q) (flat_map (on_connection t) l)) (sym step) ∙ so q
    where
      swap : (a b c : Bool) → (cond a true b || c) ≡ (b || (a || c))
      swap true b c = sym (or_true b)
      swap false b c = refl

  pub gathers_none : (left rest : List Due) (d : Due) (order : Dues) → left ≡ d ∷ rest → None ≡ connection_in (map.get t d.1) → Gathers t all order left → Gathers t all order rest
  gathers_none left rest d order step is so q =
      ap (λ xs. map.contains_key order q || list_any (eq_by_cmp due_cmp q) (xs ++ flat_map (on_connection t) rest)) (ap (λ o. at_number o d.1) is)
      ∙ ap (λ l. map.contains_key order q || list_any (eq_by_cmp due_cmp q) (flat_map (on_connection t) l)) (sym step) ∙ so q

  pub gathered : (left : List Due) (order : Dues) → left ≡ [] → Gathers t all order left → map.keys order ≡ in_order (flat_map (on_connection t) all)
  gathered left order over so = ap map.keys (same_dues order (set_of (flat_map (on_connection t) all)) (λ q.
      sym (or_false (map.contains_key order q)) ∙ ap (λ l. map.contains_key order q || list_any (eq_by_cmp due_cmp q) (flat_map (on_connection t) l)) (sym over) ∙ so q
      ∙ sym (has_of (flat_map (on_connection t) all) q)))

pub no_more : (left rest : List Due) (d : Due) → left ≡ d ∷ rest → left ≡ [] → ⊥
no_more left rest d step none = (let e : d ∷ rest ≡ [] = sym step ∙ none in cc)

pub none_gathered : (t : Table) (all : List Due) → all ≡ [] → in_order (flat_map (on_connection t) all) ≡ []
unfolding IsStrictlySortedBy
none_gathered t all none = ap (λ ds. in_order (flat_map (on_connection t) ds)) none ∙ keys_of_set [] tt
