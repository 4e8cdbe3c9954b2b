-- How the sessions that are read go on, at each step of the walk.
use Rattle.std.proofs.Common.{◌≡◌, ℕ, ◌+◌, ◌≤◌, T, List, [], ◌∷◌, map as map_list, length, take, drop, Option, Some, None, Result, Err, IfSome, refl, sym, ap, subst, ◌∙◌}
use Rattle.std.specs.FinMap as map
use Rattle.row_store.specs.declared.row.Row.{Row}
use Rattle.row_store.specs.declared.store.RowFault.{RowFault}
use Rattle.row_store.specs.declared.store.RowFault.TheVariants.{NoMemory, Device, BadRow}
use Rattle.row_store.specs.Rows.{entry_of, key_cmp, Plain}
use Rattle.mqtt_sessions.specs.Saved.{Saved, reopened, state_of}
use Rattle.session_table.specs.Rows.{IsAllTold}
use Rattle.session_table.specs.Seats.{Seats}
use Rattle.session_table.proofs.RowLaws.{opened-told}
use Rattle.node_rows.specs.Reading.{Recovers, Tells}
use Rattle.node_rows.specs.Sessions.{AreRead, IsReopened, NoSession, NoSessions, opened_seat}
use Rattle.node_rows.proofs.Counted.{IsNextRow, none_left}
use Rattle.node_rows.proofs.Walked.{IsWalked, walk_begins, walk_ends, walk_leaves, walk_on, walk_stops}

-- ---- a fault that is handed on
pub handed : {X : Type 0} (Is : X → Type 0) (Bad Wrong : Type 0) (r : Result X RowFault) (e f : RowFault) → r ≡ Err f → f ≡ e → (Wrong → Bad) → Tells Wrong e → Recovers Is Bad r
handed Is Bad Wrong r e f is same turn told = subst (Recovers Is Bad) (sym (is ∙ ap Err same)) (by e told)
  where
    by : (e : RowFault) → Tells Wrong e → Tells Bad e
    by NoMemory h = tt
    by BadRow h = turn h
    by Device h = absurd h

-- ---- a session that was opened from its rows
pub told_so : (rows : List Plain) (client : List ℕ) (session : Option Saved) → IsReopened rows client session → IsAllTold client session
told_so rows client session is = subst (λ (o : Option Saved). IsAllTold client o) (sym is.4) (subst (λ (c : List ℕ). IsAllTold c (Some (reopened is.0))) (sym is.3) (opened-told is.0 is.1))

put_so : (rows : List Plain) (client : List ℕ) (session : Option Saved) (old new : Seats) (is : IsReopened rows client session) → IfSome (state_of session) (λ s. new ≡ map.insert old client (record { session = s; connection = None })) → new ≡ map.insert old is.0.client (opened_seat is.0)
put_so rows client session old new is put =
    subst (λ (o : Option Saved). IfSome (state_of o) (λ s. new ≡ map.insert old client (record { session = s; connection = None }))) is.4 put ∙ ap (λ (c : List ℕ). map.insert old c (opened_seat is.0)) is.3

-- ---- the walk, over rows
abbrev pub IsReached : List Row → List Row → ℕ → List Row → Seats → Type 0
IsReached own copies i rest seats = IsWalked (map_list entry_of own) (map_list entry_of copies) (map_list entry_of (take i own)) (map_list entry_of (drop i own)) (map_list entry_of rest) seats

pub begun : (own copies : List Row) (seats : Seats) → seats ≡ map.empty → IsReached own copies 0 copies seats
begun own copies seats none = subst (IsReached own copies 0 copies) (sym none) (walk_begins (map_list entry_of own) (map_list entry_of copies))

module _ (own copies : List Row) (i : ℕ) (row : Row) (rest mine others : List Row) (seats : Seats) (up : T (map.is_sorted key_cmp (map_list entry_of own))) (so_far : IsReached own copies i rest seats) (next : IsNextRow own i row rest mine others) where
  here : IsWalked (map_list entry_of own) (map_list entry_of copies) (map_list entry_of (take i own)) (entry_of row ∷ map_list entry_of (drop (i + 1) own)) (map_list entry_of rest) seats
  here = subst (λ (left : List Plain). IsWalked (map_list entry_of own) (map_list entry_of copies) (map_list entry_of (take i own)) left (map_list entry_of rest) seats) next.left so_far

  pub stops : NoSession (entry_of row ∷ map_list entry_of mine) → NoSessions (map_list entry_of own) (map_list entry_of copies)
  stops none =
      walk_stops (map_list entry_of own) (map_list entry_of copies) (map_list entry_of (take i own)) (entry_of row) (map_list entry_of (drop (i + 1) own)) (map_list entry_of rest) (map_list entry_of mine) (map_list entry_of others) seats up here
      next.rest_are next.theirs next.apart none

  pub goes_on : (client : List ℕ) (session : Option Saved) (new : Seats) → IsReopened (entry_of row ∷ map_list entry_of mine) client session
      → IfSome (state_of session) (λ s. new ≡ map.insert seats client (record { session = s; connection = None })) → IsReached own copies (i + 1) others new
  goes_on client session new is put =
      let on =
      walk_on (map_list entry_of own) (map_list entry_of copies) (map_list entry_of (take i own)) (entry_of row) (map_list entry_of (drop (i + 1) own)) (map_list entry_of rest) (map_list entry_of mine) (map_list entry_of others) seats new is.0 up here
      next.rest_are next.theirs next.apart is.1 is.2 (put_so (entry_of row ∷ map_list entry_of mine) client session seats new is put) in
      subst (λ (before : List Plain). IsWalked (map_list entry_of own) (map_list entry_of copies) before (map_list entry_of (drop (i + 1) own)) (map_list entry_of others) new) (sym next.taken) on

module _ (own copies : List Row) (i : ℕ) (rest : List Row) (seats : Seats) (so_far : IsReached own copies i rest seats) (end : length own ≤ i) where
  at_end : IsWalked (map_list entry_of own) (map_list entry_of copies) (map_list entry_of (take i own)) [] (map_list entry_of rest) seats
  at_end = subst (λ (left : List Plain). IsWalked (map_list entry_of own) (map_list entry_of copies) (map_list entry_of (take i own)) left (map_list entry_of rest) seats) (none_left own i end) so_far

  pub all_read : rest ≡ [] → AreRead (map_list entry_of own) (map_list entry_of copies) seats
  all_read none = walk_ends (map_list entry_of own) (map_list entry_of copies) (map_list entry_of (take i own)) (map_list entry_of rest) seats at_end (ap (map_list entry_of) none)

  pub some_left : (rest ≡ [] → ⊥) → NoSessions (map_list entry_of own) (map_list entry_of copies)
  some_left some = walk_leaves (map_list entry_of own) (map_list entry_of copies) (map_list entry_of (take i own)) (map_list entry_of rest) seats at_end (λ none. some (by rest none))
    where
      by : (rs : List Row) → map_list entry_of rs ≡ [] → rs ≡ []
      by [] none = refl
      by (r ∷ rs) none = absurd (cc)
