-- What the query of all rows shows, and the content in order.
use Rattle.std.proofs.Common.{Result, Ok, Err, IfOk, Vec, Global, ◌≡◌, inl, inr, List, [], ◌∷◌, map, flat_map, ℕ, ◌≤◌, Some, None, T, IsTrue, arith, sym, ap, subst, subst₂, ◌∙◌, append-nil, refl}
use Rattle.std.specs.List.Sorted.{IsPermutation}
use Rattle.std.proofs.lemmas.List.Sorted.{IsPermutation-map}
use Rattle.sqlite.specs.declared.error.Error.{Error}
use Rattle.sqlite_value.specs.Order.{Row}
use Rattle.sqlite_sql.specs.Query.{IsAnswer, Output, output, matches}
use Rattle.sqlite_trees.specs.Tree.{Trees}
use Rattle.sqlite_sql.specs.Program.{overlay}
use Rattle.sqlite.specs.Listing.{understood}
use Rattle.sqlite.specs.State.{State, HasCleanDisk, IsUnchanged, IsRolledBack, Shown, ShowsRows, FailsToQuery, FailsToShow, IsNotRun}
use Rattle.sqlite.specs.Clock.{timed}
use Rattle.sqlite.specs.View.{doubt}
use Rattle.std.specs.FinMap.{entries, is_sorted}
use Rattle.sqlite.specs.State.{Survives, CommitsShowing}
use Rattle.sqlite.proofs.Callers.{IsPlain, reads_as, never_commits}
use Rattle.session_records.specs.Table.{rows_schema}
use Rattle.row_store.proofs.Sorted.{entries_moved}
use Rattle.session_records.proofs.Adopts.{rows_of}
use Rattle.session_records.proofs.Means.{all_text, all_is, all_plain, all, numbered_text, numbered_is, numbered_plain}
use Rattle.session_records.specs.Connections.{IsKept, Stays, IsSameAs}
use Rattle.row_store.specs.Rows.{Key, key_cmp, entry_of}
use Rattle.row_store.specs.declared.row.Row.{Row as OwnRow}
use Rattle.row_store.specs.declared.store.RowFault.{RowFault}
use Rattle.session_records.specs.Stored.{content_in, entry_in, entry_shown, IsFormed, held, AreNumbered, AreTyped}

-- ---- what the query shows

each_listed : (rows : List Row) → map entry_shown (map (λ (o : Output). o.1) (map (output all) (flat_map (λ r. ([] ∷ r ∷ []) ∷ []) rows))) ≡ map entry_in rows
each_listed [] = refl
each_listed (r ∷ rows) = ap (λ xs. entry_in r ∷ xs) (each_listed rows)

pub same_listed : (xs : List Output) → map (λ (o : Output). entry_shown o.1) xs ≡ map entry_shown (map (λ (o : Output). o.1) xs)
same_listed [] = refl
same_listed (x ∷ xs) = ap (λ ys. entry_shown x.1 ∷ ys) (same_listed xs)

one_each : {X : Type 0} (f : List Row → X) (rows : List Row) → map f (flat_map (λ r. ([] ∷ r ∷ []) ∷ []) rows) ≡ map (λ r. f ([] ∷ r ∷ [])) rows
one_each f [] = refl
one_each f (r ∷ rows) = ap (λ xs. f ([] ∷ r ∷ []) ∷ xs) (one_each f rows)

pub all_kept : (db : Trees) (rows : List Row) (a : IsAnswer all db [] rows) → a.kept ≡ map (λ r. output all ([] ∷ r ∷ [])) (db 0)
all_kept db rows a = a.distinct ∙ ap (map (output all)) a.grouped ∙ one_each (output all) (db 0)

pub answer_listed : (db : Trees) (rows : List Row) → IsAnswer all db [] rows → IsPermutation (map entry_in (db 0)) (map entry_shown rows)
answer_listed db rows a =
    let kept : a.kept ≡ map (output all) (matches db [] all.from ([] ∷ [])) = a.distinct ∙ ap (map (output all)) a.grouped in
    let from : map (λ (o : Output). entry_shown o.1) a.kept ≡ map entry_in (db 0) = same_listed a.kept ∙ ap (λ xs. map entry_shown (map (λ (o : Output). o.1) xs)) kept ∙ each_listed (db 0) in
    let to : map (λ (o : Output). entry_shown o.1) a.ordered ≡ map entry_shown rows = same_listed a.ordered ∙ ap (map entry_shown) (sym a.shown) in
    subst₂ (λ xs ys. IsPermutation xs ys) from to (IsPermutation-map (λ (o : Output). entry_shown o.1) a.kept a.ordered a.same)

pub shown_rows : (old new : State) (rows : List Row) → old.now.schema ≡ rows_schema → Shown all_text [] old new rows → IsPermutation (map entry_in (old.now.trees 0)) (map entry_shown rows)
shown_rows old new rows is h =
    let read = reads_as all_text [] old new rows_schema is _ all_is.0 all_plain all_is.1 rows h in
    answer_listed (overlay old.now.trees []) rows (read.answer _)

-- ---- what it leaves

stays_same : (old new : State) → IsUnchanged old new → Stays old new
stays_same old new same up = (same.0.was_open, inl same.0.now_is, same.0.committed_is)

stays_undone : (old new : State) → IsRolledBack old new → Stays old new
stays_undone old new undone up = (undone.was_open up, inr (undone.undone up).0, (undone.undone up).1)

pub plain_text : (sql : List ℕ) (s : State) → s.now.schema ≡ rows_schema → IsPlain (understood rows_schema sql) → IsPlain (understood s.now.schema sql)
plain_text sql s has plain = subst (λ d. IsPlain (understood d sql)) (sym has) plain

module _ (sql : List ℕ) (old new : State) (plain : IsPlain (understood old.now.schema sql)) where
  shown_unchanged : (rows : List Row) → Shown sql [] old new rows → IsUnchanged old new
  unfolding Shown
  shown_unchanged rows h =
      let bare = subst IsPlain h.1.is plain in
      let it = rw (bare.0, bare.1, append-nil []) at h.2 in
      it.3

  pub shown_same : (rows : List Row) → Shown sql [] old new rows → IsSameAs old new
  shown_same rows h = let same = (shown_unchanged rows h).0 in record { was_open = same.was_open; is_open = same.is_open; now = same.now_is; committed = same.committed_is }

  pub shown_stays : (rows : List Row) → Shown sql [] old new rows → Stays old new
  shown_stays rows h = stays_same old new (shown_unchanged rows h)

  pub fails_stays : (e : Error) → FailsToQuery sql [] old new e → Stays old new
  unfolding FailsToQuery IsNotRun
  fails_stays e (inl (inl h)) = stays_same old new h.1
  fails_stays e (inl (inr h)) = stays_undone old new h.3
  fails_stays e (inr h) =
      let bare = subst IsPlain h.1.is plain in
      let it = rw bare.0 at h.2 in
      stays_same old new it.3

  pub query_survives : Survives old new (CommitsShowing sql [] old) → Survives old new (λ _. ⊥)
  query_survives s = record {
    clean = s.clean;
    shield = s.shield;
    counts = s.counts;
    limit = s.limit;
    closes = s.closes;
    crash = λ clean db left. elim (s.crash clean db left) [ inl before ↦ inl before | inr commits ↦ absurd (never_commits sql [] old db plain commits) ];
  }

-- ---- a store that was kept is kept

pub shown_was_open : (sql : List ℕ) (params : Row) (old new : State) (rows : List Row) → Shown sql params old new rows → IsTrue new.is_open → IsTrue old.is_open
unfolding Shown
shown_was_open sql params old new rows h =
    elim h.0.returning as (λ r. ShowsRows old new sql h.0 (timed params h.0.formats h.1.now) rows r → IsTrue new.is_open → IsTrue old.is_open) [ None ↦ λ s up. s.3.0.was_open | Some what ↦ λ s up. s.1.shown.was_open ] h.2

pub fails_was_open : (sql : List ℕ) (params : Row) (old new : State) (e : Error) → FailsToQuery sql params old new e → IsTrue new.is_open → IsTrue old.is_open
unfolding FailsToQuery IsNotRun
fails_was_open sql params old new e (inl (inl h)) up = h.1.0.was_open
fails_was_open sql params old new e (inl (inr h)) up = h.3.was_open up
fails_was_open sql params old new e (inr h) up =
    elim h.0.returning as (λ r. FailsToShow old new sql h.0 (timed params h.0.formats h.1.now) e r → IsTrue old.is_open) [
      | None ↦ λ s. s.3.0.was_open
      | Some what ↦ λ s. elim s [ inl same ↦ same.1.0.was_open | inr undone ↦ undone.3.was_open up ]
    ] h.2

module _ (old new : State) (kept : IsKept old) (less : doubt old.is_clean ≤ doubt new.is_clean) (was : HasCleanDisk new → IsTrue new.is_open → IsTrue old.is_open) (stays : HasCleanDisk new → old.now.schema ≡ rows_schema → Stays old new) where
  pub kept_before : HasCleanDisk new → IsTrue old.is_open → IsFormed old.now × (old.committed ≡ old.now)
  kept_before clean up = kept (omega (arith, less, clean)) up

  pub load_same : HasCleanDisk new → IsTrue new.is_open → new.committed ≡ old.committed
  load_same clean up = (stays clean (kept_before clean (was clean up)).0.schema up).2

  pub load_kept : IsKept new
  load_kept clean up =
      let k = kept_before clean (was clean up) in
      let same : new.now ≡ old.now = elim (stays clean k.0.schema up).1 [ inl same ↦ same | inr undone ↦ undone ∙ k.1 ] in
      (subst IsFormed (sym same) k.0, load_same clean up ∙ k.1 ∙ sym same)

-- rows in the order of their keys are the content
pub rows_entries : (table : List Row) (es : List (Key × List ℕ)) → IsPermutation (map entry_in table) es → T (is_sorted key_cmp es) → es ≡ entries (content_in table)
rows_entries table es moved up = sym (entries_moved (map entry_in table) es moved up)

pub load_entries : (old new : State) → IsKept old → doubt old.is_clean ≤ doubt new.is_clean → (r : Result (Vec OwnRow Global) RowFault)
    → (HasCleanDisk new → old.now.schema ≡ rows_schema → IfOk r (λ rows. IsPermutation (map entry_in (old.now.trees 0)) (map entry_of rows.items) × T (is_sorted key_cmp (map entry_of rows.items))))
    → HasCleanDisk new → IsTrue old.is_open → IfOk r (λ rows. map entry_of rows.items ≡ entries (held old.committed))
load_entries old new kept less (Err e) gives clean up = tt
load_entries old new kept less (Ok rows) gives clean up =
    let k = kept (omega (arith, less, clean)) up in
    let g = gives clean k.0.schema in
    rows_entries (old.now.trees 0) (map entry_of rows.items) g.0 g.1 ∙ ap (λ d. entries (held d)) (sym k.1)

-- ---- the same with rowids

pub numbered_typed : (old new : State) (rows : List Row) → old.now.schema ≡ rows_schema → Shown numbered_text [] old new rows → AreNumbered rows → AreTyped (old.now.trees 0)
numbered_typed old new rows has h are =
    let read = reads_as numbered_text [] old new rows_schema has _ numbered_is.0 numbered_plain numbered_is.1 rows h in
    rows_of (overlay old.now.trees []) rows (read.answer _) are
