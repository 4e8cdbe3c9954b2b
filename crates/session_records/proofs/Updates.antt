-- What moving the row at a key to another key, or to its own, does to the content.
use Rattle.std.proofs.Common.{◌≡◌, ◌≢◌, inl, inr, ℕ, ℤ, ◌<◌, pos, List, [], ◌∷◌, ◌++◌, map, filter, flat_map, length, Bool, true, false, not, cond, unwrap_or, None, Ok, Err, Result, IfOk, IsTrue, arith, refl, sym, ap, subst, subst₂, ◌∙◌}
use Rattle.std.specs.Prelude.{if◌then◌else◌}
use Rattle.std.specs.List.{AllByRecursion, list_all}
use Rattle.std.specs.List.Sorted.{IsPermutation}
use Rattle.std.proofs.lemmas.List.Sorted.{length_permutation}
use Rattle.std.proofs.lemmas.Bool.{and_parts, not-true}
use Rattle.std.specs.FinMap.{get, insert, remove, get-from_entries}
use Rattle.sqlite.specs.declared.types.Value.TheVariants.{Null, Int, Blob}
use Rattle.sqlite.specs.Order.{Row}
use Rattle.sqlite_value.specs.Order.{column}
use Rattle.sqlite.specs.Term.{holds}
use Rattle.sqlite_sql.specs.Query.{IsAnswer, Output, output}
use Rattle.sqlite.specs.Program.{overlay}
use Rattle.sqlite.specs.Kind.TheVariants.{Integer}
use Rattle.sqlite.specs.Command.TheVariants.{Update}
use Rattle.sqlite.specs.Edit.{edit_of, is_taken, are_fresh, put_all}
use Rattle.sqlite_rules.specs.Edit.{without_all}
use Rattle.sqlite.specs.Cast.{cast}
use Rattle.sqlite.specs.Ops.{unary}
use Rattle.sqlite.specs.Rowids.TheVariants.{Given}
use Rattle.sqlite.specs.Does.{Tally, Does}
use Rattle.sqlite.specs.Rows.{Written}
use Rattle.sqlite.specs.Tree.{Trees, put_row, rowid}
use Rattle.sqlite.specs.declared.error.Error.{Error}
use Rattle.sqlite.specs.Listing.{understood}
use Rattle.sqlite.specs.Effect.{Database}
use Rattle.sqlite.specs.State.{State, mode_of, Executes, ExecutesInside}
use Rattle.sqlite.proofs.Callers.{statement_of, runs_as, one_step, one_permutation}
use Rattle.sqlite_schema.specs.declared.program.Program.{Program}
use Rattle.sqlite_schema.specs.Rules.{Fits}
use Rattle.sqlite_rules.specs.Lists.{Has}
use Rattle.sqlite_rules.specs.Calls.{ids_of}
use Rattle.sqlite_rules.specs.Probe.{AreFound}
use Rattle.session_records.specs.Connections.{GoesOn, HasMoved, HasUpdated}
use Rattle.row_store.specs.Rows.{Key}
use Rattle.session_records.specs.Stored.{IsFormedRow, AreRows, IsFormed, content_in, held}
use Rattle.session_records.specs.Table.{rows_table, rows_schema}
use Rattle.session_records.proofs.Means.{tests, changed, move_text, move_is, move_plain}
use Rattle.row_store.proofs.Keys.{keys_total}
use Rattle.session_records.proofs.Lists.{given_key, hit, test_is, erased, taken_out, rows_left, rows_put, put_in, each}
use Rattle.session_records.proofs.Unique.{stored, one_hit, has_filter, none_found, free_key}
use Rattle.session_records.proofs.Effects.{went, same_value, either, insert_over, Refused}

-- ---- what the query of the update shows

abbrev pub given_move : Key → Key → List ℕ → Row
given_move key to value = Int (pos key.0) ∷ Blob key.1.0 ∷ Blob key.1.1 ∷ Int (pos to.0) ∷ Blob to.1.0 ∷ Blob to.1.1 ∷ Blob value ∷ []

abbrev proj : Key → List ℕ → Row → Row
proj to value r = column r 0 ∷ column r 0 ∷ Int (pos to.0) ∷ Blob to.1.0 ∷ Blob to.1.1 ∷ Blob value ∷ []

matched : (key to : Key) (value : List ℕ) (rows : List Row) → AllByRecursion IsFormedRow rows
    → flat_map (λ r. if list_all (holds (given_move key to value ∷ r ∷ [])) tests then (given_move key to value ∷ r ∷ []) ∷ [] else []) rows ≡ map (λ r. given_move key to value ∷ r ∷ []) (filter (hit key) rows)
matched key to value [] all = refl
matched key to value (r ∷ rows) all =
    let test : list_all (holds (given_move key to value ∷ r ∷ [])) tests ≡ hit key r = test_is key r all.0 in
    rw test (elim (hit key r) as (λ b. (if b then (given_move key to value ∷ r ∷ []) ∷ [] else []) ++ flat_map (λ r. if list_all (holds (given_move key to value ∷ r ∷ [])) tests then (given_move key to value ∷ r ∷ []) ∷ [] else []) rows ≡ map (λ r. given_move key to value ∷ r ∷ []) (cond {A = List Row} b (r ∷ filter (hit key) rows) (filter (hit key) rows))) [
      | true ↦ ap (λ xs. (given_move key to value ∷ r ∷ []) ∷ xs) (matched key to value rows all.1)
      | false ↦ matched key to value rows all.1
    ])

nil_of : {X : Type 0} (xs : List X) → length xs ≡ 0 → xs ≡ []
nil_of [] h = refl
nil_of (x ∷ xs) h = absurd (omega (arith, h))

module _ (key to : Key) (value : List ℕ) (db : Trees) (found : List Row) (are : AreRows (db 0)) (a : IsAnswer changed (overlay db []) (given_move key to value) found) where
  kept : a.kept ≡ map (output changed) (map (λ r. given_move key to value ∷ r ∷ []) (filter (hit key) (db 0)))
  kept = a.distinct ∙ ap (map (output changed)) (a.grouped ∙ matched key to value (db 0) are.typed.formed)

  pub found_none : filter (hit key) (db 0) ≡ [] → found ≡ []
  found_none none =
      let empty : a.kept ≡ [] = kept ∙ ap (λ rs. map (output changed) (map (λ r. given_move key to value ∷ r ∷ []) rs)) none in
      let ordered : a.ordered ≡ [] = nil_of a.ordered (length_permutation a.kept a.ordered a.same ∙ ap length empty) in
      a.shown ∙ ap (map (λ (o : Output). o.1)) ordered

  pub found_one : (r : Row) → filter (hit key) (db 0) ≡ r ∷ [] → found ≡ proj to value r ∷ []
  found_one r one =
      let single : a.kept ≡ output changed (given_move key to value ∷ r ∷ []) ∷ [] = kept ∙ ap (λ rs. map (output changed) (map (λ r. given_move key to value ∷ r ∷ []) rs)) one in
      let ordered : a.ordered ≡ output changed (given_move key to value ∷ r ∷ []) ∷ [] = one_permutation _ a.ordered (subst (λ xs. IsPermutation xs a.ordered) single a.same) in
      a.shown ∙ ap (map (λ (o : Output). o.1)) ordered

-- the rowid of the one row at the key
found_at : (key : Key) (rows : List Row) (r : Row) → AreRows rows → Has rows r → hit key r ≡ true → filter (hit key) rows ≡ r ∷ [] → AreFound tests rows (given_key key) ((rowid r ∷ []) ∷ [])
found_at key rows r are there at one = record {
  sound = λ x h. elim h [ inl same ↦ (r, there, test_is key r (each IsFormedRow rows r are.typed.formed there) ∙ at, same) | inr other ↦ absurd other ];
  complete = λ s h passes.
      let in_one : Has (r ∷ []) s = subst (λ xs. Has xs s) one (has_filter key rows s h (sym (test_is key s (each IsFormedRow rows s are.typed.formed h)) ∙ passes)) in
      elim in_one [ inl same ↦ inl (ap (λ x. rowid x ∷ []) same) | inr other ↦ absurd other ];
}

cast_int : (n : ℤ) → cast Integer (Int n) ≡ Int n
unfolding unary
cast_int n = either _ (Int n)

-- ---- the update

abbrev program : Program
program = record { lets = []; body = changed }

-- what a move that changed so many rows has done
pub record Moves (old new : Database) (key to : Key) (value : List ℕ) (count : ℕ) : Type 0 where
  pub formed : IsFormed new
  pub none : count ≡ 0 → (get (held old) key ≡ None) × (held new ≡ held old)
  pub some : count ≢ 0 → held new ≡ insert (remove (held old) key) to value

abbrev news_of : Trees → List Row → List Row
news_of db found = (edit_of db rows_table (ids_of found) Given 1 found).news

abbrev left_of : Trees → List Row → List Row
left_of db found = without_all (db 0) (ids_of found)

-- what the statement ran as
record Ran (old new : Database) (key to : Key) (value : List ℕ) (count : ℕ) : Type 0 where
  found : List Row
  answer : IsAnswer changed (overlay old.trees []) (given_move key to value) found
  schema : new.schema ≡ rows_schema
  fresh : are_fresh (left_of old.trees found) (news_of old.trees found) ≡ true
  next : Trees
  put : next 0 ≡ put_all (left_of old.trees found) (news_of old.trees found)
  fits : Fits rows_schema next
  rows : new.trees 0 ≡ next 0
  counted : count ≡ length (news_of old.trees found)

ran : (old new : State) (key to : Key) (value : List ℕ) (count : ℕ) → IsFormed old.now → Executes move_text (given_move key to value) old new (Ok count) → Ran old.now new.now key to value count
ran old new key to value count is h =
    let params = given_move key to value in
    let db = old.now.trees in
    let command = Update 0 program in
    let w = runs_as move_text params old new rows_schema is.schema command move_is move_plain count h in
    let text = statement_of move_text (understood rows_schema move_text) in
    let done = went (subst (λ s. Does old.step_limit (mode_of old) params (record old.now { schema = s }) text None command (Ok (w.tally, new.now))) is.schema w.changed) in
    let last = same_value (went (went done.2).2).2 in
    let now = ap (λ (p : Tally × Database). p.1) last in
    let given = went done.1 in
    let written = went given.2 in
    let trees : done.0.trees ≡ written.0 = ap (λ (it : Written). it.trees) (same_value written.2) in
    let step = one_step rows_schema _ db written.0 (edit_of db rows_table (ids_of given.0) Given 1 given.0) refl written.1 in
    record {
      found = given.0;
      answer = given.1.answer Null;
      schema = ap (λ (d : Database). d.schema) now;
      fresh = step.fresh;
      next = written.0;
      put = step.rows;
      fits = step.fits;
      rows = ap (λ (d : Database). d.trees 0) now ∙ ap (λ (t : Trees). t 0) trees;
      counted = w.counted ∙ ap (λ (p : Tally × Database). unwrap_or p.0.rows 0) last ∙ ap (λ (it : Written). length it.rows) (same_value written.2);
    }

new_row_is : (db : Trees) (to : Key) (value : List ℕ) (it : Row) (id : ℤ) → column it 0 ≡ Int id → news_of db (proj to value it ∷ []) ≡ stored id to value ∷ []
new_row_is db to value it id is = rw (is, cast_int id, cast_int (pos to.0)) refl

module _ (old new : Database) (key to : Key) (value : List ℕ) (count : ℕ) (are : AreRows (old.trees 0)) (r : Ran old new key to value count) where
  when_none : filter (hit key) (old.trees 0) ≡ [] → Moves old new key to value count
  when_none none =
      let nothing = found_none key to value old.trees r.found are r.answer none in
      let same : new.trees 0 ≡ old.trees 0 = r.rows ∙ r.put ∙ ap (λ f. put_all (left_of old.trees f) (news_of old.trees f)) nothing in
      let zero : count ≡ 0 = r.counted ∙ ap (λ f. length (news_of old.trees f)) nothing in
      record {
        formed = record { schema = r.schema; rows = subst AreRows (sym same) are };
        none = λ _. (get-from_entries keys_total _ key ∙ none_found key (old.trees 0) none, ap content_in same);
        some = λ no. absurd (no zero);
      }

  when_one : to.0 < 256 → (it : Row) → Has (old.trees 0) it → hit key it ≡ true → filter (hit key) (old.trees 0) ≡ it ∷ [] → Moves old new key to value count
  when_one byte it there at one =
      let form = each IsFormedRow (old.trees 0) it are.typed.formed there in
      let is = form.3 in
      let new_row : Row = stored form.0 to value in
      let single = found_one key to value old.trees r.found are r.answer it one in
      let news : news_of old.trees r.found ≡ new_row ∷ [] = ap (news_of old.trees) single ∙ new_row_is old.trees to value it form.0 is.id_is in
      let left : left_of old.trees r.found ≡ filter (λ x. not (hit key x)) (old.trees 0) = ap (left_of old.trees) single ∙ taken_out key (old.trees 0) ((rowid it ∷ []) ∷ []) are (found_at key (old.trees 0) it are there at one) in
      let free : is_taken (filter (λ x. not (hit key x)) (old.trees 0)) new_row ≡ false = not-true _ (and_parts _ _ (subst₂ (λ l n. are_fresh l n ≡ true) left news r.fresh)).0 in
      let put : r.next 0 ≡ put_row new_row (filter (λ x. not (hit key x)) (old.trees 0)) = r.put ∙ ap (λ l. put_all l (news_of old.trees r.found)) left ∙ ap (put_all (filter (λ x. not (hit key x)) (old.trees 0))) news in
      let rows : new.trees 0 ≡ put_row new_row (filter (λ x. not (hit key x)) (old.trees 0)) = r.rows ∙ put in
      let kept = rows_left (λ x. not (hit key x)) (old.trees 0) are in
      let none : get (content_in (filter (λ x. not (hit key x)) (old.trees 0))) to ≡ None = free_key (filter (λ x. not (hit key x)) (old.trees 0)) r.next form.0 to value kept free put r.fits in
      let one_row : count ≡ 1 = r.counted ∙ ap length news in
      record {
        formed = record {
          schema = r.schema;
          rows = subst AreRows (sym rows) (rows_put new_row _ free none (form.0, to, value, record { id_is = refl; kind = refl; owner = refl; place = refl; value_is = refl; byte = byte }) kept);
        };
        none = λ zero. absurd (let e = sym one_row ∙ zero in cc);
        some = λ _. ap content_in rows ∙ put_in new_row _ free none ∙ ap (λ c. insert c to value) (erased key (old.trees 0));
      }

pub moves : (old new : State) (key to : Key) (value : List ℕ) (r : Result ℕ Error) → to.0 < 256 → IsFormed old.now → Executes move_text (given_move key to value) old new r → IfOk r (Moves old.now new.now key to value)
moves old new key to value (Err e) byte is h = tt
moves old new key to value (Ok count) byte is h =
    let did = ran old new key to value count is h in
    elim (one_hit key (old.now.trees 0) is.rows.keys_apart) [
      | inl none ↦ when_none old.now new.now key to value count is.rows did none
      | inr found ↦ when_one old.now new.now key to value count is.rows did byte found.0 found.1 found.2 found.3
    ]

-- ---- in a transaction

moves_inside : (old new : State) (key to : Key) (value : List ℕ) (r : Result ℕ Error) (b : Bool) → to.0 < 256 → old.in_transaction ≡ b → (old.in_transaction ≡ false → Refused old new r) → (IsTrue old.in_transaction → ExecutesInside 0 move_text (given_move key to value) old new r) → IsFormed old.now
    → IfOk r (HasMoved old new key to value)
moves_inside old new key to value (Err e) b byte was ended runs is = tt
moves_inside old new key to value (Ok count) false byte was ended runs is = absurd (let e = (ended was).1 in cc)
moves_inside old new key to value (Ok count) true byte was ended runs is =
    let went = runs was in
    let did = moves old new key to value (Ok count) byte is went.0 in
    record {
      none = λ zero. ((did.none zero).0, record { formed = did.formed; holds = (did.none zero).1; shown = went.1 });
      some = λ no. record { formed = did.formed; holds = did.some no; shown = went.1 };
    }

pub move_goes : (old new : State) (key to : Key) (value : List ℕ) (r : Result ℕ Error) → to.0 < 256 → (old.in_transaction ≡ false → Refused old new r) → (IsTrue old.in_transaction → ExecutesInside 0 move_text (given_move key to value) old new r) → IsFormed old.now
    → IfOk r (HasMoved old new key to value)
move_goes old new key to value r byte = moves_inside old new key to value r old.in_transaction byte refl

-- a row that moves to its own key is updated
pub updated : (old new : State) (key : Key) (value : List ℕ) (r : Result ℕ Error) → IfOk r (HasMoved old new key key value) → IfOk r (HasUpdated old new key value)
updated old new key value (Err e) h = tt
updated old new key value (Ok count) h = record { none = h.none; some = λ no. subst (λ c. GoesOn old new c) (insert_over (held old.now) key value) (h.some no) }
