-- What the statements do to the content.
use Rattle.std.proofs.Common.{◌≡◌, ◌⊎◌, inl, inr, ℕ, zero, suc, take, drop, ◌<◌, pos, List, [], ◌∷◌, Bool, true, false, not, cond, Some, None, Ok, Err, Result, OnOk, IfErr, OnErr, refl, sym, ap, subst, ◌∙◌}
use Rattle.std.proofs.lemmas.Bool.{and_parts, not-true}
use Rattle.std.specs.FinMap.{get, insert, remove}
use Rattle.sqlite.specs.declared.types.Value.{Value}
use Rattle.sqlite.specs.declared.types.Value.TheVariants.{Null, Int, Blob}
use Rattle.sqlite.specs.Order.{Row}
use Rattle.sqlite.specs.Query.{IsAnswer}
use Rattle.sqlite.specs.Program.{overlay}
use Rattle.sqlite.specs.Kind.TheVariants.{Integer}
use Rattle.sqlite.specs.Source.TheVariants.{Values}
use Rattle.sqlite.specs.Command.TheVariants.{Insert, Delete}
use Rattle.sqlite.specs.Edit.{edit_of, put_all, is_taken, are_fresh, next_rowid}
use Rattle.sqlite.specs.Cast.{cast}
use Rattle.sqlite.specs.Ops.{unary}
use Rattle.sqlite.specs.Rowids.TheVariants.{Chosen, Given}
use Rattle.sqlite.specs.Does.{Tally, Does}
use Rattle.sqlite.specs.Rows.{Written}
use Rattle.sqlite.specs.Tree.{Trees, put_row}
use Rattle.sqlite.specs.declared.error.Error.{Error}
use Rattle.sqlite.specs.Listing.{understood}
use Rattle.sqlite.specs.Effect.{Database}
use Rattle.sqlite.specs.State.{State, mode_of, Writes, Executes, ExecutesInside, KeepsCommit, IsUnchanged, IsRolledBack}
use Rattle.std.specs.FinMap.{same_map, get-insert, get-remove}
use Rattle.row_store.proofs.Keys.{keys_total, exact_keys}
use Rattle.std.specs.Ordering.{eq_by_cmp}
use Rattle.std.specs.Cmp.{eq_by_cmp_equiv}
use Rattle.sqlite.specs.Held.{Held, state}
use Rattle.sqlite.specs.Steps.{FailsToCommit}
use Rattle.sqlite.specs.Store.{Ghosts}
use Rattle.std.specs.FinMap.{empty}
use Rattle.sqlite.specs.Change.{created, next_tree}
use Rattle.sqlite.specs.Does.{lacks_sequence}
use Rattle.sqlite.specs.Command.TheVariants.{CreateTable}
use Rattle.session_records.specs.Table.{no_schema}
use Rattle.session_records.proofs.Means.{create_text, create_is, create_plain}
use Rattle.std.proofs.Common.{IsTrue}
use Rattle.sqlite.proofs.Callers.{statement_of, runs_as, one_step}
use Rattle.sqlite_schema.specs.declared.program.Program.{Program}
use Rattle.sqlite_rules.specs.Calls.{ids_of}
use Rattle.sqlite_rules.specs.Probe.{AreFound}
use Rattle.sqlite_rules.proofs.ProbeLemmas.{found_rowids}
use Rattle.session_records.specs.Table.{rows_table, rows_schema}
use Rattle.session_records.proofs.Means.{erase_text, erase_is, erase_plain, hits, tests, put_text, put_is, put_plain, terms}
use Rattle.session_records.proofs.Lists.{given_key, hit, erased, taken_out, rows_left, rows_put, put_in}
use Rattle.session_records.proofs.Unique.{stored, free_key}
use Rattle.session_records.specs.Connections.{GoesOn, StaysOrEnds}
use Rattle.row_store.specs.Rows.{key_cmp, Key, Content, after, after_all}
use Rattle.row_store.specs.declared.row.Change.{Change}
use Rattle.session_records.specs.Stored.{content_in, AreRows, IsFormed, held}

-- a part that gave a value did not stop on the way
pub went : {B E R : Type 0} {b : B} {Stops : E → Type 0} → ((stop : E) × Stops stop × (Ok b ≡ Err stop)) ⊎ R → R
went (inl stopped) = absurd (let e = stopped.2 in cc)
went (inr on) = on

pub same_value : {B E : Type 0} {a b : B} → ◌≡◌ {A = Result B E} (Ok a) (Ok b) → a ≡ b
same_value e = cc

found_by : (db : Trees) (given : Row) (found : List Row) → IsAnswer hits db given found → AreFound tests (db 0) given found
found_by db given found a = found_rowids 0 tests db given found (record { staged = a.staged; grouped = a.grouped; kept = a.kept; distinct = a.distinct; ordered = a.ordered; same = a.same; sorted = a.sorted; shown = a.shown })

abbrev program : Program
program = record { lets = []; body = hits }

abbrev pub Changes : Database → Database → Content → Type 0
Changes old new after = IsFormed new × (held new ≡ after)

pub erases : (old new : State) (key : Key) (r : Result ℕ Error) → IsFormed old.now → Executes erase_text (given_key key) old new r → OnOk r (Changes old.now new.now (remove (held old.now) key))
erases old new key (Err e) is h = tt
erases old new key (Ok count) is h =
    let params = given_key key in
    let db = old.now.trees in
    let command = Delete 0 program in
    let w = runs_as erase_text params old new rows_schema is.schema command erase_is erase_plain count h in
    let text = statement_of erase_text (understood rows_schema erase_text) in
    let done = went (subst (λ s. Does old.step_limit (mode_of old) params (record old.now { schema = s }) text None command (Ok (w.tally, new.now))) is.schema w.changed) in
    let now = ap (λ (p : Tally × Database). p.1) (same_value (went (went done.2).2).2) in
    let given = went done.1 in
    let written = went given.2 in
    let trees : done.0.trees ≡ written.0 = ap (λ (it : Written). it.trees) (same_value written.2) in
    let rows = (one_step rows_schema _ db written.0 (edit_of db rows_table (ids_of given.0) Given 0 []) refl written.1).rows in
    let found = found_by (overlay db []) params given.0 (given.1.answer Null) in
    let left = rows ∙ taken_out key (db 0) given.0 is.rows found in
    let whole = ap (λ (d : Database). d.trees 0) now ∙ ap (λ (t : Trees). t 0) trees ∙ left in
    (record { schema = ap (λ (d : Database). d.schema) now; rows = subst AreRows (sym whole) (rows_left (λ r. not (hit key r)) (db 0) is.rows) }, ap content_in whole ∙ erased key (db 0))

pub either : (b : Bool) (x : Value) → cond b x x ≡ x
either true x = refl
either false x = refl

cast_int : (n : ℕ) → cast Integer (Int (pos n)) ≡ Int (pos n)
unfolding unary
cast_int n = either _ (Int (pos n))

cast_null : cast Integer Null ≡ Null
unfolding unary
cast_null = either _ Null

-- ---- putting in

abbrev pub given_row : Key → List ℕ → Row
given_row key value = Int (pos key.0) ∷ Blob key.1.0 ∷ Blob key.1.1 ∷ Blob value ∷ []

pub puts : (old new : State) (key : Key) (value : List ℕ) (r : Result ℕ Error) → key.0 < 256 → IsFormed old.now → Executes put_text (given_row key value) old new r
    → OnOk r (Changes old.now new.now (insert (held old.now) key value))
puts old new key value (Err e) byte is h = tt
puts old new key value (Ok count) byte is h =
    let params = given_row key value in
    let db = old.now.trees in
    let command = Insert 0 (Values terms 5) in
    let w = runs_as put_text params old new rows_schema is.schema command put_is put_plain count h in
    let text = statement_of put_text (understood rows_schema put_text) in
    let done = went (subst (λ s. Does old.step_limit (mode_of old) params (record old.now { schema = s }) text None command (Ok (w.tally, new.now))) is.schema w.changed) in
    let now = ap (λ (p : Tally × Database). p.1) (same_value (went (went done.2).2).2) in
    let given = went done.1 in
    let written = went (went given.2).2 in
    let counted = went written.2 in
    let trees : done.0.trees ≡ written.0 = ap (λ (it : Written). it.trees) (same_value counted.2) ∙ same_value counted.1 in
    let step = one_step rows_schema _ db written.0 (edit_of db rows_table [] Chosen 0 given.0) refl written.1 in
    let new_row : Row = stored (next_rowid (db 0)) key value in
    let news : (edit_of db rows_table [] Chosen 0 given.0).news ≡ new_row ∷ [] = ap (λ all. (edit_of db rows_table [] Chosen 0 all).news) given.1.1 ∙ rw (cast_null, cast_int key.0) refl in
    let free : is_taken (db 0) new_row ≡ false = not-true _ (and_parts _ _ (subst (λ all. are_fresh (db 0) all ≡ true) news step.fresh)).0 in
    let rows : written.0 0 ≡ put_row new_row (db 0) = step.rows ∙ ap (put_all (db 0)) news in
    let none : get (held old.now) key ≡ None = free_key (db 0) written.0 (next_rowid (db 0)) key value is.rows free rows step.fits in
    let whole = ap (λ (d : Database). d.trees 0) now ∙ ap (λ (t : Trees). t 0) trees ∙ rows in
    (record { schema = ap (λ (d : Database). d.schema) now; rows = subst AreRows (sym whole) (rows_put new_row (db 0) free none (next_rowid (db 0), key, value, record { id_is = refl; kind = refl; owner = refl; place = refl; value_is = refl; byte = byte }) is.rows) }, ap content_in whole ∙ put_in new_row (db 0) free none)

-- ---- in a transaction

abbrev pub Refused : State → State → Result ℕ Error → Type 0
Refused old new r = (e : Error) × (r ≡ Err e)

erases_inside : (old new : State) (key : Key) (r : Result ℕ Error) (b : Bool) → old.in_transaction ≡ b → (old.in_transaction ≡ false → Refused old new r) → (IsTrue old.in_transaction → ExecutesInside 0 erase_text (given_key key) old new r) → IsFormed old.now
    → OnOk r (GoesOn old new (remove (held old.now) key))
erases_inside old new key (Err e) b was ended runs is = tt
erases_inside old new key (Ok count) false was ended runs is = absurd (let e = (ended was).1 in cc)
erases_inside old new key (Ok count) true was ended runs is =
    let ran = runs was in
    let did = erases old new key (Ok count) is ran.0 in
    record { formed = did.0; holds = did.1; shown = ran.1 }

pub erase_goes : (old new : State) (key : Key) (r : Result ℕ Error) → (old.in_transaction ≡ false → Refused old new r) → (IsTrue old.in_transaction → ExecutesInside 0 erase_text (given_key key) old new r) → IsFormed old.now
    → OnOk r (GoesOn old new (remove (held old.now) key))
erase_goes old new key r = erases_inside old new key r old.in_transaction refl

puts_inside : (old new : State) (key : Key) (value : List ℕ) (r : Result ℕ Error) (b : Bool) → key.0 < 256 → old.in_transaction ≡ b → (old.in_transaction ≡ false → Refused old new r) → (IsTrue old.in_transaction → ExecutesInside 0 put_text (given_row key value) old new r) → IsFormed old.now
    → OnOk r (GoesOn old new (insert (held old.now) key value))
puts_inside old new key value (Err e) b byte was ended runs is = tt
puts_inside old new key value (Ok count) false byte was ended runs is = absurd (let e = (ended was).1 in cc)
puts_inside old new key value (Ok count) true byte was ended runs is =
    let ran = runs was in
    let did = puts old new key value (Ok count) byte is ran.0 in
    record { formed = did.0; holds = did.1; shown = ran.1 }

pub put_goes : (old new : State) (key : Key) (value : List ℕ) (r : Result ℕ Error) → key.0 < 256 → (old.in_transaction ≡ false → Refused old new r) → (IsTrue old.in_transaction → ExecutesInside 0 put_text (given_row key value) old new r) → IsFormed old.now
    → OnOk r (GoesOn old new (insert (held old.now) key value))
put_goes old new key value r byte = puts_inside old new key value r old.in_transaction byte refl

-- ---- what was committed stays

keeps_unchanged : (old new : State) → IsUnchanged old new → KeepsCommit old new
keeps_unchanged old new h = record { was_open = λ _. h.0.was_open; committed = λ _. h.0.committed_is }

keeps_undone : (old new : State) → IsRolledBack old new → KeepsCommit old new
keeps_undone old new h = record { was_open = h.was_open; committed = λ up. (h.undone up).1 }

keeps_inside : (old new : State) (sql : List ℕ) (params : Row) (r : Result ℕ Error) → ExecutesInside 0 sql params old new r → KeepsCommit old new
keeps_inside old new sql params (Ok count) h = record { was_open = λ _. h.1.was_open; committed = λ _. h.1.committed_is }
keeps_inside old new sql params (Err e) (inl (_, inl same)) = keeps_unchanged old new same
keeps_inside old new sql params (Err e) (inl (_, inr undone)) = keeps_undone old new undone
keeps_inside old new sql params (Err e) (inr (_, _, same)) = keeps_unchanged old new same

pub keeps_same : (s : State) → KeepsCommit s s
keeps_same s = record { was_open = λ up. up; committed = λ _. refl }

pub keeps_then : (a b c : State) → KeepsCommit a b → KeepsCommit b c → KeepsCommit a c
keeps_then a b c one two = record { was_open = λ up. one.was_open (two.was_open up); committed = λ up. two.committed up ∙ one.committed (two.was_open up) }

pub keeps_run : {S : Type 0} (g : Ghosts S) (old new : Held S) (sql : List ℕ) (params : Row) (r : Result ℕ Error) (b : Bool) → old.in_transaction ≡ b → (old.in_transaction ≡ false → new ≡ old) → (IsTrue old.in_transaction → ExecutesInside 0 sql params (state g old) (state g new) r) → KeepsCommit (state g old) (state g new)
keeps_run g old new sql params r true was ended runs = keeps_inside (state g old) (state g new) sql params r (runs was)
keeps_run g old new sql params r false was ended runs = subst (λ h. KeepsCommit (state g old) (state g h)) (sym (ended was)) (keeps_same (state g old))

-- ---- what a refusal leaves

stays_inside : (old new : State) (sql : List ℕ) (params : Row) (r : Result ℕ Error) → ExecutesInside 0 sql params old new r → OnErr r (StaysOrEnds old new)
stays_inside old new sql params (Ok count) h = tt
stays_inside old new sql params (Err e) (inl (_, inl same)) = inl same
stays_inside old new sql params (Err e) (inl (_, inr undone)) = inr undone.autocommit
stays_inside old new sql params (Err e) (inr (_, _, same)) = inl same

pub stays_run : {S : Type 0} (g : Ghosts S) (old new : Held S) (sql : List ℕ) (params : Row) (r : Result ℕ Error) (b : Bool) → old.in_transaction ≡ b → (old.in_transaction ≡ false → new ≡ old) → (IsTrue old.in_transaction → ExecutesInside 0 sql params (state g old) (state g new) r) → OnErr r (StaysOrEnds (state g old) (state g new))
stays_run g old new sql params r true was ended runs = stays_inside (state g old) (state g new) sql params r (runs was)
stays_run g old new sql params (Ok count) false was ended runs = tt
stays_run {S} g old new sql params (Err e) false was ended runs = inr (ap (λ (h : Held S). h.in_transaction) (ended was) ∙ was)

pub begun_of : (b : Bool) (r : Result ℕ Error) → (b ≡ false → (e : Error) × (r ≡ Err e)) → OnOk r (IsTrue b)
begun_of b (Err e) ended = tt
begun_of true (Ok count) ended = refl
begun_of false (Ok count) ended = absurd (let e = (ended refl).1 in cc)

-- ---- a change is one or two statements

pub goes_then : (a b c : State) (x y : Content) → GoesOn a b x → GoesOn b c y → GoesOn a c y
goes_then a b c x y one two = record {
  formed = two.formed;
  holds = two.holds;
  shown = record { was_open = one.shown.was_open; is_open = two.shown.is_open; now_is = refl; committed_is = two.shown.committed_is ∙ one.shown.committed_is; mode = two.shown.mode };
}

shadowed : {A : Type 0} (b : Bool) (x y z : A) → cond b x (cond b y z) ≡ cond b x z
shadowed true x y z = refl
shadowed false x y z = refl

pub insert_over : (c : Content) (key : Key) (value : List ℕ) → insert (remove c key) key value ≡ insert c key value
insert_over c key value = same_map keys_total exact_keys _ _ (λ q.
    get-insert keys_total (remove c key) key value q ∙ ap (cond (eq_by_cmp key_cmp q key) (Some value)) (get-remove keys_total c key q) ∙ shadowed (eq_by_cmp key_cmp q key) (Some value) None (get c q) ∙ sym (get-insert keys_total c key value q))

pub absent : (c : Content) (key : Key) → get (remove c key) key ≡ None
absent c key = get-remove keys_total c key key ∙ ap (λ b. cond b None (get c key)) ((eq_by_cmp_equiv keys_total).refl key)

-- a commit that fails leaves what was committed
pub commit_fails : {X : Type 0} (old mid new : State) (r : Result X Error) → KeepsCommit old mid → mid.in_transaction ≡ true → IsTrue new.is_open → IfErr r (FailsToCommit mid new) → OnErr r ((new.now ≡ old.committed) × (new.committed ≡ old.committed))
commit_fails old mid new (Ok x) kept begun up h = tt
commit_fails old mid new (Err e) kept begun up (inl fails) =
    let undone = fails.3 in
    let same = kept.committed (undone.was_open up) in
    ((undone.undone up).0 ∙ same, (undone.undone up).1 ∙ same)
commit_fails old mid new (Err e) kept begun up (inr h) = absurd (let f = sym begun ∙ h.1 in cc)

pub keeps_begun : {S : Type 0} (g : Ghosts S) (old : Held S) (new : State) → KeepsCommit (state g (record old { in_transaction = true })) new → KeepsCommit (state g old) new
keeps_begun g old new h = record { was_open = h.was_open; committed = h.committed }

-- ---- making the table

creates : (old new : State) (r : Result ℕ Error) → old.now.schema ≡ no_schema → Executes create_text [] old new r → OnOk r (Changes old.now new.now empty)
creates old new (Err e) has h = tt
creates old new (Ok count) has h =
    let w = subst (λ t. Writes old new None CreateTable t [] count) create_is.1 (runs_as create_text [] old new no_schema has CreateTable create_is.0 create_plain count h) in
    let all = went w.changed in
    let first = went all.1 in
    let made = first.1 in
    let both : Ok made.table ≡ Ok rows_table = sym made.defined ∙ create_is.2 in
    let same : made.table ≡ rows_table = cc in
    let schema : first.0.schema ≡ rows_schema = made.is ∙ ap (λ s. created s made.table) has ∙ ap (created no_schema) same in
    let plain : lacks_sequence first.0.schema ≡ false = ap lacks_sequence schema in
    let now : new.now ≡ first.0 = ap (λ (p : Tally × Database). p.1) (same_value all.2) ∙ same_value (rw plain at first.2) in
    let none : new.now.trees 0 ≡ [] = ap (λ (d : Database). d.trees 0) now ∙ subst (λ s. first.0.trees (next_tree s) ≡ []) has made.empty in
    (record { schema = ap (λ (d : Database). d.schema) now ∙ schema; rows = subst AreRows (sym none) (record { typed = record { formed = tt; apart = tt }; keys_apart = tt }) }, ap content_in none)

creates_inside : (old new : State) (r : Result ℕ Error) (b : Bool) → old.in_transaction ≡ b → (old.in_transaction ≡ false → Refused old new r) → (IsTrue old.in_transaction → ExecutesInside 0 create_text [] old new r) → old.now.schema ≡ no_schema
    → OnOk r (GoesOn old new empty)
creates_inside old new (Err e) b was ended runs has = tt
creates_inside old new (Ok count) false was ended runs has = absurd (let e = (ended was).1 in cc)
creates_inside old new (Ok count) true was ended runs has =
    let ran = runs was in
    let did = creates old new (Ok count) has ran.0 in
    record { formed = did.0; holds = did.1; shown = ran.1 }

pub create_goes : (old new : State) (r : Result ℕ Error) → (old.in_transaction ≡ false → Refused old new r) → (IsTrue old.in_transaction → ExecutesInside 0 create_text [] old new r) → old.now.schema ≡ no_schema
    → OnOk r (GoesOn old new empty)
create_goes old new r = creates_inside old new r old.in_transaction refl

-- ---- changes in turn

pub all_after : (c : Content) (n : ℕ) (xs : List Change) → after_all (after_all c (take n xs)) (drop n xs) ≡ after_all c xs
all_after c zero xs = refl
all_after c (suc n) [] = refl
all_after c (suc n) (x ∷ xs) = all_after (after c x) n xs
