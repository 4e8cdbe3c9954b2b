-- Why a statement of a store of rows fails.
use lib.Ieee.{is_nan, lt}
use lib.Utf8.{encode}
use Rattle.std.proofs.Common.{IsTrue, ◌<◌, lit<, ◌+◌, ◌*◌, ◌^◌, not, ◌&&◌, ◌||◌, codes, IsUtf8, Option, is_some, ◌≡◌, inl, inr, ◌≤◌, lit≤, length, List, [], ◌∷◌, ℕ, true, false, None, Some, Ok, Err, Result, IfErr, refl, sym, ap, subst, subst₂, ◌∙◌, append-nil, arith}
use Rattle.sqlite_trees.specs.declared.error.StoreError.{StoreError}
use Rattle.sqlite_trees.specs.declared.error.StoreError.TheVariants.{OutOfMemory, Io, Corrupt, Full, Broken, Unstorable}
use Rattle.sqlite_trees.specs.Tree.{Trees}
use Rattle.sqlite_schema.specs.declared.program.Program.{Program}
use Rattle.sqlite_schema.specs.declared.schema.Schema.{Schema}
use Rattle.sqlite_resolve.specs.declared.compiled.Compiled.{Compiled}
use Rattle.sqlite_resolve.specs.declared.error.CompileError.{CompileError}
use Rattle.sqlite.specs.declared.error.Error.{Error}
use Rattle.sqlite.specs.declared.error.Error.TheVariants.{SqliteFailure}
use Rattle.sqlite.specs.declared.error.ErrorCode.TheVariants as code
use Rattle.sqlite.specs.Command.TheVariants.{Select, CreateTable}
use Rattle.sqlite.specs.Effect.{Database, is_query, RefusesToRead, RefusesQuery}
use Rattle.sqlite.specs.Does.{Does, MakesTable, MakesSequence, lacks_sequence}
use Rattle.sqlite.specs.Rows.{Then}
use Rattle.sqlite.specs.Change.{created, next_tree}
use Rattle.sqlite_catalog.specs.Calls.{RefusesTable}
use Rattle.sqlite_catalog.specs.declared.error.Refusal.{Refusal}
use Rattle.sqlite_catalog.specs.declared.error.Refusal.TheVariants.{Invalid, NameTaken, BadName, TooBig, BadKey, BadText, Violates}
use Rattle.sqlite_schema.specs.Rules.{table_reals, index_reals}
use Rattle.sqlite_trees.specs.Sound.{same_name, begins, is_free_name, fits_kind}
use Rattle.sqlite_value.specs.Order.{value_cmp}
use Rattle.sqlite.specs.Listing.{understood, reads_listing, IsSourceOf}
use Rattle.sqlite.specs.State.{State, mode_of, store_error, HasCause, FailsToQuery, IsNotRun, IsNoStatement, ExecutesIn, ExecutesInside, EndsScope, Escapes, RunsCommand, is_pragma, shows_rows, text_of}
use Rattle.sqlite.specs.Steps.{FailsToCommit}
use Rattle.sqlite_schema.specs.declared.command.Command.{Command}
use Rattle.sqlite_schema.specs.declared.command.Returning.{Returning}
use Rattle.row_store.specs.declared.store.RowFault.{RowFault}
use Rattle.row_store.specs.declared.store.RowFault.TheVariants as fault
use Rattle.sqlite.proofs.Callers.{IsPlain, command_of, statement_of}
use Rattle.sqlite_tied.specs.Compute.{everything}
use Rattle.session_records.specs.Connections.{HasDiskFailed, IsExcused}
use Rattle.session_records.specs.Table.{rows_table, rows_schema, no_schema}
use Rattle.session_records.proofs.Means.{create_text, create_is, create_plain, all_text, all_is, all_plain, all, numbered_text, numbered_is, numbered_plain, numbered}

-- a cause that isn't want of memory is the disk
pub excused_by : (old new : State) (too_big : Type 0) → ¬ too_big → (e : Error) (cause : StoreError) → e ≡ store_error cause → HasCause old new too_big cause → IsExcused old new e
excused_by old new too_big fits e OutOfMemory is why = inl is
excused_by old new too_big fits e Io is why = inr (inr why)
excused_by old new too_big fits e Corrupt is why = inr (inr why)
excused_by old new too_big fits e Full is why = inr (inr why)
excused_by old new too_big fits e Broken is why = inr (inl why)
excused_by old new too_big fits e Unstorable is why = absurd (fits why)

-- seen from an earlier state that was as open and had no more faults, up to a later one
pub disk_within : (old mid later new : State) → (mid.is_open ≡ false → old.is_open ≡ false) → old.faults ≤ mid.faults → later.faults ≤ new.faults → HasDiskFailed mid later → HasDiskFailed old new
disk_within old mid later new up less more (inl shut) = inl (up shut)
disk_within old mid later new up less more (inr faults) = inr (omega (arith, less, more, faults))

pub excused_within : (old mid later new : State) (e : Error) → (mid.is_open ≡ false → old.is_open ≡ false) → old.faults ≤ mid.faults → later.faults ≤ new.faults → IsExcused mid later e → IsExcused old new e
excused_within old mid later new e up less more (inl memory) = inl memory
excused_within old mid later new e up less more (inr disk) = inr (disk_within old mid later new up less more disk)

pub disk_of : (old new : State) (e : Error) (why : RowFault) → IsExcused old new e → (e ≡ SqliteFailure code.OutOfMemory → why ≡ fault.NoMemory) → why ≡ fault.Device → HasDiskFailed old new
disk_of old new e why (inl memory) told device = absurd (let f = sym (told memory) ∙ device in cc)
disk_of old new e why (inr disk) told device = disk

-- an open store that is in a transaction
pub commit_excused : (old new : State) (e : Error) → old.in_transaction ≡ true → FailsToCommit old new e → IsExcused old new e
commit_excused old new e begun (inl fails) = excused_by old new ⊥ (λ h. h) e fails.0 fails.1 fails.2
commit_excused old new e begun (inr h) = absurd (let f = sym begun ∙ h.1 in cc)

pub commit_within : {X : Type 0} (old mid new : State) (r : Result X Error) → mid.in_transaction ≡ true → IsTrue mid.is_open → old.faults ≤ mid.faults → IfErr r (FailsToCommit mid new) → IfErr r (IsExcused old new)
commit_within old mid new (Ok x) begun up less fails = tt
commit_within old mid new (Err e) begun up less fails = excused_within old mid new new e (λ shut. absurd (let f = sym up ∙ shut in cc)) less (omega arith) (commit_excused mid new e begun fails)

-- ---- a text that is one statement without parameters

abbrev pub IsWhole : List ℕ → Result Compiled CompileError → Type 0
IsWhole sql (Ok c) = (length sql ≤ c.tail) × (c.names ≡ [])
IsWhole sql (Err e) = ⊥

module _ (sql : List ℕ) (old new : State) (schema : Schema) (has : old.now.schema ≡ schema) (plain : IsPlain (understood schema sql)) (whole : IsWhole sql (understood schema sql)) where
  known : (r : Result Compiled CompileError) → understood old.now.schema sql ≡ r → understood schema sql ≡ r
  known r is = ap (λ s. understood s sql) (sym has) ∙ is

  is_statement : (e : Error) → ¬ IsNoStatement old sql [] e
  is_statement e (inl h) = subst IsPlain (known _ h.1) plain
  is_statement e (inr (c, is, inl many)) = many.0 (subst (IsWhole sql) (known _ is) whole).0
  is_statement e (inr (c, is, inr (inl short))) = short.0 (sym (ap length (subst (IsWhole sql) (known _ is) whole).1))
  is_statement e (inr (c, is, inr (inr timeless))) = timeless.0 (subst IsPlain (known _ is) plain).1

  pub not_run_excused : (e : Error) → IsNotRun old new sql [] e → IsExcused old new e
  unfolding IsNotRun
  not_run_excused e (inl h) = absurd (is_statement e h.0)
  not_run_excused e (inr fails) = excused_by old new ⊥ (λ h. h) e fails.0 fails.1 fails.2

  module _ (q : Program) (names : List (List ℕ)) (is : command_of (understood schema sql) ≡ Select q names) (unlisted : reads_listing schema sql ≡ false) (free : old.step_limit ≡ None)
      (answered : (db : Trees) (e : Error) → ¬ RefusesQuery None (record { schema = schema; trees = db }) q [] e) where
    pub query_excused : (e : Error) → FailsToQuery sql [] old new e → IsExcused old new e
    unfolding FailsToQuery
    query_excused e (inl h) = not_run_excused e h
    query_excused e (inr h) =
        let u = known _ h.1.is in
        let bare = subst IsPlain u plain in
        let it = rw (bare.0, bare.1, append-nil []) at h.2 in
        let db : it.0 ≡ old.now = subst (λ b. IsSourceOf b old.now it.0) (ap (λ s. reads_listing s sql) has ∙ unlisted) it.1 in
        let command : h.0.command ≡ Select q names = ap command_of (sym u) ∙ is in
        let refuses : RefusesQuery None it.0 q [] e = subst₂ (λ l k. RefusesToRead l k it.0 [] e) free command it.2 in
        absurd (answered it.0.trees e (subst (λ s. RefusesQuery None (record it.0 { schema = s }) q [] e) (ap (λ (d : Database). d.schema) db ∙ has) refuses))

all_whole : IsWhole all_text (understood rows_schema all_text)
unfolding understood everything
all_whole = (lit≤ tt, refl)

numbered_whole : IsWhole numbered_text (understood rows_schema numbered_text)
unfolding understood everything
numbered_whole = (lit≤ tt, refl)

-- their columns are typed, and they sum nothing
all_answered : (db : Trees) (e : Error) → ¬ RefusesQuery None (record { schema = rows_schema; trees = db }) (record { lets = []; body = all }) [] e
unfolding everything
all_answered db e (inl bad) = let f : true ≡ false = bad.1 in cc
all_answered db e (inr (inl (_, inl over))) = over
all_answered db e (inr (inl (_, inr over))) = over.4
all_answered db e (inr (inr limited)) = let f : false ≡ true = limited.1 in cc

numbered_answered : (db : Trees) (e : Error) → ¬ RefusesQuery None (record { schema = rows_schema; trees = db }) (record { lets = []; body = numbered }) [] e
unfolding everything
numbered_answered db e (inl bad) = let f : true ≡ false = bad.1 in cc
numbered_answered db e (inr (inl (_, inl over))) = over
numbered_answered db e (inr (inl (_, inr over))) = over.4
numbered_answered db e (inr (inr limited)) = let f : false ≡ true = limited.1 in cc

pub all_excused : (old new : State) (e : Error) → old.now.schema ≡ rows_schema → old.step_limit ≡ None → FailsToQuery all_text [] old new e → IsExcused old new e
all_excused old new e has free = query_excused all_text old new rows_schema has all_plain all_whole (record { lets = []; body = all }) _ all_is.0 all_is.1 free all_answered e

pub numbered_excused : (old new : State) (e : Error) → old.now.schema ≡ rows_schema → old.step_limit ≡ None → FailsToQuery numbered_text [] old new e → IsExcused old new e
numbered_excused old new e has free = query_excused numbered_text old new rows_schema has numbered_plain numbered_whole (record { lets = []; body = numbered }) _ numbered_is.0 numbered_is.1 free numbered_answered e

-- ---- making the table

create_whole : IsWhole create_text (understood no_schema create_text)
unfolding understood everything
create_whole = (lit≤ tt, refl)

name_is_text : IsUtf8 (codes "rows")
unfolding encode
name_is_text = (codes "rows", (refl, refl))

create_is_text : IsUtf8 create_text
unfolding encode
create_is_text = (create_text, (refl, refl))

few : 2 * length rows_table.name + length create_text + 200 < 10 ^ 9
few = lit< tt

one_tree : next_tree no_schema + length rows_table.uniques < 65536
one_tree = lit< tt

no_reals : table_reals rows_table < 2 ^ 64
no_reals = lit< tt

no_index_reals : index_reals (table_reals rows_table) (1 ∷ 2 ∷ 3 ∷ []) < 2 ^ 64
no_index_reals = lit< tt

not_refused : (why : Refusal) → ¬ RefusesTable no_schema create_text why
unfolding understood everything same_name begins is_free_name fits_kind value_cmp is_nan lt
not_refused (Invalid e) h = let f = sym h ∙ create_is.2 in cc
not_refused NameTaken (table, defined, inl used) = let f : false ≡ true = used in cc
not_refused NameTaken (table, defined, inr (index, has, used)) = let f : false ≡ true = used in cc
not_refused BadName (table, defined, bad) = let same : table ≡ rows_table = (let f = sym defined ∙ create_is.2 in cc) in elim (rw same at bad) [ inl garbled ↦ garbled name_is_text | inr (reserved, own) ↦ let f : false ≡ true = reserved in cc ]
not_refused TooBig (table, defined, big) = let same : table ≡ rows_table = (let f = sym defined ∙ create_is.2 in cc) in elim (rw same at big) [
  | inl many ↦ absurd (omega (arith, many, one_tree))
  | inr (inl wide) ↦ absurd (omega (arith, wide, no_reals))
  | inr (inr (key, inl is, wide)) ↦ absurd (omega (arith, rw is at wide, no_index_reals))
  | inr (inr (key, inr none, wide)) ↦ none
]
not_refused BadKey (table, defined, bad) = let same : table ≡ rows_table = (let f = sym defined ∙ create_is.2 in cc) in let f : true ≡ false = rw same at bad in cc
not_refused BadText (table, defined, bad) = let same : table ≡ rows_table = (let f = sym defined ∙ create_is.2 in cc) in let f : true ≡ false = rw same at bad in cc
not_refused (Violates rule) h = h

is_made : (db : Database) (stop : Option Error) → db.schema ≡ no_schema → ¬ MakesTable create_text db (Err stop)
is_made db None has (table, defined, long) = let same : table ≡ rows_table = (let f = sym defined ∙ create_is.2 in cc) in absurd (omega (arith, rw same at long, few))
is_made db (Some e) has (inl (garbled, is)) = garbled create_is_text
is_made db (Some e) has (inr (why, refuses, is)) = not_refused why (rw has at refuses)

all_made : (db : Database) (stop : Option Error) → db.schema ≡ no_schema → ¬ Then (MakesTable create_text db) MakesSequence (Err stop)
all_made db stop has (inl (early, refused, is)) = is_made db early has refused
all_made db stop has (inr (mid, made, next)) =
    let both : Ok made.table ≡ Ok rows_table = sym made.defined ∙ create_is.2 in
    let same : made.table ≡ rows_table = cc in
    let schema : mid.schema ≡ rows_schema = made.is ∙ ap (λ s. created s made.table) has ∙ ap (created no_schema) same in
    let plain : lacks_sequence mid.schema ≡ false = ap lacks_sequence schema in
    let f : ◌≡◌ {A = Result Database (Option Error)} (Err stop) (Ok mid) = rw plain at next in
    cc

module _ (old new : State) (e : Error) (has : old.now.schema ≡ no_schema) where
  does_create : (stop : Option Error) → ¬ Does old.step_limit (mode_of old) [] old.now create_text None CreateTable (Err stop)
  does_create stop (inl (early, refused, is)) = all_made old.now early has refused
  does_create stop (inr (after, made, gives)) = cc

  as_created : (c : Compiled) (stop : Option Error) → c.command ≡ CreateTable → c.returning ≡ None → text_of create_text c ≡ create_text
      → Does old.step_limit (mode_of old) [] old.now (text_of create_text c) c.returning c.command (Err stop) → Does old.step_limit (mode_of old) [] old.now create_text None CreateTable (Err stop)
  as_created c stop command bare text d =
      let one = subst (λ (k : Command). Does old.step_limit (mode_of old) [] old.now (text_of create_text c) c.returning k (Err stop)) command d in
      let two = subst (λ (r : Option Returning). Does old.step_limit (mode_of old) [] old.now (text_of create_text c) r CreateTable (Err stop)) bare one in
      subst (λ (t : List ℕ). Does old.step_limit (mode_of old) [] old.now t None CreateTable (Err stop)) text two

  runs_excused : (c : Compiled) → c.command ≡ CreateTable → c.returning ≡ None → text_of create_text c ≡ create_text → RunsCommand old new create_text c [] (Err e) → IsExcused old new e
  runs_excused c command bare text (inl (inl (inl (_, inl (begin, _))), same)) = absurd (let f = sym command ∙ begin in cc)
  runs_excused c command bare text (inl (inl (inl (_, inr (inl commit, _))), same)) = absurd (let f = sym command ∙ commit in cc)
  runs_excused c command bare text (inl (inl (inl (_, inr (inr rollback, _))), same)) = absurd (let f = sym command ∙ rollback in cc)
  runs_excused c command bare text (inl (inl (inr (_, name, inl release, _)), same)) = absurd (let f = sym command ∙ release in cc)
  runs_excused c command bare text (inl (inl (inr (_, name, inr back, _)), same)) = absurd (let f = sym command ∙ back in cc)
  runs_excused c command bare text (inl (inr (_, does), same)) = absurd (does_create (Some e) (as_created c (Some e) command bare text does))
  runs_excused c command bare text (inr fails) = excused_by old new _ (λ long. does_create None (as_created c None command bare text long)) e fails.0 fails.1 fails.2

not_escaped : (held : ℕ) (s : State) → ¬ Escapes held s CreateTable
not_escaped held s (inl (inl commit)) = cc
not_escaped held s (inl (inr rollback)) = cc
not_escaped held s (inr (name, inl release, _)) = cc
not_escaped held s (inr (name, inr back, _)) = cc

pub create_excused : (old new : State) (e : Error) → old.now.schema ≡ no_schema → ExecutesInside 0 create_text [] old new (Err e) → IsExcused old new e
unfolding ExecutesIn EndsScope
create_excused old new e has (inl (inl unrun, left)) = not_run_excused create_text old new no_schema has create_plain create_whole e unrun
create_excused old new e has (inl (inr (c, it, alone), left)) =
    let u : understood no_schema create_text ≡ Ok c = ap (λ s. understood s create_text) (sym has) ∙ it.is in
    let bare = subst IsPlain u create_plain in
    let command : c.command ≡ CreateTable = ap command_of (sym u) ∙ create_is.0 in
    let text : text_of create_text c ≡ create_text = ap (statement_of create_text) (sym u) ∙ create_is.1 in
    let quiet : shows_rows false c ≡ false = subst₂ (λ (k : Command) (r : Option Returning). (is_query k || (not false && (is_pragma k || is_some r))) ≡ false) (sym command) (sym bare.0) refl in
    let ran = rw quiet at alone in
    runs_excused old new e has c command bare.0 text (rw (bare.1, append-nil []) at ran)
create_excused old new e has (inr ((c, it, escapes), is, same)) =
    let u : understood no_schema create_text ≡ Ok c = ap (λ s. understood s create_text) (sym has) ∙ it.is in
    absurd (not_escaped 0 old (subst (Escapes 0 old) (ap command_of (sym u) ∙ create_is.0) escapes))
