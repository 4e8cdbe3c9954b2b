-- What lies over files in memory is clean, and which faults an open of them answers.
use Rattle.std.proofs.Common.{◌≡◌, ◌≢◌, inl, inr, ◌∙◌, ℕ, IsTrue, refl, sym, subst}
use Rattle.std.proofs.lemmas.Bool.{and_from}
use Rattle.sqlite.proofs.OpenLemmas.{pool_files}
use Rattle.sqlite.specs.Files.{over_files, IsCleanLeft}
use Rattle.sqlite.specs.Opening.{FailsAs}
use Rattle.sqlite.specs.State.{store_error}
use Rattle.sqlite.specs.WalReads.{are_clean}
use Rattle.sqlite.specs.declared.error.Error.{Error}
use Rattle.sqlite.specs.declared.file.Leftover.{Leftover}
use Rattle.sqlite.specs.declared.file.Leftover.TheVariants as left
use Rattle.sqlite_disk.specs.declared.Disk as disk
use Rattle.sqlite_trees.proofs.Doubt.{no_doubt}
use Rattle.sqlite_trees.specs.declared.error.StoreError.{StoreError}
use Rattle.sqlite_trees.specs.declared.error.StoreError.TheVariants.{OutOfMemory, Io, Corrupt, Full, Broken, Unstorable}
use Rattle.row_store.specs.declared.store.RowFault.{RowFault}
use Rattle.row_store.specs.declared.store.RowFault.TheVariants as rows
use Rattle.row_database.specs.declared.fault.OpenFault.TheVariants.{Locked, Refused, Foreign}
use Rattle.row_database.specs.Copied.{IsHonest, IsNeverDirty}
use Rattle.row_database.specs.Opening.{fault_of_error, fault_of_rows}

-- the two files of a pool
both : {D : Type 0} (g : disk.Ghosts D) → IsHonest g → (log db : D) → IsTrue (are_clean g log db)
both g honest log db = and_from _ _ (honest log) (honest db)

pub never_dirty : {D : Type 0} (g : disk.Ghosts D) → IsHonest g → IsNeverDirty (over_files {D = D} {g = g})
never_dirty g honest conn = no_doubt _ ((pool_files conn.store.pool).1 ∙ both g honest _ _)

pub clean_left : {D : Type 0} (g : disk.Ghosts D) → IsHonest g → (rest : Leftover D g) → IsCleanLeft rest
clean_left g honest (left.Files files) = both g honest files.log files.db
clean_left g honest (left.Unopened files) = (pool_files files.pool).1 ∙ both g honest _ _
clean_left g honest (left.Store it) = (pool_files it.pool).1 ∙ both g honest _ _

-- no lock, and no refusal by the system
abbrev IsOther : Error → Type 0
IsOther e = (fault_of_error e ≢ Locked) × (fault_of_error e ≢ Refused)

of_store : (kind : StoreError) → IsOther (store_error kind)
of_store OutOfMemory = (λ h. cc, λ h. cc)
of_store Io = (λ h. cc, λ h. cc)
of_store Corrupt = (λ h. cc, λ h. cc)
of_store Full = (λ h. cc, λ h. cc)
of_store Broken = (λ h. cc, λ h. cc)
of_store Unstorable = (λ h. cc, λ h. cc)

pub other : (kind : StoreError) (old new : ℕ) (AtLimit Wanted : Type 0) (e : Error) → FailsAs kind old new AtLimit Wanted e → IsOther e
other kind old new AtLimit Wanted e (inl memory) = subst IsOther (sym memory) (of_store OutOfMemory)
other kind old new AtLimit Wanted e (inr (inl (inl none, unwanted))) = subst IsOther (sym none) (λ h. cc, λ h. cc)
other kind old new AtLimit Wanted e (inr (inl (inr damaged, unwanted))) = subst IsOther (sym damaged) (of_store Corrupt)
other kind old new AtLimit Wanted e (inr (inr (inl (failed, more)))) = subst IsOther (sym failed) (of_store kind)
other kind old new AtLimit Wanted e (inr (inr (inr (full, limit)))) = subst IsOther (sym full) (of_store Full)

pub bad_row : (fault : RowFault) → fault_of_rows fault ≡ Foreign → fault ≡ rows.BadRow
bad_row rows.NoMemory h = absurd (cc)
bad_row rows.Device h = absurd (cc)
bad_row rows.BadRow h = refl

pub rows_answer : (fault : RowFault) → (fault_of_rows fault ≢ Locked) × (fault_of_rows fault ≢ Refused)
rows_answer rows.NoMemory = (λ h. cc, λ h. cc)
rows_answer rows.Device = (λ h. cc, λ h. cc)
rows_answer rows.BadRow = (λ h. cc, λ h. cc)
