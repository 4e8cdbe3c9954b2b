-- What is read from copies of the files of a database.
use Rattle.std.specs.Prelude.{◌≡◌, ◌≢◌, ◌⊎◌, List, map, IsTrue, IfErr, Result}
use Rattle.std.specs.FinMap.{entries}
use Rattle.sqlite.specs.Effect.{Database}
use Rattle.sqlite.specs.Held.{Held, state}
use Rattle.sqlite.specs.Recovery.{Image}
use Rattle.sqlite.specs.State.{HasCleanDisk}
use Rattle.sqlite_disk.specs.declared.Disk as disk
use Rattle.sqlite.specs.Store as store
use Rattle.row_store.specs.declared.row.Row.{Row}
use Rattle.row_store.specs.Rows.{Content, entry_of}
use Rattle.row_journal.specs.Journal.{IsJournaled, shown}
use Rattle.session_records.specs.Connections.{IsForeign}
use Rattle.row_database.specs.declared.fault.OpenFault.{OpenFault}
use Rattle.row_database.specs.declared.fault.OpenFault.TheVariants.{Locked, Refused}
use Rattle.row_database.specs.Files.{AreRowsIn, AreRowsOf, IsIn}

-- a disk that always returns what was written, as memory does
abbrev pub IsHonest : {D : Type 0} → disk.Ghosts D → Type 0
IsHonest {D} g = (file : D) → IsTrue (g.is_clean file)

-- the same of the disk of a store
abbrev pub IsNeverDirty : {S : Type 0} → store.Ghosts S → Type 0
IsNeverDirty {S} g = (conn : Held S) → HasCleanDisk (state g conn)

-- what is shown of the rows of a database, in the order of the keys
abbrev pub ShowRowsOf : Database → List Row → Type 0
ShowRowsOf db rows = (table : Content) × AreRowsOf db table × (map entry_of rows ≡ entries (shown table))

-- what is shown of the rows that the files hold, in the order of the keys
abbrev pub Show : Image → List Row → Type 0
Show files rows = (table : Content) × AreRowsIn files table × (map entry_of rows ≡ entries (shown table))

-- a database that isn't empty, and hasn't the table of rows and nothing else; or the rows of the journal's kind in its table are no journal
abbrev pub IsOther : Database → Type 0
IsOther db = IsForeign db ⊎ ((table : Content) × AreRowsOf db table × (IsJournaled table → ⊥))

-- the files hold such a database
abbrev pub AreForeign : Image → Type 0
AreForeign files = (db : Database) × IsIn files db × IsOther db

-- copies are never locked, and no system refuses them
abbrev pub IsAnswer : {T : Type 0} → Result T OpenFault → Type 0
IsAnswer result = IfErr result (λ fault. (fault ≢ Locked) × (fault ≢ Refused))
