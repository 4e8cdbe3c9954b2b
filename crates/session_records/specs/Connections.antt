-- What a connection to a database of rows holds, and what the statements of a store of rows do to it.
use Rattle.std.specs.Prelude.{◌≡◌, ◌≢◌, ◌⊎◌, ℕ, List, None, false, true, IsTrue}
use Rattle.std.specs.FinMap.{empty, get, insert, remove}
use Rattle.sqlite_trees.specs.Tree.{Trees}
use Rattle.sqlite.specs.Disk.{MoreFaults}
use Rattle.sqlite.specs.declared.error.Error.{Error}
use Rattle.sqlite.specs.declared.error.Error.TheVariants.{SqliteFailure}
use Rattle.sqlite.specs.declared.error.ErrorCode.TheVariants.{OutOfMemory}
use Rattle.sqlite.specs.Effect.{Database}
use Rattle.sqlite.specs.State.{State, HasCleanDisk, IsUnchanged, Shows}
use Rattle.row_store.specs.Rows.{Content, Key}
use Rattle.session_records.specs.Stored.{AreRows, IsFormed, content_in, held}
use Rattle.session_records.specs.Table.{no_schema}

-- while it is clean and open: the table has its form, and all is committed
abbrev pub IsKept : State → Type 0
IsKept s = HasCleanDisk s → IsTrue s.is_open → IsFormed s.now × (s.committed ≡ s.now)

-- the contents that a crash may leave
abbrev pub Leaves : State → Content → Type 0
Leaves s c = (trees : Trees) × s.may_leave trees × (c ≡ content_in (trees 0))

-- inside a transaction the content has become this one, and what was committed stays
pub record GoesOn (old new : State) (content : Content) : Type 0 where
  pub formed : IsFormed new.now
  pub holds : held new.now ≡ content
  pub shown : Shows old new new.now old.committed true

-- inside a transaction, what moving the row at a key to another has done: there is none, or it is at the other one with this value
pub record HasMoved (old new : State) (from to : Key) (value : List ℕ) (count : ℕ) : Type 0 where
  pub none : count ≡ 0 → (get (held old.now) from ≡ None) × GoesOn old new (held old.now)
  pub some : count ≢ 0 → GoesOn old new (insert (remove (held old.now) from) to value)

-- inside a transaction, what an update of the row at a key has done: there is none, or it has this value
pub record HasUpdated (old new : State) (key : Key) (value : List ℕ) (count : ℕ) : Type 0 where
  pub none : count ≡ 0 → (get (held old.now) key ≡ None) × GoesOn old new (held old.now)
  pub some : count ≢ 0 → GoesOn old new (insert (held old.now) key value)

-- what a statement that failed leaves inside a transaction: all as it was, or no transaction
abbrev pub StaysOrEnds : State → State → Type 0
StaysOrEnds old new = IsUnchanged old new ⊎ (new.in_transaction ≡ false)

-- a transaction is under way
pub record IsBegun (s : State) : Type 0 where
  pub is_open : IsTrue s.is_open
  pub mode : s.in_transaction ≡ true

-- what is committed is this content, in the form
pub record Becomes (s : State) (content : Content) : Type 0 where
  pub is_open : IsTrue s.is_open
  pub formed : IsFormed s.now
  pub holds : held s.now ≡ content
  pub committed : s.committed ≡ s.now

-- trees that hold this content
abbrev pub Commits : Content → Trees → Type 0
Commits content trees = AreRows (trees 0) × (content_in (trees 0) ≡ content)

-- a query: while the store is open it sees what it saw, or what was committed
abbrev pub Stays : State → State → Type 0
Stays old new = IsTrue new.is_open → IsTrue old.is_open × ((new.now ≡ old.now) ⊎ (new.now ≡ old.committed)) × (new.committed ≡ old.committed)

-- both are open, and see the same
pub record IsSameAs (old new : State) : Type 0 where
  pub was_open : IsTrue old.is_open
  pub is_open : IsTrue new.is_open
  pub now : new.now ≡ old.now
  pub committed : new.committed ≡ old.committed

-- the connection was shut, or its disk has had more faults in the call
abbrev pub HasDiskFailed : State → State → Type 0
HasDiskFailed old new = (old.is_open ≡ false) ⊎ MoreFaults old.faults new.faults

-- an error that the call has a cause for: want of memory, or the disk
abbrev pub IsExcused : State → State → Error → Type 0
IsExcused old new e = (e ≡ SqliteFailure OutOfMemory) ⊎ HasDiskFailed old new

-- what a database is adopted as: it was empty, or its table has the form, and its content stays
abbrev pub Adopts : State → State → Type 0
Adopts old new = ((old.now.schema ≡ no_schema) × (held new.committed ≡ empty)) ⊎ (IsFormed old.now × (held new.committed ≡ held old.now))

-- it isn't empty, and it hasn't the table of rows and nothing else
pub record IsForeign (db : Database) : Type 0 where
  pub filled : db.schema ≢ no_schema
  pub unformed : IsFormed db → ⊥
