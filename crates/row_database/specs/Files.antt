-- The rows that the files of a database hold.
use Rattle.std.specs.Prelude.{◌≡◌, ◌⊎◌}
use Rattle.std.specs.FinMap.{empty}
use Rattle.sqlite.specs.Effect.{Database, IsDatabase}
use Rattle.sqlite.specs.Files.{AreFoundIn, HoldsDatabase}
use Rattle.sqlite.specs.Recovery.{Image}
use Rattle.sqlite.specs.Tree.{Trees}
use Rattle.row_store.specs.Rows.{Content}
use Rattle.row_journal.specs.Journal.{shown}
use Rattle.session_records.specs.Stored.{IsFormed, held}
use Rattle.session_records.specs.Table.{no_schema}

-- the database that a file and its log hold; where they hold none, an empty one
pub record IsIn (files : Image) (db : Database) : Type 0 where
  pub sound : IsDatabase db
  pub found : AreFoundIn files db.trees
  pub only : (trees : Trees) → HoldsDatabase files trees → db.trees ≡ trees

-- an empty database has no rows, and any other those of its table, which it has alone
abbrev pub AreRowsOf : Database → Content → Type 0
AreRowsOf db rows = ((db.schema ≡ no_schema) × (rows ≡ empty)) ⊎ (IsFormed db × (rows ≡ held db))

-- the rows that the files hold
pub record AreRowsIn (files : Image) (rows : Content) : Type 0 where
  pub database : Database
  pub is_in : IsIn files database
  pub are_its : AreRowsOf database rows

-- what is shown of the rows that the files hold: those of the table, after the changes of the journal among them
abbrev pub AreShownIn : Image → Content → Type 0
AreShownIn files rows = (table : Content) × AreRowsIn files table × (rows ≡ shown table)
