-- The SQL table that rows lie in:
--   CREATE TABLE rows (kind INTEGER NOT NULL, owner BLOB NOT NULL, place BLOB NOT NULL,
--     value BLOB NOT NULL, PRIMARY KEY (kind, owner, place)) STRICT
use Rattle.sqlite.specs.Collation.TheVariants.{Binary}
use Rattle.std.specs.Prelude.{ℕ, List, true, false, [], ◌∷◌, None, codes}
use Rattle.sqlite.specs.declared.types.Value.TheVariants.{Null}
use Rattle.sqlite_schema.specs.declared.schema.Column.{Column}
use Rattle.sqlite_schema.specs.declared.schema.Index.{Index}
use Rattle.sqlite_schema.specs.declared.schema.Stamps.{Stamps}
use Rattle.sqlite_schema.specs.declared.schema.Kind.{Kind}
use Rattle.sqlite.specs.Table.{Table}
use Rattle.sqlite.specs.Schema.{Schema}
use Rattle.sqlite.specs.Change.{created}
use Rattle.sqlite_value.specs.Keys.{plain}
use Rattle.sqlite.specs.Kind.TheVariants.{Integer, Blob}

-- NOT NULL, in a STRICT table
abbrev pub column_of : List ℕ → Kind → Column
column_of name kind = record { name = name; kind = kind; is_strict = true; not_null = true; default = Null; collation = Binary }

abbrev pub no_stamps : Stamps
no_stamps = record { places = []; terms = []; formats = [] }

-- Places count from 0, which is the rowid.
abbrev pub rows_table : Table
rows_table = record {
  name = codes "rows";
  tree = 0;
  columns = column_of (codes "kind") Integer ∷ column_of (codes "owner") Blob ∷ column_of (codes "place") Blob ∷ column_of (codes "value") Blob ∷ [];
  key = None;
  primary = 1 ∷ 2 ∷ 3 ∷ [];
  uniques = (1 ∷ 2 ∷ 3 ∷ []) ∷ [];
  orders = plain ∷ [];
  checks = [];
  references = [];
  computed = [];
  stamps = no_stamps;
  is_counted = false;
}

-- the index that the primary key makes
abbrev pub rows_index : Index
rows_index = record { name = codes "sqlite_autoindex_rows_1"; tree = 1; table = 0; columns = 1 ∷ 2 ∷ 3 ∷ []; order = plain; is_unique = true }

abbrev pub no_schema : Schema
no_schema = record { tables = []; indexes = []; views = [] }

-- this table and nothing else
abbrev pub rows_schema : Schema
rows_schema = created no_schema rows_table

-- the same, written out
abbrev pub listed_schema : Schema
listed_schema = record { tables = rows_table ∷ []; indexes = rows_index ∷ []; views = [] }
