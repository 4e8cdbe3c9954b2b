-- The content that a database holds.
use Rattle.std.specs.Prelude.{◌≡◌, ◌≢◌, ◌+◌, ◌<◌, length, slice_index_or, ℕ, ℤ, pos, List, map, false}
use Rattle.std.specs.declared.cmp.Ordering.TheVariants.{Equal, Less}
use Rattle.std.specs.List.{All, AllByRecursion}
use Rattle.std.specs.FinMap.{from_entries}
use Rattle.std.specs.Ordering.{eq_by_cmp}
use Rattle.sqlite_value.specs.declared.value.Value.{Value}
use Rattle.sqlite_value.specs.declared.value.Value.TheVariants.{Int, Blob}
use Rattle.sqlite_value.specs.Order.{Row, column, bytes, value_cmp}
use Rattle.sqlite_trees.specs.Tree.{rowid, IsAscending}
use Rattle.sqlite.specs.Effect.{Database}
use Rattle.row_store.specs.Rows.{Key, Content, key_cmp}
use Rattle.session_records.specs.Table.{rows_schema}

-- the columns of a row of the table: the rowid, the kind, which is a byte, the owner, the place, the value
pub record IsStored (id : ℤ) (key : Key) (value : List ℕ) (r : Row) : Type 0 where
  pub id_is : column r 0 ≡ Int id
  pub kind : column r 1 ≡ Int (pos key.0)
  pub owner : column r 2 ≡ Blob key.1.0
  pub place : column r 3 ≡ Blob key.1.1
  pub value_is : column r 4 ≡ Blob value
  pub byte : key.0 < 256

abbrev pub IsFormedRow : Row → Type 0
IsFormedRow r = (id : ℤ) × (key : Key) × (value : List ℕ) × IsStored id key value r

abbrev pub natural : Value → ℕ
natural (Int (pos n)) = n
natural _ = 0

-- the key of a row, and the row as an entry
abbrev pub key_in : Row → Key
key_in r = (natural (column r 1), (bytes (column r 2), bytes (column r 3)))

abbrev pub entry_in : Row → Key × List ℕ
entry_in r = (key_in r, bytes (column r 4))

-- the same of a row that is shown without its rowid
abbrev pub entry_shown : Row → Key × List ℕ
entry_shown r = ((natural (column r 0), (bytes (column r 1), bytes (column r 2))), bytes (column r 3))

abbrev pub content_in : List Row → Content
content_in rows = from_entries (map entry_in rows)

-- each row has the form, and no rowid comes twice
pub record AreTyped (rows : List Row) : Type 0 where
  pub formed : AllByRecursion IsFormedRow rows
  pub apart : IsAscending (λ a b. value_cmp (rowid a) (rowid b) ≢ Equal) rows

-- and no key comes twice
pub record AreRows (rows : List Row) : Type 0 where
  pub typed : AreTyped rows
  pub keys_apart : IsAscending (λ a b. eq_by_cmp key_cmp (key_in a) (key_in b) ≡ false) rows

-- the database has the table of rows and nothing else
pub record IsFormed (db : Database) : Type 0 where
  pub schema : db.schema ≡ rows_schema
  pub rows : AreRows (db.trees 0)

abbrev pub held : Database → Content
held db = content_in (db.trees 0)

-- ---- rows that a query shows

abbrev pub IsBlob : Value → Type 0
IsBlob v = (b : List ℕ) × (v ≡ Blob b)

abbrev pub IsByte : Value → Type 0
IsByte v = (n : ℕ) × (n < 256) × (v ≡ Int (pos n))

-- without its rowid
pub record IsShown (r : Row) : Type 0 where
  pub kind : IsByte (column r 0)
  pub owner : IsBlob (column r 1)
  pub place : IsBlob (column r 2)
  pub value : IsBlob (column r 3)

abbrev pub IsInt : Value → Type 0
IsInt v = (n : ℤ) × (v ≡ Int n)

-- with its rowid
pub record HasForm (r : Row) : Type 0 where
  pub id : IsInt (column r 0)
  pub kind : IsByte (column r 1)
  pub owner : IsBlob (column r 2)
  pub place : IsBlob (column r 3)
  pub value : IsBlob (column r 4)

-- the rowids rise
abbrev pub HaveIds : List Row → Type 0
HaveIds rows = (k : ℕ) (d : Row) → k + 1 < length rows → value_cmp (rowid (slice_index_or rows k d)) (rowid (slice_index_or rows (k + 1) d)) ≡ Less

pub record AreNumbered (rows : List Row) : Type 0 where
  pub formed : All HasForm rows
  pub rising : HaveIds rows
