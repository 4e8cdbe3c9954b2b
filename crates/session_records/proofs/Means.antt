-- What the texts mean.
use Rattle.std.proofs.Common.{◌≡◌, ℕ, pos, negsuc, List, [], ◌∷◌, codes, false, None, Ok, refl}
use Rattle.sqlite.specs.declared.types.Value.TheVariants.{Null, Int}
use Rattle.sqlite.specs.Term.{Term, lit, col, op2}
use Rattle.sqlite.specs.Query.{Query, inner, end}
use Rattle.sqlite.specs.Source.TheVariants.{Values}
use Rattle.sqlite.specs.Command.TheVariants.{Insert, Select, CreateTable, Delete, Update}
use Rattle.sqlite_sql.specs.declared.ops.BinaryOp.TheVariants as by
use Rattle.sqlite_sql.specs.declared.ops.CompareOp.TheVariants.{Eq}
use Rattle.sqlite.specs.Collation.TheVariants.{Binary}
use Rattle.sqlite_value.specs.Keys.{ascending}
use Rattle.sqlite.specs.Compile.{table_defined_by}
use Rattle.sqlite_tied.specs.Compute.{everything}
use Rattle.sqlite.specs.Listing.{understood, reads_listing}
use Rattle.sqlite.proofs.Callers.{IsPlain, command_of, statement_of}
use Rattle.session_records.specs.Table.{rows_table, rows_schema, listed_schema, no_schema}

abbrev pub create_text : List ℕ
create_text = codes "CREATE TABLE rows (kind INTEGER NOT NULL, owner BLOB NOT NULL, place BLOB NOT NULL, value BLOB NOT NULL, PRIMARY KEY (kind, owner, place)) STRICT"

abbrev pub put_text : List ℕ
put_text = codes "INSERT INTO rows (kind, owner, place, value) VALUES (?1, ?2, ?3, ?4)"

abbrev pub erase_text : List ℕ
erase_text = codes "DELETE FROM rows WHERE kind = ?1 AND owner = ?2 AND place = ?3"

abbrev pub all_text : List ℕ
all_text = codes "SELECT kind, owner, place, value FROM rows ORDER BY kind, owner, place"

pub create_is : (command_of (understood no_schema create_text) ≡ CreateTable) × (statement_of create_text (understood no_schema create_text) ≡ create_text) × (table_defined_by create_text ≡ Ok rows_table)
unfolding understood everything
create_is = (refl, refl, refl)

abbrev pub terms : List Term
terms = lit Null ∷ col 0 0 ∷ col 0 1 ∷ col 0 2 ∷ col 0 3 ∷ []

pub put_is : command_of (understood rows_schema put_text) ≡ Insert 0 (Values terms 5)
unfolding understood everything
put_is = refl

abbrev pub tests : List Term
tests = op2 (by.Compare Eq Binary) (col 1 1) (col 0 0) ∷ op2 (by.Compare Eq Binary) (col 1 2) (col 0 1) ∷ op2 (by.Compare Eq Binary) (col 1 3) (col 0 2) ∷ []

abbrev pub hits : Query
hits = record { from = inner 0 end; filter = tests; group = None; project = col 1 0 ∷ []; distinct = false; collations = []; order = []; limit = lit (Int (negsuc 0)); offset = lit (Int (pos 0)) }

pub erase_is : command_of (understood rows_schema erase_text) ≡ Delete 0 (record { lets = []; body = hits })
unfolding understood everything
erase_is = refl

abbrev pub all : Query
all = record {
  from = inner 0 end;
  filter = [];
  group = None;
  project = col 1 1 ∷ col 1 2 ∷ col 1 3 ∷ col 1 4 ∷ [];
  distinct = false;
  collations = [];
  order = (col 1 1, ascending Binary) ∷ (col 1 2, ascending Binary) ∷ (col 1 3, ascending Binary) ∷ [];
  limit = lit (Int (negsuc 0));
  offset = lit (Int (pos 0));
}

pub all_is : (command_of (understood rows_schema all_text) ≡ Select (record { lets = []; body = all }) (codes "kind" ∷ codes "owner" ∷ codes "place" ∷ codes "value" ∷ [])) × (reads_listing rows_schema all_text ≡ false)
unfolding understood everything
all_is = (refl, refl)

pub create_plain : IsPlain (understood no_schema create_text)
unfolding understood everything
create_plain = (refl, refl)

pub put_plain : IsPlain (understood rows_schema put_text)
unfolding understood everything
put_plain = (refl, refl)

pub erase_plain : IsPlain (understood rows_schema erase_text)
unfolding understood everything
erase_plain = (refl, refl)

pub all_plain : IsPlain (understood rows_schema all_text)
unfolding understood everything
all_plain = (refl, refl)

-- the name of the index has a number, which is written in decimal
pub schema_is : rows_schema ≡ listed_schema
unfolding everything
schema_is = refl

abbrev pub numbered_text : List ℕ
numbered_text = codes "SELECT rowid, kind, owner, place, value FROM rows ORDER BY rowid"

abbrev pub numbered : Query
numbered = record {
  from = inner 0 end;
  filter = [];
  group = None;
  project = col 1 0 ∷ col 1 1 ∷ col 1 2 ∷ col 1 3 ∷ col 1 4 ∷ [];
  distinct = false;
  collations = [];
  order = (col 1 0, ascending Binary) ∷ [];
  limit = lit (Int (negsuc 0));
  offset = lit (Int (pos 0));
}

pub numbered_is : (command_of (understood rows_schema numbered_text) ≡ Select (record { lets = []; body = numbered }) (codes "rowid" ∷ codes "kind" ∷ codes "owner" ∷ codes "place" ∷ codes "value" ∷ [])) × (reads_listing rows_schema numbered_text ≡ false)
unfolding understood everything
numbered_is = (refl, refl)

pub numbered_plain : IsPlain (understood rows_schema numbered_text)
unfolding understood everything
numbered_plain = (refl, refl)

abbrev pub move_text : List ℕ
move_text = codes "UPDATE rows SET kind = ?4, owner = ?5, place = ?6, value = ?7 WHERE kind = ?1 AND owner = ?2 AND place = ?3"

abbrev pub changed : Query
changed = record {
  from = inner 0 end;
  filter = tests;
  group = None;
  project = col 1 0 ∷ col 1 0 ∷ col 0 3 ∷ col 0 4 ∷ col 0 5 ∷ col 0 6 ∷ [];
  distinct = false;
  collations = [];
  order = [];
  limit = lit (Int (negsuc 0));
  offset = lit (Int (pos 0));
}

pub move_is : command_of (understood rows_schema move_text) ≡ Update 0 (record { lets = []; body = changed })
unfolding understood everything
move_is = refl

pub move_plain : IsPlain (understood rows_schema move_text)
unfolding understood everything
move_plain = (refl, refl)
