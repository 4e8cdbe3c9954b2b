-- Where changes of one row are looked for.
use Rattle.std.specs.Prelude.{◌≡◌, ◌+◌, ◌*◌, ◌%◌, ◌^◌, ℕ, List, get_or, length}
use Rattle.std.specs.List.{fold}
use Rattle.row_store.specs.declared.row.Change.{Change}
use Rattle.row_store.specs.Leading.{IsNamed}
use Rattle.row_store.specs.Rows.{Key}

-- the number of bytes with one more
unfoldable pub turn : ℕ → ℕ → ℕ
turn number byte = (((number + byte) % 2 ^ 64) * 11400714819323198485) % 2 ^ 64

-- the number of bytes with more after them
abbrev pub number_on : ℕ → List ℕ → ℕ
number_on number bytes = fold turn number bytes

-- the number of a row, which few others have
abbrev pub number_in : Key → ℕ
number_in key = number_on (number_on key.0 key.1.0) key.1.1

-- the place of a row, of so many
abbrev pub place_in : ℕ → Key → ℕ
place_in places key = number_in key % places

-- the place of each row that these changes name is marked
abbrev pub AreMarked : List ℕ → List Change → Type 0
AreMarked marks changes = (q : Key) → IsNamed changes q → get_or marks (place_in (length marks) q) 0 ≡ 1
