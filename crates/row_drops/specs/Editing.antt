-- Rows that are edited one by one.
use Rattle.std.specs.Prelude.{ℕ, List, [], ◌∷◌, Option, Some, None}
use Rattle.std.specs.Option.{option_and_then}
use Rattle.bridge_lanes.specs.Changes.{Left}
use Rattle.row_store.specs.Leading.{Rows, left_or}
use Rattle.row_store.specs.Rows.{Key, Plain}

-- what is left of a row by its key and its value: bytes, or no row; none where it stays as it is
abbrev pub Edit : Type 0
Edit = Key → List ℕ → Option (Option (List ℕ))

-- rows after it
abbrev pub edited : Edit → Rows → Rows
edited f rows key = left_or (option_and_then (f key) (rows key)) (rows key)

abbrev pub with_left : Key → Option (Option (List ℕ)) → List Left → List Left
with_left key None more = more
with_left key (Some left) more = (key, left) ∷ more

-- what is left of those that don't stay, one after another
abbrev pub edits : Edit → List Plain → List Left
edits f [] = []
edits f (e ∷ es) = with_left e.0 (f e.0 e.1) (edits f es)

abbrev pub with_row : Key → List ℕ → Option (Option (List ℕ)) → List Plain → List Plain
with_row key value None more = (key, value) ∷ more
with_row key value (Some None) more = more
with_row key value (Some (Some left)) more = (key, left) ∷ more

-- the rows that there are then
abbrev pub edited_rows : Edit → List Plain → List Plain
edited_rows f [] = []
edited_rows f (e ∷ es) = with_row e.0 e.1 (f e.0 e.1) (edited_rows f es)
