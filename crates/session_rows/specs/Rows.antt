-- The rows of a session: one of kind 2 for itself, and one of kind 3 for each of its copies.
use Rattle.std.specs.Prelude.{ℕ, List, [], ◌∷◌, ◌++◌, Option, Some, None}
use Rattle.std.specs.Int.{w64}
use Rattle.mqtt_fields.specs.Numbers.{number}
use Rattle.qos_handshakes.specs.declared.copies.Entry.{Entry}
use Rattle.qos_handshakes.specs.Entries.{Entries, at_place}
use Rattle.row_store.specs.Rows.{Key}
use Rattle.session_rows.specs.Fields.{main, copy, copy_of}
use Rattle.session_rows.specs.Durable.{Durable}

-- the owner is the client
abbrev pub main_key : List ℕ → Key
main_key client = (2, (client, []))

-- the place is that in the queue, in eight bytes
abbrev pub copy_key : List ℕ → ℕ → Key
copy_key client place = (3, (client, (number w64).bytes place))

abbrev pub copy_row : List ℕ → ℕ × Entry → Key × List ℕ
copy_row client e = (copy_key client e.0, copy.bytes (copy_of e.1))

abbrev pub copy_rows : List ℕ → Entries → List (Key × List ℕ)
copy_rows client [] = []
copy_rows client (e ∷ es) = copy_row client e ∷ copy_rows client es

-- the rows of the copies at some places
abbrev pub row_at : List ℕ → ℕ → Option Entry → List (Key × List ℕ)
row_at client place None = []
row_at client place (Some x) = copy_row client (place, x) ∷ []

abbrev pub rows_at : List ℕ → Entries → List ℕ → List (Key × List ℕ)
rows_at client es [] = []
rows_at client es (p ∷ ps) = row_at client p (at_place p es) ++ rows_at client es ps

abbrev pub rows_of : Durable → List (Key × List ℕ)
rows_of d = (main_key d.client, main.bytes d.main) ∷ copy_rows d.client d.copies
