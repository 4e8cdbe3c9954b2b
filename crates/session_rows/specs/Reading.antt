-- Rows as they are read.
use Rattle.std.specs.Prelude.{◌≡◌, ◌≤◌, ℕ, ◌==◌, ◌&&◌, nat_eq, cond, List, [], ◌∷◌, length, Option, Some, None, IsSome, Result, Ok, Err, option_map}
use Rattle.std.specs.Cmp.Lexicographic.{pointwise}
use Rattle.std.specs.Int.{w32, w64}
use Rattle.std.specs.Option.{option_and_then}
use Rattle.mqtt_fields.specs.declared.fault.FieldFault.{FieldFault}
use Rattle.mqtt_fields.specs.Field.{Field, IsBytes}
use Rattle.mqtt_fields.specs.Numbers.{number, is_text}
use Rattle.qos_handshakes.specs.declared.copies.Entry.{Entry}
use Rattle.qos_handshakes.specs.Entries.{Entries}
use Rattle.row_store.specs.declared.store.RowFault.{RowFault}
use Rattle.row_store.specs.declared.store.RowFault.TheVariants.{NoMemory, Device, BadRow}
use Rattle.row_store.specs.Rows.{Key}
use Rattle.session_rows.specs.Durable.{Durable}
use Rattle.session_rows.specs.Fields.{Main, main, copy, entry_of, is_short}

-- What a function returned, seen by view, is what some rows say; BadRow where they say nothing. Want of memory says
-- nothing of it.
abbrev pub Opens : {X Y : Type 0} → (X → Y) → Result X RowFault → Option Y → Type 0
Opens view (Ok x) said = said ≡ Some (view x)
Opens view (Err BadRow) said = said ≡ None
Opens view (Err NoMemory) said = Unit {0}
Opens view (Err Device) said = ⊥

-- a field that takes all of some bytes
abbrev pub whole_of : {A : Type 0} → Result (A × List ℕ) FieldFault → Option A
whole_of (Ok (a, [])) = Some a
whole_of (Ok (a, b ∷ bs)) = None
whole_of (Err e) = None

abbrev pub whole : {A : Type 0} → Field A → List ℕ → Option A
whole f bs = whole_of (f.at bs)

-- a number in four bytes that isn't 0, and bytes
pub record CountsSome (bs : List ℕ) : Type 0 where
  pub count : ℕ
  pub rest : List ℕ
  pub read : (number w32).at bs ≡ Ok (count, rest)
  pub some : 1 ≤ count

-- bytes that are a text
abbrev pub text_in : List ℕ → Option (List ℕ)
text_in bs = cond (is_short bs && is_text bs) (Some bs) None

-- the client whose row a key is
abbrev pub client_in : Key → Option (List ℕ)
client_in key = cond ((key.0 == 2) && (length key.1.1 == 0)) (text_in key.1.0) None

-- the place of a client's copy
abbrev pub copy_place : List ℕ → Key → Option ℕ
copy_place client key = cond ((key.0 == 3) && pointwise nat_eq key.1.0 client) (whole (number w64) key.1.1) None

abbrev pub main_in : Key × List ℕ → Option (List ℕ × Main)
main_in e = option_and_then (λ client. option_map (λ m. (client, m)) (whole main e.1)) (client_in e.0)

-- rows of which the first names a client
abbrev pub HasClient : List (Key × List ℕ) → Type 0
HasClient [] = ⊥
HasClient (e ∷ es) = IsSome (client_in e.0)

abbrev pub copy_in : List ℕ → Key × List ℕ → Option (ℕ × Entry)
copy_in client e = option_and_then (λ place. option_map (λ x. (place, x)) (option_map entry_of (whole copy e.1))) (copy_place client e.0)

abbrev pub copies_in : List ℕ → List (Key × List ℕ) → Option Entries
copies_in client [] = Some []
copies_in client (e ∷ es) = option_and_then (λ x. option_map (λ xs. x ∷ xs) (copies_in client es)) (copy_in client e)

-- the row of a session, and those of its copies
abbrev pub durable_in : List (Key × List ℕ) → Option Durable
durable_in [] = None
durable_in (e ∷ es) = option_and_then (λ m. option_map (λ xs. record { client = m.0; main = m.1; copies = xs }) (copies_in m.0 es)) (main_in e)

-- a row whose place and value are bytes
abbrev pub HasBytes : Key × List ℕ → Type 0
HasBytes e = IsBytes e.0.1.1 × IsBytes e.1
