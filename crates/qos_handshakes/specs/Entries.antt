-- The copies of a session by place: those that wait, and the exchanges by identifier.
use Rattle.std.specs.Prelude.{◌≡◌, ◌≢◌, ℕ, zero, suc, ◌<◌, ◌≤◌, ◌==◌, ◌⊎◌, Bool, true, false, cond, List, [], ◌∷◌, Option, Some, None, IsSome, IsSomeAnd, length, slice_index, nat_le}
use Rattle.std.specs.BTreeMap.{is_at}
use Rattle.std.specs.Ordering.{nat_cmp}
use Rattle.std.specs.Map.{lookup, keys_of}
use Rattle.std.specs.List.{AllByRecursion}
use Rattle.std.specs.List.Sorted.{IsStrictlySortedBy}
use Rattle.qos_handshakes.specs.declared.copies.Entry.{Entry}
use Rattle.qos_handshakes.specs.declared.copies.Stage.{Stage}
use Rattle.qos_handshakes.specs.declared.copies.Stage.TheVariants.{Waiting, Published, Released}

-- a session's copies, each at its place
abbrev pub Entries : Type 0
Entries = List (ℕ × Entry)

abbrev pub stage_has : ℕ → Stage → Bool
stage_has id Waiting = false
stage_has id (Published i) = i == id
stage_has id (Released i order) = i == id

-- whether an entry is the exchange of an identifier
abbrev pub has_id : ℕ → Entry → Bool
has_id id e = stage_has id e.stage

-- the exchange of an identifier
abbrev pub find_id : ℕ → Entries → Option Entry
find_id id [] = None
find_id id (e ∷ es) = cond (has_id id e.1) (Some e.1) (find_id id es)

-- the entries without the exchange of an identifier
abbrev pub drop_id : ℕ → Entries → Entries
drop_id id [] = []
drop_id id (e ∷ es) = cond (has_id id e.1) es (e ∷ drop_id id es)

-- the entries with a change at the exchange of an identifier, and at a place
abbrev pub write_id : (Entry → Entry) → ℕ → Entries → Entries
write_id f id [] = []
write_id f id (e ∷ es) = cond (has_id id e.1) ((e.0, f e.1) ∷ es) (e ∷ write_id f id es)

abbrev pub write_at : (Entry → Entry) → ℕ → Entries → Entries
write_at f place [] = []
write_at f place (e ∷ es) = cond (is_at (nat_cmp place) e.0) ((e.0, f e.1) ∷ es) (e ∷ write_at f place es)

abbrev pub as_released : ℕ → ℕ → Entry → Entry
as_released id order x = record x { stage = Released id order }

abbrev pub as_published : ℕ → Entry → Entry
as_published id x = record x { stage = Published id; here = true }

abbrev pub as_here : Entry → Entry
as_here x = record x { here = true }

-- what stands at a place
abbrev pub at_place : ℕ → Entries → Option Entry
at_place place es = lookup (is_at (nat_cmp place)) es

-- the place that the table has for an identifier, or 0
abbrev pub place_in : List ℕ → ℕ → ℕ
place_in places zero = 0
place_in places (suc i) = slice_index places i

abbrev pub AllPlacesBelow : Entries → ℕ → Type 0
AllPlacesBelow es limit = AllByRecursion (λ e. e.0 < limit) es

-- the least identifier from 1 to 65,535 that no exchange uses
pub record IsLeastFree (es : Entries) (id : ℕ) : Type 0 where
  pub first : 1 ≤ id
  pub last : id ≤ 65535
  pub free : find_id id es ≡ None
  pub least : (k : ℕ) → 1 ≤ k → k < id → IsSome (find_id k es)

-- an exchange's identifier is in the table, with its place
pub record IsListed (places : List ℕ) (e : ℕ × Entry) : Type 0 where
  pub placed : 1 ≤ e.0
  pub place : (id : ℕ) → has_id id e.1 ≡ true → place_in places id ≡ e.0

-- the identifier of an exchange is from 1 to 65,535
abbrev pub HasRange : Entry → Type 0
HasRange x = (id : ℕ) → has_id id x ≡ true → (1 ≤ id) × (id ≤ 65535)

-- the table of places by identifier tells the exchanges
pub record IsIndexed (es : Entries) (places : List ℕ) : Type 0 where
  pub ordered : IsStrictlySortedBy nat_cmp (keys_of es)
  pub listed : AllByRecursion (IsListed places) es
  pub points : (id : ℕ) → place_in places id ≢ 0 → IsSomeAnd (at_place (place_in places id) es) (λ x. has_id id x ≡ true)
  pub small : length places ≤ 65535

-- what a table of copies holds, and for how many identifiers it has room
pub record Held : Type 0 where
  pub entries : Entries
  pub slots : ℕ

-- the room is for all identifiers, or for one that is free
abbrev pub HasRoom : Held → Type 0
HasRoom h = (65535 ≤ h.slots) ⊎ ((id : ℕ) × (1 ≤ id) × (id ≤ h.slots) × (find_id id h.entries ≡ None))

-- every identifier is used
abbrev pub NoneFree : Entries → Type 0
NoneFree es = (k : ℕ) → 1 ≤ k → k ≤ 65535 → IsSome (find_id k es)

-- the first place from a place on
abbrev pub place_from : ℕ → Entries → Option ℕ
place_from place [] = None
place_from place (e ∷ es) = cond (nat_le place e.0) (Some e.0) (place_from place es)
