-- What of a node outlives its run, and the changes of its rows.
use Rattle.std.specs.Prelude.{◌≡◌, ◌≢◌, ◌==◌, ◌||◌, ◌<◌, ◌^◌, ◌⊎◌, ℕ, Bool, List, [], ◌∷◌, ◌++◌, length, Some, option_map}
use Rattle.std.specs.FinMap as map
use Rattle.bridge_deltas.specs.Links.{LinksView, opened_links}
use Rattle.bridge_frames.specs.declared.forward.Forward.{Forward}
use Rattle.home_table.specs.Table.{Table}
use Rattle.bridge_lanes.specs.Reading.{AreLanes}
use Rattle.bridge_lanes.specs.Lanes.{Lanes}
use Rattle.mqtt_sessions.specs.Saved.{durable_of}
use Rattle.node_rows.specs.Reading.{AreOpened}
use Rattle.node_rows.specs.Rows.{Lasting, node_row}
use Rattle.replica_store.specs.States.{State}
use Rattle.row_store.specs.Leading.{AllDiffer, Rows, IsNamed, Lead, LeadWithin, Begin}
use Rattle.row_store.specs.declared.row.Change.{Change}
use Rattle.row_store.specs.Rows.{Key}
use Rattle.session_rows.specs.Durable.{IsDurable}
use Rattle.session_table.specs.Rows.{own_kind}
use Rattle.session_table.specs.Seats.{Seat, Seats}
use Rattle.replica_rows.specs.Reading.{IsStore}
use Rattle.replica_rows.specs.Rows.{row_at}
use Rattle.node_work.specs.Acts.{Act, next}
use Rattle.node_work.specs.View.{HeldView, WorkView, woken}

-- what lasts of what a node holds: not its moment, its connections, what it believes of other nodes, the last deltas, its turn or its counts
abbrev pub lasting : HeldView → Lasting
lasting h =
    record { named = h.named; sessions = λ client. option_map (λ (s : Seat). durable_of s.session) (map.get h.sessions client); store = h.store; lanes = h.bridge.lanes }

-- its rows, if it is node `id`
abbrev pub held_row : ℕ → HeldView → Rows
held_row id h = node_row id (lasting h)

-- what lasts can be read from its rows again
pub record CanLast (h : HeldView) : Type 0 where
  pub named : h.named < 2 ^ 62
  pub sessions : (client : List ℕ) (seat : Seat) → map.get h.sessions client ≡ Some seat → IsDurable (durable_of seat.session) × ((durable_of seat.session).client ≡ client)
  pub store : IsStore h.store
  pub lanes : AreLanes (length h.bridge.lanes) h.bridge.lanes

-- a node that was just opened holds its table of homes and what lasts of it, each session on no connection
abbrev pub IsWoken : Table → Lasting → HeldView → Type 0
IsWoken homes x h = (seats : Seats) × AreOpened x seats × (h ≡ woken homes x.named seats x.store x.lanes)

-- what a node keeps for its peers is as it is opened with these lanes
abbrev pub AreOpenedWith : LinksView → Lanes Forward → Type 0
AreOpenedWith links lanes = (id : ℕ) × (nodes : ℕ) × (links ≡ opened_links id nodes lanes)

-- changes are appended that lead from the rows before to those after
abbrev pub TellsRows : Rows → List Change → List Change → Rows → Type 0
TellsRows old before after new = (own : List Change) × (after ≡ before ++ own) × Lead old new own

abbrev pub work_row : WorkView → Rows
work_row w = held_row w.place.id w.held

abbrev pub TellsItsRows : WorkView → WorkView → Type 0
TellsItsRows w w' = TellsRows (work_row w) w.changes w'.changes (work_row w')

-- where the changes from some rows on begin, at sessions' own rows, with what was there, they still do
abbrev pub StillBegin : WorkView → WorkView → Type 0
StillBegin w w' = (old : Rows) → Lead old (work_row w) w.changes → Begin own_kind old w.changes → Begin own_kind old w'.changes

-- the kinds of the rows of the replicated state
abbrev pub is_store_kind : ℕ → Bool
is_store_kind n = n == 4 || n == 5 || n == 6

abbrev pub StoreTells : State → List Change → List Change → State → Type 0
StoreTells old before after new = (own : List Change) × (after ≡ before ++ own) × LeadWithin is_store_kind (row_at old) (row_at new) own × AllDiffer (row_at old) (row_at new) own

-- one of the acts alters the row at the key: it is another one after the act than before it
abbrev pub Alter : ℕ → HeldView → List Act → Key → Type 0
Alter id h [] key = ⊥
Alter id h (a ∷ rest) key = (held_row id (next h a) key ≢ held_row id h key) ⊎ Alter id (next h a) rest key

-- two of the acts alter it
abbrev pub AlterTwice : ℕ → HeldView → List Act → Key → Type 0
AlterTwice id h [] key = ⊥
AlterTwice id h (a ∷ rest) key = ((held_row id (next h a) key ≢ held_row id h key) × Alter id (next h a) rest key) ⊎ AlterTwice id (next h a) rest key

-- each row that is named, but no session's own, is altered by one of the acts
abbrev pub AreAltered : ℕ → HeldView → List Act → List Change → Type 0
AreAltered id h acts changes = (key : Key) → key.0 ≢ own_kind → IsNamed changes key → Alter id h acts key

-- one that they don't alter is named only where it was before
abbrev pub NamesAltered : WorkView → WorkView → List Act → Type 0
NamesAltered w w' acts = (key : Key) → key.0 ≢ own_kind → (Alter w.place.id w.held acts key → ⊥) → IsNamed w'.changes key → IsNamed w.changes key
