-- What is read of the rows of a node.
use Rattle.std.specs.Prelude.{◌≡◌, ℕ, ◌<◌, ◌≤◌, ◌^◌, ◌⊎◌, true, T, List, [], ◌++◌, length, map as map_list, Some, option_map, Result, Ok, Err}
use Rattle.std.specs.FinMap as map
use Rattle.std.specs.FinSet as set
use Rattle.std.specs.List.{AllByRecursion}
use Rattle.bridge_deltas.specs.Links.{LinksView, opened_links}
use Rattle.bridge_frames.specs.declared.forward.Forward.{Forward}
use Rattle.causal_context.specs.Dots.{Dot, Dots}
use Rattle.bridge_lanes.specs.Reading.{AreLanes, AreLanesOf}
use Rattle.bridge_lanes.specs.Lanes.{Lanes, lane_of, new_lane}
use Rattle.replica_store.specs.declared.kept.Kept.{Kept}
use Rattle.replica_store.specs.States.{State}
use Rattle.row_store.specs.declared.row.Row.{Row}
use Rattle.row_store.specs.declared.store.RowFault.{RowFault}
use Rattle.row_store.specs.declared.store.RowFault.TheVariants.{NoMemory, Device, BadRow}
use Rattle.row_store.specs.Rows.{Key, key_cmp, entry_of, content_of, Plain}
use Rattle.session_rows.specs.Durable.{Durable, IsDurable}
use Rattle.session_table.specs.Seats.{Seats}
use Rattle.replica_rows.specs.Reading.{AreAllRowsOf, IsStore}
use Rattle.subscription_set.specs.Standing.{seen_of}
use Rattle.node_rows.specs.declared.reading.Opened.{Opened}
use Rattle.node_rows.specs.Rows.{Lasting, mark, mark_key, new_node, node_row}
use Rattle.node_rows.specs.Sessions.{opened_seat}
use Rattle.node_rows.specs.Versions.{AreOlderRows}

-- ---- what can last

-- dots of none but nodes of the cluster
abbrev pub AreAmong : ℕ → Dots → Type 0
AreAmong nodes dots = (d : Dot) → set.contains dots d ≡ true → d.node < nodes

-- a state that names none but nodes of the cluster
pub record IsAmong (nodes : ℕ) (s : State) : Type 0 where
  pub taken : AreAmong nodes s.taken
  pub seen : AreAmong nodes (seen_of s.subscriptions)
  pub stamps : (topic : List ℕ) (k : Kept) → map.get s.retained topic ≡ Some k → k.stamp.node < nodes

-- no message was put in for node `id`, and none taken of it
abbrev pub HasNoLane : ℕ → Lanes Forward → Type 0
HasNoLane id lanes = lane_of lanes id ≡ new_lane

-- of node `id` in a cluster of so many nodes, which have numbers of two bytes: it has no lane to itself
pub record IsLasting (id nodes : ℕ) (x : Lasting) : Type 0 where
  pub few : nodes ≤ 2 ^ 16
  pub named : x.named < 2 ^ 62
  pub sessions : (client : List ℕ) (d : Durable) → x.sessions client ≡ Some d → IsDurable d × (d.client ≡ client)
  pub store : IsStore x.store
  pub among : IsAmong nodes x.store
  pub lanes : AreLanes nodes x.lanes
  pub others : HasNoLane id x.lanes

-- ---- rows

-- the rows of node `id`, in the order of their keys, each once
pub record AreNodeRows (rows : List Row) (id : ℕ) (x : Lasting) : Type 0 where
  pub rise : T (map.is_sorted key_cmp (map_list entry_of rows))
  pub are : (key : Key) → map.get (content_of rows) key ≡ node_row id x key

-- in version 3 they say this of node `id`; a node without rows is new
abbrev pub SayNow : List Row → ℕ → Lasting → Type 0
SayNow rows id x = ((rows ≡ []) × (x ≡ new_node (length x.lanes))) ⊎ AreNodeRows rows id x

-- in version 1, 2 or 3 they say this of node `id`
abbrev pub Say : List Row → ℕ → Lasting → Type 0
Say rows id x = SayNow rows id x ⊎ AreOlderRows rows id x

-- no node `id` of a cluster of so many has these rows in version 3
abbrev pub SayNothingNow : List Row → ℕ → ℕ → Type 0
SayNothingNow rows id nodes = (x : Lasting) → IsLasting id nodes x → SayNow rows id x → ⊥

-- nor in version 1 or 2
abbrev pub SayNothing : List Row → ℕ → ℕ → Type 0
SayNothing rows id nodes = (x : Lasting) → IsLasting id nodes x → Say rows id x → ⊥

-- ---- what is opened

abbrev pub AreOpened : Lasting → Seats → Type 0
AreOpened x seats = (client : List ℕ) → map.get seats client ≡ option_map opened_seat (x.sessions client)

pub record IsOpened (id nodes : ℕ) (x : Lasting) (o : Opened) : Type 0 where
  pub named : o.named ≡ x.named
  pub sessions : AreOpened x o.sessions
  pub store : o.store ≡ x.store
  pub links : o.links ≡ opened_links id nodes x.lanes

-- ---- parts of it
-- what a fault tells: a bad row that this holds, and want of memory nothing
abbrev pub Tells : Type 0 → RowFault → Type 0
Tells Bad BadRow = Bad
Tells Bad NoMemory = Unit {0}
Tells Bad Device = ⊥

-- what a function found is such a value
abbrev pub Recovers : {X : Type 0} → (X → Type 0) → Type 0 → Result X RowFault → Type 0
Recovers Is Bad (Ok x) = Is x
Recovers Is Bad (Err e) = Tells Bad e

-- rows behind a mark, cut by kind: the sessions' own, those of their copies, those of the state and those of the lanes
pub record IsCut (rows own copies state lanes : List Plain) : Type 0 where
  pub are : rows ≡ own ++ (copies ++ (state ++ lanes))
  pub own_low : AllByRecursion (λ e. e.0.0 ≤ 2) own
  pub copies_high : AllByRecursion (λ e. 2 < e.0.0) copies
  pub copies_low : AllByRecursion (λ e. e.0.0 ≤ 3) copies
  pub last_high : AllByRecursion (λ e. 3 < e.0.0) (state ++ lanes)
  pub state_low : AllByRecursion (λ e. e.0.0 ≤ 6) state
  pub lanes_high : AllByRecursion (λ e. 6 < e.0.0) lanes

-- the mark of the node with this number
abbrev pub IsMark : ℕ → Plain → ℕ → Type 0
IsMark id row named = (named < 2 ^ 62) × (row ≡ (mark_key, mark id named))

abbrev pub NoMark : ℕ → Plain → Type 0
NoMark id row = (named : ℕ) → IsMark id row named → ⊥

-- a state that can last
pub record IsKept (nodes : ℕ) (s : State) : Type 0 where
  pub store : IsStore s
  pub among : IsAmong nodes s

pub record IsStateOf (rows : List Row) (nodes : ℕ) (s : State) : Type 0 where
  pub rows_are : AreAllRowsOf rows s
  pub kept : IsKept nodes s

abbrev pub NoState : List Row → ℕ → Type 0
NoState rows nodes = (s : State) → IsStateOf rows nodes s → ⊥

-- what node `id` keeps of the lanes that have these rows
abbrev pub AreLinksOf : List Plain → ℕ → ℕ → LinksView → Type 0
AreLinksOf rows id nodes links = (lanes : Lanes Forward) × AreLanesOf nodes rows lanes × (links ≡ opened_links id nodes lanes)

abbrev pub NoLanes : List Plain → ℕ → Type 0
NoLanes rows nodes = (lanes : Lanes Forward) → AreLanesOf nodes rows lanes → ⊥

-- the same where none is a lane to the node itself
abbrev pub AreLinksToOthers : List Plain → ℕ → ℕ → LinksView → Type 0
AreLinksToOthers rows id nodes links = (lanes : Lanes Forward) × AreLanesOf nodes rows lanes × HasNoLane id lanes × (links ≡ opened_links id nodes lanes)

abbrev pub NoLanesToOthers : List Plain → ℕ → ℕ → Type 0
NoLanesToOthers rows id nodes = (lanes : Lanes Forward) → AreLanesOf nodes rows lanes → HasNoLane id lanes → ⊥

-- ---- laws

-- rows say one thing at most of a node
abbrev pub SayOneThing : Type 0
SayOneThing = (nodes id : ℕ) (rows : List Row) (x y : Lasting) → IsLasting id nodes x → IsLasting id nodes y → Say rows id x → Say rows id y → x ≡ y

-- nodes with the same rows are the same in what lasts
abbrev pub RowsTellAll : Type 0
RowsTellAll = (nodes id : ℕ) (x y : Lasting) → IsLasting id nodes x → IsLasting id nodes y → ((key : Key) → node_row id x key ≡ node_row id y key) → x ≡ y
