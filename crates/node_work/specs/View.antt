-- What a node holds.
use Rattle.std.specs.Prelude.{ℕ, Bool, false, cond, List, Option, Some, None, length, refl}
use Rattle.std.specs.Coded.{Coded, code_by, coded×, coded_ℕ, coded_bool, coded_list, coded_option}
use Rattle.std.specs.Ordering.{nat_cmp}
use Rattle.std.specs.FinMap.{FinMap}
use Rattle.std.specs.FinMap as map
use Rattle.mqtt_packets.specs.Stream.{Held}
use Rattle.bridge_frames.specs.declared.forward.Forward.{Forward}
use Rattle.home_table.specs.Table.{Table, coded_table}
use Rattle.bridge_lanes.specs.Lanes.{Lanes, new_lanes}
use Rattle.node_bridge.specs.View.{BridgeView, woken_bridge, coded_bridge}
use Rattle.replica_store.specs.States.{State, nothing, coded_state}
use Rattle.session_table.specs.Seats.{Seats, coded_seats}
use Rattle.node_work.specs.declared.counts.Counts.{Counts}
use Rattle.row_store.specs.declared.row.Change.{Change}
use Rattle.node_work.specs.declared.outcome.Output.{Output}

-- where a node stands in its cluster: its number, and how many nodes there are
pub record Place : Type 0 where
  pub id : ℕ
  pub nodes : ℕ

-- how many nodes the cluster has
abbrev pub nodes_of : Place → ℕ
nodes_of p = p.nodes

-- that of a node with this number and this table of homes
abbrev pub place_of : ℕ → Table → Place
place_of id homes = record { id = id; nodes = length homes.nodes }

-- a connection: what its framer holds, its client once that is accepted, and how many bytes of PUBLISHes it takes, where it was told before that
pub record ConnectionView : Type 0 where
  pub stream : Held
  pub client : Option (List ℕ)
  pub room : Option ℕ

-- what a running node holds: the greatest moment that it was handed, whether it has started, the table of homes that it took last, the replicated
-- state, the open connections by their numbers, the sessions by their clients, what it keeps for the other nodes, how many messages
-- it has passed on, the number of the last client identifier that it gave, and its counts
pub record HeldView : Type 0 where
  pub at : ℕ
  pub started : Bool
  pub homes : Table
  pub store : State
  pub connections : FinMap nat_cmp ConnectionView
  pub sessions : Seats
  pub bridge : BridgeView
  pub turn : ℕ
  pub named : ℕ
  pub counts : Counts

-- a node at work on an event: its place, what it holds, and what it has given out so far, and the changes of its rows
pub record WorkView : Type 0 where
  pub place : Place
  pub held : HeldView
  pub outputs : List Output
  pub changes : List Change

-- a node: its place, the table of homes that it is opened with again, and what it holds while it runs
pub record NodeView : Type 0 where
  pub place : Place
  pub homes : Table
  pub up : Option HeldView

abbrev pub no_counts : Counts
no_counts = record { queue_full = 0; retained_full = 0; picks_lost = 0; lane_full = 0; bad_frames = 0; frames_too_large = 0; tables_refused = 0 }

-- a node that was just opened, with a table of homes and what lasts of it
abbrev pub woken : Table → ℕ → Seats → State → Lanes Forward → HeldView
woken homes named sessions store lanes =
    record { at = 0; started = false; homes = homes; store = store; connections = map.empty; sessions = sessions; bridge = woken_bridge lanes; turn = 0; named = named; counts = no_counts }

-- a new one, with a table of homes
abbrev pub fresh : Table → HeldView
fresh homes = woken homes 0 map.empty nothing (new_lanes (length homes.nodes))

abbrev pub fresh_node : ℕ → Table → NodeView
fresh_node id homes = record { place = place_of id homes; homes = homes; up = Some (fresh homes) }

-- nothing is said of what a node holds once it has stopped
abbrev pub up_of : Bool → HeldView → Option HeldView
up_of stopped h = cond stopped None (Some h)

-- each is stored as its parts
abbrev pub coded_place : Coded Place
coded_place = code_by (ℕ × ℕ) (coded× coded_ℕ coded_ℕ) (λ p. (p.id, p.nodes)) (λ p. record { id = p.0; nodes = p.1 }) (λ _. refl)

abbrev pub coded_stream : Coded Held
coded_stream = code_by (ℕ × (List ℕ × Bool)) (coded× coded_ℕ (coded× (coded_list coded_ℕ) coded_bool)) (λ s. (s.limit, (s.rest, s.failed))) (λ p. record { limit = p.0; rest = p.1.0; failed = p.1.1 }) (λ _. refl)

abbrev pub coded_connection : Coded ConnectionView
coded_connection =
    code_by (Held × (Option (List ℕ) × Option ℕ)) (coded× coded_stream (coded× (coded_option (coded_list coded_ℕ)) (coded_option coded_ℕ)))
    (λ c. (c.stream, (c.client, c.room))) (λ p. record { stream = p.0; client = p.1.0; room = p.1.1 }) (λ _. refl)

abbrev pub coded_counts : Coded Counts
coded_counts =
    code_by (ℕ × (ℕ × (ℕ × (ℕ × (ℕ × (ℕ × ℕ)))))) (coded× coded_ℕ (coded× coded_ℕ (coded× coded_ℕ (coded× coded_ℕ (coded× coded_ℕ (coded× coded_ℕ coded_ℕ))))))
    (λ c. (c.queue_full, (c.retained_full, (c.picks_lost, (c.lane_full, (c.bad_frames, (c.frames_too_large, c.tables_refused)))))))
    (λ p. record { queue_full = p.0; retained_full = p.1.0; picks_lost = p.1.1.0; lane_full = p.1.1.1.0; bad_frames = p.1.1.1.1.0; frames_too_large = p.1.1.1.1.1.0; tables_refused = p.1.1.1.1.1.1 }) (λ _. refl)

abbrev pub coded_held : Coded HeldView
coded_held =
    code_by (ℕ × (Bool × (Table × (State × (FinMap nat_cmp ConnectionView × (Seats × (BridgeView × (ℕ × (ℕ × Counts)))))))))
    (coded× coded_ℕ (coded× coded_bool (coded× coded_table (coded× coded_state (coded× (map.code coded_ℕ coded_connection) (coded× coded_seats (coded× coded_bridge (coded× coded_ℕ (coded× coded_ℕ coded_counts)))))))))
    (λ h. (h.at, (h.started, (h.homes, (h.store, (h.connections, (h.sessions, (h.bridge, (h.turn, (h.named, h.counts))))))))))
    (λ p. record { at = p.0; started = p.1.0; homes = p.1.1.0; store = p.1.1.1.0; connections = p.1.1.1.1.0; sessions = p.1.1.1.1.1.0; bridge = p.1.1.1.1.1.1.0; turn = p.1.1.1.1.1.1.1.0; named = p.1.1.1.1.1.1.1.1.0; counts = p.1.1.1.1.1.1.1.1.1 }) (λ _. refl)

abbrev pub coded_node : Coded NodeView
coded_node = code_by (Place × (Table × Option HeldView)) (coded× coded_place (coded× coded_table (coded_option coded_held))) (λ n. (n.place, (n.homes, n.up))) (λ p. record { place = p.0; homes = p.1.0; up = p.1.1 }) (λ _. refl)
