-- What a node is without its queue for a client, without the session of a client, or without what waits for another node; and how its rows are edited so that they are that node's.
use Rattle.std.specs.Prelude.{◌≡◌, ℕ, suc, ◌==◌, ◌&&◌, ◌<◌, Bool, false, cond, not, List, [], ◌∷◌, drop, map, Option, Some, None, option_map, if◌then◌else◌}
use Rattle.std.specs.FinMap.{get}
use Rattle.std.specs.List.{filter}
use Rattle.std.specs.Str.{bytes_eq}
use Rattle.bridge_frames.specs.declared.forward.Forward.{Forward}
use Rattle.bridge_lanes.specs.Lanes.{Lanes}
use Rattle.bridge_lanes.specs.Rows.{Messages, owner}
use Rattle.mqtt_fields.specs.declared.options.Qos.TheVariants.{AtMostOnce}
use Rattle.node_rows.specs.Reading.{AreNodeRows, IsLasting}
use Rattle.node_rows.specs.Rows.{Lasting, node_row}
use Rattle.qos_handshakes.specs.Entries.{Entries}
use Rattle.qos_handshakes.specs.Outbox.{waits}
use Rattle.row_store.specs.Leading.{Lead}
use Rattle.row_store.specs.declared.row.Change.{Change}
use Rattle.row_store.specs.declared.row.Row.{Row}
use Rattle.row_store.specs.Rows.{Content, Key}
use Rattle.session_rows.specs.Durable.{Durable}
use Rattle.row_drops.specs.declared.target.Target.{Target}
use Rattle.row_drops.specs.declared.target.Target.TheVariants.{Session, Queue, Lane}

-- ---- a node without it

-- the copies that don't wait
abbrev pub exchanges : Entries → Entries
exchanges copies = filter (λ e. not (waits e.1.stage)) copies

-- the copies that wait are gone
abbrev pub without_queue : Durable → Durable
without_queue d = record d { copies = exchanges d.copies }

-- all copies are gone, nobody has been connected since the moment 0, and the session lasts no longer than its connections: so it is over
abbrev pub ended : Durable → Durable
ended d = record d { main = record d.main { expiry = 0; closed = Some 0 }; copies = [] }

-- the session of one client becomes another one, and the others stay
abbrev pub at_client : List ℕ → (Durable → Durable) → (List ℕ → Option Durable) → List ℕ → Option Durable
at_client client f sessions c = if bytes_eq c client then option_map f (sessions c) else sessions c

-- a message that is for nobody
abbrev pub for_nobody : Forward
for_nobody = record {
  plain = false;
  picks = [];
  message = record { topic = 45 ∷ []; payload = []; properties = []; qos = AtMostOnce; retain = false; publisher = []; deadline = None };
}

-- each message that waits for the node is for nobody there
abbrev pub unheard : Messages → Messages
unheard l = record l { waiting = map (λ _. for_nobody) l.waiting }

-- the lane to one node, of lanes to the nodes from a number on
abbrev pub unheard_at : ℕ → ℕ → Lanes Forward → Lanes Forward
unheard_at node p [] = []
unheard_at node p (l ∷ lanes) = cond (p == node) (unheard l) l ∷ unheard_at node (suc p) lanes

abbrev pub dropped : Target → Lasting → Lasting
dropped (Session client) x = record x { sessions = at_client client.bytes.items ended x.sessions }
dropped (Queue client) x = record x { sessions = at_client client.bytes.items without_queue x.sessions }
dropped (Lane node) x = record x { lanes = unheard_at node 0 x.lanes }

-- ---- its rows

-- the third byte of a copy's row is 0 where it waits
abbrev pub is_waiting : List ℕ → Bool
is_waiting (a ∷ b ∷ stage ∷ more) = stage == 0
is_waiting other = false

-- the row of a session begins with its Session Expiry Interval in four bytes, a byte that is 1 where nobody is connected, and the moment since when, in eight
abbrev pub ended_value : List ℕ → List ℕ
ended_value value = 0 ∷ 0 ∷ 0 ∷ 0 ∷ 1 ∷ 0 ∷ 0 ∷ 0 ∷ 0 ∷ 0 ∷ 0 ∷ 0 ∷ 0 ∷ drop 13 value

-- the row of a message for nobody
abbrev pub nobody_value : List ℕ
nobody_value = 0 ∷ 0 ∷ 0 ∷ 0 ∷ 1 ∷ 45 ∷ 0 ∷ 0 ∷ 0 ∷ 0 ∷ 0 ∷ 0 ∷ 0 ∷ 0 ∷ 0 ∷ 0 ∷ []

abbrev pub queue_edit : List ℕ → Key → List ℕ → Option (Option (List ℕ))
queue_edit client key value = if (key.0 == 3) && (bytes_eq key.1.0 client && is_waiting value) then Some None else None

abbrev pub session_edit : List ℕ → Key → List ℕ → Option (Option (List ℕ))
session_edit client key value =
    if (key.0 == 3) && bytes_eq key.1.0 client then Some None
    else if (key.0 == 2) && bytes_eq key.1.0 client then Some (Some (ended_value value))
    else None

abbrev pub lane_edit : ℕ → Key → List ℕ → Option (Option (List ℕ))
lane_edit node key value = if (key.0 == 7) && bytes_eq key.1.0 (owner node) then Some (Some nobody_value) else None

abbrev pub edit : Target → Key → List ℕ → Option (Option (List ℕ))
edit (Session client) = session_edit client.bytes.items
edit (Queue client) = queue_edit client.bytes.items
edit (Lane node) = lane_edit node

-- ---- the law

-- a node of a cluster of so many
abbrev pub IsInside : Target → ℕ → Type 0
IsInside (Session client) nodes = Unit {0}
IsInside (Queue client) nodes = Unit {0}
IsInside (Lane node) nodes = node < nodes

-- the rows are those of node `id` of so many, and the changes lead to those of the node without it, which can last too
pub record AreDropped (rows : List Row) (id nodes : ℕ) (target : Target) (changes : List Change) : Type 0 where
  pub lasting : Lasting
  pub lasts : IsLasting id nodes lasting
  pub said : AreNodeRows rows id lasting
  pub still : IsLasting id nodes (dropped target lasting)
  pub lead : Lead (node_row id lasting) (node_row id (dropped target lasting)) changes

-- a content is that of node `id` of so many, and the other one that of the node without it
pub record IsDropped (id nodes : ℕ) (target : Target) (old new : Content) : Type 0 where
  pub lasting : Lasting
  pub lasts : IsLasting id nodes lasting
  pub were : (key : Key) → get old key ≡ node_row id lasting key
  pub still : IsLasting id nodes (dropped target lasting)
  pub are : (key : Key) → get new key ≡ node_row id (dropped target lasting) key
