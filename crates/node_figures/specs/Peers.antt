-- What is told of the other nodes.
use Rattle.std.specs.Prelude.{ℕ, zero, suc, ◌-◌, ◌==◌, Bool, max, List, [], ◌∷◌, ◌++◌, Option, Some, None, length, option_map, slice_get, string_bytes, unwrap_or, if◌then◌else◌}
use Rattle.std.specs.FinSet as set
use Rattle.causal_context.specs.Dots.{Dots}
use Rattle.node_figures.specs.Counts.{lacking}
use Rattle.home_table.specs.Table.{Table}
use Rattle.node_bridge.specs.View.{known_of, lane_to}
use Rattle.node_work.specs.View.{HeldView}
use Rattle.status_figures.specs.declared.peer.Peer.{Peer}
use Rattle.status_tally.specs.Links.{heard_by}
use Rattle.status_tally.specs.Tallying.{link_of}
use Rattle.status_tally.specs.declared.links.Link.{Link}
use Rattle.status_tally.specs.declared.tally.Tally.{Tally}

-- what is seen of another node in figures
pub record Seen : Type 0 where
  pub name : List ℕ
  pub number : ℕ
  pub address : List ℕ
  pub bridge : List ℕ
  pub linked : Bool
  pub up : ℕ
  pub away : ℕ
  pub heard : Bool
  pub lacking : ℕ
  pub missing : ℕ
  pub waiting : ℕ
  pub room : ℕ

abbrev pub seen : Peer → Seen
seen peer = record {
  name = string_bytes peer.name;
  number = peer.number;
  address = string_bytes peer.address;
  bridge = string_bytes peer.bridge;
  linked = peer.linked;
  up = peer.up;
  away = peer.away;
  heard = peer.heard;
  lacking = peer.lacking;
  missing = peer.missing;
  waiting = peer.waiting;
  room = peer.room;
}

-- the operations that a node isn't known to have; of whom nothing is known has none
abbrev pub lacking_by : Dots → Option Dots → ℕ
lacking_by taken None = lacking taken set.empty
lacking_by taken (Some known) = lacking taken known

abbrev pub lacking_of : HeldView → ℕ → ℕ
lacking_of h peer = lacking_by h.store.taken (known_of h.bridge peer)

-- the operations that it is known to have and that the node hasn't taken
abbrev pub missing_by : Dots → Option Dots → ℕ
missing_by taken None = 0
missing_by taken (Some known) = lacking known taken

abbrev pub missing_of : HeldView → ℕ → ℕ
missing_of h peer = missing_by h.store.taken (known_of h.bridge peer)

-- for how long there has been a link at a moment, since it came up, or since the node runs
abbrev pub up_by : ℕ → ℕ → Link → ℕ
up_by since at link = if link.up then at - max link.since since else 0

-- for how long there has been none, since it failed, or since the node runs
abbrev pub away_by : ℕ → ℕ → Link → ℕ
away_by since at link = if link.up then 0 else at - max link.since since

-- the messages that wait for it
abbrev pub waiting_of : HeldView → ℕ → ℕ
waiting_of h peer = length (lane_to h.bridge peer).waiting

-- its name
abbrev pub name_of : Table → ℕ → List ℕ
name_of homes number = unwrap_or (option_map (λ n. n.name) (slice_get homes.nodes number)) []

-- the address at which clients reach it
abbrev pub address_of : Table → ℕ → List ℕ
address_of homes number = unwrap_or (option_map (λ n. n.address) (slice_get homes.nodes number)) []

-- the address of its bridge
abbrev pub bridge_of : Table → ℕ → List ℕ
bridge_of homes number = unwrap_or (option_map (λ n. n.bridge) (slice_get homes.nodes number)) []

-- one that runs since a moment, at another one
abbrev pub peer_at : Table → HeldView → Tally → ℕ → ℕ → ℕ → Seen
peer_at homes h tally since at number = record {
  name = name_of homes number;
  number = number;
  address = address_of homes number;
  bridge = bridge_of homes number;
  linked = (link_of number tally).up;
  up = up_by since at (link_of number tally);
  away = away_by since at (link_of number tally);
  heard = heard_by at (link_of number tally);
  lacking = lacking_of h number;
  missing = missing_of h number;
  waiting = waiting_of h number;
  room = 65536;
}

-- the numbers below one, but for a node's own
abbrev pub others : ℕ → ℕ → List ℕ
others own zero = []
others own (suc n) = others own n ++ (if n == own then [] else n ∷ [])
