-- Where a node finds the other nodes of its table.
use Rattle.std.specs.Prelude.{◌≡◌, ◌≢◌, ℕ, List, length, slice_get, slice_index_or, Option, Some, None}
use Rattle.std.specs.Net.Grammar.{IsSocketText}
use Rattle.std.specs.declared.net.socket_addr.SocketAddr.{SocketAddr}
use Rattle.home_table.specs.declared.rows.NodeEntry.{NodeEntry}

-- a node's own number has no address, and that of another node is the one that its bridge spells
pub record IsPeer (nodes : List NodeEntry) (id number : ℕ) (peer : Option SocketAddr) : Type 0 where
  pub own : number ≡ id → peer ≡ None
  pub other : number ≢ id → (node : NodeEntry) → slice_get nodes number ≡ Some node → (address : SocketAddr) × IsSocketText node.bridge address × (peer ≡ Some address)

-- by the numbers of the nodes
pub record ArePeers (nodes : List NodeEntry) (id : ℕ) (peers : List (Option SocketAddr)) : Type 0 where
  pub all : length peers ≡ length nodes
  pub each : (number : ℕ) → IsPeer nodes id number (slice_index_or peers number None)
