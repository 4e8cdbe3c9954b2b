-- The sockets of nodes in one process, and the bytes that pass through them.
use Rattle.std.specs.Prelude.{◌≡◌, ◌==◌, ◌&&◌, ◌||◌, ◌++◌, ◌∷◌, ℕ, List, [], length, filter, position, not, Bool, Option, Some, None, Result, Ok, Err, Vec, slice_get, slice_set}
use Rattle.std.specs.declared.alloc.Global.{Global}
use Rattle.std.specs.declared.net.socket_addr.SocketAddr.{SocketAddr}
use Rattle.broker_sockets.specs.declared.network.Answer.{Answer}
use Rattle.script_loopback.specs.declared.fault.WireFault.{WireFault}
use Rattle.script_loopback.specs.declared.fault.WireFault.TheVariants.{NoMemory, Socket, Turns}
use Rattle.script_loopback.specs.declared.host.Host.{Host}
use Rattle.script_loopback.specs.declared.host.Pair.{Pair}
use Rattle.script_loopback.specs.declared.wire.Wire.{Wire}
use Rattle.script_loopback.specs.declared.wires.Wires.{Wires}
use Rattle.script_loopback.specs.Carrying.{Carries, Ends}
use Rattle.script_loopback.specs.Hosts.{IsAwaited, IsJoined}

-- where connections to the nodes are accepted, the connections of clients, and the links between nodes
pub record Network (L T : Type 0) : Type 0 where
  pub hosts : List (Host L)
  pub clients : List (Wire T)
  pub links : List (Wire T)

abbrev pub network : {L T : Type 0} → Wires L T → Network L T
network wires = record { hosts = wires.hosts.items; clients = wires.clients.items; links = wires.links.items }

module _ {T : Type 0} where
  -- the wire to a node under a number
  abbrev pub is_at : ℕ → ℕ → Wire T → Bool
  is_at node number wire = (wire.node == node) && (wire.number == number)

  -- a link to a node or from it
  abbrev pub is_of : ℕ → Wire T → Bool
  is_of node wire = (wire.node == node) || (wire.number == node)

module _ {L T : Type 0} where
  abbrev pub without_client : ℕ → ℕ → Network L T → Network L T
  without_client node connection net = record net { clients = filter (λ w. not (is_at node connection w)) net.clients }

  -- no client is connected to the node, and no link leads from it or to it
  abbrev pub without_node : ℕ → Network L T → Network L T
  without_node node net = record net {
    clients = filter (λ w. not (w.node == node)) net.clients;
    links = filter (λ w. not (is_of node w)) net.links;
  }

module _ {S L T : Type 0} (connects : S → SocketAddr → Option T → S → Type 0) (accepts : S → L → Option T → S → Type 0) where
  -- a wire to a host, behind the others
  abbrev pub AddsTo : Option (Host L) → ℕ → ℕ → S × List (Wire T) → Result (Unit {0}) WireFault → S × List (Wire T) → Type 0
  AddsTo None node number w result w' = (result ≡ Err Socket) × (w' ≡ w)
  AddsTo (Some host) node number w (Ok done) w' =
      (pair : Pair T) × IsJoined connects accepts host w.0 pair w'.0 × (w'.1 ≡ w.1 ++ record { node = node; number = number; pair = pair } ∷ [])
  AddsTo (Some host) node number w (Err NoMemory) w' = w' ≡ w
  AddsTo (Some host) node number w (Err Socket) w' = connects w.0 host.address None w'.0 × (w'.1 ≡ w.1)
  AddsTo (Some host) node number w (Err Turns) w' = IsAwaited connects accepts host w.0 w'.0 × (w'.1 ≡ w.1)

  -- a wire is made to the host of a node, under a number
  abbrev pub Adds : List (Host L) → ℕ → ℕ → S × List (Wire T) → Result (Unit {0}) WireFault → S × List (Wire T) → Type 0
  Adds hosts node number w result w' = AddsTo (slice_get hosts node) node number w result w'

  abbrev pub ReachesNew : List (Host L) → ℕ → ℕ → S × List (Wire T) → Result ℕ WireFault → S × List (Wire T) → Type 0
  ReachesNew hosts node number w (Ok place) w' = Adds hosts node number w (Ok tt) w' × (place ≡ length w.1)
  ReachesNew hosts node number w (Err fault) w' = Adds hosts node number w (Err fault) w'

  abbrev pub ReachesAt : Option ℕ → List (Host L) → ℕ → ℕ → S × List (Wire T) → Result ℕ WireFault → S × List (Wire T) → Type 0
  ReachesAt None hosts node number w result w' = ReachesNew hosts node number w result w'
  ReachesAt (Some place) hosts node number w result w' = (result ≡ Ok place) × (w' ≡ w)

  -- where the wire to a node under a number stands, which is made if there is none
  abbrev pub Reaches : List (Host L) → ℕ → ℕ → S × List (Wire T) → Result ℕ WireFault → S × List (Wire T) → Type 0
  Reaches hosts node number w result w' = ReachesAt (position (is_at node number) w.1) hosts node number w result w'

  -- the wire is there
  abbrev pub done : Result ℕ WireFault → Result (Unit {0}) WireFault
  done (Ok place) = Ok tt
  done (Err fault) = Err fault

  -- a client is connected to a node, or was, or why it can't be
  pub record Opens (node connection : ℕ) (w : S × Network L T) (result : Result (Unit {0}) WireFault) (w' : S × Network L T) : Type 0 where
    pub reached : Result ℕ WireFault
    pub reaches : Reaches w.1.hosts node connection (w.0, w.1.clients) reached (w'.0, w'.1.clients)
    pub told : result ≡ done reached
    pub hosts : w'.1.hosts ≡ w.1.hosts
    pub links : w'.1.links ≡ w.1.links

-- from the end that has connected to the one that was accepted, and the other way
abbrev pub forth : {S T : Type 0} → S → Pair T → Ends S T
forth s pair = (s, pair.dialled, pair.accepted)

abbrev pub back : {S T : Type 0} → S → Pair T → Ends S T
back s pair = (s, pair.accepted, pair.dialled)

module _ {S T : Type 0} (reads : S → T → Answer → List ℕ → S → T → Type 0) (writes : S → T → List ℕ → Answer → S → T → Type 0) (ends : S → Pair T → Ends S T) where
  -- the wire at a place carries bytes
  pub record CarriesAt (place : ℕ) (bytes : List ℕ) (w : S × List (Wire T)) (result : Result (Vec ℕ Global) WireFault) (w' : S × List (Wire T)) : Type 0 where
    pub wire : Wire T
    pub there : slice_get w.1 place ≡ Some wire
    pub pair : Pair T
    pub carries : Carries reads writes bytes (ends w.0 wire.pair) result (ends w'.0 pair)
    pub kept : w'.1 ≡ slice_set w.1 place (record wire { pair = pair })

  -- bytes pass through no socket where there is no wire
  abbrev pub GivesAt : Option ℕ → Vec ℕ Global → S × List (Wire T) → Result (Vec ℕ Global) WireFault → S × List (Wire T) → Type 0
  GivesAt None bytes w result w' = (result ≡ Ok bytes) × (w' ≡ w)
  GivesAt (Some place) bytes w result w' = CarriesAt place bytes.items w result w'

  -- bytes pass between a client and a node, over the wire of its connection if there is one
  pub record Gives {L : Type 0} (node connection : ℕ) (bytes : Vec ℕ Global) (w : S × Network L T) (result : Result (Vec ℕ Global) WireFault) (w' : S × Network L T) : Type 0 where
    pub given : GivesAt (position (is_at node connection) w.1.clients) bytes (w.0, w.1.clients) result (w'.0, w'.1.clients)
    pub hosts : w'.1.hosts ≡ w.1.hosts
    pub links : w'.1.links ≡ w.1.links

module _
    {S L T : Type 0} (connects : S → SocketAddr → Option T → S → Type 0) (accepts : S → L → Option T → S → Type 0)
    (reads : S → T → Answer → List ℕ → S → T → Type 0) (writes : S → T → List ℕ → Answer → S → T → Type 0) where
  abbrev pub FramesAt : Result ℕ WireFault → List ℕ → S × List (Wire T) → Result (Vec ℕ Global) WireFault → S × List (Wire T) → Type 0
  FramesAt (Ok place) bytes w result w' = CarriesAt reads writes forth place bytes w result w'
  FramesAt (Err fault) bytes w result w' = (result ≡ Err fault) × (w' ≡ w)

  -- bytes pass from one node to another over the link, which is made if there is none
  pub record Frames (from to : ℕ) (bytes : List ℕ) (w : S × Network L T) (result : Result (Vec ℕ Global) WireFault) (w' : S × Network L T) : Type 0 where
    pub reached : Result ℕ WireFault
    pub between : S × List (Wire T)
    pub reaches : Reaches connects accepts w.1.hosts to from (w.0, w.1.links) reached between
    pub carries : FramesAt reached bytes between result (w'.0, w'.1.links)
    pub hosts : w'.1.hosts ≡ w.1.hosts
    pub clients : w'.1.clients ≡ w.1.clients
