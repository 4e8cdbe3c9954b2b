-- Laws of what a node keeps for the other nodes.
use Rattle.std.specs.Prelude.{◌≡◌, ℕ, Option}
use Rattle.replica_store.specs.States.{State}
use Rattle.node_bridge.specs.View.{BridgeView, IsToShip}

-- what is kept determines what is sent
abbrev pub ToShipIsOne : Type 0
ToShipIsOne = (peer : ℕ) (b : BridgeView) (s : State) (x y : Option State) → IsToShip peer b s x → IsToShip peer b s y → x ≡ y
