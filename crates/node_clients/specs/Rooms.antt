-- How many bytes of PUBLISHes at QoS 1 and 2 a client's connection takes from now on.
use Rattle.std.specs.Prelude.{ℕ, List, Option, Some, None}
use Rattle.law_sessions.specs.Runs.{rooms}
use Rattle.session_table.specs.Calls.{stays}
use Rattle.node_work.specs.Acts.{Connection}
use Rattle.node_work.specs.Calling.{Calls}
use Rattle.node_work.specs.Held.Connections.{Roomed, is_open, client_at}
use Rattle.node_work.specs.Working.{Doing, Returns, Acting, Looks, If, Then}

-- the client's session goes on
abbrev pub GivesRoom : ℕ → List ℕ → Option (Unit {0}) → Doing
GivesRoom bytes client = Then (Calls client (rooms bytes) stays) (λ _. Returns tt)

-- before a client was accepted it is kept for it, and afterwards its session is told
abbrev pub MakesRoomBy : ℕ → ℕ → Option (List ℕ) → Option (Unit {0}) → Doing
MakesRoomBy c bytes None = Acting (λ p h. Connection (Roomed c bytes))
MakesRoomBy c bytes (Some client) = GivesRoom bytes client

abbrev pub MakesRoom : ℕ → ℕ → Option (Unit {0}) → Doing
MakesRoom c bytes = Looks (λ p h. is_open c h) (λ is_there. If is_there (Looks (λ p h. client_at c h) (MakesRoomBy c bytes)) (Returns tt))
