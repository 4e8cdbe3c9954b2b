-- What is done for packets that came.
use Rattle.std.specs.Prelude.{ℕ, List, [], ◌∷◌, None}
use Rattle.broker_sockets.specs.declared.events.Output.{Output}
use Rattle.door_packets.specs.Answers.{connack}
use Rattle.door_guard.specs.Clients.{IsBut}
use Rattle.door_guard.specs.Stages.Outgoing.{Bytes, End}
use Rattle.door_guard.specs.Telling.{IsSent}
use Rattle.door_guard.specs.declared.clients.Clients.{Clients}

-- a client isn't let in
pub record IsTurned (c code : ℕ) (k k' : Clients) (out out' : List Output) : Type 0 where
  pub clients : IsBut c None k k'
  pub sent : IsSent c (Bytes (connack code) ∷ End ∷ []) out out'
