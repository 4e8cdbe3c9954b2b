-- What goes out where the handler inside gives something.
use Rattle.std.specs.Prelude.{◌==◌, ℕ, List, [], ◌∷◌, Option, None, if◌then◌else◌}
use Rattle.broker_sockets.specs.declared.events.Output.{Output}
use Rattle.door_packets.specs.Answers.{disconnect}
use Rattle.door_guard.specs.Clients.{IsBut, client_of, restaged}
use Rattle.door_guard.specs.Stages.Outgoing.{Bytes, End}
use Rattle.door_guard.specs.Telling.{IsSent}
use Rattle.door_packets.specs.declared.client.Stage.TheVariants.{Leaving}
use Rattle.door_guard.specs.declared.clients.Clients.{Clients}
use Rattle.door_packets.specs.declared.codes.Awaited.{Awaited}

-- the SUBACK that is to come on a connection
abbrev pub awaited_for : ℕ → Option Awaited → ℕ → Option Awaited
awaited_for place awaited c = if place == c then awaited else None

-- the end of a connection goes out: DISCONNECT, and the close
pub record IsEnded (c : ℕ) (k k' : Clients) (out out' : List Output) : Type 0 where
  pub clients : IsBut c (restaged Leaving (client_of k c)) k k'
  pub sent : IsSent c (Bytes disconnect ∷ End ∷ []) out out'
