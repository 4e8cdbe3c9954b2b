-- What is known of connections, and what calls make of it.
use Rattle.std.specs.Prelude.{◌≡◌, ℕ, List, true, false, Option, Some, None}
use Rattle.mqtt3_packets.specs.declared.level.Level.TheVariants.{Four}
use Rattle.mqtt3_packets.specs.declared.version.Version.{Version}
use Rattle.mqtt3_packets.specs.declared.version.Version.TheVariants.{Five, Before, Unserved}
use Rattle.door_mqtt3.specs.Client.{AreSpelled, fresh}
use Rattle.door_mqtt3.specs.Stages.{Come, IsBut, comes, got, stage_of}
use Rattle.door_mqtt3.specs.declared.client.Client.{Client}
use Rattle.door_mqtt3.specs.declared.clients.Clients.{Clients}
use Rattle.door_mqtt3.specs.declared.clients.Stage.{Stage}
use Rattle.door_mqtt3.specs.declared.taken.Taken.{Taken}

abbrev pub client_of : Version → Option Client
client_of Five = None
client_of (Before level bridge) = Some (fresh level bridge true)
client_of Unserved = Some (fresh Four false false)

pub record IsCome (come : Come) (taken : Taken) (reached : Option Stage) : Type 0 where
  pub stage : reached ≡ come.stage
  pub told : AreSpelled come.told taken.told.items
  pub first : taken.first.items ≡ come.first

pub record IsComing (c : ℕ) (bytes : List ℕ) (taken : Taken) (k k' : Clients) : Type 0 where
  pub stage : IsBut c (comes (stage_of k c) bytes).stage k k'
  pub told : AreSpelled (comes (stage_of k c) bytes).told taken.told.items
  pub first : taken.first.items ≡ (comes (stage_of k c) bytes).first

-- what is sent on a connection that is known
abbrev pub IsGot : Option Stage → ℕ → List ℕ → List ℕ → Clients → Clients → Type 0
IsGot None c bytes sent k k' = Unit {0}
IsGot (Some s) c bytes sent k k' = IsBut c (Some (got s bytes).stage) k k' × (sent ≡ (got s bytes).sent)
