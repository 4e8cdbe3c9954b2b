-- Where the nodes' ends of connections are accepted, and connections to there.
use Rattle.std.specs.Prelude.{◌≡◌, ◌<◌, ℕ, zero, suc, List, [], ◌∷◌, Option, Some, None, Result, Ok, Err, codes}
use Rattle.std.specs.declared.net.socket_addr.SocketAddr.{SocketAddr}
use Rattle.broker_sockets.specs.Binding.{IsBound}
use Rattle.script_loopback.specs.declared.fault.WireFault.{WireFault}
use Rattle.script_loopback.specs.declared.fault.WireFault.TheVariants.{NoMemory, Socket, Turns}
use Rattle.script_loopback.specs.declared.host.Host.{Host}
use Rattle.script_loopback.specs.declared.host.Pair.{Pair}

module _ {S L : Type 0} (listens : S → SocketAddr → Option L → S → Type 0) where
  -- a listener waits at a free port of this machine
  abbrev pub IsListening : S → L → S → Type 0
  IsListening s listener s' = IsBound listens (codes "127.0.0.1:0") s (Some listener) s'

  -- each host listens, one after another
  abbrev pub Listen : List (Host L) → S → S → Type 0
  Listen [] s s' = s' ≡ s
  Listen (host ∷ hosts) s s' = (m : S) × IsListening s host.listener m × Listen hosts m s'

module _ {S L T : Type 0} (connects : S → SocketAddr → Option T → S → Type 0) (accepts : S → L → Option T → S → Type 0) where
  -- a listener is asked so often, and nobody has come
  abbrev pub Waits : L → ℕ → S → S → Type 0
  Waits listener zero s s' = s' ≡ s
  Waits listener (suc n) s s' = (m : S) × Waits listener n s m × accepts m listener None s'

  -- a stream connects to a host, and another is accepted there within 1,000,000 turns
  pub record IsJoined (host : Host L) (s : S) (pair : Pair T) (s' : S) : Type 0 where
    pub begun : S
    pub dialled : connects s host.address (Some pair.dialled) begun
    pub made : ℕ
    pub few : made < 1000000
    pub waiting : S
    pub waited : Waits host.listener made begun waiting
    pub accepted : accepts waiting host.listener (Some pair.accepted) s'

  -- a stream connects, and after 1,000,000 turns none is accepted
  pub record IsAwaited (host : Host L) (s s' : S) : Type 0 where
    pub stream : T
    pub begun : S
    pub dialled : connects s host.address (Some stream) begun
    pub made : ℕ
    pub all : made ≡ 1000000
    pub waited : Waits host.listener made begun s'

  -- what comes of a connection to a host
  abbrev pub Joins : Host L → S → Result (Pair T) WireFault → S → Type 0
  Joins host s (Ok pair) s' = IsJoined host s pair s'
  Joins host s (Err NoMemory) s' = ⊥
  Joins host s (Err Socket) s' = connects s host.address None s'
  Joins host s (Err Turns) s' = IsAwaited host s s'
