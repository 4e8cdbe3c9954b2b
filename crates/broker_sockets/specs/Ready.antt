-- Under which numbers the system is told of streams, and what is told as ready of them.
use Rattle.std.specs.Prelude.{◌≡◌, ◌+◌, ◌*◌, ℕ, List, [], ◌∷◌, ◌++◌}
use Rattle.broker_sockets.specs.declared.ready.Ready.{Ready}
use Rattle.broker_sockets.specs.declared.ready.Watched.{Watched}
use Rattle.broker_sockets.specs.declared.ready.Watched.TheVariants.{Client, Link, Peer}

-- no two names have the same
abbrev pub token_of : Watched → ℕ
token_of (Client key) = key * 4
token_of (Link key) = key * 4 + 1
token_of (Peer number) = number * 4 + 2

abbrev pub client_in : Watched → List ℕ
client_in (Client key) = key ∷ []
client_in (Link key) = []
client_in (Peer number) = []

abbrev pub link_in : Watched → List ℕ
link_in (Client key) = []
link_in (Link key) = key ∷ []
link_in (Peer number) = []

abbrev pub peer_in : Watched → List ℕ
peer_in (Client key) = []
peer_in (Link key) = []
peer_in (Peer number) = number ∷ []

-- one more stream is told
pub record IsTold (name : Watched) (old new : Ready) : Type 0 where
  pub listeners : new.listeners ≡ old.listeners
  pub clients : new.clients.items ≡ old.clients.items ++ client_in name
  pub links : new.links.items ≡ old.links.items ++ link_in name
  pub peers : new.peers.items ≡ old.peers.items ++ peer_in name
