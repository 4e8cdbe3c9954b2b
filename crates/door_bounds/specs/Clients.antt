-- The connections of clients that are open.
use Rattle.std.specs.Prelude.{◌≡◌, ◌==◌, ℕ, List, [], ◌∷◌, false, Option, None, if◌then◌else◌}
use Rattle.std.specs.BTreeMap.{get}
use Rattle.std.specs.Ordering.{nat_cmp}
use Rattle.broker_sockets.specs.declared.events.Output.{Output}
use Rattle.broker_sockets.specs.declared.events.Output.TheVariants.{Send, Close}
use Rattle.door_bounds.specs.declared.client.Client.{Client}
use Rattle.door_bounds.specs.declared.clients.Clients.{Clients}

-- none: it isn't open
abbrev pub client_of : Clients → ℕ → Option Client
client_of k q = get nat_cmp k.clients q

-- this one is so, and all others are as they were
pub record IsBut (c : ℕ) (client : Option Client) (k k' : Clients) : Type 0 where
  pub at : client_of k' c ≡ client
  pub others : (q : ℕ) → (c == q) ≡ false → client_of k' q ≡ client_of k q

abbrev pub noted_one : ℕ → Output → Option Client → Option Client
noted_one q (Send to bytes) c = c
noted_one q (Close to) c = if to == q then None else c

-- what is given out closes connections
abbrev pub noted : ℕ → List Output → Option Client → Option Client
noted q [] c = c
noted q (output ∷ more) c = noted q more (noted_one q output c)

abbrev pub IsNoted : Output → Clients → Clients → Type 0
IsNoted output k k' = (q : ℕ) → client_of k' q ≡ noted_one q output (client_of k q)

abbrev pub AreNoted : List Output → Clients → Clients → Type 0
AreNoted outputs k k' = (q : ℕ) → client_of k' q ≡ noted q outputs (client_of k q)
