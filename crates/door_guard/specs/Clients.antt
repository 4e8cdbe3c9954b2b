-- The connections of clients that are open.
use Rattle.std.specs.Prelude.{◌≡◌, ◌==◌, not, ℕ, List, Bool, true, false, Option, Some, None}
use Rattle.std.specs.BTreeMap.{get}
use Rattle.std.specs.Ordering.{nat_cmp}
use Rattle.door_packets.specs.Coming.{come}
use Rattle.door_packets.specs.Passing.{told_alone}
use Rattle.door_packets.specs.Rights.{Rights}
use Rattle.door_packets.specs.Walk.{is_leaving}
use Rattle.door_packets.specs.declared.access.Login.{Login}
use Rattle.door_packets.specs.declared.client.Client.{Client}
use Rattle.door_packets.specs.declared.client.Stage.{Stage}
use Rattle.door_packets.specs.declared.client.Stage.TheVariants.{Waiting, Open, Over, Leaving}
use Rattle.door_guard.specs.declared.clients.Clients.{Clients}

-- none: it isn't open
abbrev pub client_of : Clients → ℕ → Option Client
client_of k q = get nat_cmp k.clients q

-- this one is so, and all others are as they were
pub record IsBut (c : ℕ) (client : Option Client) (k k' : Clients) : Type 0 where
  pub at : client_of k' c ≡ client
  pub others : (q : ℕ) → (c == q) ≡ false → client_of k' q ≡ client_of k q

abbrev pub is_live : Option Client → Bool
is_live None = false
is_live (Some c) = not (is_leaving c)

abbrev pub is_leaving_of : Option Client → Bool
is_leaving_of None = false
is_leaving_of (Some c) = is_leaving c

abbrev pub is_told_at : Stage → Bool
is_told_at (Waiting room) = false
is_told_at Open = true
is_told_at Over = true
is_told_at Leaving = true

-- the handler inside was told that it is open
abbrev pub is_told_of : Option Client → Bool
is_told_of None = false
is_told_of (Some c) = is_told_at c.stage

abbrev pub login_at : Option Client → Option Login
login_at None = None
login_at (Some c) = c.login

abbrev pub restaged : Stage → Option Client → Option Client
restaged stage None = None
restaged stage (Some c) = Some (record c { stage = stage })

-- it is open, and these bytes of it go on as they came: nothing else is to be done, and what is known of it stays
abbrev pub GoesOn : Rights → List ℕ → Option Client → Type 0
GoesOn r bs None = ⊥
GoesOn r bs (Some c) = (marked : List ℕ → Bool) → come r marked c bs ≡ told_alone c bs
