-- Who is let in, and what each may do.
use Rattle.std.specs.Prelude.{ℕ, List, Bool, Option}
use Rattle.door_packets.specs.declared.access.Admission.{Admission}
use Rattle.door_packets.specs.declared.access.Login.{Login}

pub record Rights : Type 0 where
  -- by the user name and the password
  pub admission : Option (List ℕ) → Option (List ℕ) → Admission
  -- under this identifier
  pub may_connect : Login → Bool
  -- to this topic, and of it
  pub may_write : Login → List ℕ → Bool
  pub may_read : Login → List ℕ → Bool
  -- to this filter, as it stands in SUBSCRIBE
  pub may_subscribe : Login → List ℕ → Bool
