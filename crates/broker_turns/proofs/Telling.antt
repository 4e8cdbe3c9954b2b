-- Outputs, one after another.
use Rattle.std.proofs.Common.{◌≡◌, ℕ, List, [], ◌∷◌, ◌++◌, Option, Some, None, refl}
use Rattle.broker_turns.specs.declared.clients.Client.{Client}
use Rattle.broker_sockets.specs.declared.events.Output.{Output}
use Rattle.broker_turns.specs.Clients.{told, told_all, told_at}

pub told_all-more : {T : Type 0} (key : ℕ) (outputs : List Output) (o : Output) (client : Client T) → told_all key (outputs ++ o ∷ []) client ≡ told key o (told_all key outputs client)
told_all-more key [] o client = refl
told_all-more key (x ∷ outputs) o client = told_all-more key outputs o (told key x client)

pub told_at-more : {T : Type 0} (key : ℕ) (outputs : List Output) (o : Output) (client : Option (Client T)) → told_at key (outputs ++ o ∷ []) client ≡ told_at key (o ∷ []) (told_at key outputs client)
told_at-more key outputs o None = refl
told_at-more key outputs o (Some client) = rw (told_all-more key outputs o client) refl
