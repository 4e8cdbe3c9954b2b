-- Listening at an address that a text names.
use Rattle.std.specs.Prelude.{◌≡◌, ◌⊎◌, ℕ, List, Option, None}
use Rattle.std.specs.Net.Grammar.{IsSocketText}
use Rattle.std.specs.declared.net.socket_addr.SocketAddr.{SocketAddr}

-- the text spells an address, and that is what came of listening there; or it spells none, and nothing was asked
abbrev pub IsBound : {S L : Type 0} → (S → SocketAddr → Option L → S → Type 0) → List ℕ → S → Option L → S → Type 0
IsBound listens text s came s' =
    ((address : SocketAddr) × IsSocketText text address × listens s address came s')
    ⊎ (((address : SocketAddr) → IsSocketText text address → ⊥) × (came ≡ None) × (s' ≡ s))
