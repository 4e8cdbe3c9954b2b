-- How a client is held back, and told as ready later.
use Rattle.std.specs.Prelude.{◌≡◌, ◌+◌, ◌^◌, ◌-◌, ◌&&◌, ◌⊎◌, ◌++◌, ◌==◌, ◌∷◌, [], ℕ, Bool, true, false, List, leb, ltb, min, Option, Some, None, if◌then◌else◌}
use Rattle.std.specs.BTreeMap.{IsUnchanged, get}
use Rattle.std.specs.Ordering.{nat_cmp}
use Rattle.broker_sockets.specs.declared.network.Answer.{Answer}
use Rattle.broker_sockets.specs.declared.network.Answer.TheVariants.{Later, Bytes, Gone}
use Rattle.broker_sockets.specs.declared.ready.Ready.{Ready}
use Rattle.broker_holds.specs.declared.sockets.HoldingSockets.{HoldingSockets}
use Rattle.broker_holds.specs.declared.strain.Strained.{Strained}
use Rattle.broker_holds.specs.declared.stream.HeldStream.{HeldStream}

module _ {T : Type 0} where
  -- the moment up to which a client is held back at most
  abbrev pub latest : HeldStream T → ℕ
  latest t = min (t.published + t.patience) (2 ^ 64 - 1)

  -- up to then he is, where he has published since too much waits, and it isn't past yet
  abbrev pub held_until : HeldStream T → Strained → Option ℕ
  held_until t strained = if leb strained.since t.published && ltb strained.at (latest t) then Some (latest t) else None

  -- he isn't, where nothing too much waits
  abbrev pub held_by : HeldStream T → Option Strained → Option ℕ
  held_by t None = None
  held_by t (Some strained) = held_until t strained

module _ {S T : Type 0} where
  -- the network isn't asked; and it is noted who was held back, and until when, beside all who were noted before
  pub record IsHeldBack (n : HoldingSockets S) (t : HeldStream T) (n' : HoldingSockets S) (t' : HeldStream T) : Type 0 where
    pub stream : t' ≡ t
    pub sockets : n'.sockets ≡ n.sockets
    pub client : ℕ
    pub noted : get nat_cmp n'.held client ≡ Some (latest t)
    pub others : (other : ℕ) → (client == other) ≡ false → get nat_cmp n'.held other ≡ get nat_cmp n.held other
    pub strained : Option Strained
    pub is_held : held_by t strained ≡ Some (latest t)

  -- the network is asked
  pub record IsPassedOn (reads : S → T → Answer → List ℕ → S → T → Type 0) (n : HoldingSockets S) (t : HeldStream T) (answer : Answer) (bytes : List ℕ) (n' : HoldingSockets S) (t' : HeldStream T) : Type 0 where
    pub read : reads n.sockets t.stream answer bytes n'.sockets t'.stream
    pub held : IsUnchanged n.held n'.held

  -- a stream is read, or answers that it would have to wait since its client is held back
  abbrev pub IsReadOrHeld : (S → T → Answer → List ℕ → S → T → Type 0) → HoldingSockets S → HeldStream T → Answer → List ℕ → HoldingSockets S → HeldStream T → Type 0
  IsReadOrHeld reads n t answer bytes n' t' = ((answer ≡ Later) × IsHeldBack n t n' t') ⊎ IsPassedOn reads n t answer bytes n' t'

-- a link on which bytes are carried stands, and one that is gone doesn't
abbrev pub link_told : Answer → Option Bool
link_told Later = None
link_told (Bytes count) = Some true
link_told Gone = Some false

-- whether who was held back until a moment is told as ready: where nothing too much waits any more, and else once the moment has come
abbrev pub is_over : Option Strained → ℕ → Bool
is_over None until = true
is_over (Some strained) until = leb until strained.at

-- of those who were held back, who is
abbrev pub due_of : Option Strained → List (ℕ × ℕ) → List ℕ
due_of strained [] = []
due_of strained (e ∷ es) = if is_over strained e.1 then e.0 ∷ due_of strained es else due_of strained es

-- until when another client is held back, once a client isn't noted any more
abbrev pub forgotten_one : ℕ → ℕ → Option ℕ → Option ℕ
forgotten_one other client until = if client == other then None else until

-- and once these aren't
abbrev pub forgotten : ℕ → List ℕ → Option ℕ → Option ℕ
forgotten other [] until = until
forgotten other (client ∷ clients) until = forgotten other clients (forgotten_one other client until)

-- all that the network inside tells is told, and clients who were held back; and just these aren't noted any more
module _ {S : Type 0} (finds : S → Ready → S → Type 0) where
  pub record AreFound (n : HoldingSockets S) (found : Ready) (n' : HoldingSockets S) : Type 0 where
    pub inside : Ready
    pub told : finds n.sockets inside n'.sockets
    pub strained : Option Strained
    pub due : List ℕ
    pub all : due ≡ due_of strained n.held.entries
    pub clients : found.clients.items ≡ inside.clients.items ++ due
    pub listeners : found.listeners ≡ inside.listeners
    pub links : found.links ≡ inside.links
    pub peers : found.peers ≡ inside.peers
    pub kept : (client : ℕ) → get nat_cmp n'.held client ≡ forgotten client due (get nat_cmp n.held client)
