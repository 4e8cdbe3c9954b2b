-- That what waits for a client, or on a link, stays whole and in order.
use Rattle.std.specs.Prelude.{◌≡◌, ◌⊎◌, ℕ, List, ◌++◌, Bool, true, Option, Some, None, slice_index_or}
use Rattle.std.specs.declared.net.socket_addr.SocketAddr.{SocketAddr}
use Rattle.slab.specs.Slab.{get}
use Rattle.broker_sockets.specs.declared.network.Answer.{Answer}
use Rattle.broker_sockets.specs.declared.bridge.Given.{Given}
use Rattle.broker_sockets.specs.declared.bridge.PeerEvent.{PeerEvent}
use Rattle.broker_turns.specs.declared.clients.Client.{Client}
use Rattle.broker_sockets.specs.declared.events.Event.{Event}
use Rattle.broker_sockets.specs.declared.events.Output.{Output}
use Rattle.broker_sockets.specs.declared.ready.Ready.{Ready}
use Rattle.broker_sockets.specs.declared.ready.Watched.{Watched}
use Rattle.broker_turns.specs.declared.lines.Line.{Line}
use Rattle.broker_turns.specs.declared.setting.Setting.{Setting}
use Rattle.broker_sockets.specs.Answers.{carried}
use Rattle.broker_turns.specs.Bridging.{IsSought, Search, search}
use Rattle.broker_turns.specs.Lines.{link_of}
use Rattle.broker_turns.specs.Connections.{IsWrote}
use Rattle.broker_turns.specs.Steps.{Each, EachBelow}
use Rattle.broker_turns.specs.Turns.{IsTurn, Site, front}

-- a longer list that begins with this one
abbrev pub Extends : List ℕ → List ℕ → Type 0
Extends longer bytes = (more : List ℕ) × (longer ≡ bytes ++ more)

-- what a stream has taken, and then what waits for it
abbrev pub flow : {T : Type 0} → (T → List ℕ) → Client T → List ℕ
flow taken client = taken client.stream ++ client.unsent

abbrev pub link_flow : {T : Type 0} → (T → List ℕ) → Line T → List ℕ
link_flow taken line = taken line.stream ++ line.unsent

module _ {S T : Type 0} (taken : T → List ℕ) where
  -- a stream takes what it answers that it took
  abbrev pub TakesWhatItAnswers : (S → T → List ℕ → Answer → S → T → Type 0) → Type 0
  TakesWhatItAnswers writes = (s s' : S) (t t' : T) (offered : List ℕ) (answer : Answer) → writes s t offered answer s' t' → taken t' ≡ taken t ++ carried answer offered

  -- a stream that is read takes nothing
  abbrev pub TakesNothing : (S → T → Answer → List ℕ → S → T → Type 0) → Type 0
  TakesNothing reads = (s s' : S) (t t' : T) (answer : Answer) (bytes : List ℕ) → reads s t answer bytes s' t' → taken t' ≡ taken t

module _ {T : Type 0} (taken : T → List ℕ) where
  -- a link that was there before, with all that it had and then more, or a new one
  abbrev pub IsOf : Option (Line T) → Type 0 → Line T → Type 0
  IsOf before new line' = ((line : Line T) × (before ≡ Some line) × Extends (link_flow taken line') (link_flow taken line)) ⊎ new

module _ {S H L T : Type 0} (watches : S → T → Watched → Bool → S → Type 0) (connects : S → SocketAddr → Option T → S → Type 0) (hears : H → PeerEvent → Given → H → Type 0) where
  -- a link that was begun in this turn: peers were dialled, one after the other, and when it came to this one there was no link to it. Its
  -- address was dialled then, and gave this stream; the link has what that has taken, and then what waits since.
  pub record IsNew (taken : T → List ℕ) (setting : Setting L) (at : ℕ) (start : Search S H T) (peer : ℕ) (line : Line T) : Type 0 where
    pub before : Search S H T
    pub earlier : EachBelow (IsSought connects watches hears at setting.peers.items) peer start before
    pub none : link_of before.reach.near.dialled peer ≡ None
    pub address : SocketAddr
    pub known : slice_index_or setting.peers.items peer None ≡ Some address
    pub stream : T
    pub asked : S
    pub began : connects before.reach.sockets address (Some stream) asked
    pub has : Extends (link_flow taken line) (taken stream)

module _
    {S H L T : Type 0} (accepts : S → L → Option T → S → Type 0) (watches : S → T → Watched → Bool → S → Type 0) (connects : S → SocketAddr → Option T → S → Type 0)
    (reads : S → T → Answer → List ℕ → S → T → Type 0) (writes : S → T → List ℕ → Answer → S → T → Type 0) (finds : S → Ready → S → Type 0)
    (handles : H → Event → List Output → H → Type 0) (hears : H → PeerEvent → Given → H → Type 0) (settles : H → H → Type 0) where
  -- over a turn, a client that stays has taken, and still has waiting, all that it had before, in the same order, and then what was sent
  abbrev pub NothingIsLost : Type 0
  NothingIsLost =
      (taken : T → List ℕ) → TakesWhatItAnswers taken writes → TakesNothing taken reads
      → (setting : Setting L) (at : ℕ) (old new : Site S H T) → IsTurn accepts watches connects reads writes finds handles hears settles setting at old new
      → (key : ℕ) (client client' : Client T) → get old.place.reach.near.clients key ≡ Some client → get new.place.reach.near.clients key ≡ Some client'
      → Extends (flow taken client') (flow taken client)

  -- so it is with a link to a peer, unless it was dialled anew in the same turn
  abbrev pub NoFrameIsLost : Type 0
  NoFrameIsLost =
      (taken : T → List ℕ) → TakesWhatItAnswers taken writes → TakesNothing taken reads
      → (setting : Setting L) (at : ℕ) (old new : Site S H T) → (turn : IsTurn accepts watches connects reads writes finds handles hears settles setting at old new)
      → (peer : ℕ) (line' : Line T) → link_of new.place.reach.near.dialled peer ≡ Some line'
      → IsOf taken (link_of old.place.reach.near.dialled peer) (IsNew watches connects hears taken setting at (search turn.taken.reach.sockets turn.taken.reach.near old.sought) peer line') line'

  -- whoever is written to in a turn, the handler has settled since it was last told of anything: before each client, and before the links
  abbrev pub NothingIsToldEarly : Type 0
  NothingIsToldEarly =
      (is_settled : H → Bool) → ((h h' : H) → settles h h' → is_settled h' ≡ true)
      → (setting : Setting L) (at : ℕ) (old new : Site S H T) → (turn : IsTurn accepts watches connects reads writes finds handles hears settles setting at old new)
      → Each (λ key w w'. (is_settled w.handler ≡ true) × IsWrote writes handles settles at key w w') turn.gives_out.due (front turn.settled) (front turn.gives_out.served)
      × (is_settled turn.gives_out.served.near.handler ≡ true)
