-- What has come of a turn that stops: what its handler was told, and who was written to until then.
use Rattle.std.specs.Prelude.{◌≡◌, ◌⊎◌, ◌++◌, ◌∷◌, ℕ, zero, suc, List, Bool, Option, Some, false}
use Rattle.std.specs.declared.net.socket_addr.SocketAddr.{SocketAddr}
use Rattle.slab.specs.Slab.{get}
use Rattle.broker_sockets.specs.declared.bridge.Given.{Given}
use Rattle.broker_sockets.specs.declared.bridge.PeerEvent.{PeerEvent}
use Rattle.broker_sockets.specs.declared.events.Event.{Event}
use Rattle.broker_sockets.specs.declared.events.Output.{Output}
use Rattle.broker_sockets.specs.declared.network.Answer.{Answer}
use Rattle.broker_sockets.specs.declared.ready.Ready.{Ready}
use Rattle.broker_sockets.specs.declared.ready.Watched.{Watched}
use Rattle.broker_turns.specs.declared.clients.Client.{Client}
use Rattle.broker_turns.specs.declared.setting.Setting.{Setting}
use Rattle.broker_turns.specs.declared.turn.Fate.TheVariants.{Lost}
use Rattle.broker_turns.specs.declared.turn.TurnFault.{TurnFault}
use Rattle.broker_turns.specs.declared.turn.TurnFault.TheVariants.{NoMemory, Handler}
use Rattle.broker_turns.specs.Bridging.{Place, Reach, Search, search}
use Rattle.broker_turns.specs.Clients.{AreDue}
use Rattle.broker_turns.specs.Connections.{IsLetGo, IsWrote, World}
use Rattle.broker_turns.specs.Handling.{AreTold, Told}
use Rattle.broker_turns.specs.Steps.{Each}
use Rattle.broker_turns.specs.Turns.{IsDecided, IsGivenOut, IsTakenIn, Site, front}
use Rattle.broker_turns.specs.Writing.{IsWritten}

-- ---- the handler

module _ {H F : Type 0} (handles : H → Event → List Output → H → Type 0) (hears : H → PeerEvent → Given → H → Type 0)
    (refuses : H → Event → F → H → Type 0) (declines : H → PeerEvent → F → H → Type 0) (at : ℕ) where
  -- there was no memory, or the handler gives the fault to an event of this moment
  abbrev pub IsEnd : TurnFault F → H → H → Type 0
  IsEnd NoMemory h h' = h' ≡ h
  IsEnd (Handler fault) h h' = ((e : Event) × (e.at ≡ at) × refuses h e fault h') ⊎ ((e : PeerEvent) × (e.at ≡ at) × declines h e fault h')

  -- it was told these, one after another, and nothing else; and then came the fault. It hasn't settled.
  pub record IsBroken (h h' : H) (fault : TurnFault F) : Type 0 where
    pub told : List Told
    pub last : H
    pub all : AreTold handles hears told h last
    pub ends : IsEnd fault last h'

-- it gives the fault where it is to settle
abbrev pub IsUnsettled : {H F : Type 0} → (H → F → H → Type 0) → H → H → TurnFault F → Type 0
IsUnsettled stops h h' NoMemory = ⊥
IsUnsettled stops h h' (Handler fault) = stops h fault h'

-- ---- the sockets

-- one step after another, of the same kind
abbrev pub Times : {W : Type 0} → (W → W → Type 0) → ℕ → W → W → Type 0
Times step zero w w' = w' ≡ w
Times {W = W} step (suc n) w w' = (m : W) × step w m × Times step n m w'

abbrev pub Again : {W : Type 0} → (W → W → Type 0) → W → W → Type 0
Again step w w' = (n : ℕ) × Times step n w w'

-- a stream is read
abbrev pub IsReadOnce : {S T : Type 0} → (S → T → Answer → List ℕ → S → T → Type 0) → S → S → Type 0
IsReadOnce {T = T} reads s s' = (stream : T) × (answer : Answer) × (bytes : List ℕ) × (after : T) × reads s stream answer bytes s' after

-- so it is, or somebody may come, a stream is watched, an address is dialled. Nobody is written to.
abbrev pub IsAskedOnce : {S L T : Type 0} → (S → L → Option T → S → Type 0) → (S → T → Watched → Bool → S → Type 0) → (S → SocketAddr → Option T → S → Type 0)
    → (S → T → Answer → List ℕ → S → T → Type 0) → S → S → Type 0
IsAskedOnce {L = L} {T = T} accepts watches connects reads s s' =
    ((listener : L) × (stream : Option T) × accepts s listener stream s')
    ⊎ ((stream : T) × (name : Watched) × (answer : Bool) × watches s stream name answer s')
    ⊎ ((address : SocketAddr) × (stream : Option T) × connects s address stream s')
    ⊎ IsReadOnce reads s s'

-- ---- a turn

-- all that comes before it settles is whole, and there it gives the fault
module _ {S H L T F : Type 0}
    (watches : S → T → Watched → Bool → S → Type 0) (connects : S → SocketAddr → Option T → S → Type 0)
    (handles : H → Event → List Output → H → Type 0) (hears : H → PeerEvent → Given → H → Type 0) (stops : H → F → H → Type 0)
    (setting : Setting L) (at : ℕ) where
  abbrev pub IsDecidedInVain : Search S H T → Search S H T → TurnFault F → Type 0
  IsDecidedInVain q q' fault = IsDecided watches connects handles hears (λ h h'. IsUnsettled stops h h' fault) setting at q q'

-- it stops before it has settled, and until then the sockets were only asked so
pub record IsBrokenOff {S H F : Type 0} (asks : S → S → Type 0) (handles : H → Event → List Output → H → Type 0) (hears : H → PeerEvent → Given → H → Type 0)
    (refuses : H → Event → F → H → Type 0) (declines : H → PeerEvent → F → H → Type 0) (at : ℕ) (s : S) (h : H) (s' : S) (h' : H) (fault : TurnFault F) : Type 0 where
  pub broken : IsBroken handles hears refuses declines at h h' fault
  pub asked : Again asks s s'

module _ {S H L T F : Type 0}
    (accepts : S → L → Option T → S → Type 0) (watches : S → T → Watched → Bool → S → Type 0) (connects : S → SocketAddr → Option T → S → Type 0)
    (reads : S → T → Answer → List ℕ → S → T → Type 0)
    (handles : H → Event → List Output → H → Type 0) (hears : H → PeerEvent → Given → H → Type 0)
    (refuses : H → Event → F → H → Type 0) (declines : H → PeerEvent → F → H → Type 0) (stops : H → F → H → Type 0)
    (setting : Setting L) (at : ℕ) where
  -- so, or where it settles
  abbrev pub IsUndecided : Search S H T → Search S H T → TurnFault F → Type 0
  IsUndecided q q' fault =
      IsBrokenOff (IsAskedOnce accepts watches connects reads) handles hears refuses declines at q.reach.sockets q.reach.near.handler q'.reach.sockets q'.reach.near.handler fault
      ⊎ IsDecidedInVain watches connects handles hears stops setting at q q' fault

-- a client is offered what waits for it, and is lost
abbrev pub IsWrittenLast : {S T : Type 0} → (S → T → List ℕ → Answer → S → T → Type 0) → S → Client T → S → Client T → Type 0
IsWrittenLast writes s client s' left = IsWritten writes s client Lost s' left

module _ {S H T F : Type 0} (writes : S → T → List ℕ → Answer → S → T → Type 0)
    (handles : H → Event → List Output → H → Type 0) (hears : H → PeerEvent → Given → H → Type 0)
    (refuses : H → Event → F → H → Type 0) (declines : H → PeerEvent → F → H → Type 0) (stops : H → F → H → Type 0) (at : ℕ) where
  -- a client is lost so. The handler can't be told, or it was told, and can't settle.
  pub record IsUnwrote (key : ℕ) (w w' : World S H T) (fault : TurnFault F) : Type 0 where
    pub client : Client T
    pub found : get w.clients key ≡ Some client
    pub left : Client T
    pub written : IsWrittenLast writes w.sockets client w'.sockets left
    pub unasked : left.closing ≡ false
    pub breaks :
        IsBroken handles hears refuses declines at w.handler w'.handler fault
        ⊎ ((told : H) × IsLetGo handles at key w.handler w.clients told w'.clients × IsUnsettled stops told w'.handler fault)

module _ {S H T F : Type 0} (writes : S → T → List ℕ → Answer → S → T → Type 0)
    (handles : H → Event → List Output → H → Type 0) (hears : H → PeerEvent → Given → H → Type 0) (settles : H → H → Type 0)
    (refuses : H → Event → F → H → Type 0) (declines : H → PeerEvent → F → H → Type 0) (stops : H → F → H → Type 0) (at : ℕ) where
  -- it stops at one of these clients; those before it were offered what waits for them, each whole
  pub record AreUnwrote (keys : List ℕ) (w w' : World S H T) (fault : TurnFault F) : Type 0 where
    pub before : List ℕ
    pub key : ℕ
    pub after : List ℕ
    pub all : keys ≡ before ++ key ∷ after
    pub between : World S H T
    pub each : Each (IsWrote writes handles settles at) before w between
    pub last : IsUnwrote writes handles hears refuses declines stops at key between w' fault

  -- there was no memory to find those for which something is due, or it stops at one of them
  abbrev pub IsUngiven : World S H T → World S H T → TurnFault F → Type 0
  IsUngiven w w' fault =
      ((fault ≡ NoMemory) × (w'.sockets ≡ w.sockets) × (w'.handler ≡ w.handler)) ⊎ ((due : List ℕ) × AreDue w.clients due × AreUnwrote due w w' fault)

-- A turn stops: before all that came is taken in; or then, before the handler has settled, or where it settles; or it has settled, and the turn stops while clients are
-- written to; or all is given out, and there is no memory for what is ready next. What is told here of whole phases is what `IsTurn` tells.
module _ {S H L T F : Type 0}
    (accepts : S → L → Option T → S → Type 0) (watches : S → T → Watched → Bool → S → Type 0) (connects : S → SocketAddr → Option T → S → Type 0)
    (reads : S → T → Answer → List ℕ → S → T → Type 0) (writes : S → T → List ℕ → Answer → S → T → Type 0)
    (handles : H → Event → List Output → H → Type 0) (hears : H → PeerEvent → Given → H → Type 0) (settles : H → H → Type 0)
    (refuses : H → Event → F → H → Type 0) (declines : H → PeerEvent → F → H → Type 0) (stops : H → F → H → Type 0)
    (setting : Setting L) (at : ℕ) (old : Site S H T) (s' : S) (h' : H) (fault : TurnFault F) where
  abbrev pub IsUntaken : Type 0
  IsUntaken = IsBrokenOff (IsAskedOnce accepts watches connects reads) handles hears refuses declines at old.place.reach.sockets old.place.reach.near.handler s' h' fault

  pub record IsUndecidedTurn : Type 0 where
    pub more : Ready
    pub taken : Place S H T
    pub takes_in : IsTakenIn accepts watches reads handles hears setting at old.ready old.place more taken
    pub reached : Search S H T
    pub breaks : IsUndecided accepts watches connects reads handles hears refuses declines stops setting at (search taken.reach.sockets taken.reach.near old.sought) reached fault
    pub sockets : reached.reach.sockets ≡ s'
    pub ends : reached.reach.near.handler ≡ h'

  -- it has settled
  pub record IsUngivenTurn (gives : Reach S H T → Type 0) : Type 0 where
    pub more : Ready
    pub taken : Place S H T
    pub takes_in : IsTakenIn accepts watches reads handles hears setting at old.ready old.place more taken
    pub settled : Reach S H T
    pub sought : List (Option ℕ)
    pub decides : IsDecided watches connects handles hears settles setting at (search taken.reach.sockets taken.reach.near old.sought) (search settled.sockets settled.near sought)
    pub gives_out : gives settled

  -- while clients are written to
  pub record IsGivenInVain (settled : Reach S H T) : Type 0 where
    pub reached : World S H T
    pub breaks : IsUngiven writes handles hears settles refuses declines stops at (front settled) reached fault
    pub sockets : reached.sockets ≡ s'
    pub ends : reached.handler ≡ h'

  -- or after that
  pub record IsUnlooked (settled : Reach S H T) : Type 0 where
    pub given : Reach S H T
    pub gives_out : IsGivenOut writes handles settles setting at settled given
    pub memory : fault ≡ NoMemory
    pub ends : given.near.handler ≡ h'

  abbrev pub IsBrokenTurn : Type 0
  IsBrokenTurn = IsUntaken ⊎ IsUndecidedTurn ⊎ IsUngivenTurn IsGivenInVain ⊎ IsUngivenTurn IsUnlooked
