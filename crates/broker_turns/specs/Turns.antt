-- What a turn over the clients and the other nodes comes to.
use Rattle.std.specs.Prelude.{◌≡◌, ◌||◌, ℕ, List, length, Bool, Option}
use Rattle.std.specs.declared.net.socket_addr.SocketAddr.{SocketAddr}
use Rattle.slab.specs.Slab.{Slab}
use Rattle.broker_sockets.specs.declared.network.Answer.{Answer}
use Rattle.broker_sockets.specs.declared.bridge.Given.{Given}
use Rattle.broker_sockets.specs.declared.bridge.PeerEvent.{PeerEvent}
use Rattle.broker_sockets.specs.declared.events.Event.{Event}
use Rattle.broker_sockets.specs.declared.events.EventKind.TheVariants.{Started, Tick}
use Rattle.broker_sockets.specs.declared.events.Output.{Output}
use Rattle.broker_sockets.specs.declared.ready.Ready.{Ready}
use Rattle.broker_sockets.specs.declared.ready.Watched.{Watched}
use Rattle.broker_turns.specs.declared.clients.Client.{Client}
use Rattle.broker_turns.specs.declared.lines.Line.{Line}
use Rattle.broker_turns.specs.declared.setting.Setting.{Setting}
use Rattle.broker_turns.specs.Bridging.{IsHeardFrom, IsLinkAccepted, IsNoLinkAccepted, IsOffered, IsPeerRead, IsSought, IsSupplied, Near, Place, Reach, Search, search}
use Rattle.broker_turns.specs.Clients.{AreDue}
use Rattle.broker_turns.specs.Connections.{AreRoomsMade, IsAccepted, IsNobodyAccepted, IsRead, IsTold, IsWrote, World, world}
use Rattle.broker_turns.specs.Numbers.{AreThose, is_among}
use Rattle.broker_turns.specs.Steps.{AreLetInIf, Each, EachBelow, EachTells}

module _ {S H T : Type 0} where
  -- what a step for clients sees
  abbrev pub front : Reach S H T → World S H T
  front r = world r.sockets r.near.handler r.near.clients

  -- it leaves the links alone
  pub record OfClients (step : World S H T → World S H T → Type 0) (r r' : Reach S H T) : Type 0 where
    pub does : step (front r) (front r')
    pub dialled : r'.near.dialled ≡ r.near.dialled

  -- steps of the handler and the clients alone
  pub record OfHandler (step : H × Slab (Client T) → H × Slab (Client T) → Type 0) (r r' : Reach S H T) : Type 0 where
    pub does : step (r.near.handler, r.near.clients) (r'.near.handler, r'.near.clients)
    pub sockets : r'.sockets ≡ r.sockets
    pub dialled : r'.near.dialled ≡ r.near.dialled

  -- steps without the sockets, and without the handler
  pub record OfNear (step : Near H T → Near H T → Type 0) (r r' : Reach S H T) : Type 0 where
    pub does : step r.near r'.near
    pub sockets : r'.sockets ≡ r.sockets

  pub record OfLinks (step : S × List (Option (Line T)) → S × List (Option (Line T)) → Type 0) (r r' : Reach S H T) : Type 0 where
    pub does : step (r.sockets, r.near.dialled) (r'.sockets, r'.near.dialled)
    pub handler : r'.near.handler ≡ r.near.handler
    pub clients : r'.near.clients ≡ r.near.clients

  -- steps that leave the links alone that were accepted, and steps for these alone
  pub record OfReach (step : Reach S H T → Reach S H T → Type 0) (p p' : Place S H T) : Type 0 where
    pub does : step p.reach p'.reach
    pub accepted : p'.accepted ≡ p.accepted

  pub record OfAccepted (step : S × Slab (Line T) → S × Slab (Line T) → Type 0) (p p' : Place S H T) : Type 0 where
    pub does : step (p.reach.sockets, p.accepted) (p'.reach.sockets, p'.accepted)
    pub near : p'.reach.near ≡ p.reach.near

-- the handler settles
pub record IsSettled {H T : Type 0} (settles : H → H → Type 0) (n n' : Near H T) : Type 0 where
  pub does : settles n.handler n'.handler
  pub clients : n'.clients ≡ n.clients
  pub dialled : n'.dialled ≡ n.dialled

module _ {S H L T : Type 0}
    (accepts : S → L → Option T → S → Type 0) (watches : S → T → Watched → Bool → S → Type 0) (reads : S → T → Answer → List ℕ → S → T → Type 0)
    (handles : H → Event → List Output → H → Type 0) (hears : H → PeerEvent → Given → H → Type 0)
    (setting : Setting L) (at : ℕ) where
  -- where somebody may have come clients are accepted, and links, at most 64 each; and what may have something is read, in this order:
  -- clients, links that were accepted, links that were dialled; and what may have more
  pub record IsTakenIn (ready : Ready) (p : Place S H T) (more : Ready) (p' : Place S H T) : Type 0 where
    pub came : Bool
    pub joined : Place S H T
    pub accepted : OfReach (OfClients (λ w w'. AreLetInIf (IsAccepted accepts watches handles at setting.listener) (IsNobodyAccepted accepts watches handles at setting.listener) 64 ready.listeners w came w')) p joined
    pub linked : Bool
    pub met : Place S H T
    pub links_accepted : OfAccepted (λ w w'. AreLetInIf (IsLinkAccepted accepts watches setting.bridge) (IsNoLinkAccepted accepts watches setting.bridge) 64 ready.listeners w linked w') joined met
    pub listeners : more.listeners ≡ (came || linked)
    pub heard : Place S H T
    pub read : OfReach (OfClients (λ w w'. EachTells (IsRead reads handles at) ready.clients.items w more.clients.items w')) met heard
    pub listened : Place S H T
    pub links_read : EachTells (IsHeardFrom reads hears at) ready.links.items heard more.links.items listened
    pub peers_read : OfReach (λ r r'. EachTells (IsPeerRead reads hears at) ready.peers.items r more.peers.items r') listened p'

module _ {S H L T : Type 0}
    (watches : S → T → Watched → Bool → S → Type 0) (connects : S → SocketAddr → Option T → S → Type 0)
    (handles : H → Event → List Output → H → Type 0) (hears : H → PeerEvent → Given → H → Type 0) (settles : H → H → Type 0)
    (setting : Setting L) (at : ℕ) where
  -- peers without a link are dialled; a tick; each link on which nothing waits is supplied; the handler is told of each connection that takes
  -- more how much it takes; and it settles
  pub record IsDecided (q q' : Search S H T) : Type 0 where
    pub reached : Search S H T
    pub dialled : EachBelow (IsSought connects watches hears at setting.peers.items) (length setting.peers.items) q reached
    pub told : Reach S H T
    pub ticked : OfClients (IsTold handles Tick at) reached.reach told
    pub supplied : Reach S H T
    pub shipped : OfNear (EachBelow (IsSupplied hears at) (length setting.peers.items)) told supplied
    pub roomed : Reach S H T
    pub rooms_made : OfHandler (AreRoomsMade handles at) supplied roomed
    pub settled : OfNear (IsSettled settles) roomed q'.reach
    pub sought : q'.sought ≡ reached.sought

module _ {S H L T : Type 0} (writes : S → T → List ℕ → Answer → S → T → Type 0) (handles : H → Event → List Output → H → Type 0) (settles : H → H → Type 0) (setting : Setting L) (at : ℕ) where
  -- each client for which something is due is written to, and each link that was dialled
  pub record IsGivenOut (r r' : Reach S H T) : Type 0 where
    pub due : List ℕ
    pub all : AreDue r.near.clients due
    pub served : Reach S H T
    pub written : OfClients (Each (IsWrote writes handles settles at) due) r served
    pub links_written : OfLinks (EachBelow (IsOffered writes) (length setting.peers.items)) served r'

-- what either tells
pub record IsEither (found more all : Ready) : Type 0 where
  pub listeners : all.listeners ≡ (found.listeners || more.listeners)
  pub clients : AreThose (λ key. is_among found.clients.items key || is_among more.clients.items key) all.clients.items
  pub links : AreThose (λ key. is_among found.links.items key || is_among more.links.items key) all.links.items
  pub peers : AreThose (λ peer. is_among found.peers.items peer || is_among more.peers.items peer) all.peers.items

-- the network tells what may have something; that is to be asked in the next turn, and what may have more
pub record IsFound {S : Type 0} (finds : S → Ready → S → Type 0) (s : S) (more ready : Ready) (s' : S) : Type 0 where
  pub found : Ready
  pub told : finds s found s'
  pub either : IsEither found more ready

-- all that a turn changes: besides the sockets, the handler, the clients and the links what is to be asked in the next turn, and when
-- peers were dialled last
pub record Site (S H T : Type 0) : Type 0 where
  pub place : Place S H T
  pub ready : Ready
  pub sought : List (Option ℕ)

abbrev pub site : {S H T : Type 0} → Place S H T → Ready → List (Option ℕ) → Site S H T
site p ready sought = record { place = p; ready = ready; sought = sought }

-- before the first turn the handler is told that it has started
pub record IsStart {S H T : Type 0} (handles : H → Event → List Output → H → Type 0) (at : ℕ) (old new : Site S H T) : Type 0 where
  pub told : OfReach (OfClients (IsTold handles Started at)) old.place new.place
  pub ready : new.ready ≡ old.ready
  pub sought : new.sought ≡ old.sought

-- the order of a turn: what is ready is taken in, what comes of it is decided and settled, what is due is given out, and the network
-- is asked what is ready
pub record IsTurn {S H L T : Type 0}
    (accepts : S → L → Option T → S → Type 0) (watches : S → T → Watched → Bool → S → Type 0) (connects : S → SocketAddr → Option T → S → Type 0)
    (reads : S → T → Answer → List ℕ → S → T → Type 0) (writes : S → T → List ℕ → Answer → S → T → Type 0) (finds : S → Ready → S → Type 0)
    (handles : H → Event → List Output → H → Type 0) (hears : H → PeerEvent → Given → H → Type 0) (settles : H → H → Type 0)
    (setting : Setting L) (at : ℕ) (old new : Site S H T) : Type 0 where
  pub more : Ready
  pub taken : Place S H T
  pub takes_in : IsTakenIn accepts watches reads handles hears setting at old.ready old.place more taken
  pub settled : Reach S H T
  pub decides : IsDecided watches connects handles hears settles setting at
      (search taken.reach.sockets taken.reach.near old.sought) (search settled.sockets settled.near new.sought)
  pub given : Reach S H T
  pub gives_out : IsGivenOut writes handles settles setting at settled given
  pub looks : IsFound finds given.sockets more new.ready new.place.reach.sockets
  pub near : new.place.reach.near ≡ given.near
  pub accepted : new.place.accepted ≡ taken.accepted
