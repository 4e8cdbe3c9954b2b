-- What passes at the two doors of a hub: what it asks of sockets, with their answers, and what it tells its handler, with what that gives out.
use Rattle.std.specs.Prelude.{◌≡◌, ◌⊎◌, ℕ, List, [], ◌∷◌, map, Bool, true, false, Option, Some, None, Vec}
use Rattle.std.specs.declared.alloc.Global.{Global}
use Rattle.std.specs.declared.net.socket_addr.SocketAddr.{SocketAddr}
use Rattle.broker_sockets.specs.declared.bridge.Given.{Given}
use Rattle.broker_sockets.specs.declared.bridge.PeerEvent.{PeerEvent}
use Rattle.broker_sockets.specs.declared.bridge.PeerEventKind.{PeerEventKind}
use Rattle.broker_sockets.specs.declared.bridge.PeerEventKind.TheVariants.{Linked, Frame, More, Ship}
use Rattle.broker_sockets.specs.declared.events.Event.{Event}
use Rattle.broker_sockets.specs.declared.events.EventKind.{EventKind}
use Rattle.broker_sockets.specs.declared.events.EventKind.TheVariants.{Started, Opened, Piece, Room, Closed, Tick}
use Rattle.broker_sockets.specs.declared.events.Output.{Output}
use Rattle.broker_sockets.specs.declared.network.Answer.{Answer}
use Rattle.broker_sockets.specs.declared.network.Answer.TheVariants.{Bytes}
use Rattle.broker_sockets.specs.declared.ready.Ready.{Ready}
use Rattle.broker_sockets.specs.declared.ready.Watched.{Watched}
use Rattle.broker_sockets.specs.declared.ready.Watched.TheVariants.{Client, Link, Peer}
use Rattle.broker_turns.specs.declared.setting.Setting.{Setting}
use Rattle.broker_turns.specs.Handling.{IsTakenBy, Told}
use Rattle.broker_turns.specs.Handling.Told.{Of_client, Of_peer}

-- one call, with its answer. A stream is named as it is watched: a client by the number of its connection, a link that was accepted by its own, one
-- that was dialled by its peer's.
pub data Call (T : Type 0) : Type 0 where
  -- the listener of clients, or that of other nodes, is asked who has come
  Accepts : (stream : Option T) → Call T
  Accepts_link : (stream : Option T) → Call T
  -- a peer's address is dialled
  Dials : (address : SocketAddr) (stream : Option T) → Call T
  -- a stream is watched under a name, or can't be
  Watches : (name : Watched) (stream : T) (answer : Bool) → Call T
  -- a client's stream is read
  Reads : (key : ℕ) (stream : T) (answer : Answer) (bytes : List ℕ) (after : T) → Call T
  -- a link is read, and what came on it is cut: these frames are whole now; and whether it goes on
  Reads_link : (name : Watched) (stream : T) (answer : Answer) (bytes : List ℕ) (frames : List (Vec ℕ Global)) (goes_on : Bool) (after : T) → Call T
  -- a stream is offered bytes
  Writes : (name : Watched) (stream : T) (offered : List ℕ) (answer : Answer) (after : T) → Call T
  -- a stream is closed; and whether the handler had asked for it
  Lets_go : (name : Watched) (asked : Bool) → Call T
  -- the network tells what may have something
  Finds : (ready : Ready) → Call T
  -- the handler is told something, and gives something out
  Tells : (told : Told) → Call T
  -- it makes what it has decided last
  Settles : Call T

-- calls one after another
abbrev pub Through : {A W : Type 0} → (A → W → W → Type 0) → List A → W → W → Type 0
Through step [] w w' = w' ≡ w
Through {W = W} step (call ∷ calls) w w' = (m : W) × step call w m × Through step calls m w'

module _ {S L T : Type 0} (accepts : S → L → Option T → S → Type 0) (watches : S → T → Watched → Bool → S → Type 0) (connects : S → SocketAddr → Option T → S → Type 0)
    (reads : S → T → Answer → List ℕ → S → T → Type 0) (writes : S → T → List ℕ → Answer → S → T → Type 0) (finds : S → Ready → S → Type 0) (setting : Setting L) where
  -- what a call is to the sockets
  abbrev pub IsAsked : Call T → S → S → Type 0
  IsAsked (Accepts stream) s s' = accepts s setting.listener stream s'
  IsAsked (Accepts_link stream) s s' = accepts s setting.bridge stream s'
  IsAsked (Dials address stream) s s' = connects s address stream s'
  IsAsked (Watches name stream answer) s s' = watches s stream name answer s'
  IsAsked (Reads key stream answer bytes after) s s' = reads s stream answer bytes s' after
  IsAsked (Reads_link name stream answer bytes frames goes_on after) s s' = reads s stream answer bytes s' after
  IsAsked (Writes name stream offered answer after) s s' = writes s stream offered answer s' after
  IsAsked (Lets_go name asked) s s' = s' ≡ s
  IsAsked (Finds ready) s s' = finds s ready s'
  IsAsked (Tells told) s s' = s' ≡ s
  IsAsked Settles s s' = s' ≡ s

module _ {H : Type 0} (T : Type 0) (handles : H → Event → List Output → H → Type 0) (hears : H → PeerEvent → Given → H → Type 0) (settles : H → H → Type 0) where
  -- what it is to the handler
  abbrev pub IsDone : Call T → H → H → Type 0
  IsDone (Tells told) h h' = IsTakenBy handles hears told h h'
  IsDone Settles h h' = settles h h'
  IsDone _ h h' = h' ≡ h

-- whether the handler has settled since it was last told anything; before that nobody is written to
abbrev pub Rests : {T : Type 0} → Call T → Bool → Bool → Type 0
Rests (Tells told) before after = after ≡ false
Rests Settles before after = after ≡ true
Rests (Writes name stream offered answer left) before after = (before ≡ true) × (after ≡ before)
Rests _ before after = after ≡ before

-- who is asked to take what waits for him
abbrev pub writes_to : {T : Type 0} → Call T → List Watched
writes_to (Writes name stream offered answer after) = name ∷ []
writes_to _ = []

-- a stream is asked to take what waits for it
abbrev pub IsWrittenTo : {T : Type 0} → Watched → Call T → Type 0
IsWrittenTo name (Writes other stream offered answer after) = other ≡ name
IsWrittenTo name _ = ⊥

-- the network tells what may have something
abbrev pub IsFinding : {T : Type 0} → Ready → Call T → Type 0
IsFinding found (Finds ready) = ready ≡ found
IsFinding found _ = ⊥

-- one of these
abbrev pub IsAmong : {A : Type 0} → (A → Type 0) → List A → Type 0
IsAmong is [] = ⊥
IsAmong is (x ∷ xs) = is x ⊎ IsAmong is xs

-- ---- what there is to tell, and what is told

-- a stream came, of a client, of another node, or of a peer that was dialled; a client's connection is open, a piece came on it, it is gone; a link
-- to a peer was begun; a frame came
pub data News (T : Type 0) : Type 0 where
  Client_comes : (stream : T) → News T
  Link_comes : (stream : T) → News T
  Peer_comes : (stream : T) → News T
  Is_open : (key : ℕ) → News T
  Has_come : (key : ℕ) (bytes : List ℕ) → News T
  Is_gone : (key : ℕ) → News T
  Is_linked : (peer : ℕ) → News T
  Is_framed : (bytes : List ℕ) → News T

abbrev pub framed : (T : Type 0) → Vec ℕ Global → News T
framed T frame = Is_framed frame.items

module _ {T : Type 0} where
  abbrev pub news_accepted : Option T → List (News T)
  news_accepted None = []
  news_accepted (Some stream) = Client_comes stream ∷ []

  abbrev pub news_linked : Option T → List (News T)
  news_linked None = []
  news_linked (Some stream) = Link_comes stream ∷ []

  abbrev pub news_dialled : Option T → List (News T)
  news_dialled None = []
  news_dialled (Some stream) = Peer_comes stream ∷ []

abbrev pub news_watched : (T : Type 0) → Watched → Bool → List (News T)
news_watched T (Client key) true = Is_open key ∷ []
news_watched T (Peer peer) true = Is_linked peer ∷ []
news_watched T _ _ = []

abbrev pub news_read : (T : Type 0) → ℕ → Answer → List ℕ → List (News T)
news_read T key (Bytes n) bytes = Has_come key bytes ∷ []
news_read T key _ bytes = []

-- of a client that the handler has closed itself there is nothing to tell
abbrev pub news_closed : (T : Type 0) → Watched → Bool → List (News T)
news_closed T (Client key) false = Is_gone key ∷ []
news_closed T _ _ = []

-- what the sockets bring
abbrev pub brings : {T : Type 0} → Call T → List (News T)
brings (Accepts stream) = news_accepted stream
brings (Accepts_link stream) = news_linked stream
brings (Dials address stream) = news_dialled stream
brings {T = T} (Watches name stream answer) = news_watched T name answer
brings {T = T} (Reads key stream answer bytes after) = news_read T key answer bytes
brings {T = T} (Reads_link name stream answer bytes frames goes_on after) = map (framed T) frames
brings {T = T} (Lets_go name asked) = news_closed T name asked
brings _ = []

abbrev pub news_of_client : (T : Type 0) → EventKind → List (News T)
news_of_client T Started = []
news_of_client T (Opened key) = Is_open key ∷ []
news_of_client T (Piece key bytes) = Has_come key bytes.items ∷ []
news_of_client T (Room key bytes) = []
news_of_client T (Closed key) = Is_gone key ∷ []
news_of_client T Tick = []

abbrev pub news_of_peer : (T : Type 0) → PeerEventKind → List (News T)
news_of_peer T (Linked peer) = Is_linked peer ∷ []
news_of_peer T (Frame bytes) = Is_framed bytes.items ∷ []
news_of_peer T (Ship peer) = []
news_of_peer T (More peer after) = []

abbrev pub news_in : (T : Type 0) → Told → List (News T)
news_in T (Of_client e outputs) = news_of_client T e.kind
news_in T (Of_peer e given) = news_of_peer T e.kind

module _ {T : Type 0} where
  abbrev pub name_given : Watched → T → List (News T)
  name_given (Client key) stream = Client_comes stream ∷ []
  name_given (Link key) stream = Link_comes stream ∷ []
  name_given (Peer peer) stream = Peer_comes stream ∷ []

-- a stream that came is given a name, and of the rest the handler is told
abbrev pub tells_of : {T : Type 0} → Call T → List (News T)
tells_of (Watches name stream answer) = name_given name stream
tells_of {T = T} (Tells told) = news_in T told
tells_of _ = []

-- ---- what comes of the clock

abbrev pub beat_in : EventKind → Event → List Event
beat_in Started e = e ∷ []
beat_in Tick e = e ∷ []
beat_in _ e = []

abbrev pub beat_of : Told → List Event
beat_of (Of_client e outputs) = beat_in e.kind e
beat_of (Of_peer e given) = []

-- the handler is told that it has started, or that time has passed
abbrev pub beats : {T : Type 0} → Call T → List Event
beats (Tells told) = beat_of told
beats _ = []

abbrev pub moment_of : Told → ℕ
moment_of (Of_client e outputs) = e.at
moment_of (Of_peer e given) = e.at

-- what is told is of this moment
abbrev pub IsAt : {T : Type 0} → ℕ → Call T → Type 0
IsAt at (Tells told) = moment_of told ≡ at
IsAt at _ = Unit {0}
