-- What comes of the stream of one name, call by call.
use Rattle.std.specs.Prelude.{◌≡◌, ◌<◌, ◌-◌, ◌⊎◌, ◌&&◌, ◌||◌, is_none, ℕ, List, [], ◌∷◌, ◌++◌, map, length, eqb, not, if◌then◌else◌, Bool, true, false, Option, Some, None, option_map, Vec}
use Rattle.std.specs.Io.{StartsWith}
use Rattle.std.specs.declared.alloc.Global.{Global}
use Rattle.slab.specs.Slab.{get}
use Rattle.broker_sockets.specs.Answers.{IsWithin, left_after}
use Rattle.broker_sockets.specs.declared.bridge.PeerEventKind.{PeerEventKind}
use Rattle.broker_sockets.specs.declared.bridge.PeerEventKind.TheVariants.{More, Ship}
use Rattle.broker_sockets.specs.declared.bridge.PeerFrame.{PeerFrame}
use Rattle.broker_sockets.specs.declared.events.EventKind.{EventKind}
use Rattle.broker_sockets.specs.declared.events.EventKind.TheVariants.{Room}
use Rattle.broker_sockets.specs.declared.events.Output.{Output}
use Rattle.broker_sockets.specs.declared.events.Output.TheVariants.{Send, Close}
use Rattle.broker_sockets.specs.declared.network.Answer.{Answer}
use Rattle.broker_sockets.specs.declared.network.Answer.TheVariants.{Later, Bytes, Gone}
use Rattle.broker_sockets.specs.declared.ready.Ready.{Ready}
use Rattle.broker_sockets.specs.declared.ready.Watched.{Watched}
use Rattle.broker_sockets.specs.declared.ready.Watched.TheVariants as watched
use Rattle.broker_turns.specs.declared.clients.Client.{Client}
use Rattle.broker_turns.specs.declared.lines.Line.{Line}
use Rattle.broker_turns.specs.Bridging.{IsTaken, Place}
use Rattle.broker_turns.specs.Handling.{Told}
use Rattle.broker_turns.specs.Handling.Told.{Of_client, Of_peer}
use Rattle.broker_turns.specs.Lines.{link_of}
use Rattle.broker_turns.specs.Numbers.{is_among}
use Rattle.law_serving.specs.Calls.{Call, Lets_go, Reads, Reads_link, Tells, Watches, Writes}

abbrev pub is_same : Watched → Watched → Bool
is_same (watched.Client a) (watched.Client b) = eqb a b
is_same (watched.Client a) _ = false
is_same (watched.Link a) (watched.Link b) = eqb a b
is_same (watched.Link a) _ = false
is_same (watched.Peer a) (watched.Peer b) = eqb a b
is_same (watched.Peer a) _ = false

-- ---- what the handler gives out for it

-- bytes for a stream, or that it closes once they are written
pub record Gift : Type 0 where
  pub name : Watched
  pub bytes : Option (List ℕ)

abbrev pub gift_of : Output → Gift
gift_of (Send connection bytes) = record { name = watched.Client connection; bytes = Some bytes.items }
gift_of (Close connection) = record { name = watched.Client connection; bytes = None }

abbrev pub frame_of : PeerFrame → Gift
frame_of frame = record { name = watched.Peer frame.peer; bytes = Some frame.bytes.items }

-- all that is given out, in order
abbrev pub gifts_in : Told → List Gift
gifts_in (Of_client e outputs) = map gift_of outputs
gifts_in (Of_peer e given) = map gift_of given.outputs.items ++ map frame_of given.frames.items

-- ---- the channel of a name

-- the stream, what came of a frame that isn't whole, what waits to be written, whether it closes after that, and whether it must be closed now
pub record Channel (T : Type 0) : Type 0 where
  pub stream : T
  pub held : List ℕ
  pub waits : List ℕ
  pub closing : Bool
  pub gone : Bool

module _ {T : Type 0} where
  abbrev pub new_channel : T → Channel T
  new_channel stream = record { stream = stream; held = []; waits = []; closing = false; gone = false }

  abbrev pub put : Option (List ℕ) → Channel T → Channel T
  put None x = record x { closing = true }
  put (Some bytes) x = if x.closing then x else record x { waits = x.waits ++ bytes }

  -- gifts wait behind what waits, in order; what is given once it closes comes to nothing
  abbrev pub given : Watched → List Gift → Channel T → Channel T
  given name [] x = x
  given name (gift ∷ gifts) x = given name gifts (if is_same gift.name name then put gift.bytes x else x)

  -- ---- what a call is to it

  -- a name under which nothing is open
  abbrev pub IsNew : Bool → T → Option (Channel T) → Option (Channel T) → Type 0
  IsNew true stream o o' = (o ≡ None) × (o' ≡ Some (new_channel stream))
  IsNew false stream o o' = o' ≡ o

  -- one that is open
  abbrev pub IsOf : Bool → (Channel T → Option (Channel T) → Type 0) → Option (Channel T) → Option (Channel T) → Type 0
  IsOf true does None o' = ⊥
  IsOf true does (Some x) o' = does x o'
  IsOf false does o o' = o' ≡ o

abbrev pub is_gone : Answer → Bool
is_gone Later = false
is_gone (Bytes n) = false
is_gone Gone = true

module _ {T : Type 0} where
  -- its stream is read as the last call left it, not once it closes
  pub record IsRead (stream : T) (answer : Answer) (after : T) (x : Channel T) (o' : Option (Channel T)) : Type 0 where
    pub same : x.stream ≡ stream
    pub unclosed : x.closing ≡ false
    pub fresh : x.gone ≡ false
    pub now : o' ≡ Some (record x { stream = after; gone = is_gone answer })

  -- what is held with what came is cut into frames; it must be closed where it failed, or where a frame is too long
  pub record IsLinkRead (stream : T) (answer : Answer) (bytes : List ℕ) (frames : List (Vec ℕ Global)) (goes_on : Bool) (after : T) (x : Channel T) (o' : Option (Channel T)) : Type 0 where
    pub same : x.stream ≡ stream
    pub fresh : x.gone ≡ false
    pub held : List ℕ
    pub more : Bool
    pub cut : IsTaken answer bytes x.held frames held goes_on more
    pub now : o' ≡ Some (record x { stream = after; held = held; gone = not goes_on })

  -- its stream is offered the first bytes that wait, and those that it takes don't wait any more
  pub record IsWritten (stream : T) (offered : List ℕ) (answer : Answer) (after : T) (x : Channel T) (o' : Option (Channel T)) : Type 0 where
    pub same : x.stream ≡ stream
    pub fresh : x.gone ≡ false
    pub some : 0 < length offered
    pub first : StartsWith x.waits offered
    pub within : IsWithin answer (length offered)
    pub now : o' ≡ Some (record x { stream = after; waits = left_after answer x.waits; gone = is_gone answer })

-- so many bytes may wait
abbrev pub most : Watched → ℕ
most (watched.Client key) = 16777216
most (watched.Link key) = 536870912
most (watched.Peer peer) = 536870912

module _ {T : Type 0} where
  -- it must be closed, or too much waits, or it closes and all is written
  abbrev pub IsOver : ℕ → Channel T → Type 0
  IsOver most x = (x.gone ≡ true) ⊎ (most < length x.waits) ⊎ ((x.closing ≡ true) × (x.waits ≡ []))

  -- it is closed then, and else never
  pub record IsLetGo (most : ℕ) (asked : Bool) (x : Channel T) (o' : Option (Channel T)) : Type 0 where
    pub over : IsOver most x
    pub shut : x.closing ≡ asked
    pub now : o' ≡ None

  -- fewer than 262,144 bytes wait: what it takes is what is missing to 1,048,576
  pub record TakesMore (bytes : ℕ) (x : Channel T) : Type 0 where
    pub unclosed : x.closing ≡ false
    pub few : length x.waits < 262144
    pub room : bytes ≡ 1048576 - length x.waits

  abbrev pub Holds : Bool → (Channel T → Type 0) → Option (Channel T) → Type 0
  Holds true is None = ⊥
  Holds true is (Some x) = is x
  Holds false is o = Unit {0}

  -- the handler is told how much a connection takes that takes more, and asked for all that a peer may lack where nothing waits for it, and for more
  -- than was given where fewer than 65,536 bytes do
  abbrev pub IsForClient : Watched → EventKind → Option (Channel T) → Type 0
  IsForClient name (Room key bytes) o = Holds (is_same (watched.Client key) name) (TakesMore bytes) o
  IsForClient name _ o = Unit {0}

  abbrev pub IsForPeer : Watched → PeerEventKind → Option (Channel T) → Type 0
  IsForPeer name (Ship peer) o = Holds (is_same (watched.Peer peer) name) (λ x. x.waits ≡ []) o
  IsForPeer name (More peer after) o = Holds (is_same (watched.Peer peer) name) (λ x. length x.waits < 65536) o
  IsForPeer name _ o = Unit {0}

  abbrev pub IsFor : Watched → Told → Option (Channel T) → Type 0
  IsFor name (Of_client e outputs) o = IsForClient name e.kind o
  IsFor name (Of_peer e given) o = IsForPeer name e.kind o

  -- what a call is to the channel of a name
  abbrev pub Goes : Watched → Call T → Option (Channel T) → Option (Channel T) → Type 0
  Goes name (Watches other stream answer) o o' = IsNew (answer && is_same other name) stream o o'
  Goes name (Reads key stream answer bytes after) o o' = IsOf (is_same (watched.Client key) name) (IsRead stream answer after) o o'
  Goes name (Reads_link other stream answer bytes frames goes_on after) o o' = IsOf (is_same other name) (IsLinkRead stream answer bytes frames goes_on after) o o'
  Goes name (Writes other stream offered answer after) o o' = IsOf (is_same other name) (IsWritten stream offered answer after) o o'
  Goes name (Lets_go other asked) o o' = IsOf (is_same other name) (IsLetGo (most other) asked) o o'
  Goes name (Tells told) o o' = IsFor name told o × (o' ≡ option_map (given name (gifts_in told)) o)
  Goes name _ o o' = o' ≡ o

-- ---- what has something

-- the network told that it may have something
abbrev pub is_ready : Ready → Watched → Bool
is_ready ready (watched.Client key) = is_among ready.clients.items key
is_ready ready (watched.Link key) = is_among ready.links.items key
is_ready ready (watched.Peer peer) = is_among ready.peers.items peer

-- the handler closes it
abbrev pub closes : Watched → List Gift → Bool
closes name [] = false
closes name (gift ∷ gifts) = (is_same gift.name name && is_none gift.bytes) || closes name gifts

-- its stream is asked for what it has; or the handler closes it, or it is over
abbrev pub IsReadOrShut : {T : Type 0} → Watched → Call T → Type 0
IsReadOrShut name (Reads key stream answer bytes after) = is_same (watched.Client key) name ≡ true
IsReadOrShut name (Reads_link other stream answer bytes frames goes_on after) = is_same other name ≡ true
IsReadOrShut name (Tells told) = closes name (gifts_in told) ≡ true
IsReadOrShut name (Lets_go other asked) = is_same other name ≡ true
IsReadOrShut name _ = ⊥

-- ---- the channels of a hub

module _ {T : Type 0} where
  abbrev pub of_client : Client T → Channel T
  of_client client = record { stream = client.stream; held = []; waits = client.unsent; closing = client.closing; gone = false }

  abbrev pub of_line : Line T → Channel T
  of_line line = record { stream = line.stream; held = line.held; waits = line.unsent; closing = false; gone = false }

  -- what is open under a name
  abbrev pub channel_at : {S H : Type 0} → Watched → Place S H T → Option (Channel T)
  channel_at (watched.Client key) p = option_map of_client (get p.reach.near.clients key)
  channel_at (watched.Link key) p = option_map of_line (get p.accepted key)
  channel_at (watched.Peer peer) p = option_map of_line (link_of p.reach.near.dialled peer)
