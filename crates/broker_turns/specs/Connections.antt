-- What a turn does with the connections of clients.
use Rattle.std.specs.Prelude.{◌≡◌, ◌<◌, ◌≤◌, ℕ, List, length, true, false, Bool, Option, Some, None, Vec}
use Rattle.std.specs.declared.alloc.Global.{Global}
use Rattle.slab.specs.Slab.{Slab, get, Updates}
use Rattle.broker_sockets.specs.declared.network.Answer.{Answer}
use Rattle.broker_sockets.specs.declared.network.Answer.TheVariants.{Later, Bytes, Gone}
use Rattle.broker_sockets.specs.declared.events.Event.{Event}
use Rattle.broker_sockets.specs.declared.events.EventKind.{EventKind}
use Rattle.broker_sockets.specs.declared.events.EventKind.TheVariants.{Opened, Piece, Room, Closed}
use Rattle.broker_sockets.specs.declared.events.Output.{Output}
use Rattle.broker_sockets.specs.declared.ready.Watched.{Watched}
use Rattle.broker_sockets.specs.declared.ready.Watched.TheVariants as watched
use Rattle.broker_turns.specs.declared.clients.Client.{Client}
use Rattle.broker_turns.specs.declared.turn.Fate.{Fate}
use Rattle.broker_turns.specs.declared.turn.Fate.TheVariants.{Stays, Done, Lost}
use Rattle.broker_turns.specs.Clients.{Released, fresh, room_of, takes_more, takes_more_at}
use Rattle.broker_turns.specs.Numbers.{AreThose}
use Rattle.broker_turns.specs.Steps.{Each}
use Rattle.broker_turns.specs.Writing.{IsWritten}

-- the sockets, what handles events, and the clients by connection
pub record World (S H T : Type 0) : Type 0 where
  pub sockets : S
  pub handler : H
  pub clients : Slab (Client T)

abbrev pub world : {S H T : Type 0} → S → H → Slab (Client T) → World S H T
world s h c = record { sockets = s; handler = h; clients = c }

abbrev pub event : ℕ → EventKind → Event
event at kind = record { at = at; kind = kind }

-- the handler answers an event, and what it gives out is released
pub record IsHandled {H T : Type 0} (handles : H → Event → List Output → H → Type 0) (it : Event) (h : H) (c : Slab (Client T)) (h' : H) (c' : Slab (Client T)) : Type 0 where
  pub outputs : List Output
  pub answered : handles h it outputs h'
  pub released : Released outputs c c'

module _ {H T : Type 0} (handles : H → Event → List Output → H → Type 0) (at : ℕ) where
  -- the handler is told how much a connection takes from now on, which is what is missing to 1,048,576 bytes
  pub record IsRoomTold (key : ℕ) (client : Client T) (h : H) (c : Slab (Client T)) (h' : H) (c' : Slab (Client T)) : Type 0 where
    pub noted : Slab (Client T)
    pub notes : Updates c noted key (Some (record client { untold = false }))
    pub handled : IsHandled handles (event at (Room key (room_of client))) h noted h' c'

  abbrev pub IsRoomIf : Bool → ℕ → Client T → H → Slab (Client T) → H → Slab (Client T) → Type 0
  IsRoomIf true key client h c h' c' = IsRoomTold key client h c h' c'
  IsRoomIf false key client h c h' c' = (h' ≡ h) × (c' ≡ c)

  abbrev pub IsRoomIn : Option (Client T) → ℕ → H → Slab (Client T) → H → Slab (Client T) → Type 0
  IsRoomIn None key h c h' c' = (h' ≡ h) × (c' ≡ c)
  IsRoomIn (Some client) key h c h' c' = IsRoomIf (takes_more client) key client h c h' c'

  -- it is told so just where the connection takes more
  pub record IsRoomMade (key : ℕ) (h : H) (c : Slab (Client T)) (h' : H) (c' : Slab (Client T)) : Type 0 where
    pub by_client : IsRoomIn (get c key) key h c h' c'

  -- the same of a handler and its clients
  abbrev pub IsRoomStep : ℕ → H × Slab (Client T) → H × Slab (Client T) → Type 0
  IsRoomStep key n n' = IsRoomMade key n.0 n.1 n'.0 n'.1

  -- it is told so of each connection that takes more, by rising number
  pub record AreRoomsMade (n n' : H × Slab (Client T)) : Type 0 where
    pub takers : List ℕ
    pub all : AreThose (λ key. takes_more_at (get n.1 key)) takers
    pub each : Each IsRoomStep takers n n'

  -- a new client is there, the handler is told, and then how much the connection takes
  pub record IsJoined (stream : T) (key : ℕ) (h : H) (c : Slab (Client T)) (h' : H) (c' : Slab (Client T)) : Type 0 where
    pub more : Slab (Client T)
    pub added : Updates c more key (Some (fresh stream))
    pub told : H
    pub opened : Slab (Client T)
    pub handled : IsHandled handles (event at (Opened key)) h more told opened
    pub room : IsRoomMade key told opened h' c'

  -- where it can be watched
  abbrev pub IsWelcomed : Bool → T → ℕ → H → Slab (Client T) → H → Slab (Client T) → Type 0
  IsWelcomed true stream key h c h' c' = IsJoined stream key h c h' c'
  IsWelcomed false stream key h c h' c' = (h' ≡ h) × (c' ≡ c)

  -- a connection is let go, and the handler is told
  pub record IsLetGo (key : ℕ) (h : H) (c : Slab (Client T)) (h' : H) (c' : Slab (Client T)) : Type 0 where
    pub less : Slab (Client T)
    pub removed : Updates c less key None
    pub handled : IsHandled handles (event at (Closed key)) h less h' c'

  -- the handler is handed what was read, as one piece of 1 to 65,536 bytes
  pub record IsPassedOn (key : ℕ) (bytes : List ℕ) (client : Client T) (h : H) (c : Slab (Client T)) (h' : H) (c' : Slab (Client T)) : Type 0 where
    pub piece : Vec ℕ Global
    pub is : piece.items ≡ bytes
    pub some : 0 < length bytes
    pub most : length bytes ≤ 65536
    pub kept : Slab (Client T)
    pub keeps : Updates c kept key (Some client)
    pub handled : IsHandled handles (event at (Piece key piece)) h kept h' c'

  -- there may be more where bytes came
  abbrev pub IsHeard : ℕ → Answer → List ℕ → Client T → H → Slab (Client T) → Bool → H → Slab (Client T) → Type 0
  IsHeard key Later bytes client h c more h' c' = (h' ≡ h) × Updates c c' key (Some client) × (more ≡ false)
  IsHeard key (Bytes n) bytes client h c more h' c' = IsPassedOn key bytes client h c h' c' × (more ≡ true)
  IsHeard key Gone bytes client h c more h' c' = IsLetGo key h c h' c' × (more ≡ false)

module _ {H T : Type 0} (handles : H → Event → List Output → H → Type 0) (settles : H → H → Type 0) (at : ℕ) where
  -- of one that it has closed the handler isn't told; of another it is, and settles
  abbrev pub IsLost : Bool → ℕ → H → Slab (Client T) → H → Slab (Client T) → Type 0
  IsLost true key h c h' c' = (h' ≡ h) × Updates c c' key None
  IsLost false key h c h' c' = (m : H) × IsLetGo handles at key h c m c' × settles m h'

  -- a client stays as it is now, is done with, or is lost
  abbrev pub IsParted : ℕ → Fate → Client T → H → Slab (Client T) → H → Slab (Client T) → Type 0
  IsParted key Stays left h c h' c' = (h' ≡ h) × Updates c c' key (Some left)
  IsParted key Done left h c h' c' = (h' ≡ h) × Updates c c' key None
  IsParted key Lost left h c h' c' = IsLost left.closing key h c h' c'

module _ {S H L T : Type 0} (accepts : S → L → Option T → S → Type 0) (watches : S → T → Watched → Bool → S → Type 0) (handles : H → Event → List Output → H → Type 0) (at : ℕ) (listener : L) where
  -- a client came, and its stream is watched under a number that was free
  pub record IsAccepted (w w' : World S H T) : Type 0 where
    pub stream : T
    pub asked : S
    pub answered : accepts w.sockets listener (Some stream) asked
    pub key : ℕ
    pub free : get w.clients key ≡ None
    pub watchable : Bool
    pub watch : watches asked stream (watched.Client key) watchable w'.sockets
    pub welcomed : IsWelcomed handles at watchable stream key w.handler w.clients w'.handler w'.clients

  pub record IsNobodyAccepted (w w' : World S H T) : Type 0 where
    pub answered : accepts w.sockets listener None w'.sockets
    pub handler : w'.handler ≡ w.handler
    pub clients : w'.clients ≡ w.clients

  -- the listener is asked once
  abbrev pub IsAwaited : Bool → World S H T → World S H T → Type 0
  IsAwaited true w w' = IsAccepted w w'
  IsAwaited false w w' = IsNobodyAccepted w w'

module _ {S H T : Type 0} (reads : S → T → Answer → List ℕ → S → T → Type 0) (handles : H → Event → List Output → H → Type 0) (at key : ℕ) where
  -- a stream is asked once to read
  pub record IsAsked (client : Client T) (w : World S H T) (more : Bool) (w' : World S H T) : Type 0 where
    pub answer : Answer
    pub bytes : List ℕ
    pub stream : T
    pub answered : reads w.sockets client.stream answer bytes w'.sockets stream
    pub heard : IsHeard handles at key answer bytes (record client { stream = stream }) w.handler w.clients more w'.handler w'.clients

  -- one that closes isn't read any more
  abbrev pub IsReadIf : Bool → Client T → World S H T → Bool → World S H T → Type 0
  IsReadIf true client w more w' = (w' ≡ w) × (more ≡ false)
  IsReadIf false client w more w' = IsAsked client w more w'

  abbrev pub IsReadIn : Option (Client T) → World S H T → Bool → World S H T → Type 0
  IsReadIn None w more w' = (w' ≡ w) × (more ≡ false)
  IsReadIn (Some client) w more w' = IsReadIf client.closing client w more w'

  -- the client of a connection, if it is still there, is read; and whether it may have more
  pub record IsRead (w : World S H T) (more : Bool) (w' : World S H T) : Type 0 where
    pub by_client : IsReadIn (get w.clients key) w more w'

module _ {S H T : Type 0} (writes : S → T → List ℕ → Answer → S → T → Type 0) (handles : H → Event → List Output → H → Type 0) (settles : H → H → Type 0) (at key : ℕ) where
  pub record IsTried (client : Client T) (w w' : World S H T) : Type 0 where
    pub fate : Fate
    pub left : Client T
    pub written : IsWritten writes w.sockets client fate w'.sockets left
    pub parted : IsParted handles settles at key fate left w.handler w.clients w'.handler w'.clients

  abbrev pub IsWroteIn : Option (Client T) → World S H T → World S H T → Type 0
  IsWroteIn None w w' = w' ≡ w
  IsWroteIn (Some client) w w' = IsTried client w w'

  -- the client of a connection, if it is still there, is offered what waits for it
  pub record IsWrote (w w' : World S H T) : Type 0 where
    pub by_client : IsWroteIn (get w.clients key) w w'

-- the handler is told of something that concerns no socket
pub record IsTold {S H T : Type 0} (handles : H → Event → List Output → H → Type 0) (kind : EventKind) (at : ℕ) (w w' : World S H T) : Type 0 where
  pub sockets : w'.sockets ≡ w.sockets
  pub handled : IsHandled handles (event at kind) w.handler w.clients w'.handler w'.clients
