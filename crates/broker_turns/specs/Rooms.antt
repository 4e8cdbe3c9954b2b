-- That the handler is told how much connections take.
use Rattle.std.specs.Prelude.{◌≡◌, ◌≤◌, ◌<◌, ◌-◌, ◌+◌, ◌||◌, ◌&&◌, ◌⊎◌, ℕ, List, [], ◌∷◌, ◌++◌, Bool, true, false, eqb, ltb, not, length, if◌then◌else◌, Option, Some}
use Rattle.std.specs.declared.net.socket_addr.SocketAddr.{SocketAddr}
use Rattle.slab.specs.Slab.{get}
use Rattle.broker_sockets.specs.declared.bridge.Given.{Given}
use Rattle.broker_sockets.specs.declared.bridge.PeerEvent.{PeerEvent}
use Rattle.broker_sockets.specs.declared.events.Event.{Event}
use Rattle.broker_sockets.specs.declared.events.EventKind.{EventKind}
use Rattle.broker_sockets.specs.declared.events.EventKind.TheVariants.{Opened, Room}
use Rattle.broker_sockets.specs.declared.events.Output.{Output}
use Rattle.broker_sockets.specs.declared.events.Output.TheVariants.{Send, Close}
use Rattle.broker_sockets.specs.declared.network.Answer.{Answer}
use Rattle.broker_sockets.specs.declared.ready.Ready.{Ready}
use Rattle.broker_sockets.specs.declared.ready.Watched.{Watched}
use Rattle.broker_turns.specs.declared.clients.Client.{Client}
use Rattle.broker_turns.specs.declared.setting.Setting.{Setting}
use Rattle.broker_turns.specs.Clients.{takes_more}
use Rattle.broker_turns.specs.Connections.{IsRoomStep, IsRoomTold, event}
use Rattle.broker_turns.specs.Handling.{Settles, Told}
use Rattle.broker_turns.specs.Handling.Told.{Of_client, Of_peer}
use Rattle.broker_turns.specs.Steps.{Each}
use Rattle.broker_turns.specs.Turns.{IsTurn, Site}

-- ---- in the order in which the handler is told

-- how many bytes outputs give to a connection before they close it
abbrev pub bytes_for : ℕ → List Output → ℕ
bytes_for c [] = 0
bytes_for c (Send connection bytes ∷ more) = (if eqb connection c then length bytes.items else 0) + bytes_for c more
bytes_for c (Close connection ∷ more) = if eqb connection c then 0 else bytes_for c more

abbrev pub closes : ℕ → List Output → Bool
closes c [] = false
closes c (Send connection bytes ∷ more) = closes c more
closes c (Close connection ∷ more) = eqb connection c || closes c more

-- a new connection of which the handler is told takes more after what it gave out
abbrev pub stays_open : ℕ → List Output → Bool
stays_open c outputs = not (closes c outputs) && ltb (bytes_for c outputs) 262144

-- what is told next is that a connection takes so many bytes
abbrev pub IsNextRoom : ℕ → ℕ → ℕ → List Told → Type 0
IsNextRoom at c bytes [] = ⊥
IsNextRoom at c bytes (Of_client e outputs ∷ more) = e ≡ event at (Room c bytes)
IsNextRoom at c bytes (Of_peer e given ∷ more) = ⊥

abbrev pub IsFollowedIf : Bool → ℕ → ℕ → ℕ → List Told → Type 0
IsFollowedIf true at c bytes more = IsNextRoom at c bytes more
IsFollowedIf false at c bytes more = Unit {0}

-- after a connection is opened it is told at once how much it takes; and that is never less than 786,433 bytes, nor more than 1,048,576
abbrev pub IsRoomFirst : ℕ → EventKind → List Output → List Told → Type 0
IsRoomFirst at (Opened c) outputs more = IsFollowedIf (stays_open c outputs) at c (1048576 - bytes_for c outputs) more
IsRoomFirst at (Room c bytes) outputs more = (786432 < bytes) × (bytes ≤ 1048576)
IsRoomFirst at _ outputs more = Unit {0}

abbrev pub RoomsComeFirst : List Told → Type 0
RoomsComeFirst [] = Unit {0}
RoomsComeFirst (Of_client e outputs ∷ more) = IsRoomFirst e.at e.kind outputs more × RoomsComeFirst more
RoomsComeFirst (Of_peer e given ∷ more) = RoomsComeFirst more

-- ---- of each connection that takes more

-- the step of a number among others, in its place
pub record IsOneOf {W : Type 0} (step : ℕ → W → W → Type 0) (key : ℕ) (keys : List ℕ) (w w' : W) : Type 0 where
  pub before : List ℕ
  pub after : List ℕ
  pub all : keys ≡ before ++ key ∷ after
  pub from : W
  pub to : W
  pub first : Each step before w from
  pub here : step key from to
  pub rest : Each step after to w'

module _
    {S H L T : Type 0} (accepts : S → L → Option T → S → Type 0) (watches : S → T → Watched → Bool → S → Type 0) (connects : S → SocketAddr → Option T → S → Type 0)
    (reads : S → T → Answer → List ℕ → S → T → Type 0) (writes : S → T → List ℕ → Answer → S → T → Type 0) (finds : S → Ready → S → Type 0)
    (handles : H → Event → List Output → H → Type 0) (hears : H → PeerEvent → Given → H → Type 0) (settles : H → H → Type 0) where
  -- so a turn is to the handler, up to when it settles
  abbrev pub RoomFollowsOpened : Type 0
  RoomFollowsOpened =
      (setting : Setting L) (at : ℕ) (old new : Site S H T) → IsTurn accepts watches connects reads writes finds handles hears settles setting at old new
      → (t : Settles handles hears settles old.place.reach.near.handler new.place.reach.near.handler) × RoomsComeFirst t.told

  -- of a connection that takes more than the handler was told, once all else is decided, it is told how much in this turn, unless the handler
  -- has closed it by then, or given so much that 262,144 bytes wait
  abbrev pub EveryoneIsTold : Type 0
  EveryoneIsTold =
      (setting : Setting L) (at : ℕ) (old new : Site S H T) → (turn : IsTurn accepts watches connects reads writes finds handles hears settles setting at old new)
      → (key : ℕ) (client : Client T) → get turn.decides.supplied.near.clients key ≡ Some client → takes_more client ≡ true
      → (one : IsOneOf (IsRoomStep handles at) key turn.decides.rooms_made.does.takers
      (turn.decides.supplied.near.handler, turn.decides.supplied.near.clients) (turn.decides.roomed.near.handler, turn.decides.roomed.near.clients))
      × (now : Client T) × (get one.from.1 key ≡ Some now)
      × ((now.closing ≡ true) ⊎ (262144 ≤ length now.unsent) ⊎ IsRoomTold handles at key now one.from.0 one.from.1 one.to.0 one.to.1)
