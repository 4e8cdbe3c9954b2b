-- That a turn is what passes at its two doors.
use Rattle.std.specs.Prelude.{◌≡◌, ◌≢◌, ℕ, List, [], ◌∷◌, ◌++◌, map, flat_map, length, Bool, true, false, Option, Some}
use Rattle.std.specs.List.{AllByRecursion}
use Rattle.std.specs.declared.net.socket_addr.SocketAddr.{SocketAddr}
use Rattle.broker_sockets.specs.declared.bridge.Given.{Given}
use Rattle.broker_sockets.specs.declared.bridge.PeerEvent.{PeerEvent}
use Rattle.broker_sockets.specs.declared.events.Event.{Event}
use Rattle.broker_sockets.specs.declared.events.EventKind.TheVariants.{Started, Tick}
use Rattle.broker_sockets.specs.declared.events.Output.{Output}
use Rattle.broker_sockets.specs.declared.network.Answer.{Answer}
use Rattle.broker_sockets.specs.declared.ready.Ready.{Ready}
use Rattle.broker_sockets.specs.declared.ready.Watched.{Watched}
use Rattle.broker_sockets.specs.declared.ready.Watched.TheVariants.{Client}
use Rattle.broker_turns.specs.declared.setting.Setting.{Setting}
use Rattle.broker_turns.specs.Bridging.{Place}
use Rattle.broker_turns.specs.Connections.{event}
use Rattle.broker_turns.specs.Serving.{IsServed}
use Rattle.broker_turns.specs.Turns.{IsStart, IsTurn, Site}
use Rattle.law_serving.specs.Calls.{Call, IsAmong, IsAsked, IsAt, IsDone, IsFinding, IsWrittenTo, Rests, Through, beats, brings, tells_of, writes_to}
use Rattle.law_serving.specs.Channels.{Channel, Goes, IsReadOrShut, channel_at, is_ready}

-- All that is told in a turn is of its moment. Nobody is written to unless the handler has settled since it was last told anything, and in the end it
-- has.
pub record IsOfTurn {T : Type 0} (at : ℕ) (calls : List (Call T)) : Type 0 where
  pub moment : AllByRecursion (IsAt at) calls
  pub rests : (before : Bool) → Through Rests calls before true

-- what passes at one moment, before the first turn or in one
pub record Round (T : Type 0) : Type 0 where
  pub at : ℕ
  pub calls : List (Call T)

module _
    {S H L T : Type 0} (accepts : S → L → Option T → S → Type 0) (watches : S → T → Watched → Bool → S → Type 0) (connects : S → SocketAddr → Option T → S → Type 0)
    (reads : S → T → Answer → List ℕ → S → T → Type 0) (writes : S → T → List ℕ → Answer → S → T → Type 0) (finds : S → Ready → S → Type 0)
    (handles : H → Event → List Output → H → Type 0) (hears : H → PeerEvent → Given → H → Type 0) (settles : H → H → Type 0) where
  -- All that passes at the doors of a hub from one place to another, in order. The sockets are asked these calls, and no others; the handler is told
  -- these, and nothing else. Each stream that comes is given a name, and the handler is told each thing that the sockets bring once, in the order in which
  -- they bring it: each opening, each piece, each end, each link and each frame; and nothing of the kind that they didn't bring. Of the clock it is told
  -- this. And of each stream: what is given out for it waits behind what waits, the stream is offered what waits from the front, and what it takes waits
  -- no more.
  pub record IsTrace (setting : Setting L) (clock : List Event) (calls : List (Call T)) (p p' : Place S H T) : Type 0 where
    pub asked : Through (IsAsked accepts watches connects reads writes finds setting) calls p.reach.sockets p'.reach.sockets
    pub done : Through (IsDone T handles hears settles) calls p.reach.near.handler p'.reach.near.handler
    pub news : flat_map tells_of calls ≡ flat_map brings calls
    pub time : flat_map beats calls ≡ clock
    pub flows : (name : Watched) → Through (Goes name) calls (channel_at name p) (channel_at name p')

  -- Up to when the handler settles, and from then on. Before it each stream that may have something is read, unless it is closed by then. After it whoever
  -- something waits for, his stream is asked to take it; and in the end the network tells which may have something, which are read in the next turn.
  pub record IsInTwo (setting : Setting L) (at : ℕ) (p : Place S H T) (ready : Ready) (p' : Place S H T) (next : Ready) : Type 0 where
    pub before : List (Call T)
    pub after : List (Call T)
    pub settled : Place S H T
    pub first : IsTrace setting (event at Tick ∷ []) before p settled
    pub last : IsTrace setting [] after settled p'
    pub read : (name : Watched) (x : Channel T) → is_ready ready name ≡ true → channel_at name p ≡ Some x → x.closing ≡ false → IsAmong (IsReadOrShut name) before
    pub found : Ready
    pub told : IsAmong (IsFinding found) after
    pub next_read : (name : Watched) → is_ready found name ≡ true → is_ready next name ≡ true
    pub asked : (key : ℕ) (x : Channel T) → channel_at (Client key) settled ≡ Some x → x.waits ≢ [] → IsAmong (IsWrittenTo (Client key)) after

  -- each turn is such a list of calls, with one tick
  abbrev pub TurnIsATrace : Type 0
  TurnIsATrace =
      (setting : Setting L) (at : ℕ) (old new : Site S H T) → IsTurn accepts watches connects reads writes finds handles hears settles setting at old new
      → (two : IsInTwo setting at old.place old.ready new.place new.ready) × IsTrace setting (event at Tick ∷ []) (two.before ++ two.after) old.place new.place × IsOfTurn at (two.before ++ two.after)

  -- Turns one after another are such a list too, after what comes before the first: the moments are those that the clock tells
  pub record IsServing {C : Type 0} (tells : C → ℕ → C → Type 0) (setting : Setting L) (turns : ℕ) (c : C) (old : Site S H T) (c' : C) (new : Site S H T) : Type 0 where
    pub first : Round T
    pub rounds : List (Round T)
    pub count : length rounds ≡ turns
    pub moments : Through (λ round d d'. tells d round.at d') (first ∷ rounds) c c'
    pub start : AllByRecursion (IsAt first.at) first.calls
    pub unwritten : flat_map writes_to first.calls ≡ []
    pub each : AllByRecursion (λ round. IsOfTurn round.at round.calls) rounds
    pub trace : IsTrace setting (event first.at Started ∷ map (λ round. event round.at Tick) rounds) (flat_map (λ round. round.calls) (first ∷ rounds)) old.place new.place

  abbrev pub ServingIsATrace : (C : Type 0) → (C → ℕ → C → Type 0) → Type 0
  ServingIsATrace C tells =
      (setting : Setting L) (turns : ℕ) (c c' : C) (old new : Site S H T)
      → IsServed tells (IsStart handles) (IsTurn accepts watches connects reads writes finds handles hears settles setting) turns c old c' new → IsServing tells setting turns c old c' new
