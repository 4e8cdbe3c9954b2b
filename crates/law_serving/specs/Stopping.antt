-- Serving over sockets that stops with a fault, as a run of the node that a crash ends.
use Rattle.std.specs.Prelude.{◌≡◌, ◌<◌, ◌⊎◌, ℕ, List, [], ◌∷◌, ◌++◌, map, flat_map, Bool, Option, Some}
use Rattle.std.specs.List.{AllByRecursion}
use Rattle.std.specs.declared.net.socket_addr.SocketAddr.{SocketAddr}
use Rattle.slab.specs.Slab.{get}
use Rattle.broker_sockets.specs.declared.bridge.Given.{Given}
use Rattle.broker_sockets.specs.declared.bridge.PeerEvent.{PeerEvent}
use Rattle.broker_sockets.specs.declared.events.Event.{Event}
use Rattle.broker_sockets.specs.declared.events.Output.{Output}
use Rattle.broker_sockets.specs.declared.network.Answer.{Answer}
use Rattle.broker_sockets.specs.declared.ready.Ready.{Ready}
use Rattle.broker_sockets.specs.declared.ready.Watched.{Watched}
use Rattle.broker_turns.specs.declared.clients.Client.{Client}
use Rattle.broker_turns.specs.declared.setting.Setting.{Setting}
use Rattle.broker_turns.specs.declared.turn.TurnFault.{TurnFault}
use Rattle.broker_turns.specs.declared.turn.TurnFault.TheVariants.{NoMemory}
use Rattle.broker_turns.specs.Bridging.{Place}
use Rattle.broker_turns.specs.Broken.{Again, IsAskedOnce, IsBrokenOff, IsBrokenTurn, IsEnd, IsUnsettled, IsWrittenLast}
use Rattle.broker_turns.specs.Handling.{AreTold, Told}
use Rattle.broker_turns.specs.Serving.{IsCut, IsUnserved}
use Rattle.broker_turns.specs.Turns.{IsStart, IsTurn, Site as Seat}
use Rattle.cluster_play.specs.Worlds.{World}
use Rattle.door_tables.specs.Calls.{Made}
use Rattle.node_keeper.specs.Batches.{Answered}
use Rattle.node_keeper.specs.BatchViews.{node_in as held_in, rows_in}
use Rattle.node_server.specs.Views.{keeper_of}
use Rattle.row_store.specs.Rows.{Content}
use Rattle.law_serving.specs.Calls.{Call, IsAt, Rests, Tells, Through}
use Rattle.law_serving.specs.Doors.{ArePassedDown, Whole, calls_of, node_in}
use Rattle.law_serving.specs.Serving.{AreAnswersTo, IsRunSoFar, IsServedRun}
use Rattle.law_serving.specs.Settling.{TurnBegins}
use Rattle.law_serving.specs.Traces.{IsServing, IsTrace, Round}
use Rattle.law_serving.specs.Turns.{CutAfter, CutBefore, down}

module _
    {S H L T Fault : Type 0} (accepts : S → L → Option T → S → Type 0) (watches : S → T → Watched → Bool → S → Type 0) (connects : S → SocketAddr → Option T → S → Type 0)
    (reads : S → T → Answer → List ℕ → S → T → Type 0) (writes : S → T → List ℕ → Answer → S → T → Type 0) (finds : S → Ready → S → Type 0)
    (handles : H → Event → List Output → H → Type 0) (hears : H → PeerEvent → Given → H → Type 0) (settles : H → H → Type 0)
    (refuses : H → Event → Fault → H → Type 0) (declines : H → PeerEvent → Fault → H → Type 0) (stops : H → Fault → H → Type 0)
    (setting : Setting L) (at : ℕ) (p : Place S H T) (s' : S) (h' : H) (fault : TurnFault Fault) where
  -- Then nobody is written to; or a client is offered what waits for it, and is lost; or the handler is told nothing more, and there is no memory.
  abbrev pub IsSince : Place S H T → List Told → Type 0
  IsSince reached told =
      Again (IsAskedOnce accepts watches connects reads) reached.reach.sockets s'
      ⊎ ((key : ℕ) × (client : Client T) × (get reached.reach.near.clients key ≡ Some client) × (left : Client T) × IsWrittenLast writes reached.reach.sockets client s' left)
      ⊎ ((told ≡ []) × (fault ≡ NoMemory))

  -- What passes at the two doors of a hub in a turn that stops. First, as in any turn, the handler is told just what the sockets bring, and each stream takes just
  -- what is given out for it. Nobody is written to unless the handler has settled since it was last told anything. Then it is told some more, which it doesn't settle; and
  -- then there is no memory, or it gives the fault, to an event of this moment or where it settles.
  pub record IsCutTurn : Type 0 where
    pub clock : List Event
    pub calls : List (Call T)
    pub reached : Place S H T
    pub trace : IsTrace accepts watches connects reads writes finds handles hears settles setting clock calls p reached
    pub moment : AllByRecursion (IsAt at) calls
    pub rests : (before : Bool) → (after : Bool) × Through Rests calls before after
    pub told : List Told
    pub last : H
    pub more : AreTold handles hears told reached.reach.near.handler last
    pub since : IsSince reached told
    pub ends : IsEnd handles hears refuses declines at fault last h' ⊎ IsUnsettled stops last h' fault

  -- all of them
  abbrev pub cut_calls : IsCutTurn → List (Call T)
  cut_calls cut = cut.calls ++ map Tells cut.told

module _
    {R F G E W S L T C Fault : Type 0} (accepts : S → L → Option T → S → Type 0) (watches : S → T → Watched → Bool → S → Type 0) (connects : S → SocketAddr → Option T → S → Type 0)
    (reads : S → T → Answer → List ℕ → S → T → Type 0) (writes : S → T → List ℕ → Answer → S → T → Type 0) (finds : S → Ready → S → Type 0)
    (handles : Whole R F G E W → Event → List Output → Whole R F G E W → Type 0) (hears : Whole R F G E W → PeerEvent → Given → Whole R F G E W → Type 0)
    (settles : Whole R F G E W → Whole R F G E W → Type 0) (refuses : Whole R F G E W → Event → Fault → Whole R F G E W → Type 0)
    (declines : Whole R F G E W → PeerEvent → Fault → Whole R F G E W → Type 0) (stops : Whole R F G E W → Fault → Whole R F G E W → Type 0)
    (tells : C → ℕ → C → Type 0) (is_clean is_open : R → Type 0) (content : R → Content) (may_leave : R → Content → Type 0) where
  -- The node was called just these, after the calls of before, up to the call that gave the fault. What it has answered was committed, one part after another, and the rest
  -- waits. A crash then leaves the rows of its last commit, and is a run in which the rest didn't happen; and one where the commit of the rest has failed leaves these
  -- rows, or those in which all of the rest happened.
  pub record IsStoppedRun (d : Whole R F G E W) (before : List (Call T)) (last h' : Whole R F G E W) (fault : TurnFault Fault) (calls : List (Call T)) : Type 0 where
    pub made : List Made
    pub passed : ArePassedDown d last (flat_map calls_of (before ++ calls)) made
    pub answered : List Answered
    pub just : AreAnswersTo made answered
    pub run : IsRunSoFar is_open content (keeper_of (node_in d)) answered (keeper_of (node_in last))
    pub crash : (w : World) (i : ℕ) → TurnBegins is_open content w i run.last → (c : Content) → may_leave (rows_in (keeper_of (node_in last))) c → CutBefore w i (down (held_in run.last) c)
    pub amid :
        IsUnsettled stops last h' fault → is_clean (rows_in (keeper_of (node_in h'))) → (w : World) (i : ℕ) → TurnBegins is_open content w i run.last
        → (c : Content) → may_leave (rows_in (keeper_of (node_in h'))) c
        → CutBefore w i (down (held_in run.last) c) ⊎ CutAfter w i run.waits (down (held_in (keeper_of (node_in last))) c)

  -- the turn from here stops, after the calls of before
  abbrev pub Stops : Setting L → Whole R F G E W → List (Call T) → ℕ → Seat S (Whole R F G E W) T → S → Whole R F G E W → TurnFault Fault → Type 0
  Stops setting d before at old s' h' fault =
      (cut : IsCutTurn accepts watches connects reads writes finds handles hears settles refuses declines stops setting at old.place s' h' fault)
      × (is_clean (rows_in (keeper_of (node_in cut.last)))
      → IsStoppedRun d before cut.last h' fault (cut_calls accepts watches connects reads writes finds handles hears settles refuses declines stops setting at old.place s' h' fault cut))

  -- Whatever turns the program makes until one of them stops, at the start or later: those before it are a run as ever, and the one that stops goes on with that run until its fault.
  abbrev pub StoppedServeIsARun : Type 0
  StoppedServeIsARun =
      (setting : Setting L) (turns : ℕ) (c c' : C) (old : Seat S (Whole R F G E W) T) (s' : S) (h' : Whole R F G E W) (fault : TurnFault Fault)
      → IsUnserved tells (IsStart handles) (IsTurn accepts watches connects reads writes finds handles hears settles setting)
      (λ at v. IsBrokenOff (IsAskedOnce accepts watches connects reads) handles hears refuses declines at v.place.reach.sockets v.place.reach.near.handler s' h')
      (λ at v. IsBrokenTurn accepts watches connects reads writes handles hears settles refuses declines stops setting at v s' h') turns c old c' fault
      → IsCut tells (λ at. Stops setting old.place.reach.near.handler [] at old s' h') c c' fault
      ⊎ ((made : ℕ) × (d : C) × (last : Seat S (Whole R F G E W) T) × (made < turns)
      × (is_clean (rows_in (keeper_of (node_in last.place.reach.near.handler))) → IsServedRun accepts watches connects reads writes finds handles hears settles tells is_clean is_open content setting made c old d last)
      × (trace : IsServing accepts watches connects reads writes finds handles hears settles tells setting made c old d last)
      × IsCut tells (λ at. Stops setting old.place.reach.near.handler (flat_map (λ (round : Round T). round.calls) (trace.first ∷ trace.rounds)) at last s' h') d c' fault)
