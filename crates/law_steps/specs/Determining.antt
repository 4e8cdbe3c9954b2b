-- The laws leave no room: what keeps them is the step, whatever made it.
use Rattle.std.specs.Prelude.{◌≡◌, ◌≢◌, cond, true, false, List, [], ◌∷◌, ◌++◌, Some, None}
use Rattle.std.specs.FinMap as map
use Rattle.bridge_frames.specs.Frames.{frame_in}
use Rattle.home_table.specs.Table.{IsTable}
use Rattle.subscription_set.specs.Standing.{any_of}
use Rattle.node_work.specs.Acts.{Act, MomentTaken, Store, Made, Connection, Runs, gather, next, output_in}
use Rattle.node_work.specs.Held.Connections.{Opened, client_at, is_open}
use Rattle.node_work.specs.Held.Making.{removal}
use Rattle.node_work.specs.View.{Place, HeldView}
use Rattle.broker_node.specs.declared.event.Event.{Event}
use Rattle.broker_node.specs.declared.event.EventKind.{EventKind}
use Rattle.broker_node.specs.declared.event.EventKind.TheVariants as kinds
use Rattle.broker_node.specs.Turns.{Decides}
use Rattle.law_runs.specs.ConnectionRooms.{IsToldOf}
use Rattle.law_steps.specs.Bridging.{FrameAlone, GreetsAlone, MoreAlone, ShipsAlone}
use Rattle.law_steps.specs.Ending.{AllDueIsDone, LeavesFrom}
use Rattle.law_steps.specs.Moving.{StartsAlone, TableAlone}
use Rattle.law_steps.specs.Pieces.{BytesAlone}

-- ---- what an event comes to, once what is due is done
abbrev pub ComesTo : EventKind → Place → HeldView → List Act → Type 0
ComesTo kinds.Tick p h acts = acts ≡ []
ComesTo (kinds.Opened c) p h acts = cond (is_open c h) (acts ≡ []) (acts ≡ Connection (Opened c) ∷ [])
ComesTo (kinds.Closed c) p h acts = cond (is_open c h) (LeavesFrom p h c (client_at c h) acts) (acts ≡ [])
ComesTo (kinds.Room c bytes) p h acts = cond (is_open c h) (IsToldOf c bytes h.at h (client_at c h) acts) (acts ≡ [])
ComesTo (kinds.Piece c bytes) p h acts = BytesAlone p h c bytes (map.get h.connections c) acts
ComesTo (kinds.Evict client) p h acts = acts ≡ cond (any_of client None h.store.subscriptions) (Store (Made (removal p.id client None h.store)) ∷ []) []
ComesTo (kinds.Frame bytes) p h acts = FrameAlone p h (frame_in bytes) acts
ComesTo (kinds.Linked peer) p h acts = GreetsAlone p h peer acts
ComesTo (kinds.Ship peer) p h acts = ShipsAlone p h peer acts
ComesTo (kinds.More peer after) p h acts = MoreAlone p h peer after acts
ComesTo (kinds.Table homes) p h acts = TableAlone p h homes acts
ComesTo kinds.Started p h acts = acts ≡ []

-- ---- the laws, of the acts of one step
-- the moment is taken, what is due is done, and then the event is answered
pub record GoesBy (e : Event) (p : Place) (h : HeldView) (acts : List Act) : Type 0 where
  pub own : List Act
  pub rest : List Act
  pub is : acts ≡ MomentTaken e.at ∷ (own ++ rest)
  pub held : HeldView
  pub runs : Runs p (next h (MomentTaken e.at)) own held
  pub due : AllDueIsDone p (next h (MomentTaken e.at)) own held
  pub answers : ComesTo e.kind p held rest

-- before Started, and at a second one, the moment alone is taken
pub record KeepsLaws (e : Event) (p : Place) (h : HeldView) (acts : List Act) : Type 0 where
  pub waits : h.started ≡ false → e.kind ≢ kinds.Started → acts ≡ MomentTaken e.at ∷ []
  pub begins : h.started ≡ false → e.kind ≡ kinds.Started → StartsAlone p h e.at acts
  pub once : h.started ≡ true → e.kind ≡ kinds.Started → acts ≡ MomentTaken e.at ∷ []
  pub goes : h.started ≡ true → e.kind ≢ kinds.Started → GoesBy e p h acts

-- each step of a node keeps them
abbrev pub StepsKeepLaws : Type 0
StepsKeepLaws = (e : Event) (p : Place) (h : HeldView) (acts : List Act) → Decides e (Some tt) p h acts → KeepsLaws e p h acts

-- ---- they leave no room, at any event
-- the same acts, the same given out to each client, in the same order, and the same left
pub record AreOne (acts acts' : List Act) (last last' : HeldView) : Type 0 where
  pub same_acts : acts ≡ acts'
  pub same_outputs : gather output_in acts ≡ gather output_in acts'
  pub same_left : last ≡ last'

-- of any two lists of acts that a node may do from what it holds, and that keep these laws of the event
abbrev pub LawsDetermine : Type 0
LawsDetermine =
    (e : Event) (p : Place) (h last last' : HeldView) (acts acts' : List Act) → IsTable h.homes → Runs p h acts last → Runs p h acts' last'
    → KeepsLaws e p h acts → KeepsLaws e p h acts' → AreOne acts acts' last last'
