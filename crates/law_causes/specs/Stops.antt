-- Where a node stops since it can't have a number: each is below 2^62.
use Rattle.std.specs.Prelude.{◌≡◌, ◌⊎◌, ℕ, ◌<◌, ◌≤◌, ◌^◌, true, List, ◌∷◌, ◌++◌, Some, None}
use Rattle.std.specs.FinMap as map
use Rattle.replica_store.specs.declared.operation.Operation.{Operation}
use Rattle.replica_store.specs.declared.operation.Operation.TheVariants.{Subscribe, Remove, Put}
use Rattle.replica_store.specs.Making.{NumberAtEnd, CountAtEnd}
use Rattle.bridge_deltas.specs.Lane.{next_number}
use Rattle.node_bridge.specs.View.{lane_to}
use Rattle.law_sessions.specs.Runs.{ends_of}
use Rattle.session_table.specs.Seats.{Seat}
use Rattle.node_work.specs.Acts.{Act, MomentTaken, Store, Made, Session, Bridge, Named, Passed, Runs}
use Rattle.node_work.specs.Held.Bridge.{Put as Join}
use Rattle.node_work.specs.Held.Sessions.{SessionStep, Called, has_session}
use Rattle.node_work.specs.View.{Place, HeldView}
use Rattle.node_clients.specs.Naming.{automatic}
use Rattle.broker_node.specs.declared.event.Event.{Event}
use Rattle.broker_node.specs.Turns.{Decides}

-- a session's next place in its queue, or its next order of release, is 2^62
pub record SessionIsAtEnd (h : HeldView) : Type 0 where
  pub client : List ℕ
  pub seat : Seat
  pub found : map.get h.sessions client ≡ Some seat
  pub number : (2 ^ 62 ≤ seat.session.outbox.next_place) ⊎ (2 ^ 62 ≤ seat.session.outbox.next_order)

-- the numbers: of the node's next operation, of its next stamp, of the next message that it passes on, of the next client identifier that
-- it gives, of the next message of a lane, or one of a session
abbrev pub HasNumberAtEnd : Place → HeldView → Type 0
HasNumberAtEnd p h =
    NumberAtEnd p.id h.store
    ⊎ CountAtEnd h.store
    ⊎ (2 ^ 62 ≤ h.turn)
    ⊎ ((number : ℕ) → h.named < number → number < 2 ^ 62 → has_session (automatic p.id number) h ≡ true)
    ⊎ ((peer : ℕ) × (2 ^ 62 ≤ next_number (lane_to h.bridge peer)))
    ⊎ SessionIsAtEnd h

-- what the node holds after these acts has one of them, and they lead to something
pub record ComeToAnEnd (p : Place) (h : HeldView) (acts : List Act) : Type 0 where
  pub held : HeldView
  pub runs : Runs p h acts held
  pub end : (left : HeldView) → Runs p h acts left → HasNumberAtEnd p left

-- a node that stops at a number, after whatever acts of the event, was handed a moment of 2^62 or later, or one of its own numbers is at its
-- end by what it holds after just these acts
abbrev pub StopsHaveNumbers : Type 0
StopsHaveNumbers = (p : Place) (h : HeldView) (e : Event) (acts : List Act) → Decides e None p h acts → (2 ^ 62 ≤ e.at) ⊎ ComeToAnEnd p h acts

-- ---- what is done has its numbers

-- an operation that is made lacks its number, or a Put the count of its stamp
abbrev pub LacksOne : ℕ → HeldView → Operation → Type 0
LacksOne id h (Subscribe dot entry cover) = NumberAtEnd id h.store
LacksOne id h (Remove dot cover) = NumberAtEnd id h.store
LacksOne id h (Put dot stamp content) = NumberAtEnd id h.store ⊎ CountAtEnd h.store

-- a call of a session lacks a place in its queue, or an order of release
abbrev pub LacksPlace : HeldView → SessionStep → Type 0
LacksPlace h s = (seat : Seat) × (map.get h.sessions s.client ≡ Some seat) × ends_of s.event seat.session

-- an act lacks a number that it needs: it would be 2^62 or more
abbrev pub LacksNumber : Place → HeldView → Act → Type 0
LacksNumber p h (MomentTaken at) = 2 ^ 62 ≤ at
LacksNumber p h (Store (Made o)) = LacksOne p.id h o
LacksNumber p h (Session (Called s)) = LacksPlace h s
LacksNumber p h (Bridge (Join peer m)) = 2 ^ 62 ≤ next_number (lane_to h.bridge peer)
LacksNumber p h (Named number) = 2 ^ 62 ≤ number
LacksNumber p h (Passed m copies lost routes) = 2 ^ 62 ≤ h.turn
LacksNumber p h a = ⊥

-- no step does an act that lacks its number: where an event needs one that can't be had, it isn't done
abbrev pub StepsHaveNumbers : Type 0
StepsHaveNumbers =
    (e : Event) (p : Place) (h h' mid : HeldView) (acts : List Act) → Decides e (Some tt) p h acts → Runs p h acts h'
    → (before after : List Act) (a : Act) → acts ≡ before ++ a ∷ after → Runs p h before mid → ¬ LacksNumber p mid a
