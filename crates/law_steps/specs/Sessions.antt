-- Who has a session at a node (MQTT 5.0, 3.1.2.11.2 and 4.11).
use Rattle.std.specs.Prelude.{◌≡◌, ℕ, ◌<◌, true, List, [], ◌∷◌, ◌++◌, length, Some, slice_get}
use Rattle.home_table.specs.Homes.{IsHome}
use Rattle.home_table.specs.Table.{Table}
use Rattle.session_table.specs.Seats.{IsElsewhere}
use Rattle.node_work.specs.Acts.{Act, Session, Runs, moved_in}
use Rattle.node_work.specs.Held.Sessions.{Begun, has_session}
use Rattle.node_work.specs.View.{Place, HeldView, nodes_of}
use Rattle.law_nodes.specs.Moves.{Move, Acted, Reopened}
use Rattle.broker_node.specs.declared.event.Event.{Event}
use Rattle.broker_node.specs.Turns.{Decides}
use Rattle.cluster_play.specs.Worlds.{Site, World}
use Rattle.cluster_play.specs.Runs.{Played}
use Rattle.cluster_play.specs.Histories.{IsFirst, Reached, site, acts_of, last_table, moves_at}
use Rattle.cluster_play.specs.Agreement.{Holds, HoldsAmid}
use Rattle.cluster_play.specs.Lasting.{HeldLast}

-- no session is of a client whose home is elsewhere, by the table that the node holds
abbrev pub NoneElsewhere : ℕ → HeldView → Type 0
NoneElsewhere id h = (client : List ℕ) → has_session client h ≡ true → ¬ (IsElsewhere h.homes id client)

-- a node that was opened with another table than before has none once it has started
abbrev pub HasItsOwn : ℕ → HeldView → Type 0
HasItsOwn id h = h.started ≡ true → NoneElsewhere id h

-- the node is one of those of its table
pub record IsInItsTable (p : Place) (h : HeldView) : Type 0 where
  pub number : p.id < nodes_of p
  pub nodes : length h.homes.nodes ≡ nodes_of p

-- in every step: where either is so before it, it is so afterwards; and a session begins only for a client whose home is here, by the table
-- that the node holds there
abbrev pub SessionsAreAtHome : Type 0
SessionsAreAtHome =
    (e : Event) (p : Place) (h last : HeldView) (acts : List Act) → IsInItsTable p h → Decides e (Some tt) p h acts → Runs p h acts last
    → (NoneElsewhere p.id h → NoneElsewhere p.id last)
    × (HasItsOwn p.id h → HasItsOwn p.id last)
    × ((before after : List Act) (client : List ℕ) (mid : HeldView) → acts ≡ before ++ Session (Begun client) ∷ after → Runs p h before mid → IsHome mid.homes client p.id)

-- ---- in a run
-- a node was always opened again with the table that it had, from one on
abbrev pub OpensWithItsOwn : Table → List Move → Type 0
OpensWithItsOwn t [] = Unit {0}
OpensWithItsOwn t (Acted a ∷ moves) = OpensWithItsOwn (last_table t (moved_in a)) moves
OpensWithItsOwn t (Reopened homes ∷ moves) = (homes ≡ t) × OpensWithItsOwn homes moves

-- of every node that runs, and of what a node that is down held last: one that hasn't started may have some, but only where it was once opened with another table
-- than it had
abbrev pub SessionsStayAtHome : Type 0
SessionsStayAtHome =
    (run : List Played) (w : World) (r : Reached run w) (i : ℕ) (h : HeldView) → Holds w i h
    → HasItsOwn i h × ((first : Table) → IsFirst r.start i first → OpensWithItsOwn first (moves_at i run) → NoneElsewhere i h)

abbrev pub SessionsLastAtHome : Type 0
SessionsLastAtHome =
    (run : List Played) (w : World) (r : Reached run w) (i : ℕ) (s : Site) (h : HeldView) → slice_get w.sites i ≡ Some s → (last : HeldLast run r.start i s h)
    → HasItsOwn i h × (OpensWithItsOwn last.first (moves_at i run) → NoneElsewhere i h)

pub record BeginsAtHome (run : List Played) (m : Played) (before : List Act) (client : List ℕ) : Type 0 where
  pub world : World
  pub reached : Reached run world
  pub held : HeldView
  pub there : HoldsAmid world m (site m.fate) before held
  pub home : IsHome held.homes client (site m.fate)

abbrev pub SessionsBeginAtHome : Type 0
SessionsBeginAtHome =
    (run later : List Played) (m : Played) (w : World) → Reached (run ++ m ∷ later) w
    → (before after : List Act) (client : List ℕ) → acts_of m.fate ≡ before ++ Session (Begun client) ∷ after → BeginsAtHome run m before client
