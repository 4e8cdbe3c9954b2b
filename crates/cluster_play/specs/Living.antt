-- What a node's moves come to, and the sessions among it.
use Rattle.std.specs.Prelude.{◌≡◌, ℕ, List, [], Some}
use Rattle.std.specs.FinMap as map
use Rattle.home_table.specs.Table.{Table}
use Rattle.mqtt_sessions.specs.State.{new_session}
use Rattle.law_sessions.specs.Runs.{Run as SessionRun}
use Rattle.session_table.specs.Seats.{Seat}
use Rattle.node_work.specs.Acts.{Act}
use Rattle.node_work.specs.View.{HeldView, fresh}
use Rattle.law_nodes.specs.Lives.{life}
use Rattle.law_nodes.specs.Moves.{Moves}
use Rattle.cluster_play.specs.Worlds.{World}
use Rattle.cluster_play.specs.Runs.{Played}
use Rattle.cluster_play.specs.Histories.{IsFirst, Reached, site, moves_at, moves_amid}
use Rattle.cluster_play.specs.Agreement.{Holds, HoldsAmid}

-- a running node holds what the run's acts and losses lead to, from its first opening on
abbrev pub HoldsWhatItsMovesLeave : Type 0
HoldsWhatItsMovesLeave =
    (run : List Played) (w : World) (r : Reached run w) (i : ℕ) (h : HeldView) (at : Holds w i h)
    → (first : Table) × IsFirst r.start i first × Moves at.site.node.place (fresh first) (moves_at i run) h

-- so each of its sessions is what the calls and losses since the session last began make of a new one
abbrev pub SessionsAreRuns : Type 0
SessionsAreRuns =
    (run : List Played) (w : World) → Reached run w → (i : ℕ) (h : HeldView) → Holds w i h
    → (client : List ℕ) (seat : Seat) → map.get h.sessions client ≡ Some seat → SessionRun (new_session client) (life client (moves_at i run) []) seat.session

-- amid a step too
abbrev pub SessionsAreRunsAmid : Type 0
SessionsAreRunsAmid =
    (run : List Played) (w : World) (m : Played) → Reached run w → (i : ℕ) (before : List Act) (mid : HeldView) → HoldsAmid w m i before mid
    → (client : List ℕ) (seat : Seat) → map.get mid.sessions client ≡ Some seat → SessionRun (new_session client) (life client (moves_amid i run before) []) seat.session
