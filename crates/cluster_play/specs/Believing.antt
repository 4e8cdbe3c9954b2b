-- What a node believes of another one.
use Rattle.std.specs.Prelude.{◌≡◌, ℕ, List, true}
use Rattle.std.specs.FinSet as set
use Rattle.causal_context.specs.Dots.{Dot}
use Rattle.causal_context.specs.SetLattice.{IsSubset}
use Rattle.node_bridge.specs.View.{belief_of}
use Rattle.node_work.specs.View.{HeldView}
use Rattle.cluster_play.specs.Worlds.{World}
use Rattle.cluster_play.specs.Runs.{Played}
use Rattle.cluster_play.specs.Histories.{Reached, taken}
use Rattle.cluster_play.specs.Agreement.{Holds}

-- the dots that a running node believes another one to have taken, that one has taken
abbrev pub BelievesWhatIsTaken : Type 0
BelievesWhatIsTaken =
    (run : List Played) (w : World) → Reached run w → (i : ℕ) (h : HeldView) → Holds w i h
    → (peer : ℕ) (d : Dot) → set.contains (belief_of h.bridge peer) d ≡ true → taken peer run d ≡ true

-- so one that it believes to lack none of its dots has taken all that it has taken
abbrev pub LacksNothingThere : Type 0
LacksNothingThere =
    (run : List Played) (w : World) → Reached run w → (i : ℕ) (h : HeldView) → Holds w i h
    → (peer : ℕ) → IsSubset h.store.taken (belief_of h.bridge peer) → (d : Dot) → taken i run d ≡ true → taken peer run d ≡ true
