-- What a node believes of another one is so.
use Rattle.std.proofs.Common.{◌≡◌, ℕ, List, true, subst, sym, ◌∙◌}
use Rattle.std.specs.FinSet as set
use Rattle.causal_context.specs.Dots.{Dot}
use Rattle.causal_context.specs.SetLattice.{IsSubset}
use Rattle.node_bridge.specs.View.{belief_of}
use Rattle.node_work.specs.View.{HeldView}
use Rattle.cluster_play.specs.Worlds.{World}
use Rattle.cluster_play.specs.Runs.{Played}
use Rattle.cluster_play.specs.Histories.{Reached, taken}
use Rattle.cluster_play.specs.Agreement.{Holds}
use Rattle.cluster_play.proofs.Agreeing.{node_holds}
use Rattle.cluster_play.proofs.Kept.{explained}

pub believes_so : (run : List Played) (w : World) → Reached run w → (i : ℕ) (h : HeldView) → Holds w i h
    → (peer : ℕ) (d : Dot) → set.contains (belief_of h.bridge peer) d ≡ true → taken peer run d ≡ true
believes_so run w r i h at peer d x =
    let here = (explained run w r).sites i at.site at.at in
    here.kept.beliefs peer d (subst (λ (g : HeldView). set.contains (belief_of g.bridge peer) d ≡ true) (here.up h at.up) x)

pub lacks_nothing_there : (run : List Played) (w : World) → Reached run w → (i : ℕ) (h : HeldView) → Holds w i h
    → (peer : ℕ) → IsSubset h.store.taken (belief_of h.bridge peer) → (d : Dot) → taken i run d ≡ true → taken peer run d ≡ true
lacks_nothing_there run w r i h at peer below d x =
    believes_so run w r i h at peer d (below d ((node_holds run w r i h at).1 d ∙ x))
