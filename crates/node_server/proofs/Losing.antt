-- What a node has left out, told by its log.
use Rattle.std.proofs.Common.{◌≡◌, ◌∙◌, ℕ, List, Option, Some, None, MatchOption, ap, subst, sym}
use Rattle.door_log.specs.Answering.{IsFinished}
use Rattle.door_log.specs.Views.{inside_of}
use Rattle.door_log.specs.declared.line.Loss.{Loss}
use Rattle.node_keeper.specs.BatchViews.{node_in}
use Rattle.node_server.specs.Losses.{losses_of}
use Rattle.node_server.specs.Stack.{LoggedNode, node_behind}
use Rattle.node_server.specs.Views.{keeper_of}
use Rattle.node_server.specs.declared.served.ServedNode.{ServedNode}
use Rattle.node_work.specs.View.{HeldView}
use Rattle.node_work.specs.declared.counts.Counts.{Counts}

-- the counts are those of what the node holds, if it runs
abbrev AreCounts : Counts → Option HeldView → Type 0
AreCounts counts up = MatchOption up (Unit {0}) (λ h. counts ≡ h.counts)

pub counted_in : {R F G E : Type 0} (d : LoggedNode R F G E) (s : ServedNode R) (counts : Counts) → s ≡ node_behind (inside_of d)
    → AreCounts counts (node_in (keeper_of s)).up → (held : HeldView) → (node_in (keeper_of (node_behind (inside_of d)))).up ≡ Some held → counts ≡ held.counts
counted_in d s counts is are held up = subst (AreCounts counts) (ap (λ x. (node_in (keeper_of x)).up) is ∙ up) are

pub finished_with : {R F G E : Type 0} (contents : E → Option (List ℕ)) (at : ℕ) (counts : Counts) (losses : List (Loss × ℕ)) (d d' : LoggedNode R F G E)
    → losses ≡ losses_of counts → IsFinished contents at losses d d' → IsFinished contents at (losses_of counts) d d'
finished_with contents at counts losses d d' is done = subst (λ l. IsFinished contents at l d d') is done
