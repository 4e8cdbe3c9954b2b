use Rattle.std.proofs.Common.{◌≡◌, false, take}
use Rattle.cluster_play.specs.Clusters.{world, is_spent}
use Rattle.cluster_play.specs.Playing.{IsPlayed}
use Rattle.cluster_play.proofs.cluster.Cluster.play.Given as goal

abbrev pub invariant-loop-step : goal.invariant-loop-step
invariant-loop-step l = record { played : IsPlayed (world l.fn.self) (take l.step-index l.steps) l.lines.items (world l.self); ready : is_spent l.self ≡ false }
