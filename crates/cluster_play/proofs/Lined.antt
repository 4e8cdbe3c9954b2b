-- Lines of runs, one after the other.
use Rattle.std.proofs.Common.{◌≡◌, ℕ, ◌+◌, List, [], ◌∷◌, ◌++◌, ap, arith, length}
use Rattle.node_work.specs.declared.frame.Frame.{Frame}
use Rattle.cluster_play.specs.declared.line.Line.TheVariants as lines
use Rattle.cluster_play.specs.Runs.{frame_lines}

pub frame_lines_more : (given n : ℕ) (xs : List Frame) (x : Frame) → n ≡ given + length xs → frame_lines given (xs ++ x ∷ []) ≡ frame_lines given xs ++ frame_lines n (x ∷ [])
frame_lines_more given n [] x e = ap (λ k. frame_lines k (x ∷ [])) (omega arith)
frame_lines_more given n (y ∷ xs) x e = ap (λ ls. lines.Frame (given + 1) y.from y.to y.kind ∷ ls) (frame_lines_more (given + 1) n xs x (omega arith))
