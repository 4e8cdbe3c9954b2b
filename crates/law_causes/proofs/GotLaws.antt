-- What a Got tells stays true.
use Rattle.std.specs.List.{slice_get}
use Rattle.std.proofs.Common.{◌≡◌, ◌≤◌, ℕ, List, Some, length, sym, subst}
use Rattle.bridge_frames.specs.declared.frame.BridgeFrame.{BridgeFrame}
use Rattle.cluster_play.specs.Worlds.{Site, World}
use Rattle.cluster_play.specs.Runs.{Played}
use Rattle.cluster_play.specs.Histories.{Reached}
use Rattle.cluster_play.proofs.Keeping.{keeps_operations}
use Rattle.law_runs.specs.LaneHistories.{took}
use Rattle.law_runs.proofs.LaneLaws.{counts_taken, got_frames}
use Rattle.law_causes.specs.Gots.{CountsAtLeast, IsSoOfGot, GotStaysTrue}

counts : (run : List Played) (w : World) (r : Reached run w) (i j n : ℕ) → n ≤ length (took i j run) → (s : Site) → slice_get w.sites i ≡ Some s → CountsAtLeast s j n
counts run w r i j n le s at =
    let k = keeps_operations run w r i s at in
    record { said = k.said; are = k.are; counted = subst (λ c. n ≤ c) (sym (counts_taken run w r i j s k.said at k.are)) le }

is_so : (run : List Played) (w : World) (r : Reached run w) (f : BridgeFrame) (n : ℕ) → n ≤ length (took f.from f.to run) → IsSoOfGot run w f n
is_so run w r f n le = record { taken = le; rows = λ s at. counts run w r f.from f.to n le s at }

pub got_stays_true : GotStaysTrue
got_stays_true = λ run w r number sent f n at read is. is_so run w r f n (got_frames run w r number sent f n at read is)
