use Rattle.cluster_play.proofs.Onward.{start_is_reached, goes_on, honest_free, played_is_reached}
use Rattle.cluster_play.proofs.laws.runs_go_on.Goals as goal

pub returns : goal.returns
returns c = record { start = start_is_reached; runs = goes_on; steps = honest_free; played = played_is_reached }
