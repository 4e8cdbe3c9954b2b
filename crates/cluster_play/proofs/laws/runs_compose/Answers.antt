use Rattle.cluster_play.proofs.Paths.{run_join, frames_stay, lacks_nothing}
use Rattle.cluster_play.proofs.laws.runs_compose.Goals as goal

pub returns : goal.returns
returns c = record { runs = run_join; frames = frames_stay; steps = lacks_nothing }
