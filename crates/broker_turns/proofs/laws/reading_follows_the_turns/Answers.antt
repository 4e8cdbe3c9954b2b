use Rattle.broker_turns.proofs.Pacing.{grows_back, shrinks_fast}
use Rattle.broker_turns.proofs.laws.reading_follows_the_turns.Goals as goal

pub returns : goal.returns
returns c = record { grows = grows_back; shrinks = shrinks_fast }
