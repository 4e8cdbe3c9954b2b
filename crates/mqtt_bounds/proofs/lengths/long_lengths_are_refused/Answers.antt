use Rattle.mqtt_bounds.proofs.LengthLaws.{long_lengths, padded_lengths}
use Rattle.mqtt_bounds.proofs.lengths.long_lengths_are_refused.Goals as goal

pub returns-clause-long : goal.returns-clause-long
returns-clause-long c = long_lengths

pub returns-clause-padded : goal.returns-clause-padded
returns-clause-padded c = padded_lengths
