use Rattle.law_causes.proofs.Ending.{stops_have_numbers}
use Rattle.law_causes.proofs.stops.stops_have_numbers.Goals as goal

pub returns : goal.returns
returns c = stops_have_numbers
