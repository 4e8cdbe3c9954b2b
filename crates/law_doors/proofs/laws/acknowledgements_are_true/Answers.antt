use Rattle.law_doors.proofs.Tells.{connacks_are_true, grants_are_true, pubacks_are_true, pubcomps_are_true, pubrecs_are_true}
use Rattle.law_doors.proofs.laws.acknowledgements_are_true.Goals as goal

pub returns : goal.returns
returns c = record { connack = connacks_are_true; puback = pubacks_are_true; pubrec = pubrecs_are_true; pubcomp = pubcomps_are_true; suback = grants_are_true }
