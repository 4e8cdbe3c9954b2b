use Rattle.mqtt_bounds.proofs.Growing.{cut_is_whole}
use Rattle.mqtt_bounds.proofs.piece_laws.cut_is_whole.Goals as goal

pub returns : goal.returns
returns c = cut_is_whole
