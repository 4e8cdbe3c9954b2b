use Rattle.mqtt_bounds.proofs.Growing.{any_pieces}
use Rattle.mqtt_bounds.proofs.piece_laws.any_pieces.Goals as goal

pub returns : goal.returns
returns c = any_pieces
