use Rattle.law_doors.proofs.Pieces.{any_pieces}
use Rattle.law_doors.proofs.laws.any_pieces.Goals as goal

pub returns : goal.returns
returns c = any_pieces
