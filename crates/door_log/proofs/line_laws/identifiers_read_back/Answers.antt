use Rattle.door_log.proofs.Escapes.{read_back}
use Rattle.door_log.proofs.line_laws.identifiers_read_back.Goals as goal

pub returns : goal.returns
returns c = read_back
