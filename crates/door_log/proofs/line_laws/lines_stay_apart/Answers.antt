use Rattle.door_log.proofs.Apart.{lines_apart}
use Rattle.door_log.proofs.line_laws.lines_stay_apart.Goals as goal

pub returns : goal.returns
returns c = lines_apart
