use Rattle.node_keeper.proofs.Opening.{have_one_version, opening_keeps}
use Rattle.node_keeper.proofs.laws.openings_keep_what_lasts.Goals as goal

pub returns-clause-keeps : goal.returns-clause-keeps
returns-clause-keeps c = opening_keeps

pub returns-clause-version : goal.returns-clause-version
returns-clause-version c = have_one_version
