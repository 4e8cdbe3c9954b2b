use Rattle.cli_files.proofs.Looking.{unchanged_is_quiet}
use Rattle.cli_files.proofs.laws.unchanged_file_is_quiet.Goals as goal

pub returns : goal.returns
returns c = unchanged_is_quiet
