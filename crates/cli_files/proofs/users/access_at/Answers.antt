use Rattle.std.proofs.Common.{refl, sym, ap}
use Rattle.std.specs.Prelude.{is_some}
use Rattle.std.specs.Option.{option_copied}
use Rattle.cli_files.proofs.Reading.{are_read}
use Rattle.cli_files.proofs.users.access_at.Goals as goal

pub returns-in-None : goal.returns-in-None
returns-in-None c = are_read c.access_in.result _ _ _ _ (ap (λ p. is_some (option_copied p)) (sym c.in-None.is)) c.access_in.ensures
