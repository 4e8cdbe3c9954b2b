use Rattle.cli_reports.proofs.Sending.{clients_sent_home}
use Rattle.cli_reports.proofs.laws.clients_are_sent_home.Goals as goal

pub returns : goal.returns
returns c = clients_sent_home
