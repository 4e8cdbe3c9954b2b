use Rattle.law_steps.proofs.ServedRuns.{connections_stay_served, packets_of_runs_are_taken}
use Rattle.law_steps.proofs.serving.clients_are_served.Goals as goal

pub returns-clause-sessions : goal.returns-clause-sessions
returns-clause-sessions c = connections_stay_served

pub returns-clause-packets : goal.returns-clause-packets
returns-clause-packets c = packets_of_runs_are_taken
