use Rattle.law_sessions.proofs.ReleasedLaws.{keeps_released, keeps_releases_first}
use Rattle.law_sessions.proofs.releases.releases_come_first.Goals as goal

pub returns-clause-first : goal.returns-clause-first
returns-clause-first c = keeps_releases_first

pub returns-clause-released : goal.returns-clause-released
returns-clause-released c = keeps_released
