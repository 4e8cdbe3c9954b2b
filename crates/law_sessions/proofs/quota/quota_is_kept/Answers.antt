use Rattle.law_sessions.proofs.FlyingLaws.{keeps_within}
use Rattle.law_sessions.proofs.LiftLaws.{keeps_quota}
use Rattle.law_sessions.proofs.quota.quota_is_kept.Goals as goal

pub returns-clause-held : goal.returns-clause-held
returns-clause-held c = keeps_quota

pub returns-clause-told : goal.returns-clause-told
returns-clause-told c = keeps_within
