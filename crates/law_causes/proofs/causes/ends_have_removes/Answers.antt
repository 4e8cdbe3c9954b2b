use Rattle.law_causes.proofs.EndLaws.{ends_have_removes}
use Rattle.law_causes.proofs.Evicting.{evictions_have_removes}
use Rattle.law_causes.proofs.causes.ends_have_removes.Goals as goal

pub returns-clause-over : goal.returns-clause-over
returns-clause-over c = ends_have_removes

pub returns-clause-eviction : goal.returns-clause-eviction
returns-clause-eviction c = evictions_have_removes
