use Rattle.law_runs.proofs.HandingLaws.{handed_is_queued}
use Rattle.law_runs.proofs.handing.handed_is_queued.Goals as goal

pub returns : goal.returns
returns c = handed_is_queued
