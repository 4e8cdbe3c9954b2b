use Rattle.law_serving.proofs.Settling.{crash_after_commit, crash_amid_commit, crash_before_commit, crash_where_halted, settled_is_run}
use Rattle.law_serving.proofs.served.served_turns_are_runs.Goals as goal

pub returns-clause-settled : goal.returns-clause-settled
returns-clause-settled g c = let R = g.R.RowStore in settled_is_run R.is_clean R.is_open R.content R.may_leave

pub returns-clause-before : goal.returns-clause-before
returns-clause-before g c = let R = g.R.RowStore in crash_before_commit R.is_clean R.is_open R.content R.may_leave g.met.R.RowStore.settled

pub returns-clause-halted : goal.returns-clause-halted
returns-clause-halted g c = let R = g.R.RowStore in crash_where_halted R.is_clean R.is_open R.content R.may_leave g.met.R.RowStore.settled

pub returns-clause-amid : goal.returns-clause-amid
returns-clause-amid g c = let R = g.R.RowStore in crash_amid_commit R.is_clean R.is_open R.content R.may_leave

pub returns-clause-after : goal.returns-clause-after
returns-clause-after g c = let R = g.R.RowStore in crash_after_commit R.is_clean R.is_open R.content R.may_leave
