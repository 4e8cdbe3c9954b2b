use Rattle.std.proofs.Common.{rules}
use Rattle.session_records.proofs.Ids.{below, lower}
use Rattle.session_records.proofs.found.is_above.Goals as goal

pub returns-in-Some-Some-clause-above : goal.returns-in-Some-Some-clause-above
returns-in-Some-Some-clause-above c h = below c.in-Some-Some.low c.in-Some-Some.high _ _ (search rules) (search rules) (search rules)

pub returns-in-Some-Some-clause-ids : goal.returns-in-Some-Some-clause-ids
returns-in-Some-Some-clause-ids c a b less =
    let low = lower c.in-Some-Some.low c.in-Some-Some.high _ _ (search rules) (search rules) less in
    search (rules, low)
