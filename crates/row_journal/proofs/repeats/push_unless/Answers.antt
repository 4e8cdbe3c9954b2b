use Rattle.row_store.specs.Leading.{key_in}
use Rattle.row_journal.proofs.RepeatLaws.{passed, skipped, unmarked}
use Rattle.row_journal.proofs.repeats.push_unless.Goals as goal

pub returns-then-is_named_at-clause-leaves : goal.returns-then-is_named_at-clause-leaves
returns-then-is_named_at-clause-leaves c =
    skipped c.args.tops.now.entries c.args.out.now.items c.args.change.now c.args.behind.now (c.is_named_at.ensures c.if-is_named_at.true)

pub returns-then-goes-clause-leaves : goal.returns-then-goes-clause-leaves
returns-then-goes-clause-leaves c =
    let spare = c.in_ok-goes.ensures c.if-goes.true in
    let out = c.args.out.now.items in
    let change = c.args.change.now in
    passed c.args.tops.now.entries out change c.args.behind.now spare.0 (unmarked c.args.marks.now out (key_in change) c.requires.marked spare.1)

pub returns-clause-leaves : goal.returns-clause-leaves
returns-clause-leaves c = c.push_marked.ensures.leaves c.args.tops.now.entries c.args.behind.now
