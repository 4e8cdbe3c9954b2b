use Rattle.std.proofs.Common.{List, ◌++◌, ◌∷◌, rules, subst}
use Rattle.row_store.specs.declared.row.Change.{Change}
use Rattle.row_journal.specs.Tops.{Leaves}
use Rattle.row_journal.proofs.RepeatLaws.{begun, done, gone_on, none_marked}
use Rattle.row_journal.proofs.repeats.left_of.Goals as goal

pub loop-i-init : goal.loop-i-init
loop-i-init c = record {
  some = search rules;
  marked = none_marked c.args.marks.now c.new-out.result.items c.new-out.ensures.items;
  leaves = begun c.args.tops.now.entries c.new-out.result.items c.args.changes.now c.new-out.ensures.items;
}

pub loop-i-preserved : goal.loop-i-preserved
loop-i-preserved c = record {
  some = c.push_unless.ensures.some;
  marked = c.in_ok-push_unless.ensures.marked;
  leaves = gone_on c.args.tops.now.entries c.loop-i.out.items c.push_unless.new.out.items c.args.changes.now c.index-changes-i.result c.loop-i.i c.loop-i-test.true c.index-changes-i.is
      (subst (λ (bs : List Change). Leaves c.args.tops.now.entries (c.push_unless.new.out.items ++ bs) (c.loop-i.out.items ++ c.index-changes-i.result ∷ bs)) c.behind.ensures c.in_ok-push_unless.ensures.leaves)
      c.loop-i.invariant.leaves;
}

pub returns : goal.returns
returns c = done c.args.tops.now.entries c.loop-i.out.items c.args.changes.now c.loop-i.i c.loop-i-test.false c.loop-i.invariant.leaves
