use Rattle.filter_trie.proofs.Order.{told_before}
use Rattle.filter_trie.proofs.steps.is_before.Goals as goal

pub returns : goal.returns
returns c = told_before c.args.one.now c.args.other.now c.lt.result c.lt.ensures
