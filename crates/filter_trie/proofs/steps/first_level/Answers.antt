use Rattle.std.proofs.Common.{Some, None}
use Rattle.filter_trie.proofs.LevelLaws.{cut_is}
use Rattle.filter_trie.proofs.steps.first_level.Goals as goal

pub returns-in-Some : goal.returns-in-Some
returns-in-Some c = cut_is c.args.text.now (Some (c.in-Some.level, c.in-Some.rest)) c.in-Some.ensures.cases

pub returns-in-None : goal.returns-in-None
returns-in-None c = cut_is c.args.text.now None c.in-None.ensures.cases
