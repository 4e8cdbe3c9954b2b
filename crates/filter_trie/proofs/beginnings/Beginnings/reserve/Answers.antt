use Rattle.std.proofs.Common.{arith}
use Rattle.filter_trie.proofs.CountLaws.{hashes_length}
use Rattle.filter_trie.proofs.beginnings.Beginnings.reserve.Goals as goal

pub returns-clause-room : goal.returns-clause-room
returns-clause-room c = let l = hashes_length 0 c.args.filter.now in let o = c.in_ok-reserve.ensures.ok in omega arith
