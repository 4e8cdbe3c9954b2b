use Rattle.std.proofs.Common.{◌≡◌, drop}
use Rattle.filter_trie.specs.Search.Counting.{hash_on}
use Rattle.filter_trie.proofs.beginnings.hashed.Given as goal

abbrev pub invariant-loop-byte : goal.invariant-loop-byte
invariant-loop-byte l = hash_on l.now (drop l.byte-index l.byte-items) ≡ hash_on l.hash l.text
