use Rattle.std.proofs.Common.{◌≡◌, ◌≤◌, ◌+◌, ℕ, length, drop}
use Rattle.std.specs.HashMap.{spare}
use Rattle.filter_trie.specs.Search.Counting.{hashes, times, Covers}
use Rattle.filter_trie.specs.Search.Filing.{counted}
use Rattle.filter_trie.proofs.beginnings.Beginnings.add_all.Given as goal

abbrev pub invariant-loop-byte : goal.invariant-loop-byte
invariant-loop-byte l = record {
  room : length (hashes l.hash (drop l.byte-index l.byte-items)) ≤ spare l.self.counts;
  counts : (h n m : ℕ) → Covers (counted l.fn.self h) n → m + times h (hashes l.hash (drop l.byte-index l.byte-items)) ≡ times h (hashes 0 l.filter) + n → Covers (counted l.self h) m;
}
