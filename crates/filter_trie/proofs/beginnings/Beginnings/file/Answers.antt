use Rattle.std.proofs.Common.{◌+◌, Bool, sym, subst}
use Rattle.std.specs.Prelude.{if◌then◌else◌}
use Rattle.filter_trie.specs.Search.Counting.{hashes, times, Covers}
use Rattle.filter_trie.specs.Search.Filing.{counted}
use Rattle.filter_trie.proofs.CountLaws.{covers_at}
use Rattle.filter_trie.proofs.beginnings.Beginnings.file.Goals as goal

pub returns-clause-ok : goal.returns-clause-ok
returns-clause-ok c = λ h n k.
    let C : Bool → Type 0 = λ b. Covers (counted c.add_all.new.self h) ((if b then 0 else times h (hashes 0 c.args.filter.now)) + n) in
    subst C (sym c.if-is_there.false) (c.add_all.ensures h n (covers_at (counted c.args.self.now h) (counted c.reserve.new.self h) n (c.in_ok-reserve.ensures.counts h) k))
