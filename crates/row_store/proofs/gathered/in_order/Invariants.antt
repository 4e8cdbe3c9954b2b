use Rattle.std.proofs.Common.{◌≡◌, ◌++◌, map}
use Rattle.row_store.specs.Noted.{noted_pair, pair_of}
use Rattle.row_store.proofs.Noting.{changed}
use Rattle.row_store.proofs.gathered.in_order.Given as goal

abbrev pub invariant-loop-key : goal.invariant-loop-key
invariant-loop-key l = map pair_of l.out.items ++ map noted_pair (changed l.befores.entries l.key-iterator) ≡ map noted_pair (changed l.befores.entries l.fn.lefts.entries)
