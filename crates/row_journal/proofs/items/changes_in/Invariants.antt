use Rattle.std.proofs.Common.{◌≡◌, [], drop, map}
use Rattle.row_store.specs.Noted.{pair_of}
use Rattle.row_journal.specs.Items.{item_of}
use Rattle.row_journal.specs.Spelling.{pairs_in}
use Rattle.row_journal.proofs.EndLaws.{onto_read}
use Rattle.row_journal.proofs.items.changes_in.Given as goal

abbrev pub invariant-loop-item : goal.invariant-loop-item
invariant-loop-item l = onto_read (map pair_of l.changes.items) (pairs_in l.before.items (map item_of (drop l.item-index l.items))) ≡ pairs_in [] (map item_of l.items)
