use Rattle.std.proofs.Common.{◌≡◌, ◌++◌, length, map, take}
use Rattle.session_rows.specs.Changes.{plain_of, copy_changes}
use Rattle.session_rows.proofs.told.copy_changes.Given as goal

abbrev pub invariant-loop-place : goal.invariant-loop-place
invariant-loop-place l = record {
  items : map plain_of l.all.items ≡ map plain_of l.fn.all.items ++ copy_changes l.client l.next l.outgoing.box.copies (take l.place-index l.places);
  begins : take (length l.fn.all.items) l.all.items ≡ l.fn.all.items;
}
