-- Changes as they are spelled, in plain terms.
use Rattle.std.specs.Prelude.{List}
use Rattle.row_journal.specs.declared.items.Spelled.{Spelled}
use Rattle.row_journal.specs.declared.items.Spelled.TheVariants.{Removal, Value, Ending}
use Rattle.row_journal.specs.declared.items.SpelledChange.{SpelledChange}
use Rattle.row_journal.specs.Spelling as spec

abbrev pub plain : Spelled → spec.Value
plain Removal = spec.Value.Removed
plain (Value v) = spec.Value.Whole v.items
plain (Ending own shared) = spec.Value.Ended own.items shared

abbrev pub item_of : SpelledChange → spec.Item
item_of c = ((c.kind, (c.owner.items, c.place.items)), plain c.value)
