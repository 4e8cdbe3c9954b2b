-- What an iterator over entries has left.
use Rattle.std.specs.Prelude.{Some, None, [], ◌∷◌}
use Rattle.std.specs.Map.Iter.{deref_pair}
use Rattle.subscription_set.specs.Standing.{Entries}
use Rattle.subscription_set.specs.declared.entry_iter.Left.{Left}
use Rattle.subscription_set.specs.declared.entry_iter.Left.TheVariants as whole
use Rattle.subscription_set.specs.declared.entry_iter.PartLeft.{PartLeft}
use Rattle.subscription_set.specs.declared.entry_iter.PartLeft.TheVariants as part

-- of all entries
abbrev pub entries_left : Left → Entries
entries_left (whole.One None) = []
entries_left (whole.One (Some x)) = deref_pair x ∷ []
entries_left (whole.Tree es) = es

-- of the entries of a range of dots
abbrev pub part_left : PartLeft → Entries
part_left (part.One None) = []
part_left (part.One (Some x)) = deref_pair x ∷ []
part_left (part.Tree es) = es
