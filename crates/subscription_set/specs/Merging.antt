-- How two sets merge.
use Rattle.std.specs.Prelude.{Bool, false, Option, Some, None}
use Rattle.causal_context.specs.Dots.{Dots, dot_cmp}
use Rattle.subscription_set.specs.declared.entry.Entry.{Entry}
use Rattle.subscription_set.specs.Entries.{entry_eq}
use Rattle.subscription_set.specs.Sorted.{Rises}
use Rattle.subscription_set.specs.Standing.{Entries, AreSeen}

-- the entries are in order, and their dots were seen
pub record IsSet (c : Dots) (es : Entries) : Type 0 where
  pub seen : AreSeen c es
  pub rises : Rises dot_cmp es

-- the same entry on both sides
abbrev pub same_entry : Option Entry → Option Entry → Bool
same_entry (Some e) (Some f) = entry_eq e f
same_entry (Some e) None = false
same_entry None y = false
