-- What is known of the subscription at a dot: unseen, present or removed, in this order.
-- A removed dot stays in the causal context without an entry (Almeida, Shoker, Baquero, section 7).
use Rattle.std.specs.FinMap as map
use Rattle.std.specs.Coded.{Coded, coded_option}
use Rattle.std.specs.Prelude.{◌≡◌, if◌then◌else◌, Option, Some, None}
use Rattle.std.specs.FinMap.{FinMap}
use Rattle.causal_context.specs.Dots.{coded_dot, dot_cmp}
use Rattle.causal_context.specs.MapLattice.{merge, MapBelow}
use Rattle.subscription_set.specs.declared.entry.Entry.{Entry}
use Rattle.subscription_set.specs.Entries.{entry_eq, coded_entry}

-- of a dot that was seen: present, with its entry, or removed
abbrev pub Status : Type 0
Status = Option Entry

-- the dots that were seen, with their statuses; any other dot is unseen
abbrev pub Statuses : Type 0
Statuses = FinMap dot_cmp Status

-- the greater of two: removed, unless both have the same entry
unfoldable pub status_join : Status → Status → Status
status_join None y = None
status_join (Some a) None = None
status_join (Some a) (Some b) = if entry_eq a b then Some a else None

-- removed is above present; different entries at one dot are not in order
abbrev pub StatusBelow : Status → Status → Type 0
StatusBelow x None = Unit {0}
StatusBelow None (Some b) = ⊥
StatusBelow (Some a) (Some b) = a ≡ b

-- the greater status of each dot, unseen being the least
unfoldable pub statuses_join : Statuses → Statuses → Statuses
statuses_join = merge status_join

-- each dot's status is at most the other's
abbrev pub StatusesBelow : Statuses → Statuses → Type 0
StatusesBelow = MapBelow StatusBelow

abbrev pub coded_statuses : Coded Statuses
coded_statuses = map.code coded_dot (coded_option coded_entry)
