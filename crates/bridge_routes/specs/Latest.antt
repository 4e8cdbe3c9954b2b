-- The latest of what stands at some dots.
use Rattle.std.specs.Prelude.{◌≡◌, Bool, true, false, if◌then◌else◌, List, [], ◌∷◌, Option, Some, None}
use Rattle.std.specs.FinSet as set
use Rattle.std.specs.Ordering.{is_lt}
use Rattle.causal_context.specs.Dots.{Dot, Dots}
use Rattle.subscription_set.specs.Entries.{Entry, recency_cmp}
use Rattle.subscription_set.specs.Standing.{Entries, find_entry}

-- nothing stands at the dots, or this does and nothing there is later
abbrev pub IsLatest : Entries → Dots → Option Entry → Type 0
IsLatest es dots None = (q : Dot) → set.contains dots q ≡ true → find_entry q es ≡ None
IsLatest es dots (Some e) = (d : Dot) × (set.contains dots d ≡ true) × (find_entry d es ≡ Some e)
    × ((q : Dot) (f : Entry) → set.contains dots q ≡ true → find_entry q es ≡ Some f → is_lt (recency_cmp (d, e) (q, f)) ≡ false)

-- ---- as it is found, one dot after the other
-- what stands at a dot, with the dot
abbrev pub beside : Dot → Option Entry → Option (Dot × Entry)
beside d None = None
beside d (Some e) = Some (d, e)

-- the same of a dot that may be there
abbrev pub standing_at : Entries → Option Dot → Option (Dot × Entry)
standing_at es None = None
standing_at es (Some d) = beside d (find_entry d es)

-- it is later than one that may be there
abbrev pub is_after : Option (Dot × Entry) → Dot × Entry → Bool
is_after None y = true
is_after (Some x) y = is_lt (recency_cmp x y)

-- the later of one that may be there and of what stands at a dot
abbrev pub later : Option (Dot × Entry) → Dot → Option Entry → Option (Dot × Entry)
later x d None = x
later x d (Some e) = if is_after x (d, e) then Some (d, e) else x

-- the latest of one that may be there and of what stands at the dots
abbrev pub latest_from : Entries → Option (Dot × Entry) → List Dot → Option (Dot × Entry)
latest_from es x [] = x
latest_from es x (d ∷ ds) = latest_from es (later x d (find_entry d es)) ds
