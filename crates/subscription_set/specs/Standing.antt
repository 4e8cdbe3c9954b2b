-- What stands, and what is live.
use Rattle.std.specs.Prelude.{◌≡◌, ℕ, Bool, true, not, ◌&&◌, is_some, List, [], ◌∷◌, map as map_list, Option, Some, None}
use Rattle.std.specs.List.{list_any, list_all, filter}
use Rattle.std.specs.Ordering.{is_lt}
use Rattle.std.specs.FinSet as set
use Rattle.std.specs.FinMap as map
use Rattle.causal_context.specs.Dots.{Dot, Dots, dot_cmp}
use Rattle.subscription_set.specs.declared.entry.Entry.{Entry}
use Rattle.subscription_set.specs.Entries.{is_of, is_of_below, same_text, same_subscription, recency_cmp}
use Rattle.subscription_set.specs.Statuses.{Status, Statuses}

-- entries under their dots
abbrev pub Entries : Type 0
Entries = List (Dot × Entry)

abbrev pub find_entry : Dot → Entries → Option Entry
find_entry q es = map.find dot_cmp q es

-- each entry's dot was seen
abbrev pub AreSeen : Dots → Entries → Type 0
AreSeen seen es = (q : Dot) → is_some (find_entry q es) ≡ true → set.contains seen q ≡ true

-- of each dot that was seen: its entry, or removed
unfoldable pub statuses : Dots → Entries → Statuses
statuses seen es = map.from_entries (map_list (λ d. (d, find_entry d es)) (set.items seen))

-- the dots that were seen
unfoldable pub seen_of : Statuses → Dots
seen_of m = set.from_list (map.keys m)

-- before the others, if it is present
abbrev pub before : Dot → Status → Entries → Entries
before d None es = es
before d (Some e) es = (d, e) ∷ es

-- the entries that are present
abbrev pub present : List (Dot × Status) → Entries
present [] = []
present (x ∷ xs) = before x.0 x.1 (present xs)

-- what stands, rising by the dots
unfoldable pub standing : Statuses → Entries
standing m = present (map.entries m)

-- the dots of the entries that pass the test
unfoldable pub dots_in : (Entry → Bool) → Entries → Dots
dots_in p es = set.from_list (map_list (λ x. x.0) (filter (λ x. p x.1) es))

-- what a cover takes: the dots of what stands of the client and, where one is given, to the filter
abbrev pub dots_of : List ℕ → Option (List ℕ) → Statuses → Dots
dots_of client filter m = dots_in (is_of client filter) (standing m)

-- those of them that were made under a version below this one
abbrev pub dots_below : List ℕ → ℕ → Statuses → Dots
dots_below client version m = dots_in (is_of_below client version) (standing m)

-- whether something stands of the client and, where one is given, to the filter
abbrev pub any_of : List ℕ → Option (List ℕ) → Statuses → Bool
any_of client filter m = list_any (λ x. is_of client filter x.1) (standing m)

-- the same of what was made under a version below this one
abbrev pub any_below : List ℕ → ℕ → Statuses → Bool
any_below client version m = list_any (λ x. is_of_below client version x.1) (standing m)

-- no other of the same client and filter is later
abbrev pub is_latest : Entries → Dot × Entry → Bool
is_latest es x = list_all (λ y. not (same_subscription x.1 y.1 && is_lt (recency_cmp x y))) es

-- the latest of each client and filter
abbrev pub latest : Entries → Entries
latest es = filter (is_latest es) es

-- what is live: of what stands, the latest of each client and filter
unfoldable pub live : Statuses → Entries
live m = latest (standing m)

-- what is live of a client
abbrev pub live_of : List ℕ → Statuses → Entries
live_of client m = filter (λ x. same_text client x.1.client) (live m)

-- the entry of a status, if there is one
abbrev pub entry_of : Option Status → Option Entry
entry_of None = None
entry_of (Some x) = x
