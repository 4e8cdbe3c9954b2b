-- Clients whose sessions have to end.
use Rattle.std.specs.Prelude.{◌≡◌, ◌||◌, ◌&&◌, not, ℕ, List, Bool, Option, Some, None, is_some}
use Rattle.std.specs.BTreeMap.{get}
use Rattle.std.specs.Cmp.Lexicographic.{slice_cmp}
use Rattle.std.specs.Ordering.{eq_by_cmp, nat_cmp}
use Rattle.door_packets.specs.declared.access.Login.{Login}
use Rattle.door_packets.specs.declared.marks.Marks.{Marks}

-- two identifiers of the same bytes
abbrev pub same_text : List ℕ → List ℕ → Bool
same_text a b = eq_by_cmp (slice_cmp nat_cmp) a b

-- this client's next CONNECT begins a new session
abbrev pub is_marked : Marks → List ℕ → Bool
is_marked k client = is_some (get (slice_cmp nat_cmp) k.clients client)

-- one more has to
abbrev pub IsMarked : Option Login → Marks → Marks → Type 0
IsMarked None k k' = k' ≡ k
IsMarked (Some l) k k' = (c : List ℕ) → is_marked k' c ≡ (same_text l.client c || is_marked k c)

-- one doesn't have to any more
abbrev pub IsForgotten : Option Login → Marks → Marks → Type 0
IsForgotten None k k' = k' ≡ k
IsForgotten (Some l) k k' = (c : List ℕ) → is_marked k' c ≡ (not (same_text l.client c) && is_marked k c)
