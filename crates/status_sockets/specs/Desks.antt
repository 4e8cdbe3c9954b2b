-- Who is at the places of a desk.
use Rattle.std.specs.Prelude.{ℕ, ◌||◌, Bool, false, is_some, zero, suc, ◌<◌, ◌≤◌, List, length, Option, Some, None, IfSome, slice_index_or}
use Rattle.std.specs.List.{All}
use Rattle.status_sockets.specs.Waiting.{IsInTime}
use Rattle.status_sockets.specs.declared.visitor.Visitor.{Visitor}

-- each who is there had a whole request, or came, within ten seconds, and has begun none two seconds ago
abbrev pub AreInTime : {T : Type 0} → ℕ → List (Option (Visitor T)) → Type 0
AreInTime at places = All (λ place. IfSome place (λ visitor. IsInTime at visitor.since visitor.begun)) places

-- a request may be there: one was begun, or one was answered when this was last looked to
abbrev pub asks : {T : Type 0} → Visitor T → Bool
asks visitor = is_some visitor.begun || visitor.answered

abbrev pub asks_at : {T : Type 0} → Option (Visitor T) → Bool
asks_at None = false
asks_at (Some visitor) = asks visitor

-- a free place comes first, and then the one who has been there longest without a whole request
abbrev pub rank_of : {T : Type 0} → Option (Visitor T) → ℕ
rank_of None = zero
rank_of (Some visitor) = suc visitor.since

-- by its number
abbrev pub rank_at : {T : Type 0} → List (Option (Visitor T)) → ℕ → ℕ
rank_at places k = rank_of (slice_index_or places k None)

-- the one of two places that comes first
pub record IsFirst {T : Type 0} (places : List (Option (Visitor T))) (one other k : ℕ) : Type 0 where
  pub there : k < length places
  pub before_one : rank_at places k ≤ rank_at places one
  pub before_other : rank_at places k ≤ rank_at places other

-- the place of whoever comes: no other one comes before it
pub record IsSeat {T : Type 0} (places : List (Option (Visitor T))) (k : ℕ) : Type 0 where
  pub there : k < length places
  pub first : (j : ℕ) → j < length places → rank_at places k ≤ rank_at places j
