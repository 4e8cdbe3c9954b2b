-- Those who had their turn are in time.
use Rattle.std.proofs.Common.{ℕ, ◌+◌, ◌<◌, ◌≤◌, ◌∷◌, ◌++◌, [], List, Option, length, set, sym, take}
use Rattle.std.specs.Prelude.{IfSome}
use Rattle.std.proofs.lemmas.List.{take_all, take_more_set}
use Rattle.std.proofs.lemmas.List.Elements.{All-push, All-same}
use Rattle.status_sockets.specs.Desks.{AreInTime}
use Rattle.status_sockets.specs.Waiting.{IsInTime}
use Rattle.status_sockets.specs.declared.visitor.Visitor.{Visitor}

-- whoever is at a place is
abbrev IsWell : {T : Type 0} → ℕ → Option (Visitor T) → Type 0
IsWell at place = IfSome place (λ visitor. IsInTime at visitor.since visitor.begun)

-- one more
pub one_more : {T : Type 0} (at : ℕ) (places : List (Option (Visitor T))) (i : ℕ) (place : Option (Visitor T)) → i < length places
    → AreInTime at (take i places) → IfSome place (λ visitor. IsInTime at visitor.since visitor.begun) → AreInTime at (take (i + 1) (set places i place))
one_more {T = T} at places i place within before here =
    All-same (λ (o : Option (Visitor T)). IsWell at o) (take (i + 1) (set places i place)) (take i places ++ place ∷ []) (take_more_set places i place within)
    (All-push (λ (o : Option (Visitor T)). IsWell at o) (take i places) place before here)

-- all
pub all_had : {T : Type 0} (at : ℕ) (places : List (Option (Visitor T))) (i : ℕ) → length places ≤ i → AreInTime at (take i places) → AreInTime at places
all_had {T = T} at places i past before =
    All-same (λ (o : Option (Visitor T)). IsWell at o) places (take i places) (sym (take_all i places past)) before
