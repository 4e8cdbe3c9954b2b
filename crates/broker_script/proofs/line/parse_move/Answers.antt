use Rattle.std.proofs.Common.{◌≤◌, ℕ, List, [], ◌∷◌, map, codes, length, slice_index_or, Bor, arith}
use Rattle.broker_script.specs.Line.{IsPlain}
use Rattle.broker_script.proofs.Commands.{SpellsNoEvent, not_move}
use Rattle.broker_script.proofs.line.parse_move.Goals as goal

third : (words : List (Bor (List ℕ))) (other : Bor (List ℕ)) → 5 ≤ length words → (IsPlain 255 (slice_index_or words 2 other).now → ⊥)
    → SpellsNoEvent (codes "move") (map (λ w. w.now) words)
third [] other h none = absurd (omega arith)
third (a ∷ []) other h none = absurd (omega arith)
third (a ∷ b ∷ []) other h none = absurd (omega arith)
third (a ∷ b ∷ w ∷ rest) other h none = not_move _ _ _ _ none

pub returns-in-None-clause-none : goal.returns-in-None-clause-none
returns-in-None-clause-none c =
    third c.args.rest.now _ c.in-len5.len_at_least (rw c.in-None.is at c.in_ok-prefix.ensures.none)
