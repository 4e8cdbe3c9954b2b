-- For callers: the count of the nodes is from 1 to 8, and each node that a later line names is below it.
use Rattle.std.proofs.Common.{◌<◌, ◌≤◌, ℕ, List, [], ◌∷◌, length, get_or, map, arith, zero, suc}
use Rattle.std.specs.List.{AllByRecursion}
use Rattle.broker_script.specs.Line.{line_words}
use Rattle.broker_script.specs.Script.{count_in, FitsAll, IsSound}
use Rattle.broker_script.specs.declared.command.Command.{Command}

-- the count that the first line of a script gives
pub count_bounds : (cs : List Command) (d : Command) → IsSound cs → 0 < length cs
    → (1 ≤ count_in (line_words (get_or cs 0 d))) × (count_in (line_words (get_or cs 0 d)) ≤ 8)
count_bounds [] d sound some = absurd (omega arith)
count_bounds (c ∷ cs) d sound some = (sound.0, sound.1)

all_at : (n : ℕ) (cs : List Command) (d : Command) (i : ℕ) → AllByRecursion (FitsAll n) (map line_words cs) → i < length cs
    → FitsAll n (line_words (get_or cs i d))
all_at n [] d i fits inside = absurd (omega arith)
all_at n (c ∷ cs) d zero fits inside = fits.0
all_at n (c ∷ cs) d (suc i) fits inside = all_at n cs d i fits.1 (omega arith)

-- a later line: its nodes are below the count
pub fits_at : (cs : List Command) (d : Command) (i : ℕ) → IsSound cs → 0 < i → i < length cs
    → FitsAll (count_in (line_words (get_or cs 0 d))) (line_words (get_or cs i d))
fits_at [] d i sound later inside = absurd (omega arith)
fits_at (c ∷ cs) d zero sound later inside = absurd (omega arith)
fits_at (c ∷ cs) d (suc i) sound later inside = all_at _ cs d i sound.2 (omega arith)
