-- The longest time of marks, some after others.
use Rattle.std.proofs.Common.{◌≡◌, ℕ, List, [], ◌∷◌, ◌++◌, refl}
use Rattle.status_tally.specs.Windows.{longest_of, with_mark}
use Rattle.status_tally.specs.declared.window.Mark.{Mark}

pub longest_both : (at from : ℕ) (xs ys : List Mark) → longest_of at from (xs ++ ys) ≡ longest_of at (longest_of at from xs) ys
longest_both at from [] ys = refl
longest_both at from (mark ∷ xs) ys = longest_both at (with_mark at from mark) xs ys
