-- Which mark counts.
use Rattle.std.proofs.Common.{◌≡◌, ◌∙◌, ℕ, zero, suc, ◌<◌, ◌≤◌, Bool, cond, List, [], ◌∷◌, drop, slice_get, Some, None, refl, sym, ap}
use Rattle.std.proofs.lemmas.Bool.{le-leb, lt-leb}
use Rattle.std.specs.Int.{abs_diff}
use Rattle.status_tally.specs.Windows.{base}
use Rattle.status_tally.specs.declared.window.Mark.{Mark}

drop_here : (marks : List Mark) (i : ℕ) (m : Mark) → slice_get marks i ≡ Some m → drop i marks ≡ m ∷ drop (suc i) marks
drop_here [] i m h = cc
drop_here (x ∷ marks) zero m h = let same : x ≡ m = cc in ap (λ (y : Mark). y ∷ marks) same
drop_here (x ∷ marks) (suc i) m h = drop_here marks i m h

-- one that is at most ten seconds away
pub counts : (at : ℕ) (marks : List Mark) (i : ℕ) (m : Mark) → slice_get marks i ≡ Some m → abs_diff m.at at ≤ 10000 → base at (drop i marks) ≡ m.total
counts at marks i m here near =
    ap (base at) (drop_here marks i m here) ∙ ap (λ (b : Bool). cond b m.total (base at (drop (suc i) marks))) (le-leb (abs_diff m.at at) 10000 near)

-- one that is further away
pub passed : (at : ℕ) (marks : List Mark) (i : ℕ) (m : Mark) → slice_get marks i ≡ Some m → 10000 < abs_diff m.at at → base at (drop (suc i) marks) ≡ base at (drop i marks)
passed at marks i m here far =
    let is = ap (base at) (drop_here marks i m here) ∙ ap (λ (b : Bool). cond b m.total (base at (drop (suc i) marks))) (lt-leb (abs_diff m.at at) 10000 far) in
    sym is

-- none
pub absent : (at : ℕ) (marks : List Mark) (i : ℕ) → slice_get marks i ≡ None → base at (drop (suc i) marks) ≡ base at (drop i marks)
absent at [] zero h = refl
absent at [] (suc i) h = refl
absent at (x ∷ marks) zero h = cc
absent at (x ∷ marks) (suc i) h = absent at marks i h
