-- Work over a list, one after the other.
use Rattle.std.proofs.Common.{◌≡◌, ℕ, ◌+◌, ◌<◌, arith, List, [], ◌∷◌, length, get_or, drop, Option, Some}
use Rattle.node_work.specs.View.{WorkView}
use Rattle.node_work.specs.Working.{Doing, Each, Did}
use Rattle.node_work.proofs.Working.{Reaches, each_next}

-- what the work has come to at a place of a list: nothing where the list is empty
abbrev pub Stands : {A : Type 0} (One : A → Option (Unit {0}) → Doing) (xs : List A) (i : ℕ) (w m : WorkView) → Type 0
Stands One xs i w m = (xs ≡ [] → m ≡ w) × Reaches w (Each One xs) m (Each One (drop i xs))

none_there : {A : Type 0} (xs : List A) (i : ℕ) (w m : WorkView) → i < length xs → xs ≡ [] → m ≡ w
none_there [] i w m below e = absurd (omega (arith, below))
none_there (x ∷ xs) i w m below e = absurd (let z : x ∷ xs ≡ [] = e in cc)

pub stands_next : {A : Type 0} (One : A → Option (Unit {0}) → Doing) (xs : List A) (i : ℕ) (x : A) (w m m' : WorkView) → i < length xs → x ≡ get_or xs i x → Stands One xs i w m → Did m m' (One x (Some tt)) → Stands One xs (i + 1) w m'
stands_next One xs i x w m m' below at s did = (none_there xs i w m' below, each_next One w m m' (Each One xs) xs i x x below at s.1 did)
