-- Tables of lists under keys.
use Rattle.std.specs.Prelude.{◌≡◌, ℕ, suc, cond, List, [], ◌∷◌, ◌++◌, map as map_list, Some}
use Rattle.std.specs.Option.{unwrap_or}
use Rattle.std.proofs.Common.{Vec}
use Rattle.std.specs.Ordering.{eq_by_cmp}
use Rattle.std.specs.declared.cmp.Ordering.{Ordering}
use Rattle.std.specs.FinMap.{find}
use denote.Ref.{Bor}

-- what references in a list point to
abbrev pub referents : {X : Type 0} → List (Bor X) → List X
referents rs = map_list (λ r. r.now) rs

-- the entries of a table of lists of references
abbrev pub shown : {K X Z : Type 0} → List (K × Vec (Bor X) Z) → List (K × List X)
shown es = map_list (λ e. (e.0, referents e.1.items)) es

-- what keys and lists of references in a list point to
abbrev pub referred : {K X : Type 0} → List (Bor K × Bor (List (Bor X))) → List (K × List X)
referred es = map_list (λ e. (e.0.now, referents e.1.now)) es

-- the list under a key, or none
abbrev pub under : {K X : Type 0} → (K → K → Ordering) → K → List (K × List X) → List X
under R k es = unwrap_or (find R k es) []

-- with one more element at the end of the list under a key
abbrev pub IsPutUnder : {K X : Type 0} → (K → K → Ordering) → K → X → List (K × List X) → List (K × List X) → Type 0
IsPutUnder {K} R k x es fs = (q : K) → find R q fs ≡ cond (eq_by_cmp R q k) (Some (under R k es ++ x ∷ [])) (find R q es)

-- how many elements at the front have a key
abbrev pub front : {K X : Type 0} → (K → K → Ordering) → (X → K) → K → List X → ℕ
front R key k [] = 0
front R key k (x ∷ xs) = cond (eq_by_cmp R k (key x)) (suc (front R key k xs)) 0
