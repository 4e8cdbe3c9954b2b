-- Things under keys: sets of pairs, found by their first part.
use Rattle.std.specs.Prelude.{◌≡◌, ℕ, Bool, true, false, MatchBool, List, map as map_list, flat_map, length, Some}
use Rattle.std.specs.List.{IsDistinct}
use Rattle.std.specs.Set.{is_member}
use Rattle.std.specs.Cmp.Lexicographic.{slice_cmp}
use Rattle.std.specs.Ordering.{nat_cmp, then_cmp, on, eq_by_cmp}
use Rattle.std.specs.declared.cmp.Ordering.{Ordering}
use Rattle.std.specs.FinMap as map
use Rattle.std.specs.FinSet as set
use Rattle.causal_context.specs.Dots.{Dot, dot_cmp}

-- texts by their bytes
abbrev pub text_cmp : List ℕ → List ℕ → Ordering
text_cmp = slice_cmp nat_cmp

-- pairs by their first part, then by their second
abbrev pub pair_cmp : {K L : Type 0} → (K → K → Ordering) → (L → L → Ordering) → K × L → K × L → Ordering
pair_cmp R S = then_cmp (on (λ x. x.0) R) (on (λ x. x.1) S)

-- dots under texts
abbrev pub Filed : Type 0
Filed = set.FinSet (pair_cmp text_cmp dot_cmp)

-- dots under filters, under clients
abbrev pub Places : Type 0
Places = set.FinSet (pair_cmp text_cmp (pair_cmp text_cmp dot_cmp))

-- whether the set is empty
abbrev pub IsEmptiness : {K : Type 0} {R : K → K → Ordering} → set.FinSet R → Bool → Type 0
IsEmptiness {K} s b = MatchBool b ((x : K) → set.contains s x ≡ false) ((x : K) × (set.contains s x ≡ true))

module _ {K L : Type 0} {R : K → K → Ordering} {S : L → L → Ordering} where
  -- the pairs of a map of sets
  unfoldable pub spread : map.FinMap R (set.FinSet S) → set.FinSet (pair_cmp R S)
  spread m = set.from_list (flat_map (λ e. map_list (λ x. (e.0, x)) (set.items e.1)) (map.entries m))

  -- no set of the map is empty
  abbrev pub IsFilled : map.FinMap R (set.FinSet S) → Type 0
  IsFilled m = (k : K) (s : set.FinSet S) → map.get m k ≡ Some s → (x : L) × (set.contains s x ≡ true)

module _ {K L : Type 0} (R : K → K → Ordering) (S : L → L → Ordering) where
  -- something is under the key
  abbrev pub HasUnder : set.FinSet (pair_cmp R S) → K → Type 0
  HasUnder v k = (x : L) × (set.contains v (k, x) ≡ true)

  -- s is what is under the key, and something is
  pub record IsGroup (v : set.FinSet (pair_cmp R S)) (k : K) (s : set.FinSet S) : Type 0 where
    pub same : (x : L) → set.contains s x ≡ set.contains v (k, x)
    pub some : HasUnder v k

  -- under n keys there is something: any list of these keys, without repeats, is that long
  abbrev pub IsKeyCount : set.FinSet (pair_cmp R S) → ℕ → Type 0
  IsKeyCount v n = (ks : List K) → IsDistinct (eq_by_cmp R) ks → ((k : K) → is_member (eq_by_cmp R) ks k ≡ true → HasUnder v k)
      → ((k : K) → HasUnder v k → is_member (eq_by_cmp R) ks k ≡ true) → n ≡ length ks

-- s has the dots under the client and the filter, and there is one
pub record IsPlaced (v : Places) (client filter : List ℕ) (s : set.FinSet dot_cmp) : Type 0 where
  pub same : (d : Dot) → set.contains s d ≡ set.contains v (client, (filter, d))
  pub some : (d : Dot) × (set.contains v (client, (filter, d)) ≡ true)
