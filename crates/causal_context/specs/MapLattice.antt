-- Finite maps whose values are a lattice are a lattice, key by key, where an absent value is the least.
-- (Almeida, Shoker, Baquero, on the composition of lattices)
use Rattle.std.specs.Prelude.{◌≡◌, true, false, cond, List, [], ◌∷◌, ◌++◌, map, Option, Some, None, refl}
use Rattle.std.proofs.Common.{ap, sym, ◌∙◌}
use Rattle.std.specs.declared.cmp.Ordering.{Ordering}
use Rattle.std.specs.Ordering.{eq_by_cmp}
use Rattle.std.specs.Cmp.{IsTotalOrder, Equal-is}
use Rattle.std.specs.FinMap.{FinMap, IsAntisymmetric, get, entries, find, from_entries, get-from_entries, get-entries, get_tied, same_map}
use Rattle.causal_context.specs.Lattices.{JoinLaws}

-- the join, where there are two values
abbrev pub option_join : {X : Type 0} → (X → X → X) → Option X → Option X → Option X
option_join join None y = y
option_join join (Some x) None = Some x
option_join join (Some x) (Some y) = Some (join x y)

-- no value is below any
abbrev pub OptionBelow : {X : Type 0} → (X → X → Type 0) → Option X → Option X → Type 0
OptionBelow Below None y = Unit {0}
OptionBelow Below (Some x) None = ⊥
OptionBelow Below (Some x) (Some y) = Below x y

-- a value over one that may be there
abbrev over : {X : Type 0} → (X → X → X) → Option X → X → X
over join None v = v
over join (Some w) v = join w v

-- the join of two maps, key by key
unfoldable pub merge : {K X : Type 0} {R : K → K → Ordering} → (X → X → X) → FinMap R X → FinMap R X → FinMap R X
merge join s t = from_entries (map (λ e. (e.0, over join (get s e.0) e.1)) (entries t) ++ entries s)

-- key by key
abbrev pub MapBelow : {K X : Type 0} {R : K → K → Ordering} → (X → X → Type 0) → FinMap R X → FinMap R X → Type 0
MapBelow Below s t = (q : _) → OptionBelow Below (get s q) (get t q)

module _ {X : Type 0} {join : X → X → X} {Below : X → X → Type 0} (l : JoinLaws join Below) where
  same : (x : Option X) → option_join join x x ≡ x
  same None = refl
  same (Some x) = ap Some (l.idempotent x)

  swap : (x y : Option X) → option_join join x y ≡ option_join join y x
  swap None None = refl
  swap None (Some y) = refl
  swap (Some x) None = refl
  swap (Some x) (Some y) = ap Some (l.commutative x y)

  group : (x y z : Option X) → option_join join (option_join join x y) z ≡ option_join join x (option_join join y z)
  group None y z = refl
  group (Some x) None z = refl
  group (Some x) (Some y) None = refl
  group (Some x) (Some y) (Some z) = ap Some (l.associative x y z)

  order : (x y : Option X) → option_join join x y ≡ y → OptionBelow Below x y
  order None y e = tt
  order (Some x) None e = cc
  order (Some x) (Some y) e = l.to_order x y (cc)

  by_order : (x y : Option X) → OptionBelow Below x y → option_join join x y ≡ y
  by_order None y b = refl
  by_order (Some x) None b = absurd b
  by_order (Some x) (Some y) b = ap Some (l.from_order x y b)

module _ {K X : Type 0} {R : K → K → Ordering} (o : IsTotalOrder R) (join : X → X → X) where
  find_joined : (s : FinMap R X) (q : K) (es rest : List (K × X)) → find R q rest ≡ get s q
      → find R q (map (λ e. (e.0, over join (get s e.0) e.1)) es ++ rest) ≡ option_join join (get s q) (find R q es)
  find_joined s q [] rest h = h ∙ at_none (get s q)
    where
      at_none : (x : Option X) → x ≡ option_join join x None
      at_none None = refl
      at_none (Some x) = refl
  find_joined s q (e ∷ es) rest h =
      elim (eq_by_cmp R q e.0) as (λ b. eq_by_cmp R q e.0 ≡ b → cond b (Some (over join (get s e.0) e.1)) (find R q (map (λ e. (e.0, over join (get s e.0) e.1)) es ++ rest)) ≡ option_join join (get s q) (cond b (Some e.1) (find R q es))) [
        | true ↦ λ t. ap (λ v. Some (over join v e.1)) (get_tied o s q e.0 ((Equal-is (R q e.0)).0 t)) ∙ at_some (get s q) e.1
        | false ↦ λ t. find_joined s q es rest h
      ] refl
    where
      at_some : (x : Option X) (v : X) → Some (over join x v) ≡ option_join join x (Some v)
      at_some None v = refl
      at_some (Some x) v = refl

  pub get-merge : (s t : FinMap R X) (q : K) → get (merge join s t) q ≡ option_join join (get s q) (get t q)
  unfolding merge
  get-merge s t q =
      get-from_entries o _ q ∙ find_joined s q (entries t) (entries s) (sym (get-entries s q)) ∙ ap (option_join join (get s q)) (sym (get-entries t q))

pub map_lattice : {K X : Type 0} {R : K → K → Ordering} {join : X → X → X} {Below : X → X → Type 0} → IsTotalOrder R → IsAntisymmetric R → JoinLaws join Below → JoinLaws (merge {R = R} join) (MapBelow {R = R} Below)
map_lattice {join = join} o anti l = record {
  idempotent = λ s. same_map o anti _ _ (λ q. get-merge o join s s q ∙ same l _);
  commutative = λ s t. same_map o anti _ _ (λ q. get-merge o join s t q ∙ swap l (get s q) (get t q) ∙ sym (get-merge o join t s q));
  associative = λ s t u. same_map o anti _ _ (λ q. get-merge o join _ u q ∙ ap (λ x. option_join join x (get u q)) (get-merge o join s t q) ∙ group l (get s q) (get t q) (get u q) ∙ ap (option_join join (get s q)) (sym (get-merge o join t u q)) ∙ sym (get-merge o join s _ q));
  to_order = λ s t e q. order l (get s q) (get t q) (sym (get-merge o join s t q) ∙ ap (λ u. get u q) e);
  from_order = λ s t b. same_map o anti _ _ (λ q. get-merge o join s t q ∙ by_order l (get s q) (get t q) (b q));
}
