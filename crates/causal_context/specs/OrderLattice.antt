-- A total order is a lattice by the greater of two, as the stamps of a last-writer-wins register are.
-- (Almeida, Shoker, Baquero, on the composition of lattices)
use Rattle.std.specs.Prelude.{◌≡◌, true, false, if◌then◌else◌, refl}
use Rattle.std.proofs.Common.{ap, sym, ◌∙◌}
use Rattle.std.specs.declared.cmp.Ordering.{Ordering}
use Rattle.std.specs.declared.cmp.Ordering.TheVariants.{Less, Equal, Greater}
use Rattle.std.specs.Ordering.{is_gt, ordering_reverse}
use Rattle.std.specs.Cmp.{IsTotalOrder}
use Rattle.std.specs.FinMap.{IsAntisymmetric}
use Rattle.std.proofs.lemmas.Cmp.{tied_itself, upto}
use Rattle.causal_context.specs.Lattices.{JoinLaws}

-- x is not above y
abbrev pub NotAbove : {X : Type 0} → (X → X → Ordering) → X → X → Type 0
NotAbove R x y = is_gt (R x y) ≡ false

-- the greater of two, the second where they tie
unfoldable pub greater : {X : Type 0} → (X → X → Ordering) → X → X → X
greater R x y = if is_gt (R x y) then x else y

module _ {X : Type 0} {R : X → X → Ordering} (o : IsTotalOrder R) (anti : IsAntisymmetric R) where
  not_both : (r s : Ordering) → r ≡ ordering_reverse s → is_gt r ≡ false → is_gt s ≡ false → r ≡ Equal
  not_both Less Less e p q = cc
  not_both Less Equal e p q = cc
  not_both Less Greater e p q = cc
  not_both Equal s e p q = refl
  not_both Greater s e p q = cc

  pub same_from_order : (x y : X) → NotAbove R x y → NotAbove R y x → x ≡ y
  same_from_order x y p q = anti x y (not_both (R x y) (R y x) (o.antisymm x y) p q)

  pub greater_right : (x y : X) → NotAbove R x y → greater R x y ≡ y
  unfolding greater
  greater_right x y p = rw p

  reversed_not_above : (r s : Ordering) → s ≡ ordering_reverse r → is_gt r ≡ true → is_gt s ≡ false
  reversed_not_above Less s e p = cc
  reversed_not_above Equal s e p = cc
  reversed_not_above Greater s e p = ap is_gt e

  pub greater_left : (x y : X) → NotAbove R y x → greater R x y ≡ x
  unfolding greater
  greater_left x y p = elim (is_gt (R x y)) as (λ b. is_gt (R x y) ≡ b → (if b then x else y) ≡ x) [
    | true ↦ λ e. refl
    | false ↦ λ e. sym (same_from_order x y e p)
  ] refl

  -- either the one or the other is the greater
  pub by_greater : (x y : X) (P : X → Type 0) → (NotAbove R y x → P x) → (NotAbove R x y → P y) → P (greater R x y)
  unfolding greater
  by_greater x y P left right = elim (is_gt (R x y)) as (λ b. is_gt (R x y) ≡ b → P (if b then x else y)) [
    | true ↦ λ e. left (reversed_not_above (R x y) (R y x) (o.antisymm y x) e)
    | false ↦ λ e. right e
  ] refl

  reflexive : (x : X) → NotAbove R x x
  reflexive x = ap is_gt (tied_itself o x)

  greater-assoc : (x y z : X) → greater R (greater R x y) z ≡ greater R x (greater R y z)
  greater-assoc x y z =
      by_greater x y (λ m. greater R m z ≡ greater R x (greater R y z))
      (λ y_x. by_greater y z (λ m. greater R x z ≡ greater R x m)
      (λ z_y. greater_left x z (upto o z y x z_y y_x) ∙ sym (greater_left x y y_x))
      (λ y_z. refl))
      (λ x_y. by_greater y z (λ m. greater R y z ≡ greater R x m)
      (λ z_y. greater_left y z z_y ∙ sym (greater_right x y x_y))
      (λ y_z. greater_right y z y_z ∙ sym (greater_right x z (upto o x y z x_y y_z))))

  to_order : (x y : X) → greater R x y ≡ y → NotAbove R x y
  to_order x y = by_greater x y (λ m. m ≡ y → NotAbove R x y) (λ y_x e. ap (λ w. is_gt (R w y)) e ∙ reflexive y) (λ x_y e. x_y)

  pub order_lattice : JoinLaws (greater R) (NotAbove R)
  order_lattice = record {
    idempotent = λ x. greater_left x x (reflexive x);
    commutative = λ x y. by_greater x y (λ m. m ≡ greater R y x) (λ y_x. sym (greater_right y x y_x)) (λ x_y. sym (greater_left y x x_y));
    associative = greater-assoc;
    to_order = to_order;
    from_order = greater_right;
  }
