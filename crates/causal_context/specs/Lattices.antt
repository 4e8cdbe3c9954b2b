-- Join-semilattices: what a join and its order obey, and what there is to show of them.
-- (Almeida, Shoker, Baquero, "Delta State Replicated Data Types", on state-based CRDTs)
use Rattle.std.specs.Prelude.{◌≡◌}
use Rattle.std.proofs.Common.{ap, sym, ◌∙◌}

-- The join is the least value above both, in the order below.
pub record LatticeLaws {M : Type 0} (join : M → M → M) (Below : M → M → Type 0) : Type 0 where
  pub idempotent : (x : M) → join x x ≡ x
  pub commutative : (x y : M) → join x y ≡ join y x
  pub associative : (x y z : M) → join (join x y) z ≡ join x (join y z)
  pub above_left : (x y : M) → Below x (join x y)
  pub above_right : (x y : M) → Below y (join x y)
  pub least : (x y z : M) → Below x z → Below y z → Below (join x y) z
  pub reflexive : (x : M) → Below x x
  pub antisymmetric : (x y : M) → Below x y → Below y x → x ≡ y
  pub transitive : (x y z : M) → Below x y → Below y z → Below x z

-- What is to be shown of a join and an order: the rest follows.
pub record JoinLaws {M : Type 0} (join : M → M → M) (Below : M → M → Type 0) : Type 0 where
  pub idempotent : (x : M) → join x x ≡ x
  pub commutative : (x y : M) → join x y ≡ join y x
  pub associative : (x y z : M) → join (join x y) z ≡ join x (join y z)
  pub to_order : (x y : M) → join x y ≡ y → Below x y
  pub from_order : (x y : M) → Below x y → join x y ≡ y

-- from these, the join is the least value above both, and the order is one
pub lattice_from_join : {M : Type 0} {join : M → M → M} {Below : M → M → Type 0} → JoinLaws join Below → LatticeLaws join Below
lattice_from_join {join = join} l = record {
  idempotent = l.idempotent;
  commutative = l.commutative;
  associative = l.associative;
  above_left = λ x y. l.to_order x (join x y) (sym (l.associative x x y) ∙ ap (λ m. join m y) (l.idempotent x));
  above_right = λ x y. l.to_order y (join x y) (l.commutative y (join x y) ∙ l.associative x y y ∙ ap (join x) (l.idempotent y));
  least = λ x y z p q. l.to_order (join x y) z (l.associative x y z ∙ ap (join x) (l.from_order y z q) ∙ l.from_order x z p);
  reflexive = λ x. l.to_order x x (l.idempotent x);
  antisymmetric = λ x y p q. sym (l.from_order y x q) ∙ l.commutative y x ∙ l.from_order x y p;
  transitive = λ x y z p q. l.to_order x z (ap (join x) (sym (l.from_order y z q)) ∙ sym (l.associative x y z) ∙ ap (λ m. join m z) (l.from_order x y p) ∙ l.from_order y z q);
}
