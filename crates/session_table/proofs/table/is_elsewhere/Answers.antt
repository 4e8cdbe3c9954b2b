use Rattle.std.proofs.Common.{◌≡◌, ℕ, Bool, true, false, IsTrue, nat_eq, not, refl, sym, subst}
use Rattle.std.proofs.lemmas.Bool.{eqb-true, eq-eqb}
use Rattle.home_table.specs.Homes.{IsHome}
use Rattle.session_table.proofs.table.is_elsewhere.Goals as goal

apart : (a b : ℕ) → IsTrue (not (nat_eq a b)) → a ≡ b → ⊥
apart a b differs same = by (nat_eq a b) differs (eq-eqb a b same)
  where
    by : (x : Bool) → IsTrue (not x) → IsTrue x → ⊥
    by true x y = cc
    by false x y = cc

else_apart : (a b : ℕ) → (a ≡ b → ⊥) → IsTrue (not (nat_eq a b))
else_apart a b never = by (nat_eq a b) (λ is. never (eqb-true a b is))
  where
    by : (x : Bool) → (IsTrue x → ⊥) → IsTrue (not x)
    by true never = absurd (never refl)
    by false never = refl

pub returns : goal.returns
returns c =
    let t = c.args.homes.now in
    let node = c.args.node in
    let same = c.as_str.ensures.same in (
      λ differs home. apart c.home_of.result node differs (sym (c.home_of.ensures.alone node (subst (λ s. IsHome t s node) (sym same) home))),
      λ away. else_apart c.home_of.result node (λ is. away (subst (λ n. IsHome t c.args.client.now n) is (subst (λ s. IsHome t s c.home_of.result) same c.home_of.ensures.home))),
    )
