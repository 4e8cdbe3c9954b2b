-- Numbers that take all of some bytes.
use Rattle.std.proofs.Common.{◌≡◌, ℕ, ◌<◌, ◌≤◌, ◌^◌, true, List, [], ◌++◌, length, nat_eq, Ok, refl, sym, ap, subst, ◌∙◌, eq-eqb, arith}
use Rattle.std.specs.Prelude.{IsTrue}
use Rattle.std.specs.Int.{w64}
use Rattle.std.proofs.lemmas.Bool.{eqb-true}
use Rattle.mqtt_fields.specs.Field.{IsBytes, IsField, after}
use Rattle.mqtt_fields.specs.Numbers.{number}
use Rattle.mqtt_fields.proofs.Laws.{after_is}
use Rattle.mqtt_fields.proofs.NumberLaws.{number_is, wide64}
use Rattle.bridge_lanes.specs.Rows.{numbers_value}
use Rattle.mqtt_fields.proofs.Whole.{whole_found, whole_same}

pub is_number : (bs : List ℕ) (m : ℕ) (rest : List ℕ) (n : ℕ) → n < 2 ^ 64 → IsBytes bs → (number w64).at bs ≡ Ok (m, rest) → length rest ≡ 0
    → (IsTrue (nat_eq m n) → bs ≡ (number w64).bytes n) × (bs ≡ (number w64).bytes n → IsTrue (nat_eq m n))
is_number bs m rest n small bytes at none = (
  λ tie. (whole_found (number w64) (number_is w64 wide64) bs (m, rest) bytes at none).0 ∙ ap (number w64).bytes (eqb-true m n tie),
  λ is. eq-eqb m n (ap (λ x. x.0) (whole_same (number w64) (number_is w64 wide64) bs (m, rest) at n (is, omega (arith, small)))),
)

pub two_numbers : (bs : List ℕ) (m : ℕ) (mid : List ℕ) (n : ℕ) (rest : List ℕ) → IsBytes bs → (number w64).at bs ≡ Ok (m, mid) → (number w64).at mid ≡ Ok (n, rest) → length rest ≡ 0 → bs ≡ numbers_value m n
two_numbers bs m mid n rest bytes one two none =
    (whole_found (after (number w64) (λ _. number w64)) (after_is (number w64) (λ _. number w64) (number_is w64 wide64) (λ _. number_is w64 wide64)) bs ((m, n), rest) bytes (rw (one, two) refl) none).0
