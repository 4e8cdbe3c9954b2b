-- Texts that MQTT can carry.
use Rattle.std.proofs.Common.{◌≡◌, ◌⊎◌, inl, inr, ℕ, zero, suc, ◌<◌, ◌≤◌, ◌^◌, Bool, true, false, not, ◌&&◌, List, [], ◌∷◌, length, refl, sym, ap, arith}
use Rattle.std.specs.Prelude.{◌↔◌, IsErrOf, Result, Ok, Err, nat_lt, slice_index_or, ◌==◌, if◌then◌else◌}
use Rattle.std.specs.List.{Contains, list_all}
use Rattle.std.specs.Str.{is_utf8}
use Rattle.std.proofs.lemmas.Bool.Decides.{nat_tests}
use Rattle.mqtt_fields.specs.Numbers.{IsText}
use Rattle.mqtt_fields.specs.declared.fault.FieldFault.{FieldFault}
use Rattle.mqtt_fields.specs.declared.fault.FieldFault.TheVariants.{Malformed}
use Rattle.mqtt_access.proofs.Tests.{and_both, and_second, never}
use Rattle.door_users.specs.declared.fault.LineFlaw.{LineFlaw}
use Rattle.door_users.specs.Accounts.{carried, is_carried}

below : (a b : ℕ) → a < b → nat_lt a b ≡ true
below a b h = grind (arith, nat_tests)

not_below : (a b : ℕ) → b ≤ a → nat_lt a b ≡ false
not_below a b h = grind (arith, nat_tests)

second_no : (a b : Bool) → b ≡ false → (a && b) ≡ false
second_no true b e = e
second_no false b e = refl

first_no : (a b : Bool) → a ≡ false → (a && b) ≡ false
first_no true b e = never (sym e)
first_no false b e = refl

has_zero : (xs : List ℕ) (k : ℕ) → k < length xs → slice_index_or xs k 0 ≡ 0 → list_all (λ b. not (b == 0)) xs ≡ false
has_zero [] k inside e = absurd (omega (arith, inside))
has_zero (x ∷ xs) zero inside e = ap (λ b. not (b == 0) && list_all (λ b. not (b == 0)) xs) e
has_zero (x ∷ xs) (suc k) inside e = second_no (not (x == 0)) (list_all (λ b. not (b == 0)) xs) (has_zero xs k (omega (arith, inside)) e)

carried_text : (text : List ℕ) → IsText text → is_carried text ≡ true
carried_text text fits = and_both (nat_lt (length text) (2 ^ 16)) _ (below (length text) (2 ^ 16) fits.0) (and_second (is_utf8 text) (list_all (λ b. not (b == 0)) text) fits.1)

uncarried_text : (text : List ℕ) → (2 ^ 16 ≤ length text) ⊎ Contains text 0 → is_carried text ≡ false
uncarried_text text (inl long) = first_no (nat_lt (length text) (2 ^ 16)) _ (not_below (length text) (2 ^ 16) long)
uncarried_text text (inr zero_in) = second_no (nat_lt (length text) (2 ^ 16)) _ (has_zero text zero_in.0 zero_in.1 zero_in.2)

kept_by : (flaw : LineFlaw) (text : List ℕ) (b : Bool) → b ≡ true → (if b then Ok text else Err flaw) ≡ Ok text
kept_by flaw text true e = refl
kept_by flaw text false e = never e

refused_by : (flaw : LineFlaw) (text : List ℕ) (b : Bool) → b ≡ false → (if b then Ok text else Err flaw) ≡ Err flaw
refused_by flaw text true e = never (sym e)
refused_by flaw text false e = refl

-- a text that MQTT can carry is given
pub is_text : (flaw : LineFlaw) (text t : List ℕ) → IsText text → t ≡ text → carried flaw text ≡ Ok t
is_text flaw text t fits same = rw same (kept_by flaw text (is_carried text) (carried_text text fits))

same_err : {T : Type 0} (f g : FieldFault) → f ≡ g → ◌≡◌ {A = Result T FieldFault} (Err f) (Err g)
same_err f g e = rw e refl

-- any other one has that flaw
pub no_text : {T : Type 0} (flaw : LineFlaw) (text : List ℕ) (fault : FieldFault) → IsErrOf {T = T} (Err fault) Malformed ↔ ((2 ^ 16 ≤ length text) ⊎ Contains text 0) → fault ≡ Malformed → carried flaw text ≡ Err flaw
no_text {T = T} flaw text fault bad is = refused_by flaw text (is_carried text) (uncarried_text text (bad.0 (same_err fault Malformed is)))
