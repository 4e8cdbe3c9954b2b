-- A field that takes all of some bytes.
use Rattle.std.proofs.Common.{◌≡◌, ℕ, ◌≤◌, List, [], ◌∷◌, ◌++◌, length, Result, Ok, Err, refl, sym, ap, ◌∙◌, arith}
use Rattle.mqtt_fields.specs.declared.fault.FieldFault.{FieldFault}
use Rattle.mqtt_fields.specs.declared.fault.FieldFault.TheVariants.{Short, Malformed, Repeated, NotHere, NoMemory}
use Rattle.mqtt_fields.specs.Field.{Field, IsBytes, IsField}
use Rattle.mqtt_fields.specs.Reading.{Fails, Finds}
use Rattle.mqtt_fields.proofs.Laws.{ok_is}

append_none : (xs : List ℕ) → xs ++ [] ≡ xs
append_none [] = refl
append_none (x ∷ xs) = ap (λ ys. x ∷ ys) (append_none xs)

no_bytes : (xs : List ℕ) → length xs ≡ 0 → xs ≡ []
no_bytes [] e = refl
no_bytes (x ∷ xs) e = absurd (omega (arith, e))

pub err_ok : {A : Type 0} (e : FieldFault) (a : A) → Err e ≡ Ok a → ⊥
err_ok e a same = cc

module _ {A : Type 0} (f : Field A) (F : IsField f) (bs : List ℕ) where
  abbrev pub IsWhole : A → Type 0
  IsWhole a = (bs ≡ f.bytes a) × f.Fits a

  pub whole_found : (x : A × List ℕ) → IsBytes bs → f.at bs ≡ Ok x → length x.1 ≡ 0 → IsWhole x.0
  whole_found x bytes at none =
      let read = F.takes bs x bytes at in
      (read.0 ∙ ap (λ rest. f.bytes x.0 ++ rest) (no_bytes x.1 none) ∙ append_none (f.bytes x.0), read.1)

  pub whole_only : (a : A) → IsWhole a → f.at bs ≡ Ok (a, [])
  whole_only a is = ap f.at (is.0 ∙ sym (append_none (f.bytes a))) ∙ F.again a [] is.1

  pub whole_same : (x : A × List ℕ) → f.at bs ≡ Ok x → (a : A) → IsWhole a → x ≡ (a, [])
  whole_same x at a is = ok_is x (a, []) (sym at ∙ whole_only a is)

  pub whole_more : (x : A × List ℕ) → f.at bs ≡ Ok x → 1 ≤ length x.1 → (a : A) → IsWhole a → ⊥
  whole_more x at more a is =
      let none : length x.1 ≡ 0 = ap (λ (y : A × List ℕ). length y.1) (whole_same x at a is) in
      omega (arith, more, none)

  pub whole_none : {X : Type 0} (view : X → A) (e : FieldFault) → Fails e (f.at bs) → Finds view IsWhole (Err e)
  whole_none view NoMemory fails = tt
  whole_none view Short fails = λ a is. err_ok Short (a, []) (sym fails ∙ whole_only a is)
  whole_none view Malformed fails = λ a is. err_ok Malformed (a, []) (sym fails ∙ whole_only a is)
  whole_none view Repeated fails = λ a is. err_ok Repeated (a, []) (sym fails ∙ whole_only a is)
  whole_none view NotHere fails = λ a is. err_ok NotHere (a, []) (sym fails ∙ whole_only a is)

  -- where it is known that memory wasn't wanted
  pub whole_not : (e : FieldFault) → (e ≡ NoMemory → ⊥) → Fails e (f.at bs) → (a : A) → IsWhole a → ⊥
  whole_not NoMemory other fails = absurd (other refl)
  whole_not Short other fails = λ a is. err_ok Short (a, []) (sym fails ∙ whole_only a is)
  whole_not Malformed other fails = λ a is. err_ok Malformed (a, []) (sym fails ∙ whole_only a is)
  whole_not Repeated other fails = λ a is. err_ok Repeated (a, []) (sym fails ∙ whole_only a is)
  whole_not NotHere other fails = λ a is. err_ok NotHere (a, []) (sym fails ∙ whole_only a is)

-- values that are spelled alike are the same
pub one_value : {A : Type 0} (f : Field A) → IsField f → (a b : A) → f.Fits a → f.Fits b → f.bytes a ≡ f.bytes b → a ≡ b
one_value f F a b x y e = ap (λ p. p.0) (whole_same f F (f.bytes a) (a, []) (whole_only f F (f.bytes a) a (refl, x)) b (e, y))
