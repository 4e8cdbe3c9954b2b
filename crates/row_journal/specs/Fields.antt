-- How values of a few more types are spelled, beside the fields of packets.
use Rattle.std.specs.Prelude.{ℕ, zero, suc, ◌<◌, ◌^◌, List, [], ◌∷◌, ◌++◌, length, Option, Some, None, Result, Ok, Err, flat_map}
use Rattle.std.specs.Int.{w16}
use Rattle.std.specs.List.{AllByRecursion}
use Rattle.mqtt_fields.specs.declared.fault.FieldFault.{FieldFault}
use Rattle.mqtt_fields.specs.declared.fault.FieldFault.TheVariants.{Malformed}
use Rattle.mqtt_fields.specs.Reading.{◌>>=◌}
use Rattle.mqtt_fields.specs.Field.{Field}
use Rattle.mqtt_fields.specs.Numbers.{number}

-- values of a type that some values of another stand for; the others are Malformed
abbrev pub or_malformed : {B : Type 0} → Option B → Result B FieldFault
or_malformed None = Err Malformed
or_malformed (Some b) = Ok b

abbrev pub coded : {A B : Type 0} → (A → Option B) → (B → A) → Field A → Field B
coded to from f = record {
  at = λ bs. f.at bs >>= λ a. or_malformed (to a.0) >>= λ b. Ok (b, a.1);
  bytes = λ b. f.bytes (from b);
  Fits = λ b. f.Fits (from b);
}

-- a number of values in two bytes, and the values
abbrev pub values_at : {A : Type 0} → Field A → ℕ → List ℕ → Result (List A × List ℕ) FieldFault
values_at f zero bs = Ok ([], bs)
values_at f (suc n) bs = f.at bs >>= λ a. values_at f n a.1 >>= λ more. Ok (a.0 ∷ more.0, more.1)

abbrev pub listed : {A : Type 0} → Field A → Field (List A)
listed f = record {
  at = λ bs. (number w16).at bs >>= λ n. values_at f n.0 n.1;
  bytes = λ xs. (number w16).bytes (length xs) ++ flat_map f.bytes xs;
  Fits = λ xs. (length xs < 2 ^ 16) × AllByRecursion f.Fits xs;
}
