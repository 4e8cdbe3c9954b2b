-- A kind of field of a packet: how it is spelled, and how it is read from the front of a list of bytes.
use Rattle.std.specs.Prelude.{◌≡◌, ◌<◌, ℕ, List, [], ◌++◌, get_or, Result, Ok, Err, Bool, if◌then◌else◌, IsTrue, Option, Some, None, MatchOption}
use Rattle.mqtt_fields.specs.declared.fault.FieldFault.{FieldFault}
use Rattle.mqtt_fields.specs.declared.fault.FieldFault.TheVariants.{Short}
use Rattle.mqtt_fields.specs.Reading.{◌>>=◌}

-- at reads a value and answers it with the bytes after it, or the first fault from the left; bytes is the value's
-- spelling, and Fits says which values have one.
pub record Field (A : Type 0) : Type 1 where
  pub at : List ℕ → Result (A × List ℕ) FieldFault
  pub bytes : A → List ℕ
  pub Fits : A → Type 0

-- one field, and then another that may depend on its value
abbrev pub after : {A B : Type 0} → Field A → (A → Field B) → Field (A × B)
after f g = record {
  at = λ bs. f.at bs >>= λ a. (g a.0).at a.1 >>= λ b. Ok ((a.0, b.0), b.1);
  bytes = λ x. f.bytes x.0 ++ (g x.0).bytes x.1;
  Fits = λ x. f.Fits x.0 × (g x.0).Fits x.1;
}

-- the values that pass a test; another is a fault, found once the value is read
abbrev pub tested : {A : Type 0} → (A → Bool) → FieldFault → Field A → Field A
tested test fault f = record {
  at = λ bs. f.at bs >>= λ a. if test a.0 then Ok a else Err fault;
  bytes = f.bytes;
  Fits = λ a. f.Fits a × IsTrue (test a);
}

-- the same bytes, for values of another type
abbrev pub seen : {A B : Type 0} → (A → B) → (B → A) → Field A → Field B
seen to from f = record {
  at = λ bs. f.at bs >>= λ a. Ok (to a.0, a.1);
  bytes = λ b. f.bytes (from b);
  Fits = λ b. f.Fits (from b);
}

-- the bytes of a value that may be missing
abbrev pub variant_bytes : {A : Type 0} → Field A → Option A → List ℕ
variant_bytes f None = []
variant_bytes f (Some a) = f.bytes a

-- the same bytes, for the values of one variant
abbrev pub variant : {A B : Type 0} → (A → B) → (B → Option A) → Field A → Field B
variant to from f = record {
  at = λ bs. f.at bs >>= λ a. Ok (to a.0, a.1);
  bytes = λ b. variant_bytes f (from b);
  Fits = λ b. MatchOption (from b) ⊥ f.Fits;
}

-- bytes are numbers below 256
abbrev pub IsBytes : List ℕ → Type 0
IsBytes bytes = (i : ℕ) → get_or bytes i 0 < 256

-- What is read is spelled so and has a spelling, and what is spelled so is read again, whatever follows.
pub record IsField {A : Type 0} (f : Field A) : Type 0 where
  pub takes : (bs : List ℕ) (x : A × List ℕ) → IsBytes bs → f.at bs ≡ Ok x → (bs ≡ f.bytes x.0 ++ x.1) × f.Fits x.0
  pub again : (a : A) (rest : List ℕ) → f.Fits a → f.at (f.bytes a ++ rest) ≡ Ok (a, rest)

-- The second is what is read where more bytes follow: the same value, with more after it, or the same fault. Only what
-- was too short may end otherwise.
abbrev pub IsGrown : {A : Type 0} → List ℕ → Result (A × List ℕ) FieldFault → Result (A × List ℕ) FieldFault → Type 0
IsGrown more (Ok x) longer = longer ≡ Ok (x.0, x.1 ++ more)
IsGrown more (Err Short) longer = Unit {0}
IsGrown more (Err f) longer = longer ≡ Err f

-- What has been read stays so, whatever follows: faults are found from the left, as soon as their bytes are there.
abbrev pub IsSteady : {A : Type 0} → Field A → Type 0
IsSteady f = (bs more : List ℕ) → IsGrown more (f.at bs) (f.at (bs ++ more))
