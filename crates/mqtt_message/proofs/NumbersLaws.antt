-- Numbers read one after another.
use Rattle.std.proofs.Common.{◌≡◌, ℕ, suc, List, [], ◌∷◌, ◌++◌, Result, Ok, Err, refl, sym, ◌∙◌, append_assoc}
use Rattle.mqtt_fields.specs.declared.fault.FieldFault.{FieldFault}
use Rattle.mqtt_fields.specs.declared.fault.FieldFault.TheVariants.{Short, Malformed, Repeated, NotHere, NoMemory}
use Rattle.mqtt_fields.specs.Reading.{◌>>=◌, Fails}
use Rattle.mqtt_fields.specs.Field.{Field}
use Rattle.mqtt_message.specs.Spelling.{values_at}

-- what is read, after what was read before
abbrev pub onto : {A : Type 0} → List A → List A × List ℕ → Result (List A × List ℕ) FieldFault
onto before more = Ok (before ++ more.0, more.1)

pub onto_none : {A : Type 0} (r : Result (List A × List ℕ) FieldFault) → (r >>= λ more. onto [] more) ≡ r
onto_none (Ok x) = refl
onto_none (Err f) = refl

onto_push : {A : Type 0} (before : List A) (a : A) (r : Result (List A × List ℕ) FieldFault) → ((r >>= λ more. Ok (a ∷ more.0, more.1)) >>= λ more. onto before more) ≡ (r >>= λ more. onto (before ++ a ∷ []) more)
onto_push before a (Ok x) = rw (append_assoc before (a ∷ []) x.0) refl
onto_push before a (Err f) = refl

pub onto_more : {A : Type 0} (f : Field A) (before : List A) (k : ℕ) (rest : List ℕ) (x : A × List ℕ) → f.at rest ≡ Ok x → (values_at f (suc k) rest >>= λ more. onto before more) ≡ (values_at f k x.1 >>= λ more. onto (before ++ x.0 ∷ []) more)
onto_more f before k rest x e = rw e (onto_push before x.0 (values_at f k x.1))

pub onto_stops : {A : Type 0} (f : Field A) (before : List A) (k : ℕ) (rest : List ℕ) (fault : FieldFault) (total : Result (List A × List ℕ) FieldFault)
    → Fails fault (f.at rest) → (values_at f (suc k) rest >>= λ more. onto before more) ≡ total → Fails fault total
onto_stops f before k rest Short total stops e = sym e ∙ rw stops refl
onto_stops f before k rest Malformed total stops e = sym e ∙ rw stops refl
onto_stops f before k rest Repeated total stops e = sym e ∙ rw stops refl
onto_stops f before k rest NotHere total stops e = sym e ∙ rw stops refl
onto_stops f before k rest NoMemory total stops e = tt
