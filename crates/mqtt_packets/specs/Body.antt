-- What all of some bytes spell.
use Rattle.std.specs.Prelude.{◌≡◌, ℕ, zero, suc, ◌<◌, ◌⊎◌, ◌==◌, List, [], ◌∷◌, ◌++◌, length, Result, Ok, Err, Bool, true, false, if◌then◌else◌, IsTrue, flat_map}
use Rattle.std.specs.List.{AllByRecursion}
use Rattle.mqtt_fields.specs.Reading.{◌>>=◌}
use Rattle.mqtt_fields.specs.Field.{Field}
use Rattle.mqtt_packets.specs.declared.fault.PacketFault.{PacketFault}
use Rattle.mqtt_packets.specs.declared.fault.PacketFault.TheVariants.{Malformed}
use Rattle.mqtt_packets.specs.Reading.{field_at}

-- Spells is the grammar; of reads from left to right, and answers the first fault; bytes is the shortest spelling, and
-- Fits says which values have one.
pub record Body (A : Type 0) : Type 1 where
  pub Spells : List ℕ → A → Type 0
  pub of : List ℕ → Result A PacketFault
  pub bytes : A → List ℕ
  pub Fits : A → Type 0

-- the bytes themselves
abbrev pub payload : Body (List ℕ)
payload = record { Spells = λ bs x. bs ≡ x; of = λ bs. Ok bs; bytes = λ xs. xs; Fits = λ xs. Unit {0} }

-- one field and no more
abbrev pub only : {A : Type 0} → Field A → Body A
only f = record {
  Spells = λ bs a. (bs ≡ f.bytes a) × f.Fits a;
  of = λ bs. field_at f bs >>= λ a. if length a.1 == 0 then Ok a.0 else Err Malformed;
  bytes = f.bytes;
  Fits = f.Fits;
}

-- a field, and then what may depend on it
abbrev pub then_ : {A B : Type 0} → Field A → (A → Body B) → Body (A × B)
then_ f g = record {
  Spells = λ bs x. (more : List ℕ) × (bs ≡ f.bytes x.0 ++ more) × f.Fits x.0 × (g x.0).Spells more x.1;
  of = λ bs. field_at f bs >>= λ a. (g a.0).of a.1 >>= λ b. Ok (a.0, b);
  bytes = λ x. f.bytes x.0 ++ (g x.0).bytes x.1;
  Fits = λ x. f.Fits x.0 × (g x.0).Fits x.1;
}

-- where a test of what stands before holds; else a fault, before anything more is read
abbrev pub given : {A : Type 0} → Bool → PacketFault → Body A → Body A
given b fault f = record {
  Spells = λ bs a. IsTrue b × f.Spells bs a;
  of = λ bs. if b then f.of bs else Err fault;
  bytes = f.bytes;
  Fits = λ a. IsTrue b × f.Fits a;
}

-- no bytes at all stand for a value too
abbrev pub or_none_of : {A : Type 0} → A → Body A → List ℕ → Result A PacketFault
or_none_of a f [] = Ok a
or_none_of a f (b ∷ bs) = f.of (b ∷ bs)

abbrev pub or_none : {A : Type 0} → A → (A → Bool) → Body A → Body A
or_none a is_a f = record {
  Spells = λ bs x. ((bs ≡ []) × (x ≡ a)) ⊎ ((0 < length bs) × f.Spells bs x);
  of = or_none_of a f;
  bytes = λ x. if is_a x then [] else f.bytes x;
  Fits = f.Fits;
}

-- a field where a test says so, else a value without bytes
abbrev pub where_ : {A B : Type 0} → Bool → A → Field A → Body B → Body (A × B)
where_ true a f g = then_ f (λ _. g)
where_ false a f g = record {
  Spells = λ bs x. (x.0 ≡ a) × g.Spells bs x.1;
  of = λ bs. g.of bs >>= λ y. Ok (a, y);
  bytes = λ x. g.bytes x.1;
  Fits = λ x. (x.0 ≡ a) × g.Fits x.1;
}

-- at most k more fields, after these ones, in all of the bytes
unfoldable pub many_at : {A : Type 0} → Field A → ℕ → List A → List ℕ → Result (List A) PacketFault
many_at f k before [] = Ok before
many_at f zero before (b ∷ bs) = Err Malformed
many_at f (suc k) before (b ∷ bs) = field_at f (b ∷ bs) >>= λ a. many_at f k (before ++ a.0 ∷ []) a.1

-- one field after another, as long as there are bytes
abbrev pub many : {A : Type 0} → Field A → Body (List A)
many f = record {
  Spells = λ bs xs. (bs ≡ flat_map f.bytes xs) × AllByRecursion f.Fits xs;
  of = λ bs. many_at f (length bs) [] bs;
  bytes = flat_map f.bytes;
  Fits = AllByRecursion f.Fits;
}

-- the values that pass a test; another is a fault, found when all is read
abbrev pub valid : {A : Type 0} → (A → Bool) → PacketFault → Body A → Body A
valid test fault f = record {
  Spells = λ bs a. f.Spells bs a × IsTrue (test a);
  of = λ bs. f.of bs >>= λ a. if test a then Ok a else Err fault;
  bytes = f.bytes;
  Fits = λ a. f.Fits a × IsTrue (test a);
}

-- the same bytes, for values of another type
abbrev pub as_ : {A B : Type 0} → (A → B) → (B → A) → Body A → Body B
as_ {A} to from f = record {
  Spells = λ bs b. (a : A) × (b ≡ to a) × f.Spells bs a;
  of = λ bs. f.of bs >>= λ a. Ok (to a);
  bytes = λ b. f.bytes (from b);
  Fits = λ b. f.Fits (from b) × (to (from b) ≡ b);
}
