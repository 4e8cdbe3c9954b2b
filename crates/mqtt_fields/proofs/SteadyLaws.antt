-- More bytes behind a field change nothing of what was read: for each way to make a field of others.
use Rattle.std.proofs.Common.{◌≡◌, ℕ, zero, suc, ◌+◌, ◌-◌, ◌*◌, ◌≤◌, Bool, true, false, cond, ltb, eqb, List, [], ◌∷◌, ◌++◌, length, take, drop, Option, Result, Ok, Err, inl, inr, refl, arith}
use Rattle.std.specs.Int.{Width, w8, w16, w32, byte_len, from_be_bytes}
use Rattle.std.proofs.lemmas.Bool.{ltb-false, le-ltb, cases_Bool}
use Rattle.std.proofs.lemmas.List.{length-append, take-append-le, drop-append-le}
use Rattle.mqtt_fields.specs.declared.fault.FieldFault.{FieldFault}
use Rattle.mqtt_fields.specs.declared.fault.FieldFault.TheVariants.{Short, Malformed, Repeated, NotHere, NoMemory}
use Rattle.mqtt_fields.specs.declared.table.Place.{Place}
use Rattle.mqtt_fields.specs.declared.table.ValueKind.{ValueKind}
use Rattle.mqtt_fields.specs.declared.table.ValueKind.TheVariants as kinds
use Rattle.mqtt_fields.specs.declared.value.Property.{Property}
use Rattle.mqtt_fields.specs.declared.value.Value.TheVariants.{Byte, Two, Four, Vbi, Text, Blob, Pair}
use Rattle.mqtt_fields.specs.Reading.{◌>>=◌}
use Rattle.mqtt_fields.specs.Field.{Field, after, tested, seen, variant, IsGrown, IsSteady}
use Rattle.mqtt_fields.specs.Numbers.{run_of, number, group_at, vbi, blob, long, is_text, text, pair}
use Rattle.mqtt_fields.specs.Value.{value, as_byte, as_two, as_four, as_vbi, as_text, as_blob, as_pair}
use Rattle.mqtt_fields.specs.Block.{properties_at, properties}

grown_err : (A : Type 0) (more : List ℕ) (f : FieldFault) → IsGrown {A = A} more (Err f) (Err f)
grown_err A more Short = tt
grown_err A more Malformed = refl
grown_err A more Repeated = refl
grown_err A more NotHere = refl
grown_err A more NoMemory = refl

-- a step after another
grown_bind : {A B : Type 0} (more : List ℕ) (r longer : Result (A × List ℕ) FieldFault) (next : A × List ℕ → Result (B × List ℕ) FieldFault)
    → IsGrown more r longer → ((a : A × List ℕ) → IsGrown more (next a) (next (a.0, a.1 ++ more))) → IsGrown more (r >>= next) (longer >>= next)
grown_bind more (Ok x) longer next g h = rw g (h x)
grown_bind more (Err Short) longer next g h = tt
grown_bind more (Err Malformed) longer next g h = rw g refl
grown_bind more (Err Repeated) longer next g h = rw g refl
grown_bind more (Err NotHere) longer next g h = rw g refl
grown_bind more (Err NoMemory) longer next g h = rw g refl

grown_test : {A : Type 0} (more : List ℕ) (b : Bool) (f : FieldFault) (x : A × List ℕ) → IsGrown more (cond b (Ok x) (Err f)) (cond b (Ok (x.0, x.1 ++ more)) (Err f))
grown_test more true f x = refl
grown_test more false f x = grown_err _ more f

-- a front of so many bytes
front_steady : {A : Type 0} (n : ℕ) (view : List ℕ → A) (bs more : List ℕ)
    → IsGrown more (cond (ltb (length bs) n) (Err Short) (Ok (view (take n bs), drop n bs))) (cond (ltb (length (bs ++ more)) n) (Err Short) (Ok (view (take n (bs ++ more)), drop n (bs ++ more))))
front_steady n view bs more =
    elim (cases_Bool (ltb (length bs) n)) [
      | inl t ↦ rw t tt
      | inr f ↦
          let le : n ≤ length bs = ltb-false (length bs) n f in
          let f' : ltb (length (bs ++ more)) n ≡ false = le-ltb (length (bs ++ more)) n (omega (arith, length-append bs more)) in
          rw (f, f', take-append-le n bs more le, drop-append-le n bs more le) refl
    ]

pub run_steady : (n : ℕ) → IsSteady (run_of n)
run_steady n bs more = front_steady n (λ (xs : List ℕ). xs) bs more

pub number_steady : (w : Width) → IsSteady (number w)
number_steady w bs more = front_steady (byte_len w) (from_be_bytes w) bs more

group_end : (x : ℕ) (a : ℕ × List ℕ) (more : List ℕ) (t : Bool) → IsGrown more (cond t (Err Malformed) (Ok (x - 128 + 128 * a.0, a.1))) (cond t (Err Malformed) (Ok (x - 128 + 128 * a.0, a.1 ++ more)))
group_end x a more true = refl
group_end x a more false = refl

group_step : (x : ℕ) (bs more : List ℕ) (t : Bool) (r longer : Result (ℕ × List ℕ) FieldFault) → IsGrown more r longer
    → IsGrown more (cond t (Ok (x, bs)) (r >>= λ high. cond (eqb high.0 0) (Err Malformed) (Ok (x - 128 + 128 * high.0, high.1))))
    (cond t (Ok (x, bs ++ more)) (longer >>= λ high. cond (eqb high.0 0) (Err Malformed) (Ok (x - 128 + 128 * high.0, high.1))))
group_step x bs more true r longer g = refl
group_step x bs more false r longer g =
    grown_bind more r longer (λ high. cond (eqb high.0 0) (Err Malformed) (Ok (x - 128 + 128 * high.0, high.1))) g (λ a. group_end x a more (eqb a.0 0))

last_group : (x : ℕ) (bs more : List ℕ) (t : Bool) → IsGrown more (cond t (Ok (x, bs)) (Err Malformed)) (cond t (Ok (x, bs ++ more)) (Err Malformed))
last_group x bs more true = refl
last_group x bs more false = refl

groups_steady : (k : ℕ) (bs more : List ℕ) → IsGrown more (group_at k bs) (group_at k (bs ++ more))
groups_steady zero [] more = tt
groups_steady (suc k) [] more = tt
groups_steady zero (x ∷ bs) more = last_group x bs more (ltb x 128)
groups_steady (suc k) (x ∷ bs) more = group_step x bs more (ltb x 128) (group_at k bs) (group_at k (bs ++ more)) (groups_steady k bs more)

pub vbi_steady : IsSteady vbi
vbi_steady bs more = groups_steady 3 bs more

pub after_steady : {A B : Type 0} (f : Field A) (g : A → Field B) → IsSteady f → ((a : A) → IsSteady (g a)) → IsSteady (after f g)
after_steady f g F G bs more =
    grown_bind more (f.at bs) (f.at (bs ++ more)) (λ a. (g a.0).at a.1 >>= λ b. Ok ((a.0, b.0), b.1)) (F bs more)
    (λ a. grown_bind more ((g a.0).at a.1) ((g a.0).at (a.1 ++ more)) (λ b. Ok ((a.0, b.0), b.1)) (G a.0 a.1 more) (λ b. refl))

pub tested_steady : {A : Type 0} (test : A → Bool) (fault : FieldFault) (f : Field A) → IsSteady f → IsSteady (tested test fault f)
tested_steady test fault f F bs more =
    grown_bind more (f.at bs) (f.at (bs ++ more)) (λ a. cond (test a.0) (Ok a) (Err fault)) (F bs more) (λ a. grown_test more (test a.0) fault a)

pub seen_steady : {A B : Type 0} (to : A → B) (from : B → A) (f : Field A) → IsSteady f → IsSteady (seen to from f)
seen_steady to from f F bs more = grown_bind more (f.at bs) (f.at (bs ++ more)) (λ a. Ok (to a.0, a.1)) (F bs more) (λ a. refl)

pub variant_steady : {A B : Type 0} (to : A → B) (from : B → Option A) (f : Field A) → IsSteady f → IsSteady (variant to from f)
variant_steady to from f F bs more = grown_bind more (f.at bs) (f.at (bs ++ more)) (λ a. Ok (to a.0, a.1)) (F bs more) (λ a. refl)

pub blob_steady : IsSteady blob
blob_steady bs more = grown_bind more ((number w16).at bs) ((number w16).at (bs ++ more)) (λ n. (run_of n.0).at n.1) (number_steady w16 bs more) (λ n. run_steady n.0 n.1 more)

pub long_steady : IsSteady long
long_steady bs more = grown_bind more ((number w32).at bs) ((number w32).at (bs ++ more)) (λ n. (run_of n.0).at n.1) (number_steady w32 bs more) (λ n. run_steady n.0 n.1 more)

pub text_steady : IsSteady text
text_steady = tested_steady is_text Malformed blob blob_steady

pub value_steady : (kind : ValueKind) → IsSteady (value kind)
value_steady kinds.Byte = variant_steady Byte as_byte (number w8) (number_steady w8)
value_steady kinds.Two = variant_steady Two as_two (number w16) (number_steady w16)
value_steady kinds.Four = variant_steady Four as_four (number w32) (number_steady w32)
value_steady kinds.Vbi = variant_steady Vbi as_vbi vbi vbi_steady
value_steady kinds.Text = variant_steady Text as_text text text_steady
value_steady kinds.Blob = variant_steady Blob as_blob blob blob_steady
value_steady kinds.Pair = variant_steady (λ x. Pair x.0 x.1) as_pair pair (after_steady text (λ _. text) text_steady (λ _. text_steady))

block_steady : (rest more : List ℕ) (r : Result (List Property) FieldFault) → IsGrown more (r >>= λ ps. Ok (ps, rest)) (r >>= λ ps. Ok (ps, rest ++ more))
block_steady rest more (Ok ps) = refl
block_steady rest more (Err f) = grown_err _ more f

pub properties_steady : (place : Place) → IsSteady (properties place)
unfolding properties
properties_steady place bs more =
    grown_bind more (vbi.at bs) (vbi.at (bs ++ more)) (λ n. (run_of n.0).at n.1 >>= λ block. properties_at place (length block.0) [] block.0 >>= λ ps. Ok (ps, block.1)) (vbi_steady bs more)
    (λ n. grown_bind more ((run_of n.0).at n.1) ((run_of n.0).at (n.1 ++ more)) (λ block. properties_at place (length block.0) [] block.0 >>= λ ps. Ok (ps, block.1)) (run_steady n.0 n.1 more)
    (λ block. block_steady block.1 more (properties_at place (length block.0) [] block.0)))
