-- A field that is read is the field that was spelled, and what is spelled is read again: for each way to make
-- a field of others.
use Rattle.std.proofs.Common.{◌≡◌, ℕ, suc, ◌+◌, ◌-◌, ◌≤◌, Bool, true, false, cond, List, [], ◌∷◌, ◌++◌, length, drop, Option, Some, None, Result, Ok, Err, refl, sym, ap, subst, ◌∙◌, append_assoc, arith}
use Rattle.std.specs.Prelude.{MatchOption}
use Rattle.std.proofs.lemmas.List.{length-append, drop_at}
use Rattle.mqtt_fields.specs.declared.fault.FieldFault.{FieldFault}
use Rattle.mqtt_fields.specs.Reading.{◌>>=◌}
use Rattle.mqtt_fields.specs.Field.{Field, after, tested, seen, variant, variant_bytes}
pub use Rattle.mqtt_fields.specs.Field.{IsBytes, IsField}

pub IsBytes-rest : (xs rest : List ℕ) → IsBytes (xs ++ rest) → IsBytes rest
IsBytes-rest [] rest h = h
IsBytes-rest (x ∷ xs) rest h = IsBytes-rest xs rest (λ i. h (suc i))

pub IsBytes-after : (bs xs rest : List ℕ) → IsBytes bs → bs ≡ xs ++ rest → IsBytes rest
IsBytes-after bs xs rest h e = IsBytes-rest xs rest (subst IsBytes e h)

-- the value of a step that did not fail
pub bind_ok : {A B E : Type 0} (r : Result A E) (f : A → Result B E) (y : B) → (r >>= f) ≡ Ok y → (x : A) × (r ≡ Ok x) × (f x ≡ Ok y)
bind_ok (Ok x) f y e = (x, refl, e)
bind_ok (Err d) f y e = absurd cc

-- a test that did not fail
pub guard_ok : {A E : Type 0} (b : Bool) (d : E) (x y : A) → cond b (Err d) (Ok x) ≡ Ok y → (b ≡ false) × (x ≡ y)
guard_ok true d x y e = absurd cc
guard_ok false d x y e = (refl, cc)

pub guard_passed : {A E : Type 0} (b : Bool) (d : E) (x y : A) → cond b (Ok x) (Err d) ≡ Ok y → (b ≡ true) × (x ≡ y)
guard_passed true d x y e = (refl, cc)
guard_passed false d x y e = absurd cc

abbrev done : {A E : Type 0} → A → Result A E
done x = Ok x

pub ok_is : {A E : Type 0} (x y : A) → done {E = E} x ≡ done y → x ≡ y
ok_is x y e = cc

pub after_is : {A B : Type 0} (f : Field A) (g : A → Field B) → IsField f → ((a : A) → IsField (g a)) → IsField (after f g)
after_is {A} {B} f g F G = record {
  takes = λ bs x fits e.
      let a = bind_ok (f.at bs) (λ a. (g a.0).at a.1 >>= λ b. Ok ((a.0, b.0), b.1)) x e in
      let b = bind_ok ((g a.0.0).at a.0.1) (λ b. Ok ((a.0.0, b.0), b.1)) x a.2 in
      let s = F.takes bs a.0 fits a.1 in
      let t = (G a.0.0).takes a.0.1 b.0 (IsBytes-after bs (f.bytes a.0.0) a.0.1 fits s.0) b.1 in
      let made : (A × B) × List ℕ = ((a.0.0, b.0.0), b.0.1) in
      let whole : bs ≡ (f.bytes a.0.0 ++ (g a.0.0).bytes b.0.0) ++ b.0.1 = s.0 ∙ ap (λ (r : List ℕ). f.bytes a.0.0 ++ r) t.0 ∙ sym (append_assoc (f.bytes a.0.0) ((g a.0.0).bytes b.0.0) b.0.1) in
      subst (λ (y : (A × B) × List ℕ). (bs ≡ (after f g).bytes y.0 ++ y.1) × (after f g).Fits y.0) (ok_is made x b.2) (whole, (s.1, t.1));
  again = λ x rest fits.
      let one = F.again x.0 ((g x.0).bytes x.1 ++ rest) fits.0 in
      let two = (G x.0).again x.1 rest fits.1 in
      ap (after f g).at (append_assoc (f.bytes x.0) ((g x.0).bytes x.1) rest) ∙ rw (one, two) refl;
}

pub tested_is : {A : Type 0} (test : A → Bool) (fault : FieldFault) (f : Field A) → IsField f → IsField (tested test fault f)
tested_is {A} test fault f F = record {
  takes = λ bs x fits e.
      let a = bind_ok (f.at bs) (λ a. cond (test a.0) (Ok a) (Err fault)) x e in
      let g = guard_passed (test a.0.0) fault a.0 x a.2 in
      let s = F.takes bs a.0 fits a.1 in
      subst (λ (y : A × List ℕ). (bs ≡ f.bytes y.0 ++ y.1) × (tested test fault f).Fits y.0) g.1 (s.0, (s.1, g.0));
  again = λ x rest fits. let e : test x ≡ true = fits.1 in rw (F.again x rest fits.0, e) refl;
}

pub seen_is : {A B : Type 0} (to : A → B) (from : B → A) (f : Field A) → ((a : A) → from (to a) ≡ a) → ((b : B) → to (from b) ≡ b) → IsField f → IsField (seen to from f)
seen_is {A} {B} to from f back forth F = record {
  takes = λ bs x fits e.
      let a = bind_ok (f.at bs) (λ a. Ok (to a.0, a.1)) x e in
      let s = F.takes bs a.0 fits a.1 in
      let made : B × List ℕ = (to a.0.0, a.0.1) in
      subst (λ (y : B × List ℕ). (bs ≡ f.bytes (from y.0) ++ y.1) × f.Fits (from y.0)) (ok_is made x a.2) (rw (back a.0.0) s);
  again = λ b rest fits. rw (F.again (from b) rest fits, forth b) refl;
}

-- what is left is the end of the input, at the number of bytes that were used
pub used : {A : Type 0} (f : Field A) → IsField f → (bs : List ℕ) (x : A × List ℕ) → IsBytes bs → f.at bs ≡ Ok x → (length x.1 ≤ length bs) × (drop (length bs - length x.1) bs ≡ x.1)
used f F bs x fits e =
    let s = F.takes bs x fits e in
    let len : length bs ≡ length (f.bytes x.0) + length x.1 = ap length s.0 ∙ length-append (f.bytes x.0) x.1 in
    (omega arith, ap (λ (ys : List ℕ). drop (length bs - length x.1) ys) s.0 ∙ drop_at (f.bytes x.0) x.1 (length bs - length x.1) (omega arith))

abbrev variant_ok : {A B : Type 0} → (A → B) → A × List ℕ → Result (B × List ℕ) FieldFault
variant_ok to a = Ok (to a.0, a.1)

variant_again : {A B : Type 0} (to : A → B) (f : Field A) → IsField f → (b : B) (o : Option A) (rest : List ℕ) → ((a : A) → o ≡ Some a → to a ≡ b) → MatchOption o ⊥ f.Fits → (f.at (variant_bytes f o ++ rest) >>= λ a. variant_ok to a) ≡ Ok (b, rest)
variant_again to f F b None rest forth fits = absurd fits
variant_again to f F b (Some a) rest forth fits = rw (F.again a rest fits, forth a refl) refl

pub variant_is : {A B : Type 0} (to : A → B) (from : B → Option A) (f : Field A) → ((a : A) → from (to a) ≡ Some a) → ((b : B) (a : A) → from b ≡ Some a → to a ≡ b) → IsField f → IsField (variant to from f)
variant_is {A} {B} to from f back forth F = record {
  takes = λ bs x fits e.
      let a = bind_ok (f.at bs) (λ a. Ok (to a.0, a.1)) x e in
      let s = F.takes bs a.0 fits a.1 in
      let made : B × List ℕ = (to a.0.0, a.0.1) in
      subst (λ (y : B × List ℕ). (bs ≡ variant_bytes f (from y.0) ++ y.1) × MatchOption (from y.0) ⊥ f.Fits) (ok_is made x a.2) (rw (back a.0.0) s);
  again = λ b rest fits. variant_again to f F b (from b) rest (forth b) fits;
}
