-- What is read is spelled so, and what is spelled so is read again, for the ways to spell a value of this crate.
use Rattle.std.proofs.Common.{◌≡◌, ℕ, zero, suc, ◌<◌, ◌^◌, List, [], ◌∷◌, ◌++◌, length, Option, Some, None, Ok, refl, sym, ap, subst, ◌∙◌, append_assoc, arith}
use Rattle.std.specs.Prelude.{flat_map}
use Rattle.std.specs.Int.{w8, w16, w32}
use Rattle.std.specs.List.{AllByRecursion}
use Rattle.mqtt_fields.specs.Reading.{◌>>=◌}
use Rattle.mqtt_fields.specs.Field.{Field, IsBytes, IsField}
use Rattle.mqtt_fields.specs.Numbers.{number, long}
use Rattle.mqtt_fields.proofs.Laws.{IsBytes-after, after_is, bind_ok, ok_is}
use Rattle.mqtt_fields.proofs.NumberLaws.{long_is, number_is, wide8, wide16, wide32}
use Rattle.row_journal.specs.Fields.{or_malformed, coded, values_at, listed}
use Rattle.row_journal.specs.Spelling.{Value, ending, value, value_at}
use Rattle.row_journal.specs.Spelling.Value.{Removed, Whole, Ended}

coded_ok : {B : Type 0} (o : Option B) (rest : List ℕ) (x : B × List ℕ) → (or_malformed o >>= λ b. Ok (b, rest)) ≡ Ok x → (o ≡ Some x.0) × (rest ≡ x.1)
coded_ok None rest x e = absurd cc
coded_ok (Some b) rest x e = (cc, cc)

pub coded_is : {A B : Type 0} (to : A → Option B) (from : B → A) (f : Field A) → ((a : A) (b : B) → to a ≡ Some b → from b ≡ a) → ((b : B) → to (from b) ≡ Some b) → IsField f → IsField (coded to from f)
coded_is {A} {B} to from f back forth F = record {
  takes = λ bs x bytes e.
      let a = bind_ok (f.at bs) (λ a. or_malformed (to a.0) >>= λ b. Ok (b, a.1)) x e in
      let s = F.takes bs a.0 bytes a.1 in
      let made = coded_ok (to a.0.0) a.0.1 x a.2 in
      let With : A → Type 0 = λ y. (bs ≡ f.bytes y ++ a.0.1) × f.Fits y in
      let Then : List ℕ → Type 0 = λ rest. (bs ≡ f.bytes (from x.0) ++ rest) × f.Fits (from x.0) in
      subst Then made.1 (subst With (sym (back a.0.0 x.0 made.0)) s);
  again = λ b rest fits. rw (F.again (from b) rest fits, forth b) refl;
}

byte_is : IsField (number w8)
byte_is = number_is w8 wide8

ending_is : IsField ending
ending_is = after_is long (λ _. number w32) long_is (λ _. number_is w32 wide32)

record IsSpelledValue (bs : List ℕ) (x : Value × List ℕ) : Type 0 where
  spelled : bs ≡ value.bytes x.0 ++ x.1
  fits : value.Fits x.0

value_takes : (bs : List ℕ) (n : ℕ) (rest : List ℕ) (x : Value × List ℕ) → bs ≡ (number w8).bytes n ++ rest → IsBytes rest → value_at n rest ≡ Ok x → IsSpelledValue bs x
value_takes bs zero rest x front bytes e =
    let made : Value × List ℕ = (Removed, rest) in
    subst (λ (y : Value × List ℕ). IsSpelledValue bs y) (ok_is made x e) (record { spelled = front; fits = tt })
value_takes bs (suc zero) rest x front bytes e =
    let a = bind_ok (long.at rest) (λ v. Ok (Whole v.0, v.1)) x e in
    let s = long_is.takes rest a.0 bytes a.1 in
    let made : Value × List ℕ = (Whole a.0.0, a.0.1) in
    let whole : bs ≡ ((number w8).bytes 1 ++ long.bytes a.0.0) ++ a.0.1 = front ∙ ap (λ (r : List ℕ). (number w8).bytes 1 ++ r) s.0 ∙ sym (append_assoc ((number w8).bytes 1) (long.bytes a.0.0) a.0.1) in
    subst (λ (y : Value × List ℕ). IsSpelledValue bs y) (ok_is made x a.2) (record { spelled = whole; fits = s.1 })
value_takes bs (suc (suc zero)) rest x front bytes e =
    let a = bind_ok (ending.at rest) (λ v. Ok (Ended v.0.0 v.0.1, v.1)) x e in
    let s = ending_is.takes rest a.0 bytes a.1 in
    let made : Value × List ℕ = (Ended a.0.0.0 a.0.0.1, a.0.1) in
    let whole : bs ≡ ((number w8).bytes 2 ++ ending.bytes a.0.0) ++ a.0.1 = front ∙ ap (λ (r : List ℕ). (number w8).bytes 2 ++ r) s.0 ∙ sym (append_assoc ((number w8).bytes 2) (ending.bytes a.0.0) a.0.1) in
    subst (λ (y : Value × List ℕ). IsSpelledValue bs y) (ok_is made x a.2) (record { spelled = whole; fits = s.1 })
value_takes bs (suc (suc (suc n))) rest x front bytes e = absurd cc

value_again : (v : Value) (rest : List ℕ) → value.Fits v → value.at (value.bytes v ++ rest) ≡ Ok (v, rest)
value_again Removed rest fits = rw (byte_is.again 0 rest (omega arith)) refl
value_again (Whole v) rest fits =
    ap (λ (bs : List ℕ). value.at bs) (append_assoc ((number w8).bytes 1) (long.bytes v) rest) ∙ rw (byte_is.again 1 (long.bytes v ++ rest) (omega arith), long_is.again v rest fits) refl
value_again (Ended own n) rest fits =
    ap (λ (bs : List ℕ). value.at bs) (append_assoc ((number w8).bytes 2) (ending.bytes (own, n)) rest) ∙ rw (byte_is.again 2 (ending.bytes (own, n) ++ rest) (omega arith), ending_is.again (own, n) rest fits) refl

pub value_is : IsField value
value_is = record {
  takes = λ bs x bytes e.
      let n = bind_ok ((number w8).at bs) (λ n. value_at n.0 n.1) x e in
      let s = byte_is.takes bs n.0 bytes n.1 in
      let v = value_takes bs n.0.0 n.0.1 x s.0 (IsBytes-after bs ((number w8).bytes n.0.0) n.0.1 bytes s.0) n.2 in
      (v.spelled, v.fits);
  again = value_again;
}

pub record AreValues {A : Type 0} (f : Field A) (n : ℕ) (bs : List ℕ) (x : List A × List ℕ) : Type 0 where
  pub spelled : bs ≡ flat_map f.bytes x.0 ++ x.1
  pub each : AllByRecursion f.Fits x.0
  pub count : length x.0 ≡ n

pub values_takes : {A : Type 0} (f : Field A) → IsField f → (n : ℕ) (bs : List ℕ) (x : List A × List ℕ) → IsBytes bs → values_at f n bs ≡ Ok x → AreValues f n bs x
values_takes {A} f F zero bs x bytes e =
    let made : List A × List ℕ = ([], bs) in
    subst (λ (y : List A × List ℕ). AreValues f 0 bs y) (ok_is made x e) (record { spelled = refl; each = tt; count = refl })
values_takes {A} f F (suc n) bs x bytes e =
    let a = bind_ok (f.at bs) (λ a. values_at f n a.1 >>= λ more. Ok (a.0 ∷ more.0, more.1)) x e in
    let m = bind_ok (values_at f n a.0.1) (λ more. Ok (a.0.0 ∷ more.0, more.1)) x a.2 in
    let s = F.takes bs a.0 bytes a.1 in
    let t = values_takes f F n a.0.1 m.0 (IsBytes-after bs (f.bytes a.0.0) a.0.1 bytes s.0) m.1 in
    let made : List A × List ℕ = (a.0.0 ∷ m.0.0, m.0.1) in
    let whole : bs ≡ (f.bytes a.0.0 ++ flat_map f.bytes m.0.0) ++ m.0.1 = s.0 ∙ ap (λ (r : List ℕ). f.bytes a.0.0 ++ r) t.spelled ∙ sym (append_assoc (f.bytes a.0.0) (flat_map f.bytes m.0.0) m.0.1) in
    subst (λ (y : List A × List ℕ). AreValues f (suc n) bs y) (ok_is made x m.2) (record { spelled = whole; each = (s.1, t.each); count = omega (arith, t.count) })

values_again : {A : Type 0} (f : Field A) → IsField f → (xs : List A) (rest : List ℕ) → AllByRecursion f.Fits xs → values_at f (length xs) (flat_map f.bytes xs ++ rest) ≡ Ok (xs, rest)
values_again f F [] rest each = refl
values_again f F (x ∷ xs) rest each = rw (append_assoc (f.bytes x) (flat_map f.bytes xs) rest, F.again x (flat_map f.bytes xs ++ rest) each.0, values_again f F xs rest each.1) refl

pub listed_is : {A : Type 0} (f : Field A) → IsField f → IsField (listed f)
listed_is {A} f F = record {
  takes = λ bs x bytes e.
      let n = bind_ok ((number w16).at bs) (λ n. values_at f n.0 n.1) x e in
      let s = (number_is w16 wide16).takes bs n.0 bytes n.1 in
      let t = values_takes f F n.0.0 n.0.1 x (IsBytes-after bs ((number w16).bytes n.0.0) n.0.1 bytes s.0) n.2 in
      let Front : ℕ → Type 0 = λ k. (bs ≡ (number w16).bytes k ++ n.0.1) × (k < 2 ^ 16) in
      let front = subst Front (sym t.count) s in
      (front.0 ∙ ap (λ (r : List ℕ). (number w16).bytes (length x.0) ++ r) t.spelled ∙ sym (append_assoc ((number w16).bytes (length x.0)) (flat_map f.bytes x.0) x.1), (front.1, t.each));
  again = λ xs rest fits.
      rw (append_assoc ((number w16).bytes (length xs)) (flat_map f.bytes xs) rest, (number_is w16 wide16).again (length xs) (flat_map f.bytes xs ++ rest) fits.0) (values_again f F xs rest fits.1);
}
