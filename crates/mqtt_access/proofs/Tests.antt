-- Tests that are joined.
use Rattle.std.proofs.Common.{◌≡◌, ◌⊎◌, inl, inr, ℕ, Bool, true, false, not, ◌&&◌, ◌||◌, List, refl, sym, ◌∙◌, true≢false}
use Rattle.std.specs.Str.{bytes_eq}
use Rattle.std.proofs.lemmas.Slice.Eq.{bytes_eq-Decides}

pub never : {P : Type 0} → false ≡ true → P
never e = absurd (true≢false (sym e))

pub or_left : (a b : Bool) → a ≡ true → (a || b) ≡ true
or_left true b e = refl
or_left false b e = never e

pub or_right : (a b : Bool) → b ≡ true → (a || b) ≡ true
or_right true b e = refl
or_right false b e = e

pub or_either : (a b : Bool) → (a || b) ≡ true → (a ≡ true) ⊎ (b ≡ true)
or_either true b e = inl refl
or_either false b e = inr e

pub and_first : (a b : Bool) → (a && b) ≡ true → a ≡ true
and_first true b e = refl
and_first false b e = never e

pub and_second : (a b : Bool) → (a && b) ≡ true → b ≡ true
and_second true b e = e
and_second false b e = never e

pub and_both : (a b : Bool) → a ≡ true → b ≡ true → (a && b) ≡ true
and_both true b e f = f
and_both false b e f = never e

pub not_true : (a : Bool) → not a ≡ true → a ≡ true → ⊥
not_true true e f = true≢false (sym e)
not_true false e f = true≢false (sym f)

pub true_not : (a : Bool) → (a ≡ true → ⊥) → not a ≡ true
true_not true fails = absurd (fails refl)
true_not false fails = refl

pub by_test : (b : Bool) (P : Type 0) → (b ≡ true → P) → (b ≡ false → P) → P
by_test true P passed failed = passed refl
by_test false P passed failed = failed refl

pub false_or_true : (b : Bool) → b ≡ false → b ≡ true → ⊥
false_or_true true f t = true≢false f
false_or_true false f t = true≢false (sym t)

pub false_of : (b : Bool) → (b ≡ true → ⊥) → b ≡ false
false_of true fails = absurd (fails refl)
false_of false fails = refl

pub not_false : (b : Bool) → not b ≡ false → b ≡ true
not_false true e = refl
not_false false e = never (sym e)

pub neither : (a b : Bool) → a ≡ false → b ≡ false → (a || b) ≡ false
neither true b e f = never (sym e)
neither false b e f = f

pub first_false : (a b : Bool) → (a || b) ≡ false → a ≡ false
first_false true b e = e
first_false false b e = refl

pub second_false : (a b : Bool) → (a || b) ≡ false → b ≡ false
second_false true b e = never (sym e)
second_false false b e = e

-- a test of equal lists
pub same : (xs ys : List ℕ) → bytes_eq xs ys ≡ true → xs ≡ ys
same xs ys e = (bytes_eq-Decides xs ys).0 e

pub tests_same : (xs ys : List ℕ) → xs ≡ ys → bytes_eq xs ys ≡ true
tests_same xs ys e = (bytes_eq-Decides xs ys).1 e

-- where the first of two tests passes, the second one decides
pub joined : (a b x y : Bool) → a ≡ true → a ≡ x → b ≡ y → not b ≡ (x && not y)
joined a b x y passed first second = rw (sym first ∙ passed, second) refl
