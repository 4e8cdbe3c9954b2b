-- Lists of rows and changes.
use Rattle.std.specs.Prelude.{if◌then◌else◌}
use Rattle.std.proofs.Common.{◌≡◌, Bool, true, false, ℕ, zero, suc, ◌+◌, ◌-◌, ◌<◌, ◌≤◌, None, List, [], ◌∷◌, ◌++◌, map, length, take, drop, get_or, append-nil, append_assoc, add-one, refl, sym, ap, ◌∙◌, arith}
use Rattle.std.proofs.Math.Seq.{drop-cons, drop-nil}
use Rattle.bridge_frames.specs.declared.forward.Forward.{Forward}
use Rattle.bridge_lanes.specs.Rows.{message_key, message_row, message_rows}
use Rattle.bridge_lanes.specs.Changes.{removals}

pub mapped_last : {A B : Type 0} (f : A → B) (xs : List A) (x : A) → map f (xs ++ x ∷ []) ≡ map f xs ++ f x ∷ []
mapped_last f [] x = refl
mapped_last f (y ∷ xs) x = ap (λ ys. f y ∷ ys) (mapped_last f xs x)

pub mapped_both : {A B : Type 0} (f : A → B) (xs ys : List A) → map f (xs ++ ys) ≡ map f xs ++ map f ys
mapped_both f [] ys = refl
mapped_both f (x ∷ xs) ys = ap (λ zs. f x ∷ zs) (mapped_both f xs ys)

pub none_after : {A : Type 0} (xs : List A) (i : ℕ) → length xs ≤ i → drop i xs ≡ []
none_after [] i over = drop-nil i
none_after (x ∷ xs) zero over = absurd (omega (arith, over))
none_after (x ∷ xs) (suc i) over = none_after xs i (omega (arith, over))

pub next_after : {A : Type 0} (xs : List A) (i : ℕ) (x : A) → i < length xs → x ≡ get_or xs i x → drop i xs ≡ x ∷ drop (i + 1) xs
next_after xs i x inside is = drop-cons xs i x inside ∙ λ k. sym is k ∷ drop (sym (add-one i) k) xs

-- ---- what is there and what is still to come

pub one_pushed : {A B : Type 0} (f : A → B) (old new : List A) (x : A) (b : B) (left rest all : List B) → new ≡ old ++ x ∷ [] → f x ≡ b → left ≡ b ∷ rest → map f old ++ left ≡ all → map f new ++ rest ≡ all
one_pushed f old new x b left rest all pushed is next so =
    ap (λ xs. map f xs ++ rest) pushed ∙ ap (λ ys. ys ++ rest) (mapped_last f old x) ∙ append_assoc (map f old) (f x ∷ []) rest ∙ ap (λ y. map f old ++ y ∷ rest) is ∙ ap (λ ys. map f old ++ ys) (sym next) ∙ so

pub all_pushed : {A B : Type 0} (f : A → B) (xs : List A) (left all : List B) → left ≡ [] → map f xs ++ left ≡ all → map f xs ≡ all
all_pushed f xs left all none so = sym (append-nil (map f xs)) ∙ ap (λ ys. map f xs ++ ys) (sym none) ∙ so

abbrev first_or : {A : Type 0} → A → List A → A
first_or d [] = d
first_or d (x ∷ xs) = x

abbrev rest_of : {A : Type 0} → List A → List A
rest_of [] = []
rest_of (x ∷ xs) = xs

-- what begins with others still does with more behind
begins_more : {A : Type 0} (old now more : List A) → take (length old) now ≡ old → take (length old) (now ++ more) ≡ old
begins_more [] now more begins = refl
begins_more (x ∷ old) [] more begins = absurd (cc)
begins_more (x ∷ old) (y ∷ now) more begins =
    let first : y ≡ x = ap (first_or x) begins in
    let rest : take (length old) now ≡ old = ap rest_of begins in
    let later : take (length old) (now ++ more) ≡ old = begins_more old now more rest in
    λ i. first i ∷ later i

pub still_begins : {A : Type 0} (old now new more : List A) → take (length old) now ≡ old → new ≡ now ++ more → take (length old) new ≡ old
still_begins old now new more begins is = ap (take (length old)) is ∙ begins_more old now more begins

-- ---- messages and removals one by one

pub next_message : (peer base i : ℕ) (ms : List Forward) (m : Forward) → i < length ms → m ≡ get_or ms i m
    → message_rows peer (suc (base + i)) (drop i ms) ≡ message_row peer (base + i + 1) m ∷ message_rows peer (suc (base + (i + 1))) (drop (i + 1) ms)
next_message peer base i ms m inside is =
    let one : suc (base + i) ≡ base + i + 1 = omega arith in
    let two : suc (suc (base + i)) ≡ suc (base + (i + 1)) = omega arith in
    ap (message_rows peer (suc (base + i))) (next_after ms i m inside is) ∙ λ k. message_row peer (one k) m ∷ message_rows peer (two k) (drop (i + 1) ms)

pub next_removal : (peer base i count : ℕ) → i < count → removals peer (suc (base + i)) (count - i) ≡ (message_key peer (base + i + 1), None) ∷ removals peer (suc (base + (i + 1))) (count - (i + 1))
next_removal peer base i count inside =
    let more : count - i ≡ suc (count - (i + 1)) = omega (arith, inside) in
    let one : suc (base + i) ≡ base + i + 1 = omega arith in
    let two : suc (suc (base + i)) ≡ suc (base + (i + 1)) = omega arith in
    ap (removals peer (suc (base + i))) more ∙ λ k. (message_key peer (one k), None) ∷ removals peer (two k) (count - (i + 1))

pub no_removal : (peer base i count : ℕ) → count ≤ i → removals peer (suc (base + i)) (count - i) ≡ []
no_removal peer base i count over = (let none : count - i ≡ 0 = omega (arith, over) in ap (removals peer (suc (base + i))) none)

pub first_removal : (peer base count : ℕ) → removals peer (suc (base + 0)) (count - 0) ≡ removals peer (suc base) count
first_removal peer base count = (let one : suc (base + 0) ≡ suc base = omega arith in let all : count - 0 ≡ count = omega arith in λ k. removals peer (one k) (all k))

-- ---- one more, unless there is none to be
pub one_if : {A B : Type 0} (f : A → B) (old new : List A) (x : A) (b : B) (none same : Bool) → same ≡ none → same ≡ false → new ≡ old ++ x ∷ [] → f x ≡ b → map f new ≡ map f old ++ (if none then [] else b ∷ [])
one_if f old new x b none same is other pushed of = ap (map f) pushed ∙ mapped_last f old x ∙ ap (λ y. map f old ++ y ∷ []) of ∙ ap (λ z. map f old ++ (if z then [] else b ∷ [])) (sym other ∙ is)
