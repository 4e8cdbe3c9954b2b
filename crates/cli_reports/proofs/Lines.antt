-- The lines of a balancer's text, one after another.
use Rattle.std.proofs.Common.{◌≡◌, ◌∙◌, ◌||◌, ◌++◌, ◌+◌, ◌-◌, ℕ, suc, Bool, List, [], ◌∷◌, map, refl, sym, ap, subst, arith}
use Rattle.std.specs.List.{filter, list_any}
use Rattle.std.proofs.lemmas.List.{append_assoc}
use Rattle.home_table.specs.Table.{Table}
use Rattle.cli_reports.specs.Balancer.{has_length, home_line, lines_of, ordered_for}

pub any-map : {A B : Type 0} (f : A → B) (test : B → Bool) (xs : List A) → list_any test (map f xs) ≡ list_any (λ x. test (f x)) xs
any-map f test [] = refl
any-map f test (x ∷ xs) = ap (λ b. test (f x) || b) (any-map f test xs)

lines_of-append : {A : Type 0} (line : A → List ℕ) (xs ys : List A) → lines_of line (xs ++ ys) ≡ lines_of line xs ++ lines_of line ys
lines_of-append line [] ys = refl
lines_of-append line (x ∷ xs) ys = ap (λ rest. line x ++ rest) (lines_of-append line xs ys) ∙ sym (append_assoc (line x) (lines_of line xs) (lines_of line ys))

one_more : (n : ℕ) → suc n ≡ n + 1
one_more n = omega arith

-- the homes of one more length
pub ordered_more : (t : Table) (homes : List (List ℕ × ℕ)) (n : ℕ) (text before after : List ℕ) → before ≡ text ++ lines_of (home_line t) (ordered_for n homes)
    → after ≡ before ++ lines_of (home_line t) (filter (has_length (256 - n)) homes) → after ≡ text ++ lines_of (home_line t) (ordered_for (n + 1) homes)
ordered_more t homes n text before after so_far more =
    let here = lines_of (home_line t) (filter (has_length (256 - n)) homes) in
    subst (λ k. after ≡ text ++ lines_of (home_line t) (ordered_for k homes)) (one_more n)
    (more ∙ ap (λ b. b ++ here) so_far ∙ append_assoc text (lines_of (home_line t) (ordered_for n homes)) here
    ∙ ap (λ rest. text ++ rest) (sym (lines_of-append (home_line t) (ordered_for n homes) (filter (has_length (256 - n)) homes))))
