-- Each client identifier has a home.
use Rattle.std.proofs.Common.{◌≡◌, ℕ, ◌<◌, ◌≤◌, ◌%◌, zero, suc, arith, Bool, true, false, List, [], ◌∷◌, ◌++◌, length, take, drop, Option, Some, None, inl, inr, refl, sym, ap, subst, ◌∙◌, append_assoc, nat_cmp}
use Rattle.std.specs.Prelude.{◌⊎◌, sum, codes, decimal, slice_index}
use Rattle.std.specs.Cmp.Lexicographic.{slice_cmp}
use Rattle.std.specs.FinMap.{FinMap}
use Rattle.std.specs.FinMap as map
use Rattle.std.specs.Str.{all_ascii_digits}
use Rattle.std.proofs.Math.Seq.{take-append_seam, drop-append_seam}
use Rattle.std.proofs.lemmas.Bool.{cases_order}
use Rattle.std.proofs.lemmas.List.{take-append-drop}
use Rattle.home_table.specs.Homes.{IsAutomatic, IsHome, IsWholeNumber}
use Rattle.home_table.specs.Table.{Table}

abbrev Decided : Type 0 → Type 0
Decided X = X ⊎ (X → ⊥)

number_or : (m n : ℕ) → Decided (m ≡ n)
number_or m n = elim (cases_order m n) as (λ _. Decided (m ≡ n)) [
  | inl same ↦ inl same
  | inr (inl less) ↦ inr (λ e. omega arith)
  | inr (inr more) ↦ inr (λ e. omega arith)
]

text_or : (x y : List ℕ) → Decided (x ≡ y)
text_or [] [] = inl refl
text_or [] (y ∷ ys) = inr (λ e. cc)
text_or (x ∷ xs) [] = inr (λ e. cc)
text_or (x ∷ xs) (y ∷ ys) = both (number_or x y) (text_or xs ys) where
  both : Decided (x ≡ y) → Decided (xs ≡ ys) → Decided (x ∷ xs ≡ y ∷ ys)
  both (inl e) (inl f) = inl (λ i. e i ∷ f i)
  both (inl e) (inr not_so) = inr (λ h. not_so (let g : xs ≡ ys = cc in g))
  both (inr not_so) f = inr (λ h. not_so (let g : x ≡ y = cc in g))

test_or : (b : Bool) → Decided (b ≡ true)
test_or true = inl refl
test_or false = inr (λ e. cc)

-- ---- identifiers that nodes give by themselves
whole_or : (text : List ℕ) → Decided (length text ≡ 0) → Decided (all_ascii_digits text ≡ true) → Decided (slice_index text 0 ≡ 48) → Decided (length text ≡ 1) → Decided (IsWholeNumber text)
whole_or text (inl none) digits zero_first one = inr (λ w. let s = w.some in omega arith)
whole_or text (inr some) (inr not_so) zero_first one = inr (λ w. not_so w.digits)
whole_or text (inr some) (inl all) (inr not_so) one = inl (record { some = omega arith; digits = all; plain = λ e. absurd (not_so e) })
whole_or text (inr some) (inl all) (inl is) (inl one) = inl (record { some = omega arith; digits = all; plain = λ e. one })
whole_or text (inr some) (inl all) (inl is) (inr more) = inr (λ w. more (w.plain is))

abbrev front_of : ℕ → List ℕ
front_of node = codes "auto-" ++ (decimal node ++ codes "-")

spelled : (node : ℕ) (number : List ℕ) → codes "auto-" ++ (decimal node ++ (codes "-" ++ number)) ≡ front_of node ++ number
spelled node number = ap (λ l. codes "auto-" ++ l) (sym (append_assoc (decimal node) (codes "-") number)) ∙ sym (append_assoc (codes "auto-") (decimal node ++ codes "-") number)

automatic_by : (identifier : List ℕ) (node : ℕ) → Decided (take (length (front_of node)) identifier ≡ front_of node) → Decided (IsWholeNumber (drop (length (front_of node)) identifier)) → Decided (IsAutomatic identifier node)
automatic_by identifier node (inr not_so) whole = inr (λ a. not_so (ap (take (length (front_of node))) (a.2 ∙ spelled node a.0) ∙ take-append_seam (front_of node) a.0))
automatic_by identifier node (inl is) (inr not_so) = inr (λ a. not_so (subst IsWholeNumber (sym (ap (drop (length (front_of node))) (a.2 ∙ spelled node a.0) ∙ drop-append_seam (front_of node) a.0)) a.1))
automatic_by identifier node (inl is) (inl whole) =
    let number = drop (length (front_of node)) identifier in
    inl (number, whole, sym (take-append-drop (length (front_of node)) identifier) ∙ ap (λ l. l ++ number) is ∙ sym (spelled node number))

automatic_or : (identifier : List ℕ) (node : ℕ) → Decided (IsAutomatic identifier node)
automatic_or identifier node =
    let number = drop (length (front_of node)) identifier in
    automatic_by identifier node (text_or (take (length (front_of node)) identifier) (front_of node))
    (whole_or number (number_or (length number) 0) (test_or (all_ascii_digits number)) (number_or (slice_index number 0) 48) (number_or (length number) 1))

module _ (identifier : List ℕ) where
  abbrev IsGiven : ℕ → Type 0
  IsGiven n = (node : ℕ) × (node < n) × IsAutomatic identifier node

  abbrev IsFree : ℕ → Type 0
  IsFree n = (node : ℕ) → node < n → ¬ (IsAutomatic identifier node)

  one_more : (n : ℕ) → IsGiven n ⊎ IsFree n → Decided (IsAutomatic identifier n) → IsGiven (suc n) ⊎ IsFree (suc n)
  one_more n (inl given) own = inl (given.0, let b = given.1 in omega arith, given.2)
  one_more n (inr free) (inl own) = inl (n, omega arith, own)
  one_more n (inr free) (inr not_so) = inr (λ node below. elim (cases_order node n) as (λ _. ¬ (IsAutomatic identifier node)) [
    | inl same ↦ subst (λ k. ¬ (IsAutomatic identifier k)) (sym same) not_so
    | inr (inl less) ↦ free node less
    | inr (inr more) ↦ absurd (omega arith)
  ])

  given_or : (n : ℕ) → IsGiven n ⊎ IsFree n
  given_or zero = inr (λ node below. absurd (omega arith))
  given_or (suc n) = one_more n (given_or n) (automatic_or identifier n)

-- ---- the longest prefix
module _ (homes : FinMap (slice_cmp nat_cmp) ℕ) (identifier : List ℕ) where
  abbrev at : ℕ → Option ℕ
  at k = map.get homes (take k identifier)

  abbrev HasLongest : ℕ → Type 0
  HasLongest n = (node : ℕ) × (k : ℕ) × (k ≤ n) × (at k ≡ Some node) × ((j : ℕ) → k < j → j ≤ n → at j ≡ None)

  abbrev HasNone : ℕ → Type 0
  HasNone n = (k : ℕ) → k ≤ n → at k ≡ None

  within_more : (n j : ℕ) → j ≤ suc n → (j ≤ n → at j ≡ None) → at (suc n) ≡ None → at j ≡ None
  within_more n j within before none = elim (cases_order j (suc n)) as (λ _. at j ≡ None) [
    | inl same ↦ ap at same ∙ none
    | inr (inl less) ↦ before (omega arith)
    | inr (inr more) ↦ absurd (omega arith)
  ]

  first_or : (found : Option ℕ) → at 0 ≡ found → HasLongest 0 ⊎ HasNone 0
  first_or (Some node) is = inl (node, 0, omega arith, is, λ j above within. absurd (omega arith))
  first_or None is = inr (λ k within. ap at (let e : k ≡ 0 = omega arith in e) ∙ is)

  longer_or : (n : ℕ) → HasLongest n ⊎ HasNone n → (found : Option ℕ) → at (suc n) ≡ found → HasLongest (suc n) ⊎ HasNone (suc n)
  longer_or n before (Some node) is = inl (node, suc n, omega arith, is, λ j above within. absurd (omega arith))
  longer_or n (inl h) None is = inl (h.0, h.1, let b = h.2 in omega arith, h.3, λ j above within. within_more n j within (h.4 j above) is)
  longer_or n (inr none) None is = inr (λ k within. within_more n k within (none k) is)

  longest_or : (n : ℕ) → HasLongest n ⊎ HasNone n
  longest_or zero = first_or (at 0) refl
  longest_or (suc n) = longer_or n (longest_or n) (at (suc n)) refl

-- ---- each has a home
module _ (t : Table) (identifier : List ℕ) where
  home_by : IsGiven identifier (length t.nodes) ⊎ IsFree identifier (length t.nodes) → HasLongest t.homes identifier (length identifier) ⊎ HasNone t.homes identifier (length identifier)
      → (node : ℕ) × IsHome t identifier node
  home_by (inl given) longest = (given.0, inl (given.1, given.2))
  home_by (inr free) (inl h) = (h.0, inr (inl (free, (h.1, h.2, h.3, h.4))))
  home_by (inr free) (inr none) = (sum identifier % length t.nodes, inr (inr (free, none, refl)))

  pub home_stands : (node : ℕ) × IsHome t identifier node
  home_stands = home_by (given_or identifier (length t.nodes)) (longest_or t.homes identifier (length identifier))
