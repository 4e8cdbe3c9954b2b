-- Facts on the levels of a text.
use Rattle.std.proofs.Common.{◌≡◌, ◌≢◌, ◌<◌, ◌⊎◌, ℕ, suc, Bool, true, false, cond, length, get_or, lit<, Option, Some, None, MatchOption, Bor, List, [], ◌∷◌, ◌++◌, inl, inr, refl, sym, ap, ◌∙◌, arith}
use Rattle.std.proofs.lemmas.Bool.Decides.{nat_tests}
use Rattle.std.proofs.lemmas.Str.Pattern.{IsSplitOnceResult, split_parts}
use Rattle.std.specs.List.{onto_first}
use Rattle.mqtt_topics.specs.Levels.{is_separator, levels}
use Rattle.filter_trie.specs.Search.Seeking.{IsLevel, IsCut}

pub no_separator : (b : ℕ) → b ≢ 47 → is_separator b ≡ false
no_separator b other = grind (arith, nat_tests)

-- the levels of a level, and of one with more after it
pub levels_alone : (c : List ℕ) → IsLevel c → levels c ≡ c ∷ []
levels_alone [] h = refl
levels_alone (b ∷ c) h = ap (λ t. cond t ([] ∷ levels c) (onto_first b (levels c))) (no_separator b h.0) ∙ ap (onto_first b) (levels_alone c h.1)

pub levels_first : (c t : List ℕ) → IsLevel c → levels (c ++ 47 ∷ t) ≡ c ∷ levels t
levels_first [] t h = refl
levels_first (b ∷ c) t h = ap (λ s. cond s ([] ∷ levels (c ++ 47 ∷ t)) (onto_first b (levels (c ++ 47 ∷ t)))) (no_separator b h.0) ∙ ap (onto_first b) (levels_first c t h.1)

onto_some : (b : ℕ) (parts : List (List ℕ)) → onto_first b parts ≡ [] → ⊥
onto_some b [] e = cc
onto_some b (p ∷ parts) e = cc

pub levels_some : (t : List ℕ) → levels t ≡ [] → ⊥
levels_some [] e = cc
levels_some (b ∷ t) e = by (is_separator b) e
  where
    by : (s : Bool) → cond s ([] ∷ levels t) (onto_first b (levels t)) ≡ [] → ⊥
    by true f = cc
    by false f = onto_some b (levels t) f

same_or_not : (b c : ℕ) → (b ≡ c) ⊎ (b ≢ c)
same_or_not b c = grind arith

-- a text is one level, or has a separator after its first
pub cut : (text : List ℕ) → IsLevel text ⊎ ((c : List ℕ) × (t : List ℕ) × (text ≡ c ++ 47 ∷ t) × IsLevel c)
cut [] = inl tt
cut (b ∷ text) = by (same_or_not b 47) (cut text)
  where
    by : (b ≡ 47) ⊎ (b ≢ 47) → IsLevel text ⊎ ((c : List ℕ) × (t : List ℕ) × (text ≡ c ++ 47 ∷ t) × IsLevel c)
        → IsLevel (b ∷ text) ⊎ ((c : List ℕ) × (t : List ℕ) × (b ∷ text ≡ c ++ 47 ∷ t) × IsLevel c)
    by (inl e) rest = inr ([], text, (λ i. e i ∷ text), tt)
    by (inr n) (inl h) = inl (n, h)
    by (inr n) (inr h) = inr (b ∷ h.0, h.1, (λ i. b ∷ h.2 i), (n, h.3))

-- there is one first level
pub one_first : (c d s t : List ℕ) → IsLevel c → IsLevel d → c ++ 47 ∷ s ≡ d ++ 47 ∷ t → (c ≡ d) × (s ≡ t)
one_first [] [] s t h k e = (refl, cc)
one_first [] (y ∷ d) s t h k e = absurd (let f : 47 ≡ y = cc in k.0 (sym f))
one_first (x ∷ c) [] s t h k e = absurd (let f : x ≡ 47 = cc in h.0 f)
one_first (x ∷ c) (y ∷ d) s t h k e =
    let f : x ≡ y = cc in
    let r = one_first c d s t h.1 k.1 (let g : c ++ 47 ∷ s ≡ d ++ 47 ∷ t = cc in g) in
    ((λ i. f i ∷ r.0 i), r.1)

pub not_longer : (c d t : List ℕ) → IsLevel c → c ≡ d ++ 47 ∷ t → ⊥
not_longer [] [] t h e = cc
not_longer [] (y ∷ d) t h e = cc
not_longer (x ∷ c) [] t h e = let f : x ≡ 47 = cc in h.0 f
not_longer (x ∷ c) (y ∷ d) t h e = not_longer c d t h.1 (let g : c ≡ d ++ 47 ∷ t = cc in g)

pub level_from_reads : (text : List ℕ) → ((i : ℕ) → i < length text → get_or text i 0 ≢ 47) → IsLevel text
level_from_reads [] h = tt
level_from_reads (b ∷ text) h = (h 0 (omega arith), level_from_reads text (λ i l. h (suc i) (omega arith)))

-- what `split_once` at `/` gives
pub cut_is : (text : List ℕ) (r : Option (Bor (List ℕ) × Bor (List ℕ))) → IsSplitOnceResult 47 text r
    → MatchOption r (IsCut text text None) (λ x. IsCut text x.0.now (Some x.1))
cut_is text None split = (refl, level_from_reads text (split_parts 47 text None split (lit< tt)))
cut_is text (Some x) split = let h = split_parts 47 text (Some x) split (lit< tt) in (h.0, level_from_reads x.0.now h.1)
