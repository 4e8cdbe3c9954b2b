-- What changes leave under keys that others name after them.
use Rattle.std.proofs.Common.{◌≡◌, ℕ, ◌⊎◌, inl, inr, ◌||◌, Bool, true, false, cond, List, [], ◌∷◌, ◌++◌, Option, Some, None, map, refl, sym, ap, ◌∙◌}
use Rattle.std.specs.Ordering.{eq_by_cmp}
use Rattle.std.specs.FinMap.{get, get-insert, get-remove, same_map}
use Rattle.row_store.proofs.Keys.{keys_total, exact_keys, equal_is}
use Rattle.row_store.specs.declared.row.Change.{Change}
use Rattle.row_store.specs.Rows.{Key, Content, key_cmp}
use Rattle.row_store.specs.Leading.{key_in, value_in, left_by, or_else}
use Rattle.row_store.specs.Noted.{Pair, pair_of}
use Rattle.row_journal.specs.Journal.{AreOthers, NamesWithin, after_pair, after_pairs, is_other, names}
use Rattle.row_journal.proofs.JournalLaws.{at_itself}

names_both : (xs ys : List Pair) (q : Key) → names (xs ++ ys) q ≡ (names xs q || names ys q)
names_both [] ys q = refl
names_both (x ∷ xs) ys q = ap (λ b. eq_by_cmp key_cmp q x.0 || b) (names_both xs ys q) ∙ along (eq_by_cmp key_cmp q x.0) (names xs q) (names ys q)
  where
    along : (a b c : Bool) → (a || (b || c)) ≡ ((a || b) || c)
    along true b c = refl
    along false b c = refl

first : (a b : Bool) → a ≡ true → (a || b) ≡ true
first a b is = ap (λ x. x || b) is

second : (a b : Bool) → b ≡ true → (a || b) ≡ true
second true b is = refl
second false b is = is

either : (a b : Bool) → (a || b) ≡ true → (a ≡ true) ⊎ (b ≡ true)
either true b is = inl refl
either false b is = inr is

-- of two lists
pub named_front : (xs ys zs : List Pair) → NamesWithin (xs ++ ys) zs → NamesWithin xs zs
named_front xs ys zs within q is = within q (names_both xs ys q ∙ first (names xs q) (names ys q) is)

pub named_back : (xs ys zs : List Pair) → NamesWithin (xs ++ ys) zs → NamesWithin ys zs
named_back xs ys zs within q is = within q (names_both xs ys q ∙ second (names xs q) (names ys q) is)

pub named_more : (xs ys zs : List Pair) → NamesWithin xs ys → NamesWithin (xs ++ zs) (ys ++ zs)
named_more xs ys zs within q is = names_both ys zs q ∙ elim (either (names xs q) (names zs q) (sym (names_both xs zs q) ∙ is)) [
  | inl here ↦ first (names ys q) (names zs q) (within q here)
  | inr there ↦ second (names ys q) (names zs q) there
]

-- ---- of other kinds

other_named : (ps : List Pair) (q : Key) → AreOthers ps → names ps q ≡ true → is_other q ≡ true
other_named [] q all is = absurd cc
other_named (p ∷ ps) q all is = elim (either (eq_by_cmp key_cmp q p.0) (names ps q) is) [
  | inl tie ↦ ap is_other (exact_keys q p.0 (equal_is (key_cmp q p.0) tie)) ∙ all.0
  | inr more ↦ other_named ps q all.1 more
]

pub plain_named : (ps qs : List Pair) → AreOthers qs → NamesWithin ps qs → AreOthers ps
plain_named [] qs all within = tt
plain_named (p ∷ ps) qs all within = (
  other_named qs p.0 all (within p.0 (first (eq_by_cmp key_cmp p.0 p.0) (names ps p.0) (at_itself p.0))),
  plain_named ps qs all (λ q is. within q (second (eq_by_cmp key_cmp q p.0) (names ps q) is)),
)

-- ---- what others hide

get_pair : (c : Content) (p : Pair) (q : Key) → get (after_pair c p) q ≡ cond (eq_by_cmp key_cmp q p.0) p.1 (get c q)
get_pair c (key, Some v) q = get-insert keys_total c key v q
get_pair c (key, None) q = get-remove keys_total c key q

unnamed : (q : Key) (ps : List Pair) (c : Content) → names ps q ≡ false → get (after_pairs c ps) q ≡ get c q
unnamed q [] c is = refl
unnamed q (p ∷ ps) c is = by (eq_by_cmp key_cmp q p.0) refl is (λ none. unnamed q ps (after_pair c p) none)
  where
    by : (b : Bool) → eq_by_cmp key_cmp q p.0 ≡ b → (b || names ps q) ≡ false → (names ps q ≡ false → get (after_pairs (after_pair c p) ps) q ≡ get (after_pair c p) q)
        → get (after_pairs (after_pair c p) ps) q ≡ get c q
    by true tie none more = absurd cc
    by false other none more = more none ∙ get_pair c p q ∙ ap (λ b. cond b p.1 (get c q)) other

agree : (q : Key) (ps : List Pair) (c d : Content) → (get c q ≡ get d q) ⊎ (names ps q ≡ true) → get (after_pairs c ps) q ≡ get (after_pairs d ps) q
agree q [] c d (inl same) = same
agree q [] c d (inr named) = absurd cc
agree q (p ∷ ps) c d h = agree q ps (after_pair c p) (after_pair d p) (by (eq_by_cmp key_cmp q p.0) refl h)
  where
    by : (b : Bool) → eq_by_cmp key_cmp q p.0 ≡ b → (get c q ≡ get d q) ⊎ ((eq_by_cmp key_cmp q p.0 || names ps q) ≡ true)
        → (get (after_pair c p) q ≡ get (after_pair d p) q) ⊎ (names ps q ≡ true)
    by true tie k = inl (get_pair c p q ∙ ap (λ b. cond b p.1 (get c q)) tie ∙ sym (get_pair d p q ∙ ap (λ b. cond b p.1 (get d q)) tie))
    by false other (inl same) = inl (get_pair c p q ∙ ap (λ b. cond b p.1 (get c q)) other ∙ same ∙ sym (get_pair d p q ∙ ap (λ b. cond b p.1 (get d q)) other))
    by false other (inr named) = inr (sym (ap (λ b. b || names ps q) other) ∙ named)

-- changes under keys that the later ones name make no difference
pub hides : (c : Content) (ps qs : List Pair) → NamesWithin ps qs → after_pairs (after_pairs c ps) qs ≡ after_pairs c qs
hides c ps qs within = same_map keys_total exact_keys (after_pairs (after_pairs c ps) qs) (after_pairs c qs)
    (λ q. agree q qs (after_pairs c ps) c (by q (names ps q) refl))
  where
    by : (q : Key) (b : Bool) → names ps q ≡ b → (get (after_pairs c ps) q ≡ get c q) ⊎ (names qs q ≡ true)
    by q true is = inr (within q is)
    by q false none = inl (unnamed q ps c none)

-- ---- changes

abbrev is_left : Option (Option (List ℕ)) → Bool
is_left None = false
is_left (Some v) = true

named_by : (xs : List Change) (q : Key) → names (map pair_of xs) q ≡ is_left (left_by xs q)
named_by [] q = refl
named_by (x ∷ xs) q = ap (λ b. eq_by_cmp key_cmp q (key_in x) || b) (named_by xs q) ∙ by (eq_by_cmp key_cmp q (key_in x)) (left_by xs q)
  where
    by : (b : Bool) (o : Option (Option (List ℕ))) → (b || is_left o) ≡ is_left (or_else o (cond b (Some (value_in x)) None))
    by true None = refl
    by true (Some v) = refl
    by false None = refl
    by false (Some v) = refl

pub left_named : (xs ys : List Change) → ((q : Key) → (left_by xs q ≡ left_by ys q) ⊎ (left_by xs q ≡ None)) → NamesWithin (map pair_of xs) (map pair_of ys)
left_named xs ys each q is = elim (each q) [
  | inl same ↦ named_by ys q ∙ ap is_left (sym same) ∙ sym (named_by xs q) ∙ is
  | inr none ↦ absurd (let z : false ≡ true = sym (named_by xs q ∙ ap is_left none) ∙ is in cc)
]
