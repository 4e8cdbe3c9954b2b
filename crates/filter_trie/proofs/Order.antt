-- Facts on the order of bytes.
use Rattle.std.proofs.Common.{◌≡◌, ◌≢◌, ◌<◌, ◌+◌, ◌↔◌, ◌⊎◌, ℕ, Bool, true, false, IsTrue, not, List, [], ◌∷◌, ◌++◌, inl, inr, refl, sym, ap, ◌∙◌, arith, nat_cmp, Ordering, Less, Equal, Greater}
use Rattle.std.specs.Ordering.{MatchOrdering, ordering_then, is_lt}
use Rattle.std.specs.Prelude.{nat_eq}
use Rattle.std.specs.Cmp.Lexicographic.{slice_cmp, pointwise, bytes_decides}
use Rattle.std.proofs.lemmas.Cmp.{ranked}
use Rattle.filter_trie.specs.Search.Seeking.{IsBefore}

pub asymmetric : (a b : List ℕ) → IsBefore a b → IsBefore b a → ⊥
asymmetric [] [] p q = p
asymmetric [] (y ∷ ys) p q = q
asymmetric (x ∷ xs) [] p q = p
asymmetric (x ∷ xs) (y ∷ ys) (inl p) (inl q) = omega arith
asymmetric (x ∷ xs) (y ∷ ys) (inl p) (inr q) = let e = q.0 in omega arith
asymmetric (x ∷ xs) (y ∷ ys) (inr p) (inl q) = let e = p.0 in omega arith
asymmetric (x ∷ xs) (y ∷ ys) (inr p) (inr q) = asymmetric xs ys p.1 q.1

pub after_front : (q a b : List ℕ) → IsBefore a b → IsBefore (q ++ a) (q ++ b)
after_front [] a b h = h
after_front (x ∷ q) a b h = inr (refl, after_front q a b h)

pub without_front : (q a b : List ℕ) → IsBefore (q ++ a) (q ++ b) → IsBefore a b
without_front [] a b h = h
without_front (x ∷ q) a b (inl h) = absurd (omega arith)
without_front (x ∷ q) a b (inr h) = without_front q a b h.1

-- a text isn't before its own front
pub not_below_front : (c t : List ℕ) → IsBefore (c ++ t) c → ⊥
not_below_front [] [] h = h
not_below_front [] (x ∷ t) h = h
not_below_front (x ∷ c) t (inl h) = omega arith
not_below_front (x ∷ c) t (inr h) = not_below_front c t h.1

-- what stands between p and a text that begins with p begins with p
pub between : (p key t : List ℕ) → (IsBefore key p → ⊥) → IsBefore key (p ++ t) → (rest : List ℕ) × (key ≡ p ++ rest) × IsBefore rest t
between [] key t low high = (key, refl, high)
between (x ∷ p) [] t low high = absurd (low tt)
between (x ∷ p) (y ∷ key) t low (inl high) = absurd (low (inl high))
between (x ∷ p) (y ∷ key) t low (inr high) =
    let r = between p key t (λ h. low (inr (high.0, h))) high.1 in
    (r.0, (λ i. high.0 i ∷ r.1 i), r.2)

-- after a text that begins with p, a text that doesn't is after all that do
pub above : (p rest text : List ℕ) → IsBefore (p ++ rest) text → ((t : List ℕ) → text ≡ p ++ t → ⊥) → (t : List ℕ) → IsBefore (p ++ t) text
above [] rest text h without t = absurd (without text refl)
above (x ∷ p) rest [] h without t = h
above (x ∷ p) rest (y ∷ text) (inl h) without t = inl h
above (x ∷ p) rest (y ∷ text) (inr h) without t = inr (h.0, above p rest text h.1 (λ u e. without u (λ i. sym h.0 i ∷ e i)) t)

same_or_not : (x y : ℕ) → (x ≡ y) ⊎ (x ≢ y)
same_or_not x y = grind arith

-- a text begins with p or it doesn't
pub begins : (p text : List ℕ) → ((t : List ℕ) × (text ≡ p ++ t)) ⊎ ((t : List ℕ) → text ≡ p ++ t → ⊥)
begins [] text = inl (text, refl)
begins (x ∷ p) [] = inr (λ t e. let f : [] ≡ x ∷ (p ++ t) = e in cc)
begins (x ∷ p) (y ∷ text) = by (same_or_not y x) (begins p text)
  where
    by : (y ≡ x) ⊎ (y ≢ x) → ((t : List ℕ) × (text ≡ p ++ t)) ⊎ ((t : List ℕ) → text ≡ p ++ t → ⊥)
        → ((t : List ℕ) × (y ∷ text ≡ (x ∷ p) ++ t)) ⊎ ((t : List ℕ) → y ∷ text ≡ (x ∷ p) ++ t → ⊥)
    by (inl e) (inl h) = inl (h.0, λ i. e i ∷ h.1 i)
    by (inl e) (inr n) = inr (λ t f. n t (let g : y ∷ text ≡ x ∷ (p ++ t) = f in let k : text ≡ p ++ t = cc in k))
    by (inr n) h = inr (λ t f. n (let g : y ∷ text ≡ x ∷ (p ++ t) = f in let k : y ≡ x = cc in k))

pub transitive : (a b c : List ℕ) → IsBefore a b → IsBefore b c → IsBefore a c
transitive [] [] c p q = absurd p
transitive [] (y ∷ b) [] p q = absurd q
transitive [] (y ∷ b) (z ∷ c) p q = tt
transitive (x ∷ a) [] c p q = absurd p
transitive (x ∷ a) (y ∷ b) [] p q = absurd q
transitive (x ∷ a) (y ∷ b) (z ∷ c) (inl p) (inl q) = inl (omega arith)
transitive (x ∷ a) (y ∷ b) (z ∷ c) (inl p) (inr q) = inl (let e = q.0 in omega arith)
transitive (x ∷ a) (y ∷ b) (z ∷ c) (inr p) (inl q) = inl (let e = p.0 in omega arith)
transitive (x ∷ a) (y ∷ b) (z ∷ c) (inr p) (inr q) = inr (p.0 ∙ q.0, transitive a b c p.1 q.1)

less_or_not : (x y : ℕ) → (x < y) ⊎ (x ≡ y) ⊎ (y < x)
less_or_not x y = grind arith

-- of two texts in order, a third is after the one or before the other
pub either_side : (a b c : List ℕ) → IsBefore a c → IsBefore a b ⊎ IsBefore b c
either_side [] [] c h = inr h
either_side [] (y ∷ b) c h = inl tt
either_side (x ∷ a) b [] h = absurd h
either_side (x ∷ a) [] (z ∷ c) h = inr tt
either_side (x ∷ a) (y ∷ b) (z ∷ c) h = by (either_side a b c) (less_or_not x y) h
  where
    by : (IsBefore a c → IsBefore a b ⊎ IsBefore b c) → (x < y) ⊎ (x ≡ y) ⊎ (y < x) → (x < z) ⊎ ((x ≡ z) × IsBefore a c)
        → IsBefore (x ∷ a) (y ∷ b) ⊎ IsBefore (y ∷ b) (z ∷ c)
    by r (inl l) k = inl (inl l)
    by r (inr (inl e)) (inl k) = inr (inl (omega arith))
    by r (inr (inl e)) (inr k) = elim (r k.1) [ inl p ↦ inl (inr (e, p)) | inr p ↦ inr (inr (sym e ∙ k.0, p)) ]
    by r (inr (inr g)) (inl k) = inr (inl (omega arith))
    by r (inr (inr g)) (inr k) = inr (inl (let f = k.0 in omega arith))

-- the order is the one of the library
before_if : (a b : List ℕ) → slice_cmp nat_cmp a b ≡ Less → IsBefore a b
before_if [] [] e = absurd (let f : Equal ≡ Less = e in cc)
before_if [] (y ∷ b) e = tt
before_if (x ∷ a) [] e = absurd (let f : Greater ≡ Less = e in cc)
before_if (x ∷ a) (y ∷ b) e = by (before_if a b) (nat_cmp x y) (ranked x y (nat_cmp x y) refl) e
  where
    by : (slice_cmp nat_cmp a b ≡ Less → IsBefore a b) → (r : Ordering) → MatchOrdering r (x < y) (x ≡ y) (y < x) → ordering_then r (slice_cmp nat_cmp a b) ≡ Less
        → (x < y) ⊎ ((x ≡ y) × IsBefore a b)
    by r Less l f = inl l
    by r Equal l f = inr (l, r f)
    by r Greater l f = absurd (let g : Greater ≡ Less = f in cc)

less_if : (a b : List ℕ) → IsBefore a b → slice_cmp nat_cmp a b ≡ Less
less_if [] [] h = absurd h
less_if [] (y ∷ b) h = refl
less_if (x ∷ a) [] h = absurd h
less_if (x ∷ a) (y ∷ b) h = by (less_if a b) (nat_cmp x y) (ranked x y (nat_cmp x y) refl) h
  where
    by : (IsBefore a b → slice_cmp nat_cmp a b ≡ Less) → (r : Ordering) → MatchOrdering r (x < y) (x ≡ y) (y < x) → (x < y) ⊎ ((x ≡ y) × IsBefore a b)
        → ordering_then r (slice_cmp nat_cmp a b) ≡ Less
    by r Less l f = refl
    by r Equal l (inl f) = absurd (omega arith)
    by r Equal l (inr f) = r f.1
    by r Greater l (inl f) = absurd (omega arith)
    by r Greater l (inr f) = absurd (let e = f.0 in omega arith)

pub order_is : (a b : List ℕ) → (slice_cmp nat_cmp a b ≡ Less) ↔ IsBefore a b
order_is a b = (before_if a b, less_if a b)

-- where a text doesn't begin with p, what follows p makes no difference
pub unlike_front : (p s text : List ℕ) → ((t : List ℕ) → text ≡ p ++ t → ⊥) → IsBefore text (p ++ s) ↔ IsBefore text p
unlike_front [] s text none = absurd (none text refl)
unlike_front (x ∷ p) s [] none = (λ h. tt, λ h. tt)
unlike_front (x ∷ p) s (y ∷ text) none =
    let r : y ≡ x → IsBefore text (p ++ s) ↔ IsBefore text p = λ e. unlike_front p s text (λ t f. none t (λ i. e i ∷ f i)) in
    (to r, from r)
  where
    to : (y ≡ x → IsBefore text (p ++ s) ↔ IsBefore text p) → (y < x) ⊎ ((y ≡ x) × IsBefore text (p ++ s)) → (y < x) ⊎ ((y ≡ x) × IsBefore text p)
    to r (inl h) = inl h
    to r (inr h) = inr (h.0, (r h.0).0 h.1)

    from : (y ≡ x → IsBefore text (p ++ s) ↔ IsBefore text p) → (y < x) ⊎ ((y ≡ x) × IsBefore text p) → (y < x) ⊎ ((y ≡ x) × IsBefore text (p ++ s))
    from r (inl h) = inl h
    from r (inr h) = inr (h.0, (r h.0).1 h.1)

-- what is after all that begin with p and b is from p and the byte after b on
pub next_byte : (p text : List ℕ) (b : ℕ) → ((t : List ℕ) → IsBefore (p ++ b ∷ t) text) → IsBefore text (p ++ (b + 1) ∷ []) → ⊥
next_byte [] [] b over h = over []
next_byte [] (y ∷ text) b over (inl h) = by (over text)
  where
    by : (b < y) ⊎ ((b ≡ y) × IsBefore text text) → ⊥
    by (inl l) = omega arith
    by (inr r) = asymmetric text text r.1 r.1
next_byte [] (y ∷ []) b over (inr h) = h.1
next_byte [] (y ∷ z ∷ text) b over (inr h) = h.1
next_byte (x ∷ p) [] b over h = over []
next_byte (x ∷ p) (y ∷ text) b over (inl h) = by (over [])
  where
    by : (x < y) ⊎ ((x ≡ y) × IsBefore (p ++ b ∷ []) text) → ⊥
    by (inl l) = omega arith
    by (inr r) = let e = r.0 in omega arith
next_byte (x ∷ p) (y ∷ text) b over (inr h) = next_byte p text b (λ t. by t (over t)) h.1
  where
    by : (t : List ℕ) → (x < y) ⊎ ((x ≡ y) × IsBefore (p ++ b ∷ t) text) → IsBefore (p ++ b ∷ t) text
    by t (inl l) = absurd (let e = h.0 in omega arith)
    by t (inr r) = r.1

less_from_test : (o : Ordering) → true ≡ is_lt o → o ≡ Less
less_from_test Less e = refl
less_from_test Equal e = absurd (let f : true ≡ false = e in cc)
less_from_test Greater e = absurd (let f : true ≡ false = e in cc)

-- what `<` of two texts has told
pub told_before : (a b : List ℕ) (r : Bool) → r ≡ is_lt (slice_cmp nat_cmp a b) → IsTrue r ↔ IsBefore a b
told_before a b r e = (
  λ t. before_if a b (less_from_test (slice_cmp nat_cmp a b) (sym t ∙ e)),
  λ h. e ∙ ap is_lt (less_if a b h),
)

-- what `!=` of two texts has told
pub told_other : (a b : List ℕ) → true ≡ not (pointwise nat_eq a b) → a ≢ b
told_other a b e same = let f : true ≡ false = e ∙ ap not ((bytes_decides a b).1 same) in cc
