-- Of each client and filter one entry is the latest.
use Rattle.std.proofs.Common.{◌≡◌, ℕ, Bool, true, false, cond, ◌&&◌, ◌||◌, not, T, List, [], ◌∷◌, map as map_list, refl, sym, ap, ◌∙◌}
use Rattle.std.specs.List.{list_any, list_all, filter, IsDistinct, AllByRecursion}
use Rattle.std.specs.Cmp.{IsTotalOrder, Equal-is, nat_cmp_total, both_ways}
use Rattle.std.specs.Cmp.Lexicographic.{bytes_decides}
use Rattle.std.specs.Ordering.{nat_cmp, ordering_reverse, ordering_then, eq_by_cmp, is_eq, is_lt}
use Rattle.std.specs.declared.cmp.Ordering.{Ordering}
use Rattle.std.specs.declared.cmp.Ordering.TheVariants.{Less, Equal, Greater}
use Rattle.std.specs.FinMap.Entries.{below_all}
use Rattle.std.specs.FinMap.{nat_cmp-IsAntisymmetric}
use Rattle.std.proofs.lemmas.Cmp.{on_total, then_total, tied_itself}
use Rattle.std.proofs.lemmas.Map.Keys.{IsDistinct-cons}
use Rattle.causal_context.specs.Dots.{Dot, dot_cmp, dot_cmp_total}
use Rattle.subscription_set.specs.Entries.{Entry, same_text, same_subscription, recency_cmp}
use Rattle.subscription_set.specs.Standing.{Entries, is_latest}
use Rattle.subscription_set.specs.Sorted.{Rises}
use Rattle.subscription_set.specs.Filing.{text_cmp}
use Rattle.subscription_set.proofs.Places.{first_part, second_part}
use Rattle.subscription_set.proofs.Spreading.{text_total, text_anti}

-- ---- lists

-- x is one of them: whatever it passes, one of them passes
abbrev pub IsIn : {X : Type 0} → List X → X → Type 0
IsIn {X} xs x = (t : X → Bool) → t x ≡ true → list_any t xs ≡ true

in_first : {X : Type 0} (x : X) (xs : List X) → IsIn (x ∷ xs) x
in_first x xs t e = ap (λ b. b || list_any t xs) e

in_later : {X : Type 0} (y : X) (xs : List X) (x : X) → IsIn xs x → IsIn (y ∷ xs) x
in_later y xs x h t e = ap (λ b. t y || b) (h t e) ∙ either (t y)
  where
    either : (b : Bool) → (b || true) ≡ true
    either true = refl
    either false = refl

none_not : {X : Type 0} (p : X → Bool) (ys : List X) → list_all p ys ≡ true → list_any (λ y. not (p y)) ys ≡ false
none_not p [] e = refl
none_not {X = X} p (y ∷ ys) e = at (p y) refl (none_not p ys) e
  where
    at : (b : Bool) → p y ≡ b → (list_all p ys ≡ true → list_any (λ z. not (p z)) ys ≡ false) → (b && list_all p ys) ≡ true → (not (p y) || list_any (λ z. not (p z)) ys) ≡ false
    at true is rest e = ap (λ c. not c || list_any (λ z. not (p z)) ys) is ∙ rest e
    at false is rest e = cc

pub all_at : {X : Type 0} (p : X → Bool) (xs : List X) (x : X) → list_all p xs ≡ true → IsIn xs x → p x ≡ true
all_at p xs x all h = by (p x) refl
  where
    by : (b : Bool) → p x ≡ b → p x ≡ true
    by true e = e
    by false e = (let one = h (λ y. not (p y)) (ap not e) in let no = none_not p xs all in cc)

pub all_weaker : {X : Type 0} (p q : X → Bool) (xs : List X) → ((x : X) → p x ≡ true → q x ≡ true) → list_all p xs ≡ true → list_all q xs ≡ true
all_weaker p q [] h e = refl
all_weaker p q (x ∷ xs) h e = at (p x) refl (all_weaker p q xs h) e
  where
    at : (b : Bool) → p x ≡ b → (list_all p xs ≡ true → list_all q xs ≡ true) → (b && list_all p xs) ≡ true → (q x && list_all q xs) ≡ true
    at true is rest e = ap (λ c. c && list_all q xs) (h x is) ∙ rest e
    at false is rest e = cc

and_true : (c : Bool) → c ≡ (c && true)
and_true true = refl
and_true false = refl

and_false : (c : Bool) → false ≡ (c && false)
and_false true = refl
and_false false = refl

pub any_filter : {X : Type 0} (t p : X → Bool) (xs : List X) → list_any t (filter p xs) ≡ list_any (λ x. t x && p x) xs
any_filter t p [] = refl
any_filter t p (x ∷ xs) = by (p x) (any_filter t p xs)
  where
    by : (b : Bool) → list_any t (filter p xs) ≡ list_any (λ y. t y && p y) xs → list_any t (cond b (x ∷ filter p xs) (filter p xs)) ≡ ((t x && b) || list_any (λ y. t y && p y) xs)
    by true rest = (λ i. and_true (t x) i || rest i)
    by false rest = rest ∙ ap (λ c. c || list_any (λ y. t y && p y) xs) (and_false (t x))

pub any_map : {X Y : Type 0} (t : Y → Bool) (f : X → Y) (xs : List X) → list_any t (map_list f xs) ≡ list_any (λ x. t (f x)) xs
any_map t f [] = refl
any_map t f (x ∷ xs) = ap (λ b. t (f x) || b) (any_map t f xs)

-- one that passes, from a test
pub any_one : {X : Type 0} (t : X → Bool) (xs : List X) → list_any t xs ≡ true → (x : X) × (IsIn xs x × (t x ≡ true))
any_one t [] e = cc
any_one {X = X} t (x ∷ xs) e = by (t x) refl (any_one t xs) e
  where
    by : (b : Bool) → t x ≡ b → (list_any t xs ≡ true → (y : X) × (IsIn xs y × (t y ≡ true))) → (b || list_any t xs) ≡ true → (y : X) × (IsIn (x ∷ xs) y × (t y ≡ true))
    by true is rest e = (x, (in_first x xs, is))
    by false is rest e = (let one = rest e in (one.0, (in_later x xs one.0 one.1.0, one.1.1)))

not_both_less : (r : Ordering) → is_lt r ≡ false → is_lt (ordering_reverse r) ≡ false → r ≡ Equal
not_both_less Less a b = cc
not_both_less Equal a b = refl
not_both_less Greater a b = cc

less_is : (r : Ordering) → is_lt r ≡ true → r ≡ Less
less_is Less e = refl
less_is Equal e = cc
less_is Greater e = cc

-- of those that pass a test, one that no other is after
module _ {X : Type 0} {R : X → X → Ordering} (o : IsTotalOrder R) (s : X → Bool) where
  abbrev pub none_after : X → X → Bool
  none_after x y = not (s y && is_lt (R x y))

  abbrev pub IsLast : List X → Type 0
  IsLast xs = (x : X) × (IsIn xs x × ((s x ≡ true) × (list_all (none_after x) xs ≡ true)))

  self_last : (x : X) → none_after x x ≡ true
  self_last x = ap (λ r. not (s x && is_lt r)) (tied_itself o x) ∙ by (s x)
    where
      by : (b : Bool) → not (b && false) ≡ true
      by true = refl
      by false = refl

  none_after_all : (y : X) (xs : List X) → list_any s xs ≡ false → list_all (none_after y) xs ≡ true
  none_after_all y [] e = refl
  none_after_all y (x ∷ xs) e = at (s x) refl (none_after_all y xs) e
    where
      at : (b : Bool) → s x ≡ b → (list_any s xs ≡ false → list_all (none_after y) xs ≡ true) → (b || list_any s xs) ≡ false → (none_after y x && list_all (none_after y) xs) ≡ true
      at true is rest e = cc
      at false is rest e = ap (λ c. not (c && is_lt (R y x)) && list_all (none_after y) xs) is ∙ rest e

  -- y after x: what is not after x is not after y
  beyond : (x y : X) → R x y ≡ Less → (z : X) → none_after x z ≡ true → none_after y z ≡ true
  beyond x y l z e = by (s z) (is_lt (R y z)) refl refl
    where
      by : (a b : Bool) → s z ≡ a → is_lt (R y z) ≡ b → none_after y z ≡ true
      by true true p q = (let t = o.trans x y z l (less_is (R y z) q) in let no : none_after x z ≡ false = (λ i. not (p i && is_lt (t i))) in cc)
      by true false p q = (λ i. not (p i && q i))
      by false b p q = (λ i. not (p i && q i))

  pub last_of : (xs : List X) → list_any s xs ≡ true → IsLast xs
  last_of [] e = cc
  last_of (y ∷ xs) e = by (s y) (list_any s xs) refl refl (last_of xs) e
    where
      front : (x : X) → IsIn xs x → s x ≡ true → list_all (none_after x) xs ≡ true → (b : Bool) → is_lt (R x y) ≡ b → s y ≡ true → IsLast (y ∷ xs)
      front x h sx all true l sy = (y, (in_first y xs, (sy, ap (λ c. c && list_all (none_after y) xs) (self_last y) ∙ all_weaker (none_after x) (none_after y) xs (beyond x y (less_is (R x y) l)) all)))
      front x h sx all false l sy = (x, (in_later y xs x h, (sx, (λ i. not (sy i && l i) && all i))))

      by : (a b : Bool) → s y ≡ a → list_any s xs ≡ b → (list_any s xs ≡ true → IsLast xs) → (a || b) ≡ true → IsLast (y ∷ xs)
      by true true p q rest e = (let l = rest q in front l.0 l.1.0 l.1.1.0 l.1.1.1 (is_lt (R l.0 y)) refl p)
      by true false p q rest e = (y, (in_first y xs, (p, ap (λ c. c && list_all (none_after y) xs) (self_last y) ∙ none_after_all y xs q)))
      by false true p q rest e = (let l = rest q in (l.0, (in_later y xs l.0 l.1.0, (l.1.1.0, (λ i. not (p i && is_lt (R l.0 y)) && l.1.1.1 i)))))
      by false false p q rest e = cc

-- ---- keys of what is picked, without repeats
less_first : (r : Ordering) → T (is_lt r) → r ≡ Less
less_first Less h = refl
less_first Equal h = absurd h
less_first Greater h = absurd h

module _ {K : Type 0} (R : K → K → Ordering) (es : Entries) (p : Dot × Entry → Bool) (key : Dot × Entry → K)
    (apart : (x y : Dot × Entry) → IsIn es x → IsIn es y → p x ≡ true → p y ≡ true → dot_cmp x.0 y.0 ≡ Less → eq_by_cmp R (key x) (key y) ≡ false) where
  abbrev Apart : Dot × Entry → Entries → Type 0
  Apart x ys = AllByRecursion (λ k. eq_by_cmp R (key x) k ≡ false) (map_list key (filter p ys))

  others : (x : Dot × Entry) (ys : Entries) → IsIn es x → p x ≡ true → ((y : Dot × Entry) → IsIn ys y → IsIn es y) → T (below_all dot_cmp x.0 ys) → Apart x ys
  others x [] hx px i b = tt
  others x (y ∷ ys) hx px i b = pick (p y) refl (others x ys hx px (λ z j. i z (in_later y ys z j)) (second_part _ _ b))
    where
      pick : (c : Bool) → p y ≡ c → Apart x ys → AllByRecursion (λ k. eq_by_cmp R (key x) k ≡ false) (map_list key (cond c (y ∷ filter p ys) (filter p ys)))
      pick true py more = (apart x y hx (i y (in_first y ys)) px py (less_first _ (first_part _ _ b)), more)
      pick false py more = more

  pub keys_apart : (xs : Entries) → ((x : Dot × Entry) → IsIn xs x → IsIn es x) → Rises dot_cmp xs → IsDistinct (eq_by_cmp R) (map_list key (filter p xs))
  unfolding IsDistinct
  keys_apart [] inside h = tt
  keys_apart (x ∷ xs) inside h = by (p x) refl (keys_apart xs (λ y i. inside y (in_later x xs y i)) (second_part _ _ h))
    where
      by : (c : Bool) → p x ≡ c → IsDistinct (eq_by_cmp R) (map_list key (filter p xs)) → IsDistinct (eq_by_cmp R) (map_list key (cond c (x ∷ filter p xs) (filter p xs)))
      by true px rest = IsDistinct-cons (eq_by_cmp R) (key x) (map_list key (filter p xs)) (others x xs (inside x (in_first x xs)) px (λ y j. inside y (in_later x xs y j)) (first_part _ _ h)) rest
      by false px rest = rest

-- ---- the latest

pub recency_total : IsTotalOrder recency_cmp
recency_total = then_total (on_total (λ (x : Dot × Entry). x.1.version) nat_cmp_total) (then_total (on_total (λ (x : Dot × Entry). x.0.number) nat_cmp_total) (on_total (λ (x : Dot × Entry). x.0.node) nat_cmp_total))

both_equal : (r s : Ordering) → ordering_then r s ≡ Equal → (r ≡ Equal) × (s ≡ Equal)
both_equal Less s e = cc
both_equal Equal s e = (refl, e)
both_equal Greater s e = cc

same_recency : (x y : Dot × Entry) → recency_cmp x y ≡ Equal → x.0 ≡ y.0
same_recency x y e =
    let outer = both_equal (nat_cmp x.1.version y.1.version) _ e in
    let inner = both_equal (nat_cmp x.0.number y.0.number) (nat_cmp x.0.node y.0.node) outer.1 in
    let number = nat_cmp-IsAntisymmetric x.0.number y.0.number inner.0 in
    let node = nat_cmp-IsAntisymmetric x.0.node y.0.node inner.1 in
    λ i. record { node = node i; number = number i }

-- two texts are the same by either test
pub text_eq : (a b : List ℕ) → eq_by_cmp text_cmp a b ≡ same_text a b
text_eq a b = both_ways (eq_by_cmp text_cmp a b) (same_text a b)
    (λ e. (bytes_decides a b).1 (text_anti a b ((Equal-is (text_cmp a b)).0 e)))
    (λ e. ap (λ c. eq_by_cmp text_cmp a c) (sym ((bytes_decides a b).0 e)) ∙ ap is_eq (tied_itself text_total a))

pub text_turn : (a b : List ℕ) → same_text a b ≡ same_text b a
text_turn a b = both_ways (same_text a b) (same_text b a) (λ e. (bytes_decides b a).1 (sym ((bytes_decides a b).0 e))) (λ e. (bytes_decides a b).1 (sym ((bytes_decides b a).0 e)))

and_first : (a b : Bool) → (a && b) ≡ true → a ≡ true
and_first true b e = refl
and_first false b e = cc

and_second : (a b : Bool) → (a && b) ≡ true → b ≡ true
and_second true b e = e
and_second false b e = cc

-- one of the same client and filter is the latest
pub one_is_latest : (es : Entries) (x : Dot × Entry) → IsIn es x → (y : Dot × Entry) × (IsIn es y × ((same_subscription x.1 y.1 ≡ true) × (is_latest es y ≡ true)))
one_is_latest es x h =
    let itself : same_subscription x.1 x.1 ≡ true = (λ i. (bytes_decides x.1.client x.1.client).1 refl i && (bytes_decides x.1.filter x.1.filter).1 refl i) in
    let l = last_of recency_total (λ z. same_subscription x.1 z.1) es (h (λ z. same_subscription x.1 z.1) itself) in
    let y = l.0 in
    let client : y.1.client ≡ x.1.client = (bytes_decides y.1.client x.1.client).0 (and_first _ _ l.1.1.0) in
    let filter_is : y.1.filter ≡ x.1.filter = (bytes_decides y.1.filter x.1.filter).0 (and_second _ _ l.1.1.0) in
    (y, (l.1.0, (l.1.1.0, all_weaker _ _ es (λ z e. (λ i. not ((same_text z.1.client (client i) && same_text z.1.filter (filter_is i)) && is_lt (recency_cmp y z))) ∙ e) l.1.1.1)))

true_not_false : (b : Bool) → b ≡ true → b ≡ false → ⊥
true_not_false b p q = (let z : true ≡ false = sym p ∙ q in cc)

-- no two latest ones are of the same client and filter
pub latest_apart : (es : Entries) (x y : Dot × Entry) → IsIn es x → IsIn es y → is_latest es x ≡ true → is_latest es y ≡ true → dot_cmp x.0 y.0 ≡ Less → same_text x.1.client y.1.client ≡ true → same_text x.1.filter y.1.filter ≡ true → ⊥
latest_apart es x y hx hy lx ly less client filter_is =
    let not_after = not_later x y (all_at _ es y lx hy) (text_turn y.1.client x.1.client ∙ client) (text_turn y.1.filter x.1.filter ∙ filter_is) in
    let not_before = not_later y x (all_at _ es x ly hx) client filter_is in
    let tied = same_recency x y (not_both_less (recency_cmp x y) not_after (ap is_lt (sym (recency_total.antisymm y x)) ∙ not_before)) in
    (let e : dot_cmp x.0 x.0 ≡ Less = ap (dot_cmp x.0) tied ∙ less in let f = tied_itself dot_cmp_total x.0 in cc)
  where
    not_later : (a b : Dot × Entry) → not (same_subscription a.1 b.1 && is_lt (recency_cmp a b)) ≡ true → same_text b.1.client a.1.client ≡ true → same_text b.1.filter a.1.filter ≡ true → is_lt (recency_cmp a b) ≡ false
    not_later a b e c f = turn (is_lt (recency_cmp a b)) ((λ i. not ((sym c i && sym f i) && is_lt (recency_cmp a b))) ∙ e)
      where
        turn : (t : Bool) → not ((true && true) && t) ≡ true → t ≡ false
        turn true e = cc
        turn false e = refl
