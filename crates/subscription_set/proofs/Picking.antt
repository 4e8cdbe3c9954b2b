-- What is asked of the dots that stand, asked of the entries.
use Rattle.std.proofs.Common.{◌≡◌, ℕ, Bool, true, false, not, ◌||◌, ◌&&◌, List, [], ◌∷◌, is_some, Bor, MatchOption, Option, Some, None, Result, Ok, Err, IfOk, OnErr, refl, sym, ap, ◌∙◌}
use Rattle.std.specs.List.{list_any, list_all}
use Rattle.std.specs.Cmp.{Equal-is, both_ways}
use Rattle.std.specs.Ordering.{eq_by_cmp, is_eq, is_lt}
use Rattle.std.specs.FinMap as map
use Rattle.std.specs.FinSet as set
use Rattle.std.proofs.lemmas.Cmp.{tied_itself}
use Rattle.causal_context.specs.Dots.{Dot, Dots, dot_cmp, dot_cmp_total, dot_cmp_antisym}
use Rattle.subscription_set.specs.Entries.{Entry, is_of, same_subscription, recency_cmp}
use Rattle.subscription_set.specs.Standing.{Entries, find_entry, is_latest, dots_in}
use Rattle.subscription_set.specs.Indexing.{ByDot, stands_as, Stands, IsStanding, later_at}
use Rattle.subscription_set.proofs.Latest.{text_turn}
use Rattle.subscription_set.proofs.Lists.{contains-dots_in}
use Rattle.subscription_set.proofs.Joins.{any_of, at_entry, any_of_map}
use Rattle.subscription_set.proofs.Indexing.{found_any, in_found}

tied : (d x : Dot) → eq_by_cmp dot_cmp d x ≡ true → d ≡ x
tied d x t = dot_cmp_antisym d x ((Equal-is (dot_cmp d x)).0 t)

either : (b : Bool) → (b || true) ≡ true
either true = refl
either false = refl

-- ---- lists of dots

pub member_any : (p : Dot → Bool) (ks : List Dot) (d : Dot) → list_any (eq_by_cmp dot_cmp d) ks ≡ true → p d ≡ true → list_any p ks ≡ true
member_any p [] d e h = cc
member_any p (k ∷ ks) d e h = by (eq_by_cmp dot_cmp d k) refl e (member_any p ks d)
  where
    by : (b : Bool) → eq_by_cmp dot_cmp d k ≡ b → (b || list_any (eq_by_cmp dot_cmp d) ks) ≡ true → (list_any (eq_by_cmp dot_cmp d) ks ≡ true → p d ≡ true → list_any p ks ≡ true) → (p k || list_any p ks) ≡ true
    by true t e rest = ap (λ b. b || list_any p ks) (ap p (sym (tied d k t)) ∙ h)
    by false t e rest = ap (λ b. p k || b) (rest e h) ∙ either (p k)

pub any_member : (p : Dot → Bool) (ks : List Dot) → list_any p ks ≡ true → (d : Dot) × ((list_any (eq_by_cmp dot_cmp d) ks ≡ true) × (p d ≡ true))
any_member p [] e = cc
any_member p (k ∷ ks) e = by (p k) refl e (any_member p ks)
  where
    Found : List Dot → Type 0
    Found ls = (d : Dot) × ((list_any (eq_by_cmp dot_cmp d) ls ≡ true) × (p d ≡ true))

    by : (b : Bool) → p k ≡ b → (b || list_any p ks) ≡ true → (list_any p ks ≡ true → (d : Dot) × ((list_any (eq_by_cmp dot_cmp d) ks ≡ true) × (p d ≡ true)))
        → (d : Dot) × ((list_any (eq_by_cmp dot_cmp d) (k ∷ ks) ≡ true) × (p d ≡ true))
    by true t e rest = (k, (ap (λ r. is_eq r || list_any (eq_by_cmp dot_cmp k) ks) (tied_itself dot_cmp_total k), t))
    by false t e rest = (let f = rest e in (f.0, (ap (λ b. eq_by_cmp dot_cmp f.0 k || b) f.1.0 ∙ either (eq_by_cmp dot_cmp f.0 k), f.1.1)))

-- a test of the dots of a set
pub any_items : (p : Dot → Bool) (ks : List Dot) (s : Dots) → set.from_list {R = dot_cmp} ks ≡ s → list_any p ks ≡ list_any p (set.items s)
any_items p ks s is = both_ways (list_any p ks) (list_any p (set.items s))
    (λ e. (let f = any_member p ks e in member_any p (set.items s) f.0 (sym (same f.0) ∙ f.1.0) f.1.1))
    (λ e. (let f = any_member p (set.items s) e in member_any p ks f.0 (same f.0 ∙ f.1.0) f.1.1))
  where
    same : (d : Dot) → list_any (eq_by_cmp dot_cmp d) ks ≡ list_any (eq_by_cmp dot_cmp d) (set.items s)
    same d = sym (set.contains-from_list dot_cmp_total ks d) ∙ ap (λ x. set.contains x d) is ∙ set.contains-items s d

-- ---- a loop that picks dots

abbrev pub IsPicked : (Dot → Bool) → Dots → List Dot → List Dot → Type 0
IsPicked p out left all = (q : Dot) → (set.contains out q || (list_any (eq_by_cmp dot_cmp q) left && p q)) ≡ (list_any (eq_by_cmp dot_cmp q) all && p q)

pub picked_none : (p : Dot → Bool) (out : Dots) (all : List Dot) → out ≡ set.empty → IsPicked p out all all
picked_none p out all none q = ap (λ b. b || (list_any (eq_by_cmp dot_cmp q) all && p q)) (ap (λ s. set.contains s q) none ∙ set.contains-empty dot_cmp q)

module _ (p : Dot → Bool) (x : Dot) (out out' : Dots) (left left' all : List Dot) (one : left ≡ x ∷ left') where
  shift : (a b c d : Bool) → (b ≡ true → d ≡ true) → ((b || a) || (c && d)) ≡ (a || ((b || c) && d))
  shift true true c d h = refl
  shift true false c d h = refl
  shift false true c true h = refl
  shift false true c false h = (let no = h refl in cc)
  shift false false c d h = refl

  pub picked_yes : p x ≡ true → out' ≡ set.insert out x → IsPicked p out left all → IsPicked p out' left' all
  picked_yes passes is so q =
      ap (λ b. b || (list_any (eq_by_cmp dot_cmp q) left' && p q)) (ap (λ s. set.contains s q) is ∙ set.contains-insert dot_cmp_total out x q)
      ∙ shift (set.contains out q) (eq_by_cmp dot_cmp q x) (list_any (eq_by_cmp dot_cmp q) left') (p q) (λ t. ap p (tied q x t) ∙ passes)
      ∙ ap (λ l. set.contains out q || (list_any (eq_by_cmp dot_cmp q) l && p q)) (sym one) ∙ so q

  skip : (b c d : Bool) → (b ≡ true → d ≡ false) → (c && d) ≡ ((b || c) && d)
  skip true c true h = (let no = h refl in cc)
  skip true true false h = refl
  skip true false false h = refl
  skip false c d h = refl

  pub picked_no : p x ≡ false → out' ≡ out → IsPicked p out left all → IsPicked p out' left' all
  picked_no fails is so q =
      (λ i. set.contains (is i) q || skip (eq_by_cmp dot_cmp q x) (list_any (eq_by_cmp dot_cmp q) left') (p q) (λ t. ap p (tied q x t) ∙ fails) i)
      ∙ ap (λ l. set.contains out q || (list_any (eq_by_cmp dot_cmp q) l && p q)) (sym one) ∙ so q

or_false : (b : Bool) → b ≡ (b || false)
or_false true = refl
or_false false = refl

pub picked_end : (p : Dot → Bool) (out : Dots) (left all : List Dot) (s : Dots) → left ≡ [] → set.from_list {R = dot_cmp} all ≡ s → IsPicked p out left all → (q : Dot) → set.contains out q ≡ (set.contains s q && p q)
picked_end p out left all s none is so q =
    or_false (set.contains out q) ∙ ap (λ l. set.contains out q || (list_any (eq_by_cmp dot_cmp q) l && p q)) (sym none) ∙ so q
    ∙ ap (λ b. b && p q) (sym (set.contains-from_list dot_cmp_total all q) ∙ ap (λ x. set.contains x q) is)

pub and_of : (a b : Bool) → (a && b) ≡ true → a ≡ true
and_of true b e = refl
and_of false b e = cc

-- what is picked next is one of the set
pub picked_there : (p : Dot → Bool) (x : Dot) (out : Dots) (left left' all : List Dot) (s : Dots) → left ≡ x ∷ left' → p x ≡ true → set.from_list {R = dot_cmp} all ≡ s → IsPicked p out left all → list_any p (set.items s) ≡ true
picked_there p x out left left' all s one passes is so =
    let in_left : list_any (eq_by_cmp dot_cmp x) left ≡ true = ap (list_any (eq_by_cmp dot_cmp x)) one ∙ ap (λ r. is_eq r || list_any (eq_by_cmp dot_cmp x) left') (tied_itself dot_cmp_total x) in
    let in_all : list_any (eq_by_cmp dot_cmp x) all ≡ true = and_of (list_any (eq_by_cmp dot_cmp x) all) (p x) (sym (so x) ∙ (λ i. set.contains out x || (in_left i && passes i)) ∙ either (set.contains out x)) in
    member_any p (set.items s) x (sym (set.contains-items s x) ∙ ap (λ y. set.contains y x) (sym is) ∙ set.contains-from_list dot_cmp_total all x ∙ in_all) passes

-- of no dots none is picked
pub none_there : (p : Dot → Bool) (s : Dots) → s ≡ set.empty → list_any p (set.items s) ≡ true → ⊥
none_there p s none e = (let f = any_member p (set.items s) e in let no = sym (ap (λ x. set.contains x f.0) none ∙ set.contains-empty dot_cmp f.0) ∙ set.contains-items s f.0 ∙ f.1.0 in cc)

pub and_true : (b : Bool) → (b && true) ≡ b
and_true true = refl
and_true false = refl

pub picked_all : (out s : Dots) → ((q : Dot) → set.contains out q ≡ (set.contains s q && true)) → out ≡ s
picked_all out s so = set.same_set dot_cmp_total dot_cmp_antisym _ _ (λ q. so q ∙ and_true (set.contains s q))

-- ---- a loop that looks for a dot

module _ (p : Dot → Bool) (left all : List Dot) (s : Dots) (is : set.from_list {R = dot_cmp} all ≡ s) (so : list_any p left ≡ list_any p all) where
  pub any_found : (x : Dot) (left' : List Dot) → left ≡ x ∷ left' → p x ≡ true → true ≡ list_any p (set.items s)
  any_found x left' one passes = sym (ap (list_any p) one ∙ ap (λ b. b || list_any p left') passes) ∙ so ∙ any_items p all s is

  pub any_ended : left ≡ [] → false ≡ list_any p (set.items s)
  any_ended none = ap (list_any p) (sym none) ∙ so ∙ any_items p all s is

pub if_ok : {A E : Type 0} (P Q : A → Type 0) (r : Result A E) → ((x : A) → P x → Q x) → IfOk r P → IfOk r Q
if_ok P Q (Ok a) h p = h a p
if_ok P Q (Err e) h p = tt

pub on_err_weaker : {A E : Type 0} {P Q : Type 0} (r : Result A E) → (P → Q) → OnErr r P → OnErr r Q
on_err_weaker (Ok a) h p = tt
on_err_weaker (Err e) h p = h p

-- ---- what stands

module _ (m : ByDot) (client : List ℕ) (o : Option (List ℕ)) (t : Dot × Entry → Bool) where
  abbrev both : Dot × Entry → Bool
  both y = is_of client o y.1 && t y

  and_first : (a b : Bool) → (a && b) ≡ true → a ≡ true
  and_first true b e = refl
  and_first false b e = cc

  and_second : (a b : Bool) → (a && b) ≡ true → b ≡ true
  and_second true b e = e
  and_second false b e = cc

  got : (d : Dot) (e : Entry) → find_entry d (map.entries m) ≡ Some e → map.get m d ≡ Some e
  got d e f = map.get-entries m d ∙ f

  pub none_stands : ((d : Dot) → stands_as client o (map.get m d) ≡ false) → list_any (λ y. is_of client o y.1 && t y) (map.entries m) ≡ false
  none_stands h = by (list_any both (map.entries m)) refl
    where
      by : (b : Bool) → list_any both (map.entries m) ≡ b → list_any both (map.entries m) ≡ false
      by true e =
          (let f = found_any both (map.entries m) (map.entries_sorted m) e in
          let yes = ap (stands_as client o) (got f.0 f.1 f.2.0) ∙ and_first _ _ f.2.1 in
          let no = h f.0 in cc)
      by false e = e

  -- a test of the dots that stand is one of the entries
  pub any_stands : (p : Dot → Option Entry → Bool) → ((d : Dot) → p d None ≡ false) → ((d : Dot) (e : Entry) → p d (Some e) ≡ t (d, e)) → (s : Dots) → ((d : Dot) → set.contains s d ≡ stands_as client o (map.get m d))
      → list_any (λ d. p d (map.get m d)) (set.items s) ≡ list_any (λ y. is_of client o y.1 && t y) (map.entries m)
  any_stands p none some s same = both_ways (list_any (λ d. p d (map.get m d)) (set.items s)) (list_any both (map.entries m)) to from
    where
      to : list_any (λ d. p d (map.get m d)) (set.items s) ≡ true → list_any both (map.entries m) ≡ true
      to e = by (map.get m (any_member (λ d. p d (map.get m d)) (set.items s) e).0) refl
        where
          by : (g : Option Entry) → map.get m (any_member (λ d. p d (map.get m d)) (set.items s) e).0 ≡ g → list_any both (map.entries m) ≡ true
          by None is = (let f = any_member (λ d. p d (map.get m d)) (set.items s) e in let no = none f.0 in let yes = ap (p f.0) (sym is) ∙ f.1.1 in cc)
          by (Some x) is =
              (let f = any_member (λ d. p d (map.get m d)) (set.items s) e in
              let stands : is_of client o x ≡ true = ap (stands_as client o) (sym is) ∙ sym (same f.0) ∙ set.contains-items s f.0 ∙ f.1.0 in
              let passes : t (f.0, x) ≡ true = sym (some f.0 x) ∙ ap (p f.0) (sym is) ∙ f.1.1 in
              in_found (map.entries m) f.0 x (sym (map.get-entries m f.0) ∙ is) both (λ i. stands i && passes i))

      from : list_any both (map.entries m) ≡ true → list_any (λ d. p d (map.get m d)) (set.items s) ≡ true
      from e =
          let f = found_any both (map.entries m) (map.entries_sorted m) e in
          let is = got f.0 f.1 f.2.0 in
          member_any (λ d. p d (map.get m d)) (set.items s) f.0
          (sym (set.contains-items s f.0) ∙ same f.0 ∙ ap (stands_as client o) is ∙ and_first (is_of client o f.1) (t (f.0, f.1)) f.2.1)
          (ap (p f.0) is ∙ some f.0 f.1 ∙ and_second (is_of client o f.1) (t (f.0, f.1)) f.2.1)

  -- the dots that stand and pass a test
  pub dots_stand : (p : Dot → Option Entry → Bool) → ((d : Dot) → p d None ≡ false) → ((d : Dot) (e : Entry) → p d (Some e) ≡ t (d, e)) → (s out : Dots) → ((d : Dot) → set.contains s d ≡ stands_as client o (map.get m d))
      → ((q : Dot) → set.contains out q ≡ (set.contains s q && p q (map.get m q))) → (q : Dot) → set.contains out q ≡ any_of both q (map.entries m)
  dots_stand p none some s out same so q = so q ∙ ap (λ b. b && p q (map.get m q)) (same q) ∙ by (map.get m q) ∙ sym (any_of_map both q m)
    where
      by : (g : Option Entry) → (stands_as client o g && p q g) ≡ at_entry both q g
      by None = refl
      by (Some e) = ap (λ b. is_of client o e && b) (some q e)

-- the dots of entries, as those that are picked
pub dots_are : (m : ByDot) (p : Entry → Bool) (out : Dots) → ((q : Dot) → set.contains out q ≡ any_of (λ y. p y.1) q (map.entries m)) → out ≡ dots_in p (map.entries m)
dots_are m p out so = set.same_set dot_cmp_total dot_cmp_antisym _ _ (λ q. so q ∙ turned q (map.entries m) ∙ sym (contains-dots_in p (map.entries m) q))
  where
    turn : (a b : Bool) → (a && b) ≡ (b && a)
    turn true true = refl
    turn true false = refl
    turn false true = refl
    turn false false = refl

    turned : (q : Dot) (es : Entries) → any_of (λ y. p y.1) q es ≡ list_any (λ x. p x.1 && eq_by_cmp dot_cmp q x.0) es
    turned q es = ap (λ (t : Dot × Entry → Bool). list_any t es) (λ i y. turn (eq_by_cmp dot_cmp q y.0) (p y.1) i)

module _ (m : ByDot) (client : List ℕ) (o : Option (List ℕ)) (t : Dot × Entry → Bool) (p : Entry → Bool) (tests : (d : Dot) (e : Entry) → p e ≡ (is_of client o e && t (d, e))) (out : Dots) where
  retest : (q : Dot) → any_of (λ y. is_of client o y.1 && t y) q (map.entries m) ≡ any_of (λ y. p y.1) q (map.entries m)
  retest q = any_of_map (λ y. is_of client o y.1 && t y) q m ∙ by (map.get m q) ∙ sym (any_of_map (λ y. p y.1) q m)
    where
      by : (g : Option Entry) → at_entry (λ y. is_of client o y.1 && t y) q g ≡ at_entry (λ y. p y.1) q g
      by None = refl
      by (Some e) = sym (tests q e)

  pub dots_none : ((d : Dot) → stands_as client o (map.get m d) ≡ false) → out ≡ set.empty → out ≡ dots_in p (map.entries m)
  dots_none h none = dots_are m p out (λ q. ap (λ s. set.contains s q) none ∙ set.contains-empty dot_cmp q ∙ by q (map.get m q) refl ∙ sym (any_of_map (λ y. p y.1) q m))
    where
      by : (q : Dot) (g : Option Entry) → map.get m q ≡ g → false ≡ at_entry (λ y. p y.1) q g
      by q None is = refl
      by q (Some e) is = sym (tests q e ∙ ap (λ b. b && t (q, e)) (ap (stands_as client o) (sym is) ∙ h q))

  pub dots_some : (at : Dot → Option Entry → Bool) → ((d : Dot) → at d None ≡ false) → ((d : Dot) (e : Entry) → at d (Some e) ≡ t (d, e)) → (s : Dots) → ((d : Dot) → set.contains s d ≡ stands_as client o (map.get m d))
      → ((q : Dot) → set.contains out q ≡ (set.contains s q && at q (map.get m q))) → out ≡ dots_in p (map.entries m)
  dots_some at none some s same picks = dots_are m p out (λ q. dots_stand m client o t at none some s out same picks q ∙ retest q)

-- the dots that stand, with no other test
pub dots_all_stand : (m : ByDot) (client : List ℕ) (o : Option (List ℕ)) (s : Dots) → ((d : Dot) → set.contains s d ≡ stands_as client o (map.get m d)) → s ≡ dots_in (is_of client o) (map.entries m)
dots_all_stand m client o s same = dots_are m (is_of client o) s (λ q. same q ∙ by q (map.get m q) ∙ sym (any_of_map (λ y. is_of client o y.1) q m))
  where
    by : (q : Dot) (g : Option Entry) → stands_as client o g ≡ at_entry (λ y. is_of client o y.1) q g
    by q None = refl
    by q (Some e) = refl

-- ---- the latest

all_not : {X : Type 0} (p : X → Bool) (xs : List X) → list_all (λ x. not (p x)) xs ≡ not (list_any p xs)
all_not p [] = refl
all_not p (x ∷ xs) = by (p x) (all_not p xs)
  where
    by : (b : Bool) → list_all (λ x. not (p x)) xs ≡ not (list_any p xs) → (not b && list_all (λ x. not (p x)) xs) ≡ not (b || list_any p xs)
    by true h = refl
    by false h = h

abbrev after : Dot × Entry → Dot × Entry → Bool
after x y = is_lt (recency_cmp x y)

-- an entry is the latest where none of its client and filter is later
pub latest_is : (m : ByDot) (x : Dot × Entry) → is_latest (map.entries m) x ≡ not (list_any (λ y. is_of x.1.client (Some x.1.filter) y.1 && is_lt (recency_cmp x y)) (map.entries m))
latest_is m x = all_not (λ y. same_subscription x.1 y.1 && after x y) (map.entries m)
    ∙ ap not (ap (λ (t : Dot × Entry → Bool). list_any t (map.entries m)) (λ i y. (text_turn y.1.client x.1.client i && text_turn y.1.filter x.1.filter i) && after x y))

pub latest_none : (m : ByDot) (x : Dot × Entry) → ((d : Dot) → stands_as x.1.client (Some x.1.filter) (map.get m d) ≡ false) → true ≡ is_latest (map.entries m) x
latest_none m x h = sym (latest_is m x ∙ ap not (none_stands m x.1.client (Some x.1.filter) (after x) h))

pub latest_some : (m : ByDot) (x : Dot × Entry) (s : Dots) → ((d : Dot) → set.contains s d ≡ stands_as x.1.client (Some x.1.filter) (map.get m d)) → not (list_any (λ d. later_at x d (map.get m d)) (set.items s)) ≡ is_latest (map.entries m) x
latest_some m x s same = ap not (any_stands m x.1.client (Some x.1.filter) (after x) (later_at x) (λ d. refl) (λ d e. refl) s same) ∙ sym (latest_is m x)

plain : (m : ByDot) (client : List ℕ) (o : Option (List ℕ)) → list_any (λ y. is_of client o y.1) (map.entries m) ≡ list_any (λ y. is_of client o y.1 && true) (map.entries m)
plain m client o = ap (λ (t : Dot × Entry → Bool). list_any t (map.entries m)) (λ i y. sym (and_true (is_of client o y.1)) i)

pub some_stands : (m : ByDot) (client : List ℕ) (o : Option (List ℕ)) → Stands m client o → list_any (λ y. is_of client o y.1) (map.entries m) ≡ true
some_stands m client o (d, s) = by (map.get m d) refl s
  where
    by : (g : Option Entry) → map.get m d ≡ g → stands_as client o g ≡ true → list_any (λ y. is_of client o y.1) (map.entries m) ≡ true
    by None is s = cc
    by (Some e) is s = in_found (map.entries m) d e (sym (map.get-entries m d) ∙ is) (λ y. is_of client o y.1) s

-- whether something stands
pub any_is : (m : ByDot) (client : List ℕ) (o : Option (List ℕ)) (r : Option (Bor Dots)) → MatchOption r ((d : Dot) → stands_as client o (map.get m d) ≡ false) (λ d. IsStanding m client o d.now) → is_some r ≡ list_any (λ y. is_of client o y.1) (map.entries m)
any_is m client o None h = sym (plain m client o ∙ none_stands m client o (λ _. true) h)
any_is m client o (Some s) h = sym (some_stands m client o h.some)
