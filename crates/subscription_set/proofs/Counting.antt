-- How many of a client's entries are live, by the filters under which its dots stand.
use Rattle.std.proofs.Common.{◌≡◌, ℕ, suc, ◌≤◌, Bool, true, false, cond, ◌&&◌, ◌||◌, List, [], ◌∷◌, map as map_list, length, Option, Some, None, nat_eq, arith, refl, sym, ap, subst, ◌∙◌}
use Rattle.std.specs.List.{list_any, list_all, filter, IsDistinct}
use Rattle.std.specs.Set.{is_member}
use Rattle.std.specs.Cmp.{both_ways}
use Rattle.std.specs.Cmp.Lexicographic.{bytes_decides}
use Rattle.std.specs.Ordering.{eq_by_cmp}
use Rattle.std.specs.declared.cmp.Ordering.TheVariants.{Less}
use Rattle.std.specs.FinMap as map
use Rattle.std.specs.FinSet as set
use Rattle.std.proofs.lemmas.Bool.{eqb-true, eq-eqb}
use Rattle.std.proofs.lemmas.List.{length-map}
use Rattle.std.proofs.lemmas.List.Sums.{length-filter, count_by-le-length}
use Rattle.causal_context.specs.Dots.{Dot, dot_cmp}
use Rattle.subscription_set.specs.Entries.{Entry, same_text}
use Rattle.subscription_set.specs.Standing.{Entries, is_latest, latest}
use Rattle.subscription_set.specs.Filing.{Filed, Places, text_cmp, pair_cmp, HasUnder, IsGroup, IsKeyCount}
use Rattle.subscription_set.specs.Indexing.{ByDot, stands_as, IsIndexed}
use Rattle.subscription_set.proofs.Lists.{filter-filter}
use Rattle.subscription_set.proofs.Latest.{IsIn, any_map, any_filter, keys_apart, one_is_latest, latest_apart, text_eq}
use Rattle.subscription_set.proofs.Indexing.{found_any, in_found}
use Rattle.subscription_set.proofs.Picking.{none_stands}

none_left : {X : Type 0} (p : X → Bool) (xs : List X) → list_any p xs ≡ false → filter p xs ≡ []
none_left p [] e = refl
none_left {X = X} p (x ∷ xs) e = by (p x) e (none_left p xs)
  where
    by : (b : Bool) → (b || list_any p xs) ≡ false → (list_any p xs ≡ false → filter p xs ≡ []) → cond b (x ∷ filter p xs) (filter p xs) ≡ []
    by true e rest = cc
    by false e rest = rest e

and_first : (a b : Bool) → (a && b) ≡ true → a ≡ true
and_first true b e = refl
and_first false b e = cc

and_second : (a b : Bool) → (a && b) ≡ true → b ≡ true
and_second true b e = e
and_second false b e = cc

module _ (m : ByDot) (clients : Filed) (places : Places) (n : ℕ) (at : IsIndexed m clients places n) (c : List ℕ) where
  abbrev es : Entries
  es = map.entries m

  abbrev here : Dot × Entry → Bool
  here x = same_text c x.1.client && is_latest es x

  live_here : length (filter (λ x. same_text c x.1.client) (latest es)) ≡ length (filter here es)
  live_here = ap length (filter-filter (λ x. same_text c x.1.client) (is_latest es) es)

  none_at : ((x : List ℕ × Dot) → set.contains places (c, x) ≡ false) → (d : Dot) → stands_as c None (map.get m d) ≡ false
  none_at h d = by (map.get m d) refl
    where
      by : (g : Option Entry) → map.get m d ≡ g → stands_as c None g ≡ false
      by None is = refl
      by (Some e) is = turn (same_text c e.client) (same_text e.filter e.filter) ((bytes_decides e.filter e.filter).1 refl) (ap (stands_as c (Some e.filter)) (sym is) ∙ sym (at.of_filter c e.filter d) ∙ h (e.filter, d))
        where
          turn : (a b : Bool) → b ≡ true → (a && b) ≡ false → a ≡ false
          turn a true t f = and_is a f
            where
              and_is : (a : Bool) → (a && true) ≡ false → a ≡ false
              and_is true f = f
              and_is false f = refl
          turn a false t f = cc

  pub none_counted : ((x : List ℕ × Dot) → set.contains places (c, x) ≡ false) → 0 ≡ length (filter (λ x. same_text c x.1.client) (latest (map.entries m)))
  none_counted h = sym (live_here ∙ ap length (none_left here es (none_stands m c None (is_latest es) (none_at h))))

  abbrev filters : List (List ℕ)
  filters = map_list (λ x. x.1.filter) (filter here es)

  one_client : (x y : Dot × Entry) → here x ≡ true → here y ≡ true → same_text x.1.client y.1.client ≡ true
  one_client x y hx hy = (bytes_decides x.1.client y.1.client).1 (sym ((bytes_decides c x.1.client).0 (and_first _ _ hx)) ∙ (bytes_decides c y.1.client).0 (and_first _ _ hy))

  apart : (x y : Dot × Entry) → IsIn es x → IsIn es y → here x ≡ true → here y ≡ true → dot_cmp x.0 y.0 ≡ Less → eq_by_cmp text_cmp x.1.filter y.1.filter ≡ false
  apart x y ix iy hx hy less = by (eq_by_cmp text_cmp x.1.filter y.1.filter) refl
    where
      by : (b : Bool) → eq_by_cmp text_cmp x.1.filter y.1.filter ≡ b → eq_by_cmp text_cmp x.1.filter y.1.filter ≡ false
      by true e = absurd (latest_apart es x y ix iy (and_second (same_text c x.1.client) _ hx) (and_second (same_text c y.1.client) _ hy) less (one_client x y hx hy) (sym (text_eq x.1.filter y.1.filter) ∙ e))
      by false e = e

  distinct : IsDistinct (eq_by_cmp text_cmp) filters
  distinct = keys_apart text_cmp es here (λ x. x.1.filter) apart es (λ x h. h) (map.entries_sorted m)

  is_one : (k : List ℕ) → is_member (eq_by_cmp text_cmp) filters k ≡ list_any (λ x. eq_by_cmp text_cmp k x.1.filter && here x) es
  is_one k = any_map (eq_by_cmp text_cmp k) (λ x. x.1.filter) (filter here es) ∙ any_filter (λ x. eq_by_cmp text_cmp k x.1.filter) here es

  module _ (g : Filed) (of_c : IsGroup text_cmp (pair_cmp text_cmp dot_cmp) places c g) where
    stands_in : (k : List ℕ) (d : Dot) → set.contains g (k, d) ≡ stands_as c (Some k) (map.get m d)
    stands_in k d = of_c.same (k, d) ∙ at.of_filter c k d

    sound : (k : List ℕ) → is_member (eq_by_cmp text_cmp) filters k ≡ true → HasUnder text_cmp dot_cmp g k
    sound k e =
        let f = found_any (λ x. eq_by_cmp text_cmp k x.1.filter && here x) es (map.entries_sorted m) (sym (is_one k) ∙ e) in
        let same_filter : same_text k f.1.filter ≡ true = sym (text_eq k f.1.filter) ∙ and_first _ _ f.2.1 in
        let same_client : same_text c f.1.client ≡ true = and_first _ _ (and_second (eq_by_cmp text_cmp k f.1.filter) _ f.2.1) in
        (f.0, stands_in k f.0 ∙ ap (stands_as c (Some k)) (map.get-entries m f.0 ∙ f.2.0) ∙ (λ i. same_client i && same_filter i))

    every : (k : List ℕ) → HasUnder text_cmp dot_cmp g k → is_member (eq_by_cmp text_cmp) filters k ≡ true
    every k (d, h) = by (map.get m d) refl (sym (stands_in k d) ∙ h)
      where
        by : (o : Option Entry) → map.get m d ≡ o → stands_as c (Some k) o ≡ true → is_member (eq_by_cmp text_cmp) filters k ≡ true
        by None is s = cc
        by (Some e) is s =
            let l = one_is_latest es (d, e) (in_found es d e (sym (map.get-entries m d) ∙ is)) in
            let y = l.0 in
            let client : c ≡ y.1.client = (bytes_decides c e.client).0 (and_first _ _ s) ∙ sym ((bytes_decides y.1.client e.client).0 (and_first _ _ l.1.1.0)) in
            let filter_is : k ≡ y.1.filter = (bytes_decides k e.filter).0 (and_second _ _ s) ∙ sym ((bytes_decides y.1.filter e.filter).0 (and_second _ _ l.1.1.0)) in
            let at_filter : eq_by_cmp text_cmp k y.1.filter ≡ true = text_eq k y.1.filter ∙ (bytes_decides k y.1.filter).1 filter_is in
            let at_client : same_text c y.1.client ≡ true = (bytes_decides c y.1.client).1 client in
            is_one k ∙ l.1.0 (λ x. eq_by_cmp text_cmp k x.1.filter && here x) (λ i. at_filter i && (at_client i && l.1.1.1 i))

    pub counted : (k : ℕ) → IsKeyCount text_cmp dot_cmp g k → k ≡ length (filter (λ x. same_text c x.1.client) (latest (map.entries m)))
    counted k count = count filters distinct sound every ∙ length-map (filter here es) (λ x. x.1.filter) ∙ sym live_here

-- ---- as many that pass as there are

few : {X : Type 0} (p : X → Bool) (xs : List X) → length (filter p xs) ≤ length xs
few p xs = subst (λ n. n ≤ length xs) (sym (length-filter p xs)) (count_by-le-length p xs)

all_pass : {X : Type 0} (p : X → Bool) (xs : List X) → length (filter p xs) ≡ length xs → list_all p xs ≡ true
all_pass p [] e = refl
all_pass p (x ∷ xs) e = by (p x) (all_pass p xs) (few p xs) e
  where
    by : (b : Bool) → (length (filter p xs) ≡ length xs → list_all p xs ≡ true) → length (filter p xs) ≤ length xs → length (cond b (x ∷ filter p xs) (filter p xs)) ≡ length (x ∷ xs) → (b && list_all p xs) ≡ true
    by true rest less e = rest (omega arith)
    by false rest less e = absurd (omega arith)

pass_all : {X : Type 0} (p : X → Bool) (xs : List X) → list_all p xs ≡ true → length (filter p xs) ≡ length xs
pass_all p [] e = refl
pass_all p (x ∷ xs) e = by (p x) (pass_all p xs) e
  where
    by : (b : Bool) → (list_all p xs ≡ true → length (filter p xs) ≡ length xs) → (b && list_all p xs) ≡ true → length (cond b (x ∷ filter p xs) (filter p xs)) ≡ length (x ∷ xs)
    by true rest e = ap suc (rest e)
    by false rest e = cc

-- all pass a test just where as many pass as there are
pub all_counted : {X : Type 0} (p : X → Bool) (xs : List X) (n k : ℕ) → n ≡ length (filter p xs) → k ≡ length xs → nat_eq n k ≡ list_all p xs
all_counted p xs n k passed there = both_ways (nat_eq n k) (list_all p xs)
    (λ e. all_pass p xs (sym passed ∙ eqb-true n k e ∙ there))
    (λ e. eq-eqb n k (passed ∙ pass_all p xs e ∙ sym there))
