-- Entries and their index, in step.
use Rattle.std.proofs.Common.{◌≡◌, ℕ, ◌+◌, ◌≤◌, MatchOption, Bor, Bool, true, false, cond, ◌&&◌, ◌||◌, not, T, List, [], ◌∷◌, map as map_list, length, Option, Some, None, is_some, arith, refl, sym, ap, subst, ◌∙◌}
use Rattle.std.specs.List.Sorted.{IsStrictlySortedBy}
use Rattle.std.specs.Map.{keys_of}
use Rattle.std.specs.List.{list_any, filter, IsDistinct, AllByRecursion}
use Rattle.std.specs.Set.{is_member}
use Rattle.std.specs.Cmp.{IsTotalOrder, Equal-is, eq_by_cmp_equiv, both_ways}
use Rattle.std.specs.Cmp.Lexicographic.{bytes_decides}
use Rattle.std.specs.Ordering.{eq_by_cmp, is_eq}
use Rattle.std.specs.declared.cmp.Ordering.TheVariants.{Less, Equal}
use Rattle.std.specs.declared.cmp.Ordering.{Ordering}
use Rattle.std.specs.FinMap.Entries.{below_all}
use Rattle.std.specs.FinMap as map
use Rattle.std.specs.FinSet as set
use Rattle.std.proofs.lemmas.Cmp.{tied_itself}
use Rattle.std.proofs.lemmas.List.{length-map}
use Rattle.std.proofs.lemmas.Map.Made.{length-from_same_keys}
use Rattle.std.proofs.lemmas.Map.Keys.{IsDistinct-cons}
use Rattle.law_maps.proofs.Tables as tables
use Rattle.causal_context.specs.Dots.{Dot, Dots, dot_cmp, dot_cmp_total, dot_cmp_antisym}
use Rattle.subscription_set.specs.Entries.{Entry, is_of}
use Rattle.subscription_set.specs.Standing.{Entries, find_entry, is_latest, latest}
use Rattle.subscription_set.specs.Sorted.{Rises}
use Rattle.subscription_set.specs.Filing.{Filed, Places, text_cmp, pair_cmp, IsGroup, IsPlaced}
use Rattle.subscription_set.specs.Indexing.{ByDot, stands_as, Stands, IsIndexed, IsStanding}
use Rattle.subscription_set.proofs.Places.{first_part, second_part, found_none}
use Rattle.subscription_set.proofs.Spreading.{text_total, text_anti, filed_total, filed_anti, places_total, pair_total, pair_anti, pair_eq, not_both}
use Rattle.subscription_set.proofs.Latest.{IsIn, any_map, any_filter, keys_apart, one_is_latest, latest_apart, text_eq}

and_first : (a b : Bool) → (a && b) ≡ true → a ≡ true
and_first true b e = refl
and_first false b e = cc

and_second : (a b : Bool) → (a && b) ≡ true → b ≡ true
and_second true b e = e
and_second false b e = cc

tied : (d x : Dot) → eq_by_cmp dot_cmp d x ≡ true → d ≡ x
tied d x t = dot_cmp_antisym d x ((Equal-is (dot_cmp d x)).0 t)

-- ---- sorted entries

-- one that passes is found by its dot
pub found_any : (t : Dot × Entry → Bool) (es : Entries) → Rises dot_cmp es → list_any t es ≡ true → (d : Dot) × (e : Entry) × ((find_entry d es ≡ Some e) × (t (d, e) ≡ true))
found_any t [] h e = cc
found_any t (x ∷ xs) h e = by (t x) refl (found_any t xs (second_part _ _ h)) e
  where
    Found : Entries → Type 0
    Found es = (d : Dot) × (e : Entry) × ((find_entry d es ≡ Some e) × (t (d, e) ≡ true))

    later : (d : Dot) (e : Entry) (b : Bool) → eq_by_cmp dot_cmp d x.0 ≡ b → find_entry d xs ≡ Some e → find_entry d (x ∷ xs) ≡ Some e
    later d e true t f = (let none = found_none dot_cmp_total xs d (subst (λ q. T (below_all dot_cmp q xs)) (sym (tied d x.0 t)) (first_part _ _ h)) in cc)
    later d e false t f = ap (λ b. cond b (Some x.1) (find_entry d xs)) t ∙ f

    by : (b : Bool) → t x ≡ b → (list_any t xs ≡ true → (d : Dot) × (e : Entry) × ((find_entry d xs ≡ Some e) × (t (d, e) ≡ true))) → (b || list_any t xs) ≡ true
        → (d : Dot) × (e : Entry) × ((find_entry d (x ∷ xs) ≡ Some e) × (t (d, e) ≡ true))
    by true is rest e = (x.0, x.1, (ap (λ r. cond (is_eq r) (Some x.1) (find_entry x.0 xs)) (tied_itself dot_cmp_total x.0), is))
    by false is rest e = (let f = rest e in (f.0, f.1, (later f.0 f.1 (eq_by_cmp dot_cmp f.0 x.0) refl f.2.0, f.2.1)))

pub in_found : (es : Entries) (d : Dot) (e : Entry) → find_entry d es ≡ Some e → IsIn es (d, e)
in_found [] d e f t p = cc
in_found (x ∷ xs) d e f t p = by (eq_by_cmp dot_cmp d x.0) refl (in_found xs d e) f
  where
    either : (b : Bool) → (b || true) ≡ true
    either true = refl
    either false = refl

    by : (b : Bool) → eq_by_cmp dot_cmp d x.0 ≡ b → (find_entry d xs ≡ Some e → IsIn xs (d, e)) → cond b (Some x.1) (find_entry d xs) ≡ Some e → list_any t (x ∷ xs) ≡ true
    by true is rest f = (let same : x.1 ≡ e = cc in ap (λ b. b || list_any t xs) ((λ i. t (sym (tied d x.0 is) i, same i)) ∙ p))
    by false is rest f = ap (λ b. t x || b) (rest f t p) ∙ either (t x)

few : {X : Type 0} (p : X → Bool) (xs : List X) → length (filter p xs) ≤ length xs
few p [] = omega arith
few p (x ∷ xs) = by (p x) (few p xs)
  where
    by : (b : Bool) → length (filter p xs) ≤ length xs → length (cond b (x ∷ filter p xs) (filter p xs)) ≤ length (x ∷ xs)
    by true h = omega arith
    by false h = omega arith

-- no more are the latest than there are
pub live_few : (es : Entries) → length (latest es) ≤ length es
live_few es = few (is_latest es) es

-- the entries of a table are those of its map
pub entries_table : (es : Entries) → IsStrictlySortedBy dot_cmp (keys_of es) → map.entries (map.from_entries {R = dot_cmp} es) ≡ es
entries_table es h = tables.entries_sorted dot_cmp_total dot_cmp_antisym es (tables.rising dot_cmp_total es h)

-- ---- the clients and filters of which something stands

abbrev Two : Type 0
Two = List ℕ × List ℕ

abbrev two_eq : Two → Two → Bool
two_eq = eq_by_cmp (pair_cmp text_cmp text_cmp)

two_same : (k : Two) (c f : List ℕ) → two_eq k (c, f) ≡ true → (k.0 ≡ c) × (k.1 ≡ f)
two_same k c f e = (let same = pair_anti text_total text_anti text_total text_anti k (c, f) ((Equal-is (pair_cmp text_cmp text_cmp k (c, f))).0 e) in (ap (λ x. x.0) same, ap (λ x. x.1) same))

two_itself : (k : Two) → two_eq k k ≡ true
two_itself k = ap is_eq (tied_itself (pair_total text_total text_anti text_total text_anti) k)

abbrev pair_of : Dot × Entry → Two
pair_of x = (x.1.client, x.1.filter)

abbrev pub pairs : ByDot → List Two
pairs m = map_list pair_of (latest (map.entries m))

stands_so : (c f : List ℕ) (e : Entry) → is_of c (Some f) e ≡ true → (c ≡ e.client) × (f ≡ e.filter)
stands_so c f e t = ((bytes_decides c e.client).0 (and_first _ _ t), (bytes_decides f e.filter).0 (and_second _ _ t))

stands_itself : (e : Entry) → is_of e.client (Some e.filter) e ≡ true
stands_itself e = (λ i. (bytes_decides e.client e.client).1 refl i && (bytes_decides e.filter e.filter).1 refl i)

module _ (m : ByDot) where
  abbrev es : Entries
  es = map.entries m

  found_in : (d : Dot) (e : Entry) → find_entry d es ≡ Some e → map.get m d ≡ Some e
  found_in d e f = map.get-entries m d ∙ f

  two_apart : (x y : Dot × Entry) → IsIn es x → IsIn es y → is_latest es x ≡ true → is_latest es y ≡ true → dot_cmp x.0 y.0 ≡ Less → two_eq (pair_of x) (pair_of y) ≡ false
  two_apart x y hx hy lx ly l = by (two_eq (pair_of x) (pair_of y)) refl
    where
      by : (b : Bool) → two_eq (pair_of x) (pair_of y) ≡ b → two_eq (pair_of x) (pair_of y) ≡ false
      by true e = (let s = two_same (pair_of x) y.1.client y.1.filter e in absurd (latest_apart es x y hx hy lx ly l ((bytes_decides x.1.client y.1.client).1 s.0) ((bytes_decides x.1.filter y.1.filter).1 s.1)))
      by false e = e

  pub pairs_apart : IsDistinct two_eq (pairs m)
  pairs_apart = keys_apart (pair_cmp text_cmp text_cmp) es (is_latest es) pair_of two_apart es (λ x h. h) (map.entries_sorted m)

  pub pairs_sound : (k : Two) → is_member two_eq (pairs m) k ≡ true → Stands m k.0 (Some k.1)
  pairs_sound k e =
      let f = found_any (λ x. two_eq k (pair_of x) && is_latest es x) es (map.entries_sorted m) (sym (any_map (two_eq k) pair_of (latest es) ∙ any_filter (λ x. two_eq k (pair_of x)) (is_latest es) es) ∙ e) in
      let s = two_same k f.1.client f.1.filter (and_first _ _ f.2.1) in
      (f.0, (λ i. stands_as (s.0 i) (Some (s.1 i)) (found_in f.0 f.1 f.2.0 i)) ∙ stands_itself f.1)

  pub pairs_all : (k : Two) → Stands m k.0 (Some k.1) → is_member two_eq (pairs m) k ≡ true
  pairs_all k (d, s) = by (map.get m d) refl s
    where
      by : (g : Option Entry) → map.get m d ≡ g → stands_as k.0 (Some k.1) g ≡ true → is_member two_eq (pairs m) k ≡ true
      by None e s = cc
      by (Some e) is s =
          let at = stands_so k.0 k.1 e s in
          let l = one_is_latest es (d, e) (in_found es d e (sym (map.get-entries m d) ∙ is)) in
          let y = l.0 in
          let client : k.0 ≡ y.1.client = at.0 ∙ sym ((bytes_decides y.1.client e.client).0 (and_first _ _ l.1.1.0)) in
          let filter_is : k.1 ≡ y.1.filter = at.1 ∙ sym ((bytes_decides y.1.filter e.filter).0 (and_second _ _ l.1.1.0)) in
          let here : two_eq k (pair_of y) ≡ true = (λ i. two_eq k (sym client i, sym filter_is i)) ∙ two_itself k in
          any_map (two_eq k) pair_of (latest es) ∙ any_filter (λ x. two_eq k (pair_of x)) (is_latest es) es ∙ l.1.0 (λ x. two_eq k (pair_of x) && is_latest es x) (λ i. here i && l.1.1.1 i)

  pub live_is : (ks : List Two) → IsDistinct two_eq ks → ((k : Two) → is_member two_eq ks k ≡ true → Stands m k.0 (Some k.1)) → ((k : Two) → Stands m k.0 (Some k.1) → is_member two_eq ks k ≡ true) → length (latest es) ≡ length ks
  live_is ks apart sound all =
      sym (length-map (latest es) pair_of)
      ∙ length-from_same_keys (eq_by_cmp_equiv (pair_total text_total text_anti text_total text_anti)) (pairs m) ks pairs_apart apart
      (λ k. both_ways (is_member two_eq (pairs m) k) (is_member two_eq ks k) (λ e. all k (pairs_sound k e)) (λ e. pairs_all k (sound k e)))

none_any : (k : Two) (ks : List Two) → list_any (two_eq k) ks ≡ false → AllByRecursion (λ y. two_eq k y ≡ false) ks
none_any k [] e = tt
none_any k (y ∷ ks) e = by (two_eq k y) refl e (none_any k ks)
  where
    by : (b : Bool) → two_eq k y ≡ b → (b || list_any (two_eq k) ks) ≡ false → (list_any (two_eq k) ks ≡ false → AllByRecursion (λ z. two_eq k z ≡ false) ks) → AllByRecursion (λ z. two_eq k z ≡ false) (y ∷ ks)
    by true t e rest = cc
    by false t e rest = (t, rest e)

no_entries : (es : Entries) → length es ≡ 0 → length (latest es) ≡ 0
no_entries [] e = refl
no_entries (x ∷ es) e = absurd (omega arith)

-- ---- one more entry

module _ (m : ByDot) (d : Dot) (e : Entry) (none : map.get m d ≡ None) where
  stood : (c : List ℕ) (f : Option (List ℕ)) → Stands m c f → Stands (map.insert m d e) c f
  stood c f (q, s) = by (eq_by_cmp dot_cmp q d) refl
    where
      by : (b : Bool) → eq_by_cmp dot_cmp q d ≡ b → Stands (map.insert m d e) c f
      by true t = (let no = ap (map.get m) (tied q d t) ∙ none in let z : stands_as c f None ≡ true = ap (stands_as c f) (sym no) ∙ s in cc)
      by false t = (q, ap (stands_as c f) (map.get-insert dot_cmp_total m d e q ∙ ap (λ b. cond b (Some e) (map.get m q)) t) ∙ s)

  new_stands : Stands (map.insert m d e) e.client (Some e.filter)
  new_stands = (d, ap (stands_as e.client (Some e.filter)) (map.get-insert dot_cmp_total m d e d ∙ ap (λ r. cond (is_eq r) (Some e) (map.get m d)) (tied_itself dot_cmp_total d)) ∙ stands_itself e)

  old_or_new : (k : Two) → Stands (map.insert m d e) k.0 (Some k.1) → (b : Bool) → two_eq k (e.client, e.filter) ≡ b → (b || is_member two_eq (pairs m) k) ≡ true
  old_or_new k s true t = refl
  old_or_new k (q, s) false t = pairs_all m k (by (eq_by_cmp dot_cmp q d) refl)
    where
      by : (b : Bool) → eq_by_cmp dot_cmp q d ≡ b → Stands m k.0 (Some k.1)
      by true u =
          (let is = map.get-insert dot_cmp_total m d e q ∙ ap (λ b. cond b (Some e) (map.get m q)) u in
          let at = stands_so k.0 k.1 e (ap (stands_as k.0 (Some k.1)) (sym is) ∙ s) in
          let here : two_eq k (e.client, e.filter) ≡ true = (λ i. two_eq k (sym at.0 i, sym at.1 i)) ∙ two_itself k in cc)
      by false u = (q, ap (stands_as k.0 (Some k.1)) (sym (map.get-insert dot_cmp_total m d e q ∙ ap (λ b. cond b (Some e) (map.get m q)) u)) ∙ s)

  pub live_more : (Stands m e.client (Some e.filter) → ⊥) → length (latest (map.entries (map.insert m d e))) ≡ length (latest (map.entries m)) + 1
  live_more fresh =
      let more = live_is (map.insert m d e) ((e.client, e.filter) ∷ pairs m)
      (IsDistinct-cons two_eq (e.client, e.filter) (pairs m) (none_any (e.client, e.filter) (pairs m) (no_pair (is_member two_eq (pairs m) (e.client, e.filter)) refl)) (pairs_apart m))
      (λ k h. sound k (two_eq k (e.client, e.filter)) refl h) (λ k s. old_or_new k s (two_eq k (e.client, e.filter)) refl) in
      omega (arith, more, length-map (latest (map.entries m)) pair_of)
    where
      no_pair : (b : Bool) → is_member two_eq (pairs m) (e.client, e.filter) ≡ b → is_member two_eq (pairs m) (e.client, e.filter) ≡ false
      no_pair true t = absurd (fresh (pairs_sound m (e.client, e.filter) t))
      no_pair false t = t

      sound : (k : Two) (b : Bool) → two_eq k (e.client, e.filter) ≡ b → (b || is_member two_eq (pairs m) k) ≡ true → Stands (map.insert m d e) k.0 (Some k.1)
      sound k true t h = (let s = two_same k e.client e.filter t in subst (λ (x : Two). Stands (map.insert m d e) x.0 (Some x.1)) (λ i. (sym s.0 i, sym s.1 i)) new_stands)
      sound k false t h = stood k.0 (Some k.1) (pairs_sound m k h)

  pub live_same : Stands m e.client (Some e.filter) → length (latest (map.entries (map.insert m d e))) ≡ length (latest (map.entries m))
  live_same s =
      live_is (map.insert m d e) (pairs m) (pairs_apart m) (λ k h. stood k.0 (Some k.1) (pairs_sound m k h)) (λ k t. by k t (two_eq k (e.client, e.filter)) refl)
      ∙ length-map (latest (map.entries m)) pair_of
    where
      by : (k : Two) → Stands (map.insert m d e) k.0 (Some k.1) → (b : Bool) → two_eq k (e.client, e.filter) ≡ b → is_member two_eq (pairs m) k ≡ true
      by k t true u = (let at = two_same k e.client e.filter u in pairs_all m k (subst (λ (x : Two). Stands m x.0 (Some x.1)) (λ i. (sym at.0 i, sym at.1 i)) s))
      by k t false u = old_or_new k t false u

-- ---- the index

both_and : (b : Bool) → ((b && true) || false) ≡ b
both_and true = refl
both_and false = refl

none_and : (b c : Bool) → ((b && false) || c) ≡ c
none_and true c = refl
none_and false c = refl

gone_and : (b : Bool) → (not (b && true) && b) ≡ false
gone_and true = refl
gone_and false = refl

stay_and : (b c : Bool) → (not (b && false) && c) ≡ c
stay_and true c = refl
stay_and false c = refl

group : (a b c : Bool) → (a && (b && c)) ≡ ((a && b) && c)
group true b c = refl
group false b c = refl

pub indexed_none : IsIndexed map.empty set.empty set.empty 0
indexed_none = record {
  of_client = λ c d. set.contains-empty _ (c, d) ∙ sym (ap (stands_as c None) (map.get-empty dot_cmp d));
  of_filter = λ c f d. set.contains-empty _ (c, (f, d)) ∙ sym (ap (stands_as c (Some f)) (map.get-empty dot_cmp d));
  live = sym (no_entries (map.entries map.empty) (sym (map.len-entries map.empty) ∙ map.len-empty dot_cmp Entry));
}

place_eq : (c f : List ℕ) (q : Dot) (e : Entry) (d : Dot) → eq_by_cmp (pair_cmp text_cmp (pair_cmp text_cmp dot_cmp)) (c, (f, q)) (e.client, (e.filter, d)) ≡ (is_of c (Some f) e && eq_by_cmp dot_cmp q d)
place_eq c f q e d =
    pair_eq text_total text_anti filed_total filed_anti c e.client (f, q) (e.filter, d)
    ∙ ap (λ b. eq_by_cmp text_cmp c e.client && b) (pair_eq text_total text_anti dot_cmp_total dot_cmp_antisym f e.filter q d)
    ∙ group (eq_by_cmp text_cmp c e.client) (eq_by_cmp text_cmp f e.filter) (eq_by_cmp dot_cmp q d)
    ∙ (λ i. (text_eq c e.client i && text_eq f e.filter i) && eq_by_cmp dot_cmp q d)

client_eq : (c : List ℕ) (q : Dot) (e : Entry) (d : Dot) → eq_by_cmp (pair_cmp text_cmp dot_cmp) (c, q) (e.client, d) ≡ (is_of c None e && eq_by_cmp dot_cmp q d)
client_eq c q e d = pair_eq text_total text_anti dot_cmp_total dot_cmp_antisym c e.client q d ∙ ap (λ b. b && eq_by_cmp dot_cmp q d) (text_eq c e.client)

module _ (m : ByDot) (d : Dot) (e : Entry) (clients : Filed) (places : Places) (n : ℕ) (at : IsIndexed m clients places n) where
  put_at : map.get m d ≡ None → (c : List ℕ) (o : Option (List ℕ)) (q : Dot) (b : Bool) → eq_by_cmp dot_cmp q d ≡ b → ((is_of c o e && b) || stands_as c o (map.get m q)) ≡ stands_as c o (map.get (map.insert m d e) q)
  put_at none c o q true t =
      (λ i. (is_of c o e && true) || stands_as c o ((ap (map.get m) (tied q d t) ∙ none) i)) ∙ both_and (is_of c o e)
      ∙ ap (stands_as c o) (sym (map.get-insert dot_cmp_total m d e q ∙ ap (λ b. cond b (Some e) (map.get m q)) t))
  put_at none c o q false t = none_and (is_of c o e) (stands_as c o (map.get m q)) ∙ ap (stands_as c o) (sym (map.get-insert dot_cmp_total m d e q ∙ ap (λ b. cond b (Some e) (map.get m q)) t))

  pub indexed_put : map.get m d ≡ None → (n' : ℕ) → n' ≡ length (latest (map.entries (map.insert m d e))) → IsIndexed (map.insert m d e) (set.insert clients (e.client, d)) (set.insert places (e.client, (e.filter, d))) n'
  indexed_put none n' is = record {
    of_client = λ c q. set.contains-insert filed_total clients (e.client, d) (c, q) ∙ (λ i. client_eq c q e d i || at.of_client c q i) ∙ put_at none c None q (eq_by_cmp dot_cmp q d) refl;
    of_filter = λ c f q. set.contains-insert places_total places (e.client, (e.filter, d)) (c, (f, q)) ∙ (λ i. place_eq c f q e d i || at.of_filter c f q i) ∙ put_at none c (Some f) q (eq_by_cmp dot_cmp q d) refl;
    live = is;
  }

  take_at : map.get m d ≡ Some e → (c : List ℕ) (o : Option (List ℕ)) (q : Dot) (b : Bool) → eq_by_cmp dot_cmp q d ≡ b → (not (is_of c o e && b) && stands_as c o (map.get m q)) ≡ stands_as c o (map.get (map.remove m d) q)
  take_at is c o q true t =
      (λ i. not (is_of c o e && true) && stands_as c o ((ap (map.get m) (tied q d t) ∙ is) i)) ∙ gone_and (is_of c o e)
      ∙ ap (stands_as c o) (sym (map.get-remove dot_cmp_total m d q ∙ ap (λ b. cond b None (map.get m q)) t))
  take_at is c o q false t = stay_and (is_of c o e) (stands_as c o (map.get m q)) ∙ ap (stands_as c o) (sym (map.get-remove dot_cmp_total m d q ∙ ap (λ b. cond b None (map.get m q)) t))

  pub indexed_take : map.get m d ≡ Some e → (n' : ℕ) → n' ≡ length (latest (map.entries (map.remove m d))) → IsIndexed (map.remove m d) (set.remove clients (e.client, d)) (set.remove places (e.client, (e.filter, d))) n'
  indexed_take is n' count = record {
    of_client = λ c q. set.contains-remove filed_total clients (e.client, d) (c, q) ∙ (λ i. not (client_eq c q e d i) && at.of_client c q i) ∙ take_at is c None q (eq_by_cmp dot_cmp q d) refl;
    of_filter = λ c f q. set.contains-remove places_total places (e.client, (e.filter, d)) (c, (f, q)) ∙ (λ i. not (place_eq c f q e d i) && at.of_filter c f q i) ∙ take_at is c (Some f) q (eq_by_cmp dot_cmp q d) refl;
    live = count;
  }

-- ---- one entry less

module _ (m : ByDot) (d : Dot) (e : Entry) (is : map.get m d ≡ Some e) where
  none_left : map.get (map.remove m d) d ≡ None
  none_left = map.get-remove dot_cmp_total m d d ∙ ap (λ r. cond (is_eq r) None (map.get m d)) (tied_itself dot_cmp_total d)

  put_back : map.insert (map.remove m d) d e ≡ m
  put_back = map.same_map dot_cmp_total dot_cmp_antisym _ _ (λ q. map.get-insert dot_cmp_total (map.remove m d) d e q ∙ ap (cond (eq_by_cmp dot_cmp q d) (Some e)) (map.get-remove dot_cmp_total m d q) ∙ by q (eq_by_cmp dot_cmp q d) refl)
    where
      by : (q : Dot) (b : Bool) → eq_by_cmp dot_cmp q d ≡ b → cond b (Some e) (cond b None (map.get m q)) ≡ map.get m q
      by q true t = sym (ap (map.get m) (tied q d t) ∙ is)
      by q false t = refl

  pub live_less : (Stands (map.remove m d) e.client (Some e.filter) → ⊥) → length (latest (map.entries m)) ≡ length (latest (map.entries (map.remove m d))) + 1
  live_less last = ap (λ x. length (latest (map.entries x))) (sym put_back) ∙ live_more (map.remove m d) d e none_left last

  pub live_left : Stands (map.remove m d) e.client (Some e.filter) → length (latest (map.entries m)) ≡ length (latest (map.entries (map.remove m d)))
  live_left s = ap (λ x. length (latest (map.entries x))) (sym put_back) ∙ live_same (map.remove m d) d e none_left s

pub indexed_new : (fs : Entries) (clients : Filed) (places : Places) → fs ≡ [] → clients ≡ set.empty → places ≡ set.empty → IsIndexed (map.from_entries fs) clients places 0
indexed_new fs clients places a b c = subst (λ x. IsIndexed (map.from_entries x) clients places 0) (sym a) (subst (λ x. IsIndexed map.empty x places 0) (sym b) (subst (λ x. IsIndexed map.empty set.empty x 0) (sym c) indexed_none))

-- ---- what the index answers

pub under_filter : (places : Places) (c f : List ℕ) (g : Filed) (r : Option (Bor Dots)) → IsGroup text_cmp (pair_cmp text_cmp dot_cmp) places c g → MatchOption r ((q : Dot) → set.contains g (f, q) ≡ false) (λ d. IsGroup text_cmp dot_cmp g f d.now)
    → MatchOption r ((d : Dot) → set.contains places (c, (f, d)) ≡ false) (λ d. IsPlaced places c f d.now)
under_filter places c f g None of_c h = λ d. sym (of_c.same (f, d)) ∙ h d
under_filter places c f g (Some s) of_c h = record { same = λ d. h.same d ∙ of_c.same (f, d); some = (h.some.0, sym (of_c.same (f, h.some.0)) ∙ h.some.1) }

module _ (m : ByDot) (clients : Filed) (places : Places) (n : ℕ) (at : IsIndexed m clients places n) (c : List ℕ) where
  pub standing_client : (r : Option (Bor Dots)) → MatchOption r ((q : Dot) → set.contains clients (c, q) ≡ false) (λ d. IsGroup text_cmp dot_cmp clients c d.now)
      → MatchOption r ((d : Dot) → stands_as c None (map.get m d) ≡ false) (λ d. IsStanding m c None d.now)
  standing_client None h = λ d. sym (at.of_client c d) ∙ h d
  standing_client (Some s) h = record { same = λ d. h.same d ∙ at.of_client c d; some = (h.some.0, sym (at.of_client c h.some.0) ∙ h.some.1) }

  pub standing_filter : (f : List ℕ) (r : Option (Bor Dots)) → MatchOption r ((d : Dot) → set.contains places (c, (f, d)) ≡ false) (λ d. IsPlaced places c f d.now)
      → MatchOption r ((d : Dot) → stands_as c (Some f) (map.get m d) ≡ false) (λ d. IsStanding m c (Some f) d.now)
  standing_filter f None h = λ d. sym (at.of_filter c f d) ∙ h d
  standing_filter f (Some s) h = record { same = λ d. h.same d ∙ at.of_filter c f d; some = (h.some.0, sym (at.of_filter c f h.some.0) ∙ h.some.1) }

  -- whether something stands there, by what the index answers
  pub stands_by : (f : List ℕ) (r : Option (Bor Dots)) → MatchOption r ((d : Dot) → set.contains places (c, (f, d)) ≡ false) (λ d. IsPlaced places c f d.now) → is_some r ≡ true → Stands m c (Some f)
  stands_by f None h e = cc
  stands_by f (Some s) h e = (h.some.0, sym (at.of_filter c f h.some.0) ∙ h.some.1)

  pub stands_not : (f : List ℕ) (r : Option (Bor Dots)) → MatchOption r ((d : Dot) → set.contains places (c, (f, d)) ≡ false) (λ d. IsPlaced places c f d.now) → is_some r ≡ false → Stands m c (Some f) → ⊥
  stands_not f None h e s = not_both (stands_as c (Some f) (map.get m s.0)) s.1 (sym (at.of_filter c f s.0) ∙ h s.0)
  stands_not f (Some s) h e t = cc

pub undone : {K : Type 0} {R : K → K → Ordering} → IsTotalOrder R → ((x y : K) → R x y ≡ Equal → x ≡ y) → (v : set.FinSet R) (x : K) → set.contains v x ≡ false → set.remove (set.insert v x) x ≡ v
undone {R = R} o anti v x none = set.same_set o anti _ _ (λ q. set.contains-remove o (set.insert v x) x q ∙ ap (λ b. not (eq_by_cmp R q x) && b) (set.contains-insert o v x q) ∙ by q (eq_by_cmp R q x) refl)
  where
    by : (q : _) (b : Bool) → eq_by_cmp R q x ≡ b → (not b && (b || set.contains v q)) ≡ set.contains v q
    by q true t = sym (ap (set.contains v) (anti q x ((Equal-is (R q x)).0 t)) ∙ none)
    by q false t = refl

module _ (m m' : ByDot) (d : Dot) (e : Entry) (clients clients' : Filed) (places places' : Places) (n n' : ℕ) (at : IsIndexed m clients places n) where
  -- an entry was put where there was none
  pub added : map.get m d ≡ None → m' ≡ map.insert m d e → clients' ≡ set.insert clients (e.client, d) → places' ≡ set.insert places (e.client, (e.filter, d)) → n' ≡ length (latest (map.entries (map.insert m d e))) → IsIndexed m' clients' places' n'
  added none is a b count = subst (λ x. IsIndexed x clients' places' n') (sym is) (subst (λ x. IsIndexed (map.insert m d e) x places' n') (sym a) (subst (λ x. IsIndexed (map.insert m d e) (set.insert clients (e.client, d)) x n') (sym b) (indexed_put m d e clients places n at none n' count)))

  -- an entry was taken out
  pub taken : map.get m d ≡ Some e → m' ≡ map.remove m d → clients' ≡ set.remove clients (e.client, d) → places' ≡ set.remove places (e.client, (e.filter, d)) → n' ≡ length (latest (map.entries (map.remove m d))) → IsIndexed m' clients' places' n'
  taken here is a b count = subst (λ x. IsIndexed x clients' places' n') (sym is) (subst (λ x. IsIndexed (map.remove m d) x places' n') (sym a) (subst (λ x. IsIndexed (map.remove m d) (set.remove clients (e.client, d)) x n') (sym b) (indexed_take m d e clients places n at here n' count)))

  -- what was filed was taken back
  pub kept : m' ≡ m → clients' ≡ clients → places' ≡ places → IsIndexed m' clients' places' n
  kept is a b = subst (λ x. IsIndexed x clients' places' n) (sym is) (subst (λ x. IsIndexed m x places' n) (sym a) (subst (λ x. IsIndexed m clients x n) (sym b) at))
