-- The shared filters that match a name, each once.
use Rattle.std.proofs.Common.{◌≡◌, ◌↔◌, ℕ, Bool, true, false, cond, ◌||◌, T, Bor, List, [], ◌∷◌, ◌++◌, map as map_list, length, Option, Some, None, is_some, inl, inr, refl, sym, ap, subst, ◌∙◌, arith}
use Rattle.std.proofs.lemmas.Bool.{false≢true}
use Rattle.std.specs.List.{AllByRecursion, IsDistinct, items_where_true, list_any}
use Rattle.std.specs.List.Retain.{IsFiltered, ReturnsInTurn}
use Rattle.std.specs.Cmp.Lexicographic.{bytes_decides}
use Rattle.std.specs.Ordering.{eq_by_cmp, is_eq, is_lt}
use Rattle.std.specs.declared.cmp.Ordering.{Ordering}
use Rattle.std.specs.declared.cmp.Ordering.TheVariants.{Less, Equal, Greater}
use Rattle.std.specs.FinMap.Entries.{below_all, is_sorted}
use Rattle.std.specs.FinMap as map
use Rattle.std.proofs.lemmas.Cmp.{tied_itself}
use Rattle.causal_context.specs.Dots.{Dot, Dots, dot_cmp, dot_cmp_total, dot_cmp_antisym}
use Rattle.filter_trie.specs.Selected.{IsSelected}
use Rattle.mqtt_topics.specs.Topics.{IsFilter, IsShared}
use Rattle.mqtt_topics.specs.Matching.{Matches}
use Rattle.subscription_set.specs.Entries.{Entry, same_text}
use Rattle.subscription_set.specs.Filing.{Filed, HasUnder, IsFilled, spread, text_cmp}
use Rattle.subscription_set.specs.Indexing.{ByDot, alone, stands_to}
use Rattle.subscription_set.specs.Members.{AreGroups, HasEntry}
use Rattle.subscription_set.proofs.Alone.{alone_get, none_at}
use Rattle.subscription_set.proofs.Filtered.{AreMatched}
use Rattle.subscription_set.proofs.Latest.{IsIn, text_eq}
use Rattle.subscription_set.proofs.Matched.{has_dot, selected_any}
use Rattle.subscription_set.proofs.Places.{first_part, second_part}
use Rattle.subscription_set.proofs.Spreading.{text_total, text_anti, in_group, contains-spread}

either : (b : Bool) → (b || true) ≡ true
either true = refl
either false = refl

-- ---- lists

pub all_as : {X : Type 0} (P Q : X → Type 0) → ((x : X) → P x → Q x) → (xs : List X) → AllByRecursion P xs → AllByRecursion Q xs
all_as P Q f [] h = tt
all_as P Q f (x ∷ xs) h = (f x h.0, all_as P Q f xs h.1)

all_both : {X : Type 0} (P Q : X → Type 0) (xs : List X) → AllByRecursion P xs → AllByRecursion Q xs → AllByRecursion (λ x. P x × Q x) xs
all_both P Q [] h k = tt
all_both P Q (x ∷ xs) h k = ((h.0, k.0), all_both P Q xs h.1 k.1)

all_in : {X : Type 0} (P : X → Type 0) (xs : List X) → ((x : X) → IsIn xs x → P x) → AllByRecursion P xs
all_in P [] h = tt
all_in P (x ∷ xs) h = (h x (λ t e. ap (λ b. b || list_any t xs) e), all_in P xs (λ y i. h y (λ t e. ap (λ b. t x || b) (i t e) ∙ either (t x))))

all_mapped : {X Y : Type 0} (P : Y → Type 0) (g : X → Y) (xs : List X) → AllByRecursion (λ x. P (g x)) xs → AllByRecursion P (map_list g xs)
all_mapped P g [] h = tt
all_mapped P g (x ∷ xs) h = (h.0, all_mapped P g xs h.1)

module _ {A : Type 0} where
  -- what holds of all holds of those that are selected, and these have the property
  pub all_selected : (P Q : A → Type 0) (xs out : List A) → AllByRecursion P xs → IsSelected Q xs out → AllByRecursion (λ x. P x × Q x) out
  all_selected P Q [] out all h = subst (AllByRecursion (λ x. P x × Q x)) (sym h) tt
  all_selected P Q (x ∷ xs) out all (inl h) = subst (AllByRecursion (λ x. P x × Q x)) (sym h.1.1) ((all.0, h.0), all_selected P Q xs h.1.0 all.1 h.1.2)
  all_selected P Q (x ∷ xs) out all (inr h) = all_selected P Q xs out all.1 h.1

  kept : (P Q : A → Type 0) (xs out : List A) → AllByRecursion P xs → IsSelected Q xs out → AllByRecursion P out
  kept P Q xs out all h = all_as (λ x. P x × Q x) P (λ x p. p.0) out (all_selected P Q xs out all h)

  distinct_selected : (Q : A → Type 0) (e : A → A → Bool) (xs out : List A) → IsDistinct e xs → IsSelected Q xs out → IsDistinct e out
  unfolding IsDistinct
  distinct_selected Q e [] out d h = subst (IsDistinct e) (sym h) tt
  distinct_selected Q e (x ∷ xs) out d (inl h) = subst (IsDistinct e) (sym h.1.1) (kept (λ y. e x y ≡ false) Q xs h.1.0 d.0 h.1.2, distinct_selected Q e xs h.1.0 d.1 h.1.2)
  distinct_selected Q e (x ∷ xs) out d (inr h) = distinct_selected Q e xs out d.1 h.1

  selected_map : {B : Type 0} (P : B → Type 0) (f : A → B) (xs out : List A) → IsSelected (λ x. P (f x)) xs out → IsSelected P (map_list f xs) (map_list f out)
  selected_map P f [] out h = ap (map_list f) h
  selected_map P f (x ∷ xs) out (inl h) = inl (h.0, (map_list f h.1.0, ap (map_list f) h.1.1, selected_map P f xs h.1.0 h.1.2))
  selected_map P f (x ∷ xs) out (inr h) = inr (h.0, selected_map P f xs out h.1)

  -- what is selected by one property, and of that by another, is selected by both
  pub selected_both : (P Q : A → Type 0) (xs ys zs : List A) → IsSelected P xs ys → IsSelected Q ys zs → IsSelected (λ x. Q x × P x) xs zs
  selected_both P Q [] ys zs h k = subst (λ l. IsSelected Q l zs) h k
  selected_both P Q (x ∷ xs) ys zs (inl h) k = elim (subst (λ l. IsSelected Q l zs) h.1.1 k) as (λ _. IsSelected (λ y. Q y × P y) (x ∷ xs) zs) [
    | inl q ↦ inl ((q.0, h.0), (q.1.0, q.1.1, selected_both P Q xs h.1.0 q.1.0 h.1.2 q.1.2))
    | inr q ↦ inr ((λ r. q.0 r.0), selected_both P Q xs h.1.0 zs h.1.2 q.1)
  ]
  selected_both P Q (x ∷ xs) ys zs (inr h) k = inr ((λ r. h.0 r.1), selected_both P Q xs ys zs h.1 k)

-- ---- references to filters and dots

abbrev pub filter_in : Bor (List ℕ) × Bor Dots → List ℕ
filter_in r = r.0.now

abbrev pub pair_in : Bor (List ℕ) × Bor Dots → List ℕ × Dots
pair_in r = (r.0.now, r.1.now)

pub filters_in : (rs : List (Bor (List ℕ) × Bor Dots)) → map_list filter_in rs ≡ map_list (λ e. e.0) (map_list pair_in rs)
filters_in [] = refl
filters_in (r ∷ rs) = ap (λ l. r.0.now ∷ l) (filters_in rs)

pub all_pushed : {X : Type 0} (P : X → Type 0) (rs : List (Bor X)) (r : Bor X) → AllByRecursion P (map_list (λ x. x.now) rs) → P r.now → AllByRecursion P (map_list (λ x. x.now) (rs ++ r ∷ []))
all_pushed P [] r h p = (p, tt)
all_pushed P (x ∷ rs) r h p = (h.0, all_pushed P rs r h.1 p)

-- what `retain` keeps is what its test selects
module _ {X Y F : Type 0} (R : F → X → Bool → F → Type 0) (P : Y → Type 0) (g : X → Y) (f : F) (h : (x : X) (b : Bool) (f' : F) → R f x b f' → ((b ≡ true) ↔ P (g x)) × (f' ≡ f)) where
  selected_in_turn : (bs : List Bool) (xs : List X) (q : F) → length bs ≡ length xs → ReturnsInTurn R f bs xs q → IsSelected P (map_list g xs) (map_list g (items_where_true bs xs))
  selected_in_turn [] [] q e t = refl
  selected_in_turn [] (x ∷ xs) q e t = absurd (omega arith)
  selected_in_turn (b ∷ bs) [] q e t = absurd t
  selected_in_turn (true ∷ bs) (x ∷ xs) q e t =
      let one = h x true t.0 t.1 in
      inl (one.0.0 refl, (map_list g (items_where_true bs xs), refl, selected_in_turn bs xs q (omega arith) (subst (λ (y : F). ReturnsInTurn R y bs xs q) one.1 t.2)))
  selected_in_turn (false ∷ bs) (x ∷ xs) q e t =
      let one = h x false t.0 t.1 in
      inr ((λ p. false≢true (one.0.1 p)), selected_in_turn bs xs q (omega arith) (subst (λ (y : F). ReturnsInTurn R y bs xs q) one.1 t.2))

  pub selected_from_retain : (xs ys : List X) → IsFiltered R f xs ys → IsSelected P (map_list g xs) (map_list g ys)
  selected_from_retain xs ys k = subst (λ zs. IsSelected P (map_list g xs) (map_list g zs)) (sym k.4) (selected_in_turn k.0 xs k.1 k.2 k.3)

-- ---- keys of sorted entries differ

apart : (a b : List ℕ) → text_cmp a b ≡ Less → same_text a b ≡ false
apart a b l = sym (text_eq a b) ∙ ap is_eq l

less : (r : Ordering) → T (is_lt r) → r ≡ Less
less Less p = refl
less Equal p = absurd p
less Greater p = absurd p

below_apart : {X : Type 0} (k : List ℕ) (es : List (List ℕ × X)) → T (below_all text_cmp k es) → AllByRecursion (λ y. same_text k y ≡ false) (map_list (λ e. e.0) es)
below_apart k [] h = tt
below_apart k (e ∷ es) h = (apart k e.0 (less _ (first_part _ _ h)), below_apart k es (second_part _ _ h))

keys_apart : {X : Type 0} (es : List (List ℕ × X)) → T (is_sorted text_cmp es) → IsDistinct same_text (map_list (λ e. e.0) es)
unfolding IsDistinct
keys_apart [] h = tt
keys_apart (e ∷ es) h = (below_apart e.0 es (first_part _ _ h), keys_apart es (second_part _ _ h))

-- ---- groups

-- by another way to say that there is something to a filter
pub groups_as : (P Q : List ℕ → Type 0) (name : List ℕ) (fs : List (List ℕ)) → ((f : List ℕ) → P f → Q f) → ((f : List ℕ) → Q f → P f) → AreGroups P name fs → AreGroups Q name fs
groups_as P Q name fs to from a = record {
  each = all_as (λ f. P f × IsFilter f × IsShared f × Matches f name) (λ f. Q f × IsFilter f × IsShared f × Matches f name) (λ f h. (to f h.0, h.1, h.2, h.3)) fs a.each;
  once = a.once;
  all = λ f q. a.all f (from f q);
}

pub no_groups : (P : List ℕ → Type 0) (name : List ℕ) → ((f : List ℕ) → P f → IsShared f → Matches f name → ⊥) → AreGroups P name []
unfolding IsDistinct
no_groups P name none = record { each = tt; once = tt; all = λ f p s h. absurd (none f p s h) }

pub one_group : (P : List ℕ → Type 0) (name f : List ℕ) → P f → IsFilter f → IsShared f → Matches f name → ((g : List ℕ) → P g → g ≡ f) → AreGroups P name (f ∷ [])
unfolding IsDistinct
one_group P name f p filter shared matches alone = record {
  each = ((p, filter, shared, matches), tt);
  once = (tt, tt);
  all = λ g q s h. ap (λ b. b || false) ((bytes_decides g f).1 (alone g q));
}

-- each is a shared one
pub groups_shared : (P : List ℕ → Type 0) (name : List ℕ) (fs : List (List ℕ)) → AreGroups P name fs → AllByRecursion IsShared fs
groups_shared P name fs a = all_as (λ f. P f × IsFilter f × IsShared f × Matches f name) IsShared (λ f h. h.2) fs a.each

-- where nothing matches, there is none
pub no_match : (P : List ℕ → Type 0) (name : List ℕ) (fs : List (List ℕ)) → ((f : List ℕ) → P f → Matches f name → ⊥) → AreGroups P name fs → fs ≡ []
no_match P name [] none a = refl
no_match P name (f ∷ fs) none a = absurd (none f a.each.0.0 a.each.0.3)

-- ---- in a trie

module _ (m : map.FinMap text_cmp Dots) (filled : IsFilled m) (name : List ℕ) where
  abbrev keys : List (List ℕ)
  keys = map_list (λ e. e.0) (map.entries m)

  abbrev IsThere : List ℕ → Type 0
  IsThere f = HasUnder text_cmp dot_cmp (spread m) f

  there_key : (f : List ℕ) → IsThere f → list_any (same_text f) keys ≡ true
  there_key f h = same_tests (map_list (λ e. e.0) (map.entries m)) ∙ sym (map.contains_key-keys m f) ∙ some (map.get m f) (sym (contains-spread text_total text_anti dot_cmp_total dot_cmp_antisym m f h.0) ∙ h.1)
    where
      same_tests : (ks : List (List ℕ)) → list_any (same_text f) ks ≡ list_any (eq_by_cmp text_cmp f) ks
      same_tests [] = refl
      same_tests (k ∷ ks) = λ i. sym (text_eq f k) i || same_tests ks i

      some : (g : Option Dots) → in_group g h.0 ≡ true → is_some g ≡ true
      some None e = cc
      some (Some s) e = refl

  pub groups_found : (found : List (List ℕ × Dots)) (fs : List (List ℕ)) → IsSelected (λ e. Matches e.0 name) (map.entries m) found → IsSelected IsShared (map_list (λ e. e.0) found) fs → AllByRecursion IsFilter fs → AreGroups IsThere name fs
  groups_found found fs selected shared filters =
      let S : List ℕ → Type 0 = λ f. IsShared f × Matches f name in
      let own : IsSelected S keys fs = selected_both (λ f. Matches f name) IsShared keys (map_list (λ e. e.0) found) fs (selected_map (λ f. Matches f name) (λ e. e.0) (map.entries m) found selected) shared in
      let there : AllByRecursion IsThere keys = all_mapped IsThere (λ e. e.0) (map.entries m) (all_in (λ e. IsThere e.0) (map.entries m) (λ e i. has_dot m filled (λ f. Matches f name) e i)) in
      record {
        each = all_as (λ f. (IsThere f × S f) × IsFilter f) (λ f. IsThere f × IsFilter f × IsShared f × Matches f name) (λ f h. (h.0.0, h.1, h.0.1.0, h.0.1.1)) fs
            (all_both (λ f. IsThere f × S f) IsFilter fs (all_selected IsThere S keys fs there own) filters);
        once = distinct_selected S same_text keys fs (keys_apart (map.entries m) (map.entries_sorted m)) own;
        all = λ f p s h. selected_any S (same_text f) (same_text f) (λ g t. (t, subst S ((bytes_decides f g).0 t) (s, h))) keys fs own (there_key f p);
      }

-- ---- in an index

module _ (m : ByDot) (v : Filed) (at : AreMatched m v) where
  pub groups_indexed : (name : List ℕ) (fs : List (List ℕ)) → AreGroups (HasUnder text_cmp dot_cmp v) name fs → AreGroups (HasEntry m) name fs
  groups_indexed name fs a = groups_as (HasUnder text_cmp dot_cmp v) (HasEntry m) name fs (λ f h. (h.0, sym (at f h.0) ∙ h.1)) (λ f h. (h.0, at f h.0 ∙ h.1)) a

-- ---- no entry, and one

pub no_entry : (name : List ℕ) → AreGroups (HasEntry map.empty) name []
no_entry name = no_groups (HasEntry map.empty) name (λ f h s k. (let no : stands_to f None ≡ true = ap (stands_to f) (sym (none_at h.0)) ∙ h.1 in cc))

module _ (x : Dot × Entry) (name : List ℕ) where
  to_own : (f : List ℕ) → HasEntry (alone x) f → f ≡ x.1.filter
  to_own f h = by (eq_by_cmp dot_cmp h.0 x.0) (ap (stands_to f) (sym (alone_get x h.0)) ∙ h.1)
    where
      by : (b : Bool) → stands_to f (cond b (Some x.1) None) ≡ true → f ≡ x.1.filter
      by true e = (bytes_decides f x.1.filter).0 e
      by false e = cc

  own_there : HasEntry (alone x) x.1.filter
  own_there = (x.0, ap (stands_to x.1.filter) (alone_get x x.0 ∙ ap (λ b. cond b (Some x.1) None) (itself x.0)) ∙ (bytes_decides x.1.filter x.1.filter).1 refl)
    where
      itself : (d : Dot) → eq_by_cmp dot_cmp d d ≡ true
      itself d = ap is_eq (tied_itself dot_cmp_total d)

  pub alone_no_group : (IsShared x.1.filter → Matches x.1.filter name → ⊥) → AreGroups (HasEntry (alone x)) name []
  alone_no_group none = no_groups (HasEntry (alone x)) name (λ f h s k. (let own = to_own f h in none (subst IsShared own s) (subst (λ g. Matches g name) own k)))

  pub alone_group : IsFilter x.1.filter → IsShared x.1.filter → Matches x.1.filter name → AreGroups (HasEntry (alone x)) name (x.1.filter ∷ [])
  alone_group filter s h = one_group (HasEntry (alone x)) name x.1.filter own_there filter s h to_own
