-- One entry at its dot.
use Rattle.std.proofs.Common.{◌≡◌, ℕ, Bool, true, false, cond, not, ◌&&◌, ◌||◌, List, [], ◌∷◌, length, Option, Some, None, ◌↔◌, refl, sym, ap, subst, ◌∙◌}
use Rattle.std.specs.List.{filter}
use Rattle.std.specs.Ordering.{eq_by_cmp, is_eq, is_lt}
use Rattle.std.specs.Cmp.{Equal-is}
use Rattle.std.specs.FinMap as map
use Rattle.std.specs.FinMap.Entries.{where_key}
use Rattle.std.specs.FinSet as set
use Rattle.std.proofs.lemmas.Cmp.{tied_itself}
use Rattle.causal_context.specs.Dots.{Dot, Dots, dot_cmp, dot_cmp_total, dot_cmp_antisym}
use Rattle.subscription_set.specs.Entries.{Entry, is_of, same_subscription, same_text}
use Rattle.subscription_set.specs.Standing.{latest}
use Rattle.subscription_set.specs.Indexing.{ByDot, IsFilterAt, IsStanding, alone, stands_as}
use Rattle.subscription_set.proofs.Latest.{recency_total}
use Rattle.subscription_set.proofs.Merges.{no_entries, none_long}

itself : (d : Dot) → eq_by_cmp dot_cmp d d ≡ true
itself d = ap is_eq (tied_itself dot_cmp_total d)

tied : (d x : Dot) → eq_by_cmp dot_cmp d x ≡ true → d ≡ x
tied d x t = dot_cmp_antisym d x ((Equal-is (dot_cmp d x)).0 t)

-- ---- no entry

pub none_at : (d : Dot) → map.get (map.empty {X = Entry} {R = dot_cmp}) d ≡ None
none_at d = map.get-empty dot_cmp d

pub none_live : length (latest (map.entries (map.empty {X = Entry} {R = dot_cmp}))) ≡ 0
none_live = ap (λ es. length (latest es)) (no_entries map.empty refl)

pub none_live_of : (client : List ℕ) → length (filter (λ y. same_text client y.1.client) (latest (map.entries (map.empty {X = Entry} {R = dot_cmp})))) ≡ 0
none_live_of client = ap (λ es. length (filter (λ y. same_text client y.1.client) (latest es))) (no_entries map.empty refl)

pub none_within : (p : Dot → Bool) → where_key dot_cmp p (map.entries (map.empty {X = Entry} {R = dot_cmp})) ≡ []
none_within p = ap (where_key dot_cmp p) (no_entries map.empty refl)

pub none_stands : (client : List ℕ) (o : Option (List ℕ)) (d : Dot) → stands_as client o (map.get (map.empty {X = Entry} {R = dot_cmp}) d) ≡ false
none_stands client o d = ap (stands_as client o) (none_at d)

-- no dot matches, and none is in the empty set
pub none_match : (P : List ℕ → Type 0) (s : Dots) (g : Dot → Option Entry) → s ≡ set.empty → ((d : Dot) → IsFilterAt P (g d) → ⊥) → (d : Dot) → (set.contains s d ≡ true) ↔ IsFilterAt P (g d)
none_match P s g is never d = (λ e. absurd (empty (sym (ap (λ t. set.contains t d) is ∙ set.contains-empty dot_cmp d) ∙ e)), λ m. absurd (never d m))
  where
    empty : false ≡ true → ⊥
    empty e = cc

pub unmatched : (P : List ℕ → Type 0) (d : Dot) → IsFilterAt P (map.get (map.empty {X = Entry} {R = dot_cmp}) d) → ⊥
unmatched P d m = subst (IsFilterAt P) (none_at d) m

-- where there is no entry, none is taken out
pub absent : (m : ByDot) (d : Dot) → map.get m d ≡ None → m ≡ map.remove m d
absent m d none = map.same_map dot_cmp_total dot_cmp_antisym m (map.remove m d) (λ q. by q (eq_by_cmp dot_cmp q d) refl ∙ sym (map.get-remove dot_cmp_total m d q))
  where
    by : (q : Dot) (b : Bool) → eq_by_cmp dot_cmp q d ≡ b → map.get m q ≡ cond b None (map.get m q)
    by q true t = ap (map.get m) (tied q d t) ∙ none
    by q false t = refl

pub none_gone : (d : Dot) → map.empty ≡ map.remove (map.empty {X = Entry} {R = dot_cmp}) d
none_gone d = absent map.empty d (none_at d)

pub none_held : (m : ByDot) → map.len m ≡ 0 → m ≡ map.empty
none_held m none = map.same_entries_map m map.empty (none_long (map.entries m) (sym (map.len-entries m) ∙ none) ∙ sym (no_entries map.empty refl))

pub none_counted : (m : ByDot) → m ≡ map.empty → map.len m ≡ 0
none_counted m none = map.len-entries m ∙ ap length (no_entries m none)

-- ---- one entry

module _ (x : Dot × Entry) where
  pub alone_entries : map.entries (alone x) ≡ x ∷ []
  alone_entries = map.entries-insert dot_cmp_total map.empty x.0 x.1 ∙ ap (map.Entries.put dot_cmp x.0 x.1) (no_entries map.empty refl)

  pub alone_some : alone x ≡ map.empty → ⊥
  alone_some none = (let no = sym alone_entries ∙ no_entries (alone x) none in cc)

  pub alone_get : (d : Dot) → map.get (alone x) d ≡ cond (eq_by_cmp dot_cmp d x.0) (Some x.1) None
  alone_get d = map.get-insert dot_cmp_total map.empty x.0 x.1 d ∙ ap (cond (eq_by_cmp dot_cmp d x.0) (Some x.1)) (none_at d)

  pub get_by : (d : Dot) (b : Bool) → eq_by_cmp dot_cmp d x.0 ≡ b → cond b (Some x.1) None ≡ map.get (alone x) d
  get_by d b is = ap (λ c. cond c (Some x.1) None) (sym is) ∙ sym (alone_get d)

  pub alone_len : map.len (alone x) ≡ 1
  alone_len = map.len-entries (alone x) ∙ ap length alone_entries

  pub within_by : (p : Dot → Bool) (b : Bool) → p x.0 ≡ b → cond b (x ∷ []) [] ≡ where_key dot_cmp p (map.entries (alone x))
  within_by p b is = ap (λ c. cond c (x ∷ []) []) (sym is) ∙ sym (ap (where_key dot_cmp p) alone_entries)

  -- it is the latest
  alone_latest : latest (map.entries (alone x)) ≡ x ∷ []
  alone_latest = ap latest alone_entries ∙ ap (λ r. cond (not (same_subscription x.1 x.1 && is_lt r) && true) (x ∷ []) []) (tied_itself recency_total x) ∙ by (same_subscription x.1 x.1)
    where
      by : (b : Bool) → cond (not (b && false) && true) (x ∷ []) [] ≡ x ∷ []
      by true = refl
      by false = refl

  pub alone_live : length (latest (map.entries (alone x))) ≡ 1
  alone_live = ap length alone_latest

  pub live_by : (client : List ℕ) (b : Bool) → same_text client x.1.client ≡ b → cond b 1 0 ≡ length (filter (λ y. same_text client y.1.client) (latest (map.entries (alone x))))
  live_by client b is = by b ∙ ap (λ c. length (cond c (x ∷ []) [])) (sym is) ∙ sym (ap (λ es. length (filter (λ y. same_text client y.1.client) es)) alone_latest)
    where
      by : (c : Bool) → cond c 1 0 ≡ length (cond c (x ∷ []) [])
      by true = refl
      by false = refl

  pub stands_at : (client : List ℕ) (o : Option (List ℕ)) (d : Dot) → stands_as client o (map.get (alone x) d) ≡ (eq_by_cmp dot_cmp d x.0 && is_of client o x.1)
  stands_at client o d = ap (stands_as client o) (alone_get d) ∙ by (eq_by_cmp dot_cmp d x.0)
    where
      by : (b : Bool) → stands_as client o (cond b (Some x.1) None) ≡ (b && is_of client o x.1)
      by true = refl
      by false = refl

  pub other_stands : (client : List ℕ) (o : Option (List ℕ)) → is_of client o x.1 ≡ false → (d : Dot) → stands_as client o (map.get (alone x) d) ≡ false
  other_stands client o never d = stands_at client o d ∙ ap (λ b. eq_by_cmp dot_cmp d x.0 && b) never ∙ by (eq_by_cmp dot_cmp d x.0)
    where
      by : (b : Bool) → (b && false) ≡ false
      by true = refl
      by false = refl

  contains_by : (s : Dots) → s ≡ set.insert set.empty x.0 → (d : Dot) → set.contains s d ≡ (eq_by_cmp dot_cmp d x.0 && true)
  contains_by s is d = ap (λ t. set.contains t d) is ∙ set.contains-insert dot_cmp_total set.empty x.0 d ∙ ap (λ b. eq_by_cmp dot_cmp d x.0 || b) (set.contains-empty dot_cmp d) ∙ by (eq_by_cmp dot_cmp d x.0)
    where
      by : (b : Bool) → (b || false) ≡ (b && true)
      by true = refl
      by false = refl

  pub alone_stands : (client : List ℕ) (o : Option (List ℕ)) (s : Dots) → is_of client o x.1 ≡ true → s ≡ set.insert set.empty x.0 → IsStanding (alone x) client o s
  alone_stands client o s so is = record {
    same = λ d. contains_by s is d ∙ ap (λ b. eq_by_cmp dot_cmp d x.0 && b) (sym so) ∙ sym (stands_at client o d);
    some = (x.0, stands_at client o x.0 ∙ (λ i. itself x.0 i && so i));
  }

  -- only at its dot there is one whose filter has the property
  pub alone_matches : (P : List ℕ → Type 0) (s : Dots) → P x.1.filter → s ≡ set.insert set.empty x.0 → (d : Dot) → (set.contains s d ≡ true) ↔ IsFilterAt P (map.get (alone x) d)
  alone_matches P s so is d = by (eq_by_cmp dot_cmp d x.0) refl
    where
      by : (b : Bool) → eq_by_cmp dot_cmp d x.0 ≡ b → (set.contains s d ≡ true) ↔ IsFilterAt P (map.get (alone x) d)
      by true t = (λ _. subst (IsFilterAt P) (get_by d true t) so, λ _. contains_by s is d ∙ ap (λ b. b && true) t)
      by false t = (λ e. absurd (let never : false ≡ true = sym (contains_by s is d ∙ ap (λ b. b && true) t) ∙ e in cc), λ m. absurd (subst (IsFilterAt P) (sym (get_by d false t)) m))

  pub alone_unmatched : (P : List ℕ → Type 0) → (P x.1.filter → ⊥) → (d : Dot) → IsFilterAt P (map.get (alone x) d) → ⊥
  alone_unmatched P never d m = by (eq_by_cmp dot_cmp d x.0) refl
    where
      by : (b : Bool) → eq_by_cmp dot_cmp d x.0 ≡ b → ⊥
      by true t = never (subst (IsFilterAt P) (sym (get_by d true t)) m)
      by false t = subst (IsFilterAt P) (sym (get_by d false t)) m

  pub alone_at : (P : List ℕ → Type 0) → P x.1.filter → IsFilterAt P (map.get (alone x) x.0)
  alone_at P p = subst (IsFilterAt P) (get_by x.0 true (itself x.0)) p

  -- taken out, none is left
  pub alone_gone : (d : Dot) → eq_by_cmp dot_cmp d x.0 ≡ true → map.empty ≡ map.remove (alone x) d
  alone_gone d t = map.same_map dot_cmp_total dot_cmp_antisym map.empty (map.remove (alone x) d) (λ q. none_at q
      ∙ sym (map.get-remove dot_cmp_total (alone x) d q ∙ ap (cond (eq_by_cmp dot_cmp q d) None) (alone_get q) ∙ ap (λ y. cond (eq_by_cmp dot_cmp q d) None (cond (eq_by_cmp dot_cmp q y) (Some x.1) None)) (sym (tied d x.0 t)) ∙ by (eq_by_cmp dot_cmp q d)))
    where
      by : (b : Bool) → cond b None (cond b (Some x.1) None) ≡ None
      by true = refl
      by false = refl

  pub alone_stays : (d : Dot) → eq_by_cmp dot_cmp d x.0 ≡ false → alone x ≡ map.remove (alone x) d
  alone_stays d t = absent (alone x) d (sym (get_by d false t))
