-- The dots of each filter, in step with the entries.
use Rattle.std.proofs.Common.{◌≡◌, ℕ, Bool, true, false, cond, ◌&&◌, ◌||◌, not, List, Option, Some, None, ◌↔◌, refl, sym, ap, subst, ◌∙◌}
use Rattle.std.specs.Cmp.{Equal-is}
use Rattle.std.specs.Cmp.Lexicographic.{bytes_decides}
use Rattle.std.specs.Ordering.{eq_by_cmp}
use Rattle.std.specs.FinMap as map
use Rattle.std.specs.FinSet as set
use Rattle.causal_context.specs.Dots.{Dot, Dots, dot_cmp, dot_cmp_total, dot_cmp_antisym}
use Rattle.subscription_set.specs.Entries.{Entry, same_text}
use Rattle.subscription_set.specs.Filing.{Filed, text_cmp, pair_cmp}
use Rattle.subscription_set.specs.Indexing.{ByDot, IsFilterAt, stands_to}
use Rattle.subscription_set.proofs.Matched.{IsUnder}
use Rattle.subscription_set.proofs.Latest.{text_eq}
use Rattle.subscription_set.proofs.Spreading.{text_total, text_anti, filed_total, pair_eq}

-- the dots of each filter
abbrev pub AreMatched : ByDot → Filed → Type 0
AreMatched m v = (f : List ℕ) (q : Dot) → set.contains v (f, q) ≡ stands_to f (map.get m q)

tied : (d x : Dot) → eq_by_cmp dot_cmp d x ≡ true → d ≡ x
tied d x t = dot_cmp_antisym d x ((Equal-is (dot_cmp d x)).0 t)

filter_eq : (f : List ℕ) (q : Dot) (e : Entry) (d : Dot) → eq_by_cmp (pair_cmp text_cmp dot_cmp) (f, q) (e.filter, d) ≡ (same_text f e.filter && eq_by_cmp dot_cmp q d)
filter_eq f q e d = pair_eq text_total text_anti dot_cmp_total dot_cmp_antisym f e.filter q d ∙ ap (λ b. b && eq_by_cmp dot_cmp q d) (text_eq f e.filter)

both_and : (b : Bool) → ((b && true) || false) ≡ b
both_and true = refl
both_and false = refl

none_and : (b c : Bool) → ((b && false) || c) ≡ c
none_and true c = refl
none_and false c = refl

gone_and : (b : Bool) → (not (b && true) && b) ≡ false
gone_and true = refl
gone_and false = refl

stay_and : (b c : Bool) → (not (b && false) && c) ≡ c
stay_and true c = refl
stay_and false c = refl

pub matched_new : (m : ByDot) (v : Filed) → m ≡ map.empty → v ≡ set.empty → AreMatched m v
matched_new m v a b f q = ap (λ s. set.contains s (f, q)) b ∙ set.contains-empty (pair_cmp text_cmp dot_cmp) (f, q) ∙ sym (ap (stands_to f) (ap (λ x. map.get x q) a ∙ map.get-empty dot_cmp q))

module _ (m : ByDot) (d : Dot) (e : Entry) (v : Filed) (at : AreMatched m v) where
  put_at : map.get m d ≡ None → (f : List ℕ) (q : Dot) (b : Bool) → eq_by_cmp dot_cmp q d ≡ b → ((same_text f e.filter && b) || stands_to f (map.get m q)) ≡ stands_to f (map.get (map.insert m d e) q)
  put_at none f q true t =
      (λ i. (same_text f e.filter && true) || stands_to f ((ap (map.get m) (tied q d t) ∙ none) i)) ∙ both_and (same_text f e.filter)
      ∙ ap (stands_to f) (sym (map.get-insert dot_cmp_total m d e q ∙ ap (λ b. cond b (Some e) (map.get m q)) t))
  put_at none f q false t = none_and (same_text f e.filter) (stands_to f (map.get m q)) ∙ ap (stands_to f) (sym (map.get-insert dot_cmp_total m d e q ∙ ap (λ b. cond b (Some e) (map.get m q)) t))

  -- an entry was put where there was none
  pub matched_added : (m' : ByDot) (v' : Filed) → map.get m d ≡ None → m' ≡ map.insert m d e → v' ≡ set.insert v (e.filter, d) → AreMatched m' v'
  matched_added m' v' none is a f q =
      ap (λ s. set.contains s (f, q)) a ∙ set.contains-insert filed_total v (e.filter, d) (f, q) ∙ (λ i. filter_eq f q e d i || at f q i) ∙ put_at none f q (eq_by_cmp dot_cmp q d) refl
      ∙ ap (λ x. stands_to f (map.get x q)) (sym is)

  take_at : map.get m d ≡ Some e → (f : List ℕ) (q : Dot) (b : Bool) → eq_by_cmp dot_cmp q d ≡ b → (not (same_text f e.filter && b) && stands_to f (map.get m q)) ≡ stands_to f (map.get (map.remove m d) q)
  take_at is f q true t =
      (λ i. not (same_text f e.filter && true) && stands_to f ((ap (map.get m) (tied q d t) ∙ is) i)) ∙ gone_and (same_text f e.filter)
      ∙ ap (stands_to f) (sym (map.get-remove dot_cmp_total m d q ∙ ap (λ b. cond b None (map.get m q)) t))
  take_at is f q false t = stay_and (same_text f e.filter) (stands_to f (map.get m q)) ∙ ap (stands_to f) (sym (map.get-remove dot_cmp_total m d q ∙ ap (λ b. cond b None (map.get m q)) t))

  -- an entry was taken out
  pub matched_taken : (m' : ByDot) (v' : Filed) → map.get m d ≡ Some e → m' ≡ map.remove m d → v' ≡ set.remove v (e.filter, d) → AreMatched m' v'
  matched_taken m' v' here is a f q =
      ap (λ s. set.contains s (f, q)) a ∙ set.contains-remove filed_total v (e.filter, d) (f, q) ∙ (λ i. not (filter_eq f q e d i) && at f q i) ∙ take_at here f q (eq_by_cmp dot_cmp q d) refl
      ∙ ap (λ x. stands_to f (map.get x q)) (sym is)

  -- nothing changed
  pub matched_kept : (m' : ByDot) (v' : Filed) → m' ≡ m → v' ≡ v → AreMatched m' v'
  matched_kept m' v' is a f q = ap (λ s. set.contains s (f, q)) a ∙ at f q ∙ ap (λ x. stands_to f (map.get x q)) (sym is)

-- ---- entries whose filter has a property

module _ (P : List ℕ → Type 0) where
  pub to_entry : (o : Option Entry) (f : List ℕ) → stands_to f o ≡ true → P f → IsFilterAt P o
  to_entry None f e h = cc
  to_entry (Some e) f is h = subst P ((bytes_decides f e.filter).0 is) h

  from_entry : (o : Option Entry) → IsFilterAt P o → (f : List ℕ) × (stands_to f o ≡ true) × P f
  from_entry None h = absurd h
  from_entry (Some e) h = (e.filter, (bytes_decides e.filter e.filter).1 refl, h)

  module _ (m : ByDot) (v : Filed) (at : AreMatched m v) where
    pub matched_dots : (s : Dots) → ((d : Dot) → (set.contains s d ≡ true) ↔ IsUnder P v d) → (d : Dot) → (set.contains s d ≡ true) ↔ IsFilterAt P (map.get m d)
    matched_dots s is d = (
      (λ e. (let h = (is d).0 e in to_entry (map.get m d) h.0 (sym (at h.0 d) ∙ h.1) h.2)),
      (λ h. (let g = from_entry (map.get m d) h in (is d).1 (g.0, at g.0 d ∙ g.1, g.2))),
    )

    pub matched_nothing : ((d : Dot) → IsFilterAt P (map.get m d) → ⊥) → (d : Dot) × IsUnder P v d → ⊥
    matched_nothing none h = none h.0 (to_entry (map.get m h.0) h.1.0 (sym (at h.1.0 h.0) ∙ h.1.1) h.1.2)
