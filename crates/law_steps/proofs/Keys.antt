-- The clients of a table of seats: each stands once, and has its seat.
use Rattle.std.proofs.Common.{◌≡◌, ◌≢◌, inl, inr, Bool, true, false, T, ◌&&◌, cond, ℕ, List, [], ◌∷◌, map as map_list, Some, None, Less, Equal, Greater, refl, sym, ap, ◌∙◌, subst}
use Rattle.std.specs.FinMap as map
use Rattle.std.specs.FinMap.Entries.{below_all, find, is_sorted}
use Rattle.std.specs.List.{AllByRecursion}
use Rattle.std.specs.Ordering.{is_eq, is_lt, eq_by_cmp}
use Rattle.std.specs.declared.cmp.Ordering.{Ordering}
use Rattle.law_maps.proofs.Texts.{same_text, itself}
use Rattle.filter_trie.specs.Selected.{IsSelected}
use Rattle.session_table.specs.Listing.{text_cmp}
use Rattle.session_table.specs.Seats.{Seat, Seats}
use Rattle.law_runs.specs.StepSending.{IsIn}

-- ---- what a test leaves of a list
pub selected_all : {A : Type 0} (P R : A → Type 0) (xs out : List A) → IsSelected P xs out → AllByRecursion R xs → AllByRecursion (λ x. P x × R x) out
selected_all P R [] out s all = subst (AllByRecursion (λ x. P x × R x)) (sym s) tt
selected_all P R (x ∷ xs) out (inl s) all = subst (AllByRecursion (λ x. P x × R x)) (sym s.1.1) ((s.0, all.0), selected_all P R xs s.1.0 s.1.2 all.1)
selected_all P R (x ∷ xs) out (inr s) all = selected_all P R xs out s.1 all.1

pub selected_in : {A : Type 0} (P : A → Type 0) (xs out : List A) (x : A) → IsSelected P xs out → IsIn x xs → P x → IsIn x out
selected_in P [] out x s there has = absurd there
selected_in P (y ∷ xs) out x (inl s) (inl e) has = subst (IsIn x) (sym s.1.1) (inl e)
selected_in P (y ∷ xs) out x (inl s) (inr i) has = subst (IsIn x) (sym s.1.1) (inr (selected_in P xs s.1.0 x s.1.2 i has))
selected_in P (y ∷ xs) out x (inr s) (inl e) has = absurd (s.0 (subst P (sym e) has))
selected_in P (y ∷ xs) out x (inr s) (inr i) has = selected_in P xs out x s.1 i has

-- each stands once
abbrev pub Apart : List (List ℕ) → Type 0
Apart [] = Unit {0}
Apart (x ∷ xs) = AllByRecursion (λ (y : List ℕ). y ≢ x) xs × Apart xs

pub selected_apart : (P : List ℕ → Type 0) (xs out : List (List ℕ)) → IsSelected P xs out → Apart xs → Apart out
selected_apart P [] out s apart = subst Apart (sym s) tt
selected_apart P (x ∷ xs) out (inl s) apart = subst Apart (sym s.1.1) (others s.1.0 (selected_all P (λ y. y ≢ x) xs s.1.0 s.1.2 apart.0), selected_apart P xs s.1.0 s.1.2 apart.1)
  where
    others : (ys : List (List ℕ)) → AllByRecursion (λ y. P y × (y ≢ x)) ys → AllByRecursion (λ (y : List ℕ). y ≢ x) ys
    others [] all = tt
    others (y ∷ ys) all = (all.0.1, others ys all.1)
selected_apart P (x ∷ xs) out (inr s) apart = selected_apart P xs out s.1 apart.1

-- ---- entries under keys that rise
holds : (b : Bool) → T b → b ≡ true
holds true t = refl
holds false t = absurd t

both : (a b : Bool) → T (a && b) → T a × T b
both true b t = (tt, t)
both false b t = absurd t

no_less : (r : Ordering) → is_eq r ≡ true → is_lt r ≡ true → ⊥
no_less Less e l = let z : false ≡ true = e in cc
no_less Equal e l = let z : false ≡ true = l in cc
no_less Greater e l = let z : false ≡ true = e in cc

abbrev Entries : Type 0
Entries = List (List ℕ × Seat)

abbrev keys : Entries → List (List ℕ)
keys es = map_list (λ e. e.0) es

above_apart : (k : List ℕ) (es : Entries) → T (below_all text_cmp k es) → AllByRecursion (λ (y : List ℕ). y ≢ k) (keys es)
above_apart k [] t = tt
above_apart k (e ∷ es) t =
    let parts = both (is_lt (text_cmp k e.0)) (below_all text_cmp k es) t in (
      (λ same. no_less (text_cmp k e.0) (subst (λ q. eq_by_cmp text_cmp k q ≡ true) (sym same) (itself k)) (holds (is_lt (text_cmp k e.0)) parts.0)),
      above_apart k es parts.1,
    )

rising_apart : (es : Entries) → T (is_sorted text_cmp es) → Apart (keys es)
rising_apart [] t = tt
rising_apart (e ∷ es) t = let parts = both (below_all text_cmp e.0 es) (is_sorted text_cmp es) t in (above_apart e.0 es parts.0, rising_apart es parts.1)

pub keys_apart : (seats : Seats) → Apart (map_list (λ e. e.0) (map.entries seats))
keys_apart seats = rising_apart (map.entries seats) (map.entries_sorted seats)

-- what is found is among them, and each of them is found
found_in : (k : List ℕ) (seat : Seat) (es : Entries) → find text_cmp k es ≡ Some seat → IsIn k (keys es)
found_in k seat [] e = absurd (let z : None ≡ Some seat = e in cc)
found_in k seat (x ∷ es) e = by (eq_by_cmp text_cmp k x.0) refl e (found_in k seat es)
  where
    by : (b : Bool) → eq_by_cmp text_cmp k x.0 ≡ b → cond b (Some x.1) (find text_cmp k es) ≡ Some seat → (find text_cmp k es ≡ Some seat → IsIn k (keys es)) → IsIn k (x.0 ∷ keys es)
    by true same f later = inl (sym (same_text k x.0 same))
    by false same f later = inr (later f)

pub key_in : (seats : Seats) (client : List ℕ) (seat : Seat) → map.get seats client ≡ Some seat → IsIn client (map_list (λ e. e.0) (map.entries seats))
key_in seats client seat found = found_in client seat (map.entries seats) (sym (map.get-entries seats client) ∙ found)

abbrev IsFound : Entries → List ℕ → Type 0
IsFound es k = (seat : Seat) × (find text_cmp k es ≡ Some seat)

found_more : (x : List ℕ × Seat) (es : Entries) (k : List ℕ) → IsFound es k → IsFound (x ∷ es) k
found_more x es k f = by (eq_by_cmp text_cmp k x.0) refl
  where
    by : (b : Bool) → eq_by_cmp text_cmp k x.0 ≡ b → IsFound (x ∷ es) k
    by true e = (x.1, ap (λ b. cond b (Some x.1) (find text_cmp k es)) e)
    by false e = (f.0, ap (λ b. cond b (Some x.1) (find text_cmp k es)) e ∙ f.1)

all_more : (x : List ℕ × Seat) (es : Entries) (ks : List (List ℕ)) → AllByRecursion (IsFound es) ks → AllByRecursion (IsFound (x ∷ es)) ks
all_more x es [] all = tt
all_more x es (k ∷ ks) all = (found_more x es k all.0, all_more x es ks all.1)

all_found : (es : Entries) → AllByRecursion (IsFound es) (keys es)
all_found [] = tt
all_found (x ∷ es) = ((x.1, ap (λ b. cond b (Some x.1) (find text_cmp x.0 es)) (itself x.0)), all_more x es (keys es) (all_found es))

pub keys_seated : (seats : Seats) → AllByRecursion (λ (client : List ℕ). (seat : Seat) × (map.get seats client ≡ Some seat)) (map_list (λ e. e.0) (map.entries seats))
keys_seated seats = seated (map_list (λ e. e.0) (map.entries seats)) (all_found (map.entries seats))
  where
    seated : (ks : List (List ℕ)) → AllByRecursion (IsFound (map.entries seats)) ks → AllByRecursion (λ (client : List ℕ). (seat : Seat) × (map.get seats client ≡ Some seat)) ks
    seated [] all = tt
    seated (k ∷ ks) all = ((all.0.0, map.get-entries seats k ∙ all.0.1), seated ks all.1)
