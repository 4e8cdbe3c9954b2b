-- What edits of rows in the order of their keys leave.
use Rattle.std.proofs.Common.{◌≡◌, inl, inr, ℕ, suc, ◌+◌, ◌<◌, Bool, true, false, cond, List, [], ◌∷◌, ◌++◌, append_assoc, arith, drop, get_or, length, map, Option, Some, None, Less, refl, sym, ap, subst, ◌∙◌}
use Rattle.std.specs.FinMap.{find}
use Rattle.std.specs.Prelude.{option_map}
use Rattle.std.specs.List.{AllByRecursion}
use Rattle.std.specs.Option.{option_and_then}
use Rattle.std.proofs.Math.Seq.{drop-cons}
use Rattle.std.proofs.lemmas.Bool.{cases_Bool}
use Rattle.bridge_lanes.specs.Changes.{Left}
use Rattle.bridge_lanes.proofs.Order.{Rises, find_none, left_in, less_apart, or_else_none, same_is, same_key}
use Rattle.row_store.specs.Leading.{left_or, or_else}
use Rattle.row_store.specs.declared.row.Row.{Row}
use Rattle.row_store.specs.Rows.{Key, entry_of, key_cmp, Plain}
use Rattle.row_drops.specs.Editing.{Edit, edited, edited_rows, edits, with_left, with_row}

cond_none : {A : Type 0} (b : Bool) → ◌≡◌ {A = Option A} (cond b None None) None
cond_none true = refl
cond_none false = refl

left_with : (key : Key) (o : Option (Option (List ℕ))) (more : List Left) (q : Key) → left_in (with_left key o more) q ≡ or_else (left_in more q) (cond (same_key q key) o None)
left_with key None more q = sym (ap (or_else (left_in more q)) (cond_none (same_key q key)) ∙ or_else_none (left_in more q))
left_with key (Some left) more q = refl

-- where it is the first row's key, no later row has it
none_later : (q : Key) (e : Plain) (es : List Plain) → Rises (e ∷ es) → same_key q e.0 ≡ true → find key_cmp q es ≡ None
none_later q e es up t = find_none q (λ k. key_cmp e.0 k ≡ Less) es up.0 (λ low. less_apart e.0 q low (sym (same_is q e.0 t)))

left_here : (f : Edit) (q : Key) (e : Plain) (l : Option (Option (List ℕ))) → same_key q e.0 ≡ true → l ≡ None → or_else l (cond (same_key q e.0) (f e.0 e.1) None) ≡ f q e.1
left_here f q e l t none = rw (t, none) (ap (λ k. f k e.1) (sym (same_is q e.0 t)))

-- what is left at a key is what the edit leaves of the row there
pub edits_leave : (f : Edit) (es : List Plain) → Rises es → (q : Key) → left_in (edits f es) q ≡ option_and_then (f q) (find key_cmp q es)
edits_leave f [] up q = refl
edits_leave f (e ∷ es) up q = elim (cases_Bool (same_key q e.0)) [
  | inl t ↦
      left_with e.0 (f e.0 e.1) (edits f es) q
      ∙ left_here f q e (left_in (edits f es) q) t (edits_leave f es up.1 q ∙ ap (option_and_then (f q)) (none_later q e es up t))
      ∙ sym (ap (λ b. option_and_then (f q) (cond b (Some e.1) (find key_cmp q es))) t)
  | inr other ↦
      left_with e.0 (f e.0 e.1) (edits f es) q
      ∙ ap (λ b. or_else (left_in (edits f es) q) (cond b (f e.0 e.1) None)) other
      ∙ or_else_none (left_in (edits f es) q)
      ∙ edits_leave f es up.1 q
      ∙ sym (ap (λ b. option_and_then (f q) (cond b (Some e.1) (find key_cmp q es))) other)
]

-- ---- the rows that there are then

abbrev one_of : Option (Option (List ℕ)) → List ℕ → Option (List ℕ) → Option (List ℕ)
one_of None value more = Some value
one_of (Some None) value more = more
one_of (Some (Some left)) value more = Some left

cond_same : (b : Bool) (o : Option (List ℕ)) → o ≡ cond b o o
cond_same true o = refl
cond_same false o = refl

find_with : (key : Key) (value : List ℕ) (o : Option (Option (List ℕ))) (more : List Plain) (q : Key) → find key_cmp q (with_row key value o more) ≡ cond (same_key q key) (one_of o value (find key_cmp q more)) (find key_cmp q more)
find_with key value None more q = refl
find_with key value (Some None) more q = cond_same (same_key q key) (find key_cmp q more)
find_with key value (Some (Some left)) more q = refl

one_is : (o : Option (Option (List ℕ))) (value : List ℕ) → one_of o value None ≡ left_or o (Some value)
one_is None value = refl
one_is (Some None) value = refl
one_is (Some (Some left)) value = refl

pub found_edited : (f : Edit) (es : List Plain) → Rises es → (q : Key) → find key_cmp q (edited_rows f es) ≡ edited f (λ k. find key_cmp k es) q
found_edited f [] up q = refl
found_edited f (e ∷ es) up q = elim (cases_Bool (same_key q e.0)) [
  | inl t ↦
      let none : find key_cmp q (edited_rows f es) ≡ None = found_edited f es up.1 q ∙ ap (λ o. left_or (option_and_then (f q) o) o) (none_later q e es up t) in
      find_with e.0 e.1 (f e.0 e.1) (edited_rows f es) q
      ∙ ap (λ b. cond b (one_of (f e.0 e.1) e.1 (find key_cmp q (edited_rows f es))) (find key_cmp q (edited_rows f es))) t
      ∙ ap (one_of (f e.0 e.1) e.1) none
      ∙ one_is (f e.0 e.1) e.1
      ∙ ap (λ k. left_or (f k e.1) (Some e.1)) (sym (same_is q e.0 t))
      ∙ sym (ap (λ b. left_or (option_and_then (f q) (cond b (Some e.1) (find key_cmp q es))) (cond b (Some e.1) (find key_cmp q es))) t)
  | inr other ↦
      find_with e.0 e.1 (f e.0 e.1) (edited_rows f es) q
      ∙ ap (λ b. cond b (one_of (f e.0 e.1) e.1 (find key_cmp q (edited_rows f es))) (find key_cmp q (edited_rows f es))) other
      ∙ found_edited f es up.1 q
      ∙ sym (ap (λ b. left_or (option_and_then (f q) (cond b (Some e.1) (find key_cmp q es))) (cond b (Some e.1) (find key_cmp q es))) other)
]

-- a key at which the edit leaves what is there
pub stays : (f : Edit) (q : Key) (o : Option (List ℕ)) → ((v : List ℕ) → f q v ≡ None) → o ≡ left_or (option_and_then (f q) o) o
stays f q None none = refl
stays f q (Some v) none = sym (ap (λ l. left_or l (Some v)) (none v))

-- ---- lists
with_both : (key : Key) (value : List ℕ) (o : Option (Option (List ℕ))) (xs ys : List Plain) → with_row key value o (xs ++ ys) ≡ with_row key value o xs ++ ys
with_both key value None xs ys = refl
with_both key value (Some None) xs ys = refl
with_both key value (Some (Some left)) xs ys = refl

pub edited_both : (f : Edit) (xs ys : List Plain) → edited_rows f (xs ++ ys) ≡ edited_rows f xs ++ edited_rows f ys
edited_both f [] ys = refl
edited_both f (e ∷ xs) ys = ap (with_row e.0 e.1 (f e.0 e.1)) (edited_both f xs ys) ∙ with_both e.0 e.1 (f e.0 e.1) (edited_rows f xs) (edited_rows f ys)

pub all_stay : (f : Edit) (es : List Plain) → AllByRecursion (λ e. f e.0 e.1 ≡ None) es → edited_rows f es ≡ es
all_stay f [] all = refl
all_stay f (e ∷ es) all = ap (λ o. with_row e.0 e.1 o (edited_rows f es)) all.0 ∙ ap (λ rows. e ∷ rows) (all_stay f es all.1)

-- ---- one row after another
left_first : (key : Key) (o : Option (Option (List ℕ))) (more : List Left) → with_left key o more ≡ with_left key o [] ++ more
left_first key None more = refl
left_first key (Some left) more = refl

left_at : (rs : List Row) (i : ℕ) (r : Row) → i < length rs → r ≡ get_or rs i r → map entry_of (drop i rs) ≡ entry_of r ∷ map entry_of (drop (i + 1) rs)
left_at rs i r lt at =
    let later : suc i ≡ i + 1 = omega arith in
    ap (map entry_of) (drop-cons rs i r lt ∙ ap (λ (y : Row). y ∷ drop (suc i) rs) (sym at)) ∙ ap (λ n. entry_of r ∷ map entry_of (drop n rs)) later

-- what is left of one more row stands behind what was left of those before it
pub one_more : (f : Edit) (rows : List Row) (i : ℕ) (r : Row) (lefts : List Left) → i < length rows → r ≡ get_or rows i r → lefts ++ edits f (map entry_of (drop i rows)) ≡ edits f (map entry_of rows)
    → (lefts ++ with_left (entry_of r).0 (f (entry_of r).0 (entry_of r).1) []) ++ edits f (map entry_of (drop (i + 1) rows)) ≡ edits f (map entry_of rows)
one_more f rows i r lefts lt at before =
    let rest = edits f (map entry_of (drop (i + 1) rows)) in
    append_assoc lefts (with_left (entry_of r).0 (f (entry_of r).0 (entry_of r).1) []) rest
    ∙ ap (λ cs. lefts ++ cs) (sym (ap (edits f) (left_at rows i r lt at) ∙ left_first (entry_of r).0 (f (entry_of r).0 (entry_of r).1) rest))
    ∙ before

-- what is left of one row
pub left_made : (key : Key) (o : Option (Option (List ℕ))) (left : Left) → ◌≡◌ {A = Option Left} (Some left) (option_map (λ l. (key, l)) o) → left ∷ [] ≡ with_left key o []
left_made key None left e = absurd (cc)
left_made key (Some l) left e = let same : left ≡ (key, l) = cc in ap (λ c. c ∷ []) same

pub none_made : (key : Key) (o : Option (Option (List ℕ))) → ◌≡◌ {A = Option Left} None (option_map (λ l. (key, l)) o) → with_left key o [] ≡ []
none_made key None e = refl
none_made key (Some l) e = absurd (cc)
