-- What a change of one place does to the rows.
use Rattle.std.proofs.Common.{◌≡◌, ◌⊎◌, inl, inr, ℕ, Bool, true, false, cond, List, [], ◌∷◌, ◌++◌, Option, Some, None, is_some, IsSome, zero, suc, ◌+◌, ◌<◌, length, drop, get_or, arith, refl, sym, ap, subst, ◌∙◌}
use Rattle.std.specs.Ordering.{eq_by_cmp}
use Rattle.std.specs.Cmp.{eq_by_cmp_equiv}
use Rattle.std.specs.FinMap.{get, remove, get-empty, get-insert, get-remove, same_map}
use Rattle.std.proofs.lemmas.Bool.{cases_Bool}
use Rattle.row_store.specs.declared.memory.RowKey.{RowKey}
use Rattle.row_store.specs.declared.memory.Step.{Step}
use Rattle.row_store.specs.declared.row.Change.{Change}
use Rattle.row_store.specs.Cells.{Cell, plain_key, cell_at, fill, shown, after_step, after_steps, IsReady, AreReady}
use Rattle.row_store.proofs.Keys.{keys_total, exact_keys, equal_is}
use Rattle.row_store.specs.Rows.{Key, Content, key_cmp, after, after_all}

abbrev pub row_in : Option Cell → Option (List ℕ)
row_in None = None
row_in (Some None) = None
row_in (Some (Some value)) = Some value.items

abbrev pub same_key : Key → Key → Bool
same_key = eq_by_cmp key_cmp

pub ties : (a b : Key) → same_key a b ≡ true → a ≡ b
ties a b tie = exact_keys a b (equal_is _ tie)

pick : (b : Bool) (cell : Cell) (o : Option Cell) → cond b (row_in (Some cell)) (row_in o) ≡ row_in (cond b (Some cell) o)
pick true cell o = refl
pick false cell o = refl

get_fill : (c : Content) (key : Key) (cell : Cell) (q : Key) → get (fill c key cell) q ≡ cond (same_key q key) (row_in (Some cell)) (get c q)
get_fill c key (Some value) q = get-insert keys_total c key value.items q
get_fill c key None q = get-remove keys_total c key q

-- what the rows have at a key
pub get_shown : (cells : List (RowKey × Cell)) (q : Key) → get (shown cells) q ≡ row_in (cell_at cells q)
get_shown [] q = get-empty key_cmp q
get_shown (e ∷ cells) q = get_fill (shown cells) (plain_key e.0) e.1 q ∙ ap (cond (same_key q (plain_key e.0)) (row_in (Some e.1))) (get_shown cells q) ∙ pick (same_key q (plain_key e.0)) e.1 (cell_at cells q)

-- a key that has no place, or a name for it
named : (cells : List (RowKey × Cell)) (q : Key) → (cell_at cells q ≡ None) ⊎ ((n : RowKey) × (plain_key n ≡ q))
named [] q = inl refl
named (e ∷ cells) q = elim (cases_Bool (same_key q (plain_key e.0))) [
  | inl tie ↦ inr (e.0, sym (ties q (plain_key e.0) tie))
  | inr other ↦ elim (named cells q) [ inl none ↦ inl (rw other none) | inr found ↦ inr found ]
]

-- new has this at the key, and at other names what old has
abbrev pub Sets : List (RowKey × Cell) → List (RowKey × Cell) → Key → Option Cell → Type 0
Sets old new key to = (n : RowKey) → cell_at new (plain_key n) ≡ cond (same_key key (plain_key n)) to (cell_at old (plain_key n))

module _ (old new : List (RowKey × Cell)) (own : RowKey) (to : Option Cell) (sets : Sets old new (plain_key own) to) where
  at_named : (q : Key) (n : RowKey) → plain_key n ≡ q → cell_at new q ≡ cond (same_key (plain_key own) q) to (cell_at old q)
  at_named q n is = subst (λ k. cell_at new k ≡ cond (same_key (plain_key own) k) to (cell_at old k)) is (sets n)

  pub at_key : (q : Key) → cell_at new q ≡ cond (same_key (plain_key own) q) to (cell_at old q)
  at_key q = elim (cases_Bool (same_key (plain_key own) q)) [
    | inl tie ↦ at_named q own (ties (plain_key own) q tie)
    | inr other ↦ elim (named old q) [
      | inr found ↦ at_named q found.0 found.1
      | inl none ↦ elim (named new q) [
        | inr found ↦ at_named q found.0 found.1
        | inl gone ↦ rw (other, none, gone) refl
      ]
    ]
  ]

  row_at : (b : Bool) (o : Option Cell) → row_in (cond b to o) ≡ cond b (row_in to) (row_in o)
  row_at true o = refl
  row_at false o = refl

  pub get_set : (q : Key) → get (shown new) q ≡ cond (same_key q (plain_key own)) (row_in to) (get (shown old) q)
  get_set q = get_shown new q ∙ ap row_in (at_key q) ∙ row_at _ _ ∙ ap (λ b. cond b (row_in to) (row_in (cell_at old q))) ((eq_by_cmp_equiv keys_total).symm (plain_key own) q)
      ∙ ap (cond (same_key q (plain_key own)) (row_in to)) (sym (get_shown old q))

  -- a vacant place for none, or none for a vacant one
  pub same_shown : row_in to ≡ None → row_in (cell_at old (plain_key own)) ≡ None → shown new ≡ shown old
  same_shown none was = same_map keys_total exact_keys _ _ (λ q. get_set q ∙ elim (cases_Bool (same_key q (plain_key own))) [
    | inl tie ↦ rw (tie, none) (sym (get_shown old q ∙ ap (λ k. row_in (cell_at old k)) (ties q (plain_key own) tie) ∙ was))
    | inr other ↦ rw other refl
  ])

  pub keeps_place : IsSome to → (q : Key) → IsSome (cell_at old q) → IsSome (cell_at new q)
  keeps_place some q was = subst IsSome (sym (at_key q)) (elim (cases_Bool (same_key (plain_key own) q)) [ inl tie ↦ rw tie some | inr other ↦ rw other was ])

pub fill_shown : (old new : List (RowKey × Cell)) (own : RowKey) (cell : Cell) → Sets old new (plain_key own) (Some cell) → shown new ≡ fill (shown old) (plain_key own) cell
fill_shown old new own cell sets = same_map keys_total exact_keys _ _ (λ q. get_set old new own (Some cell) sets q ∙ sym (get_fill (shown old) (plain_key own) cell q))

-- to vacate a place that isn't there changes nothing
pub absent_shown : (cells : List (RowKey × Cell)) (key : Key) → cell_at cells key ≡ None → shown cells ≡ remove (shown cells) key
absent_shown cells key none = same_map keys_total exact_keys _ _ (λ q. sym (get-remove keys_total (shown cells) key q ∙ elim (cases_Bool (same_key q key)) [
  | inl tie ↦ rw tie (sym (get_shown cells q ∙ ap (λ k. row_in (cell_at cells k)) (ties q key tie) ∙ ap row_in none))
  | inr other ↦ rw other refl
]))

pub steps_push : (c : Content) (steps : List Step) (step : Step) → after_steps c (steps ++ step ∷ []) ≡ after_step (after_steps c steps) step
steps_push c [] step = refl
steps_push c (first ∷ steps) step = steps_push (after_step c first) steps step

-- a step whose place is missing is a removal, and changes nothing
pub absent_fill : (cells : List (RowKey × Cell)) (key : Key) (value : Cell) → cell_at cells key ≡ None → (IsSome value → IsSome (cell_at cells key)) → shown cells ≡ fill (shown cells) key value
absent_fill cells key None none ready = absent_shown cells key none
absent_fill cells key (Some value) none ready = absurd (let there = subst IsSome none (ready refl) in cc)

vacant_none : (o : Option Cell) → is_some o ≡ false → row_in o ≡ None
vacant_none None h = refl
vacant_none (Some cell) h = absurd (cc)

pub vacant : (cells : List (RowKey × Cell)) (a b : Key) → a ≡ b → is_some (cell_at cells b) ≡ false → row_in (cell_at cells a) ≡ None
vacant cells a b same h = ap (λ k. row_in (cell_at cells k)) same ∙ vacant_none _ h

pub one_later : (i : ℕ) → suc (i + 1) ≡ suc i + 1
one_later i = omega arith

-- the steps that are left, at a step
pub steps_left : (c : Content) (steps : List Step) (i : ℕ) (d : Step) → i < length steps → after_steps c (drop i steps) ≡ after_steps (after_step c (get_or steps i d)) (drop (i + 1) steps)
steps_left c (step ∷ steps) zero d low = refl
steps_left c (step ∷ steps) (suc i) d low = steps_left c steps i d (omega (arith, low)) ∙ ap (λ n. after_steps (after_step c (get_or steps i d)) (drop n (step ∷ steps))) (one_later i)
steps_left c [] i d low = absurd (omega (arith, low))

plan_left : (c : Content) (changes : List Change) (i : ℕ) (d : Change) → i < length changes → after_all c (drop i changes) ≡ after_all (after c (get_or changes i d)) (drop (i + 1) changes)
plan_left c (change ∷ changes) zero d low = refl
plan_left c (change ∷ changes) (suc i) d low = plan_left c changes i d (omega (arith, low)) ∙ ap (λ n. after_all (after c (get_or changes i d)) (drop n (change ∷ changes))) (one_later i)
plan_left c [] i d low = absurd (omega (arith, low))

pub plan_step : (c : Content) (steps : List Step) (step : Step) (changes : List Change) (i : ℕ) (change : Change) → i < length changes → change ≡ get_or changes i change → ((x : Content) → after_step x step ≡ after x change)
    → after_all (after_steps c steps) (drop i changes) ≡ after_all c changes → after_all (after_steps c (steps ++ step ∷ [])) (drop (i + 1) changes) ≡ after_all c changes
plan_step c steps step changes i change low is does left =
    ap (λ x. after_all x (drop (i + 1) changes)) (steps_push c steps step ∙ does (after_steps c steps) ∙ ap (after (after_steps c steps)) is) ∙ sym (plan_left (after_steps c steps) changes i change low) ∙ left

at_drop : (steps : List Step) (i : ℕ) (d : Step) → get_or (drop i steps) 0 d ≡ get_or steps i d
at_drop steps zero d = refl
at_drop [] (suc i) d = refl
at_drop (step ∷ steps) (suc i) d = at_drop steps i d

-- the step at a place that the loop hasn't reached is ready
pub ready_at : (cells : List (RowKey × Cell)) (steps given : List Step) (i : ℕ) (step : Step) → drop i steps ≡ drop i given → i < length given → step ≡ get_or steps i step → AreReady cells given → IsReady cells step
ready_at cells steps given i step rest low is ready = subst (IsReady cells) (sym (is ∙ sym (at_drop steps i step) ∙ ap (λ l. get_or l 0 step) rest ∙ at_drop given i step)) (ready i step low)
