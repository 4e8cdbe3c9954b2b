-- Changes, and the keys that they name.
use Rattle.std.proofs.Common.{◌≡◌, ◌⊎◌, inl, inr, Bool, true, false, cond, ◌||◌, List, [], ◌∷◌, ◌++◌, Some, None, refl, sym, ap, subst, ◌∙◌, true≢false}
use Rattle.std.specs.List.{AllByRecursion}
use Rattle.std.specs.Ordering.{eq_by_cmp, is_eq}
use Rattle.std.specs.FinMap as map
use Rattle.std.proofs.lemmas.Cmp.{tied_itself}
use Rattle.row_store.specs.declared.row.Change.{Change}
use Rattle.row_store.specs.declared.row.Change.TheVariants.{Put, Remove}
use Rattle.row_store.specs.Rows.{Content, Key, key_cmp, key_of, after, after_all}
use Rattle.row_store.proofs.Keys.{keys_total}
use Rattle.row_store.proofs.CellLemmas.{ties}
use Rattle.replica_store.specs.States.{State}
use Rattle.replica_rows.specs.Rows.{row_at}
use Rattle.replica_rows.specs.Steps.{Adds}
use Rattle.row_store.specs.Leading.{key_in}
use Rattle.replica_rows.specs.Changes.{names, IsRight, IsNeeded, AreChanges, LeadBetween}

by_bool : (b : Bool) {P : Type 0} → (b ≡ true → P) → (b ≡ false → P) → P
by_bool true f g = f refl
by_bool false f g = g refl

pub either_true : (a b : Bool) → (a || b) ≡ true → (a ≡ true) ⊎ (b ≡ true)
either_true true b e = inl refl
either_true false b e = inr e

first_or : (a b : Bool) → a ≡ true → (a || b) ≡ true
first_or true b e = refl
first_or false b e = absurd (true≢false (sym e))

second_or : (a b : Bool) → b ≡ true → (a || b) ≡ true
second_or true b e = refl
second_or false b e = e

pub itself : (key : Key) → eq_by_cmp key_cmp key key ≡ true
itself key = ap is_eq (tied_itself keys_total key)

-- ---- one change more

pub names_still : (key : Key) (old : List Change) (change : Change) → names key old ≡ true → names key (old ++ change ∷ []) ≡ true
names_still key [] change e = absurd (true≢false (sym e))
names_still key (c ∷ old) change e = elim (either_true (eq_by_cmp key_cmp key (key_in c)) (names key old) e) [
  | inl h ↦ first_or _ _ h
  | inr h ↦ second_or (eq_by_cmp key_cmp key (key_in c)) _ (names_still key old change h)
]

pub names_last : (old : List Change) (change : Change) → names (key_in change) (old ++ change ∷ []) ≡ true
names_last [] change = first_or _ _ (itself (key_in change))
names_last (c ∷ old) change = second_or (eq_by_cmp key_cmp (key_in change) (key_in c)) _ (names_last old change)

pub all_push : {A : Type 0} (P : A → Type 0) (xs : List A) (x : A) → AllByRecursion P xs → P x → AllByRecursion P (xs ++ x ∷ [])
all_push P [] x all p = (p, tt)
all_push P (y ∷ xs) x all p = (all.0, all_push P xs x all.1 p)

pub adds_none : (s t : State) (old : List Change) → Adds s t old old
adds_none s t old = record { keeps = λ key e. e; needed = λ all. all }

pub adds_one : (s t : State) (old new : List Change) (change : Change) → new ≡ old ++ change ∷ [] → IsNeeded s t change → Adds s t old new
adds_one s t old new change is needed = record {
  keeps = λ key e. subst (λ cs. names key cs ≡ true) (sym is) (names_still key old change e);
  needed = λ all. subst (AllByRecursion (IsNeeded s t)) (sym is) (all_push (IsNeeded s t) old change all needed);
}

pub adds_both : (s t : State) (a b c : List Change) → Adds s t a b → Adds s t b c → Adds s t a c
adds_both s t a b c one two = record { keeps = λ key e. two.keeps key (one.keeps key e); needed = λ all. two.needed (one.needed all) }

-- ---- where changes lead

get_after : (c : Content) (change : Change) (t : State) (key : Key) → IsRight t change → eq_by_cmp key_cmp key (key_in change) ≡ true → map.get (after c change) key ≡ row_at t key
get_after c (Put row) t key right tie =
    map.get-insert keys_total c (key_of row) row.value.items key ∙ ap (λ b. cond b (Some row.value.items) (map.get c key)) tie ∙ sym right ∙ ap (row_at t) (sym (ties key (key_of row) tie))
get_after c (Remove kind owner place) t key right tie =
    map.get-remove keys_total c (kind, (owner.items, place.items)) key ∙ ap (λ b. cond b None (map.get c key)) tie ∙ sym right ∙ ap (row_at t) (sym (ties key (kind, (owner.items, place.items)) tie))

get_still : (c : Content) (change : Change) (key : Key) → eq_by_cmp key_cmp key (key_in change) ≡ false → map.get (after c change) key ≡ map.get c key
get_still c (Put row) key other = map.get-insert keys_total c (key_of row) row.value.items key ∙ ap (λ b. cond b (Some row.value.items) (map.get c key)) other
get_still c (Remove kind owner place) key other = map.get-remove keys_total c (kind, (owner.items, place.items)) key ∙ ap (λ b. cond b None (map.get c key)) other

reach : (s t : State) (changes : List Change) (c : Content) → AllByRecursion (IsNeeded s t) changes
    → ((key : Key) → (map.get c key ≡ row_at t key) ⊎ (names key changes ≡ true)) → (key : Key) → map.get (after_all c changes) key ≡ row_at t key
reach s t [] c all there key = elim (there key) [ inl is ↦ is | inr named ↦ absurd (true≢false (sym named)) ]
reach s t (change ∷ more) c all there key = reach s t more (after c change) all.1 next key
  where
    next : (k : Key) → (map.get (after c change) k ≡ row_at t k) ⊎ (names k more ≡ true)
    next k = by_bool (eq_by_cmp key_cmp k (key_in change))
        (λ tie. inl (get_after c change t k all.0.right tie))
        (λ other. elim (there k) [
          | inl is ↦ inl (get_still c change k other ∙ is)
          | inr named ↦ elim (either_true (eq_by_cmp key_cmp k (key_in change)) (names k more) named) [
            | inl tie ↦ absurd (true≢false (sym tie ∙ other))
            | inr later ↦ inr later
          ]
        ])

pub changes_lead : (s t : State) (changes : List Change) → AreChanges s t changes → LeadBetween s t changes
changes_lead s t changes are c rows = reach s t changes c are.needed (λ key. elim (are.complete key) [ inl same ↦ inl (rows key ∙ same) | inr named ↦ inr named ])
