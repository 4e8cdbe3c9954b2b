-- What changes leave at each key.
use Rattle.std.proofs.Common.{◌≡◌, ◌≢◌, inl, inr, ℕ, Bool, true, false, cond, List, [], ◌∷◌, ◌++◌, Option, Some, None, refl, sym, ap, subst, ◌∙◌, eq-eqb, eqb-true}
use Rattle.std.specs.Prelude.{◌==◌, ◌⊎◌, IfSome}
use Rattle.std.specs.Cmp.{tied_itself}
use Rattle.std.specs.Ordering.{eq_by_cmp, is_eq}
use Rattle.std.specs.FinMap.{get, get-insert, get-remove}
use Rattle.row_store.specs.declared.row.Change.{Change}
use Rattle.row_store.specs.declared.row.Change.TheVariants.{Put, Remove}
use Rattle.row_store.specs.Rows.{Key, Content, key_cmp, after}
use Rattle.row_store.proofs.Keys.{keys_total}
use Rattle.row_store.specs.Leading.{IsNamed, or_else, first_by, left_by, left_by_one, left_or, key_in, value_in}
use Rattle.row_store.specs.Gathered.{IsSettled, Settle, first_in}
use Rattle.row_store.specs.ChangeLaws.{ChangesLeave, SecondIsLast, LeadOn, LeadOnWithin, ContentFollows, BeginOn, SettledLead}

-- ---- one change, and then others

named_or : (b : Bool) (value o : Option (List ℕ)) → cond b value o ≡ left_or (cond b (Some value) None) o
named_or true value o = refl
named_or false value o = refl

pub left_by_change : (c : Content) (change : Change) (key : Key) → get (after c change) key ≡ left_or (left_by_one change key) (get c key)
left_by_change c (Put row) key = get-insert keys_total c (key_in (Put row)) row.value.items key ∙ named_or (eq_by_cmp key_cmp key (key_in (Put row))) (Some row.value.items) (get c key)
left_by_change c (Remove kind owner place) key =
    get-remove keys_total c (key_in (Remove kind owner place)) key ∙ named_or (eq_by_cmp key_cmp key (key_in (Remove kind owner place))) None (get c key)

pub left_or_else : (last first : Option (Option (List ℕ))) (o : Option (List ℕ)) → left_or (or_else last first) o ≡ left_or last (left_or first o)
left_or_else None first o = refl
left_or_else (Some value) first o = refl

pub or_else_else : (a b c : Option (Option (List ℕ))) → or_else (or_else a b) c ≡ or_else a (or_else b c)
or_else_else None b c = refl
or_else_else (Some value) b c = refl

pub or_else_none : (a : Option (Option (List ℕ))) → a ≡ or_else a None
or_else_none None = refl
or_else_none (Some value) = refl

-- ---- the laws

pub changes_leave : ChangesLeave
changes_leave c [] key = refl
changes_leave c (change ∷ more) key =
    changes_leave (after c change) more key ∙ ap (left_or (left_by more key)) (left_by_change c change key) ∙ sym (left_or_else (left_by more key) (left_by_one change key) (get c key))

pub second_is_last : SecondIsLast
second_is_last [] ys key = or_else_none (left_by ys key)
second_is_last (x ∷ xs) ys key = ap (λ l. or_else l (left_by_one x key)) (second_is_last xs ys key) ∙ or_else_else (left_by ys key) (left_by xs key) (left_by_one x key)

on : (a : Option (List ℕ)) (key : Key) (xs ys : List Change) (b c : Option (List ℕ)) → b ≡ left_or (left_by xs key) a → c ≡ left_or (left_by ys key) b → c ≡ left_or (left_by (xs ++ ys) key) a
on a key xs ys b c first second =
    second ∙ ap (left_or (left_by ys key)) first ∙ sym (left_or_else (left_by ys key) (left_by xs key) a) ∙ ap (λ l. left_or l a) (sym (second_is_last xs ys key))

pub lead_on : LeadOn
lead_on a b c xs ys first second key = on (a key) key xs ys (b key) (c key) (first key) (second key)

pub lead_on_within : LeadOnWithin
lead_on_within mine a b c xs ys first second = record {
  own = λ key is. on (a key) key xs ys (b key) (c key) (first.own key is) (second.own key is);
  others = λ key not. second_is_last xs ys key ∙ ap (λ l. or_else l (left_by xs key)) (second.others key not) ∙ first.others key not;
}

pub content_follows : ContentFollows
content_follows c old new changes has lead key = changes_leave c changes key ∙ ap (left_or (left_by changes key)) (has key) ∙ sym (lead key)

-- ---- what the first of them leaves

pub first_by_both : (xs ys : List Change) (key : Key) → first_by (xs ++ ys) key ≡ or_else (first_by xs key) (first_by ys key)
first_by_both [] ys key = refl
first_by_both (x ∷ xs) ys key = ap (or_else (left_by_one x key)) (first_by_both xs ys key) ∙ sym (or_else_else (left_by_one x key) (first_by xs key) (first_by ys key))

pub else_none : (a b : Option (Option (List ℕ))) → or_else a b ≡ None → (a ≡ None) × (b ≡ None)
else_none None b e = (refl, e)
else_none (Some value) b e = absurd (cc)

-- changes of which none is the first at the key leave nothing there
pub first_none : (xs : List Change) (key : Key) → first_by xs key ≡ None → left_by xs key ≡ None
first_none [] key e = refl
first_none (x ∷ xs) key e = let none = else_none (left_by_one x key) (first_by xs key) e in λ i. or_else (first_none xs key none.1 i) (none.0 i)

pub begin_on : BeginOn
begin_on kind a b xs ys leads first second key is = subst (λ l. IfSome l (λ left. left ≡ a key)) (sym (first_by_both xs ys key)) (by (first_by xs key) refl (first key is))
  where
    by : (l : Option (Option (List ℕ))) → first_by xs key ≡ l → IfSome l (λ left. left ≡ a key) → IfSome (or_else l (first_by ys key)) (λ left. left ≡ a key)
    by (Some value) e begins = begins
    by None e begins = subst (λ o. IfSome (first_by ys key) (λ left. left ≡ o)) (leads key is ∙ ap (λ l. left_or l (a key)) (first_none xs key e)) (second key is)

-- ---- what settles them, at one key

left_as_before : (first : Option (Option (List ℕ))) (old : Option (List ℕ)) → IfSome first (λ left. left ≡ old) → left_or first old ≡ old
left_as_before None old begins = refl
left_as_before (Some value) old begins = begins

settled_leads : (first last left : Option (Option (List ℕ))) (old new : Option (List ℕ)) → IsSettled first last left → IfSome first (λ l. l ≡ old) → new ≡ left_or last old → new ≡ left_or left old
settled_leads first last left old new (inl same) begins leads =
    leads ∙ ap (λ l. left_or l old) (sym same.0) ∙ left_as_before first old begins ∙ ap (λ l. left_or l old) (sym same.1)
settled_leads first last left old new (inr other) begins leads = leads ∙ ap (λ l. left_or l old) (sym other.1)

other_than : (first last : Option (Option (List ℕ))) (old : Option (List ℕ)) → (first ≡ None → last ≡ None) → first ≢ last → IfSome first (λ l. l ≡ old) → IfSome last (λ l. l ≢ old)
other_than first None old none differ begins = tt
other_than None (Some value) old none differ begins = absurd (let z = none refl in cc)
other_than (Some before) (Some value) old none differ begins = λ is. differ (ap (λ o. Some o) (begins ∙ sym is))

settled_differs : (first last left : Option (Option (List ℕ))) (old : Option (List ℕ)) → (first ≡ None → last ≡ None) → IsSettled first last left → IfSome first (λ l. l ≡ old) → IfSome left (λ l. l ≢ old)
settled_differs first last left old none (inl same) begins = subst (λ o. IfSome o (λ l. l ≢ old)) (sym same.1) tt
settled_differs first last left old none (inr other) begins = subst (λ o. IfSome o (λ l. l ≢ old)) (sym other.1) (other_than first last old none other.0 begins)

begins_in : (b : Bool) (first : Option (Option (List ℕ))) (old : Option (List ℕ)) → (b ≡ true → IfSome first (λ l. l ≡ old)) → IfSome (cond b first None) (λ l. l ≡ old)
begins_in true first old begins = begins refl
begins_in false first old begins = tt

pub settled_lead : SettledLead
settled_lead kind old new these those settle begin lead = (leads, differs)
  where
    leads : (key : Key) → new key ≡ left_or (left_by these key) (old key)
    leads key =
        settled_leads (first_in kind those key) (left_by those key) (left_by these key) (old key) (new key) (settle key)
        (begins_in (key.0 == kind) (first_by those key) (old key) (λ is. begin key (eqb-true key.0 kind is))) (lead key)

    differs : (key : Key) → key.0 ≡ kind → IfSome (left_by these key) (λ left. left ≢ old key)
    differs key is =
        settled_differs (first_by those key) (left_by those key) (left_by these key) (old key) (first_none those key)
        (subst (λ b. IsSettled (cond b (first_by those key) None) (left_by those key) (left_by these key)) (eq-eqb key.0 kind is) (settle key)) (begin key is)

-- ---- what settles none is none

none_at : (b : Bool) (left : Option (Option (List ℕ))) → IsSettled (cond b None None) None left → left ≡ None
none_at b left (inl same) = same.1
none_at b left (inr other) = other.1

itself_left : (change : Change) → left_by_one change (key_in change) ≡ Some (value_in change)
itself_left change = ap (λ b. cond b (Some (value_in change)) None) (ap is_eq (tied_itself keys_total (key_in change)))

pub settle_none : (kind : ℕ) (cs : List Change) → Settle kind cs [] → cs ≡ []
settle_none kind [] settle = refl
settle_none kind (c ∷ cs) settle = absurd (let none = (else_none (left_by cs (key_in c)) (left_by_one c (key_in c)) (none_at ((key_in c).0 == kind) _ (settle (key_in c)))).1 in let z : None ≡ Some (value_in c) = sym none ∙ itself_left c in cc)

-- ---- which rows are named

pub named_either : (xs ys : List Change) (key : Key) → IsNamed (xs ++ ys) key → IsNamed xs key ⊎ IsNamed ys key
named_either xs ys key named = by (left_by ys key) refl
  where
    by : (last : Option (Option (List ℕ))) → left_by ys key ≡ last → IsNamed xs key ⊎ IsNamed ys key
    by (Some value) e = inr (λ none. absurd (let z : Some value ≡ None = sym e ∙ none in cc))
    by None e = inl (λ none. named (second_is_last xs ys key ∙ λ i. or_else (e i) (none i)))

-- what settles others names no row that they don't
pub settled_named : (kind : ℕ) (these those : List Change) → Settle kind these those → (key : Key) → IsNamed these key → IsNamed those key
settled_named kind these those settle key named = by (settle key)
  where
    by : IsSettled (first_in kind those key) (left_by those key) (left_by these key) → IsNamed those key
    by (inl same) = absurd (named same.1)
    by (inr other) = λ none. named (other.1 ∙ none)
