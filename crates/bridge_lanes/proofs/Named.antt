-- Changes that lead from the rows of lanes to those of others are those of the keys at which the rows differ.
use Rattle.std.proofs.Common.{◌≡◌, ◌≢◌, ◌⊎◌, inl, inr, ℕ, ◌≤◌, ◌^◌, true, false, cond, List, [], ◌∷◌, length, map, Option, Some, None, Less, refl, sym, ap, subst, ◌∙◌, true≢false}
use Rattle.std.specs.FinMap.{find}
use Rattle.std.specs.List.{AllByRecursion}
use Rattle.std.proofs.lemmas.Bool.{cases_Bool}
use Rattle.bridge_lanes.specs.Lanes.{Lanes}
use Rattle.bridge_frames.specs.declared.forward.Forward.{Forward}
use Rattle.row_store.specs.Gathered.{AreOnce}
use Rattle.row_store.specs.Leading.{AllDiffer, IsNamed, LeadWithin, left_by, left_or, or_else}
use Rattle.row_store.specs.declared.row.Change.{Change}
use Rattle.row_store.specs.Rows.{Key, key_cmp}
use Rattle.bridge_lanes.specs.Rows.{each, last_put, numbers_of, row_at, rows_of, waiting_of}
use Rattle.bridge_lanes.specs.ChangeSteps.{IsSoundLane, changes_of}
use Rattle.bridge_lanes.specs.Changes.{AreLaneChanges, IsLaneChange, KeptLane, Left, is_lane_kind, left_of, now_of, told_of}
use Rattle.bridge_lanes.proofs.Differing.{changes_differ}
use Rattle.bridge_lanes.proofs.Leading.{IsOf, each_all, lanes_lead, messages_of, numbers_are}
use Rattle.bridge_lanes.proofs.Order.{IsAbove, Rises, all_both, all_turned, find_none, itself, left_by_in, left_in, left_none, left_one, less_apart, or_else_none, same_is, same_key, sorted_rises}
use Rattle.bridge_lanes.proofs.Rising.{changes_once}

some_is : {A : Type 0} (a b : A) → Some a ≡ Some b → a ≡ b
some_is a b e = cc

-- ---- each key once

abbrev Above : Key → Key → Type 0
Above k q = key_cmp k q ≡ Less

not_above : (k : Key) → Above k k → ⊥
not_above k low = less_apart k k low refl

no_later : (c : Left) (cs : List Left) → AllByRecursion (IsAbove c.0) cs → left_in cs c.0 ≡ None
no_later c cs up = left_none c.0 (Above c.0) cs up (not_above c.0)

-- what is left at a key is what is found there
pub left_once : (q : Key) (cs : List Left) → Rises cs → left_in cs q ≡ find key_cmp q cs
left_once q [] up = refl
left_once q (c ∷ cs) up = elim (cases_Bool (same_key q c.0)) [
  | inl t ↦ (let none = ap (left_in cs) (same_is q c.0 t) ∙ no_later c cs up.0 in rw (t, none) refl)
  | inr f ↦ rw (f, or_else_none (left_in cs q)) (left_once q cs up.1)
]

-- each change is left at its key
each_left : (cs : List Left) → Rises cs → AllByRecursion (λ c. left_in cs c.0 ≡ Some c.1) cs
each_left [] up = tt
each_left (c ∷ cs) up = (
  rw (no_later c cs up.0, itself c.0) refl,
  all_turned (λ e. left_in cs e.0 ≡ Some e.1) (λ e. left_in (c ∷ cs) e.0 ≡ Some e.1) cs (λ e is. ap (λ o. or_else o (left_one c e.0)) is) (each_left cs up.1),
)

-- what is left at a key is of a change
of_left : (P : Left → Type 0) (q : Key) (l : Option (List ℕ)) (cs : List Left) → AllByRecursion P cs → left_in cs q ≡ Some l → P (q, l)
of_left P q l [] all e = absurd (cc)
of_left P q l (c ∷ cs) all e = by (left_in cs q) refl (of_left P q l cs all.1) e
  where
    by : (last : Option (Option (List ℕ))) → left_in cs q ≡ last → (left_in cs q ≡ Some l → P (q, l)) → or_else last (left_one c q) ≡ Some l → P (q, l)
    by (Some value) is later f = later (is ∙ f)
    by None is later f = elim (cases_Bool (same_key q c.0)) [
      | inl t ↦
          let value = some_is c.1 l (sym (ap (λ b. cond b (Some c.1) None) t) ∙ f) in
          subst P (λ i. (sym (same_is q c.0 t) i, value i)) all.0
      | inr n ↦ absurd (let none : None ≡ Some l = sym (ap (λ b. cond b (Some c.1) None) n) ∙ f in cc)
    ]

-- ---- no rows of other kinds

no_row : (lanes : Lanes Forward) (q : Key) → is_lane_kind q.0 ≡ false → row_at lanes q ≡ None
no_row lanes q other =
    find_none q (λ k. is_lane_kind k.0 ≡ true) (rows_of lanes)
    (all_both (λ e. is_lane_kind e.0.0 ≡ true) (each waiting_of 0 lanes) (each numbers_of 0 lanes)
    (each_all (λ e. is_lane_kind e.0.0 ≡ true) waiting_of (λ p l. all_turned (IsOf 7 p) (λ e. is_lane_kind e.0.0 ≡ true) (waiting_of p l) (λ e is. ap is_lane_kind is.0) (messages_of p _ l.waiting)) 0 lanes)
    (each_all (λ e. is_lane_kind e.0.0 ≡ true) numbers_of (λ p l. all_turned (IsOf 8 p) (λ e. is_lane_kind e.0.0 ≡ true) (numbers_of p l) (λ e is. ap is_lane_kind is.0) (numbers_are p (last_put l) l.took)) 0 lanes))
    (λ yes. true≢false (sym yes ∙ other))

-- ---- the changes

module _ (old new : Lanes Forward) where
  -- what is left at a key is right
  abbrev pub IsRight : Left → Type 0
  IsRight c = (is_lane_kind c.0.0 ≡ true) × (row_at old c.0 ≢ row_at new c.0) × (c.1 ≡ row_at new c.0)

  all_to : (out : List Change) → AllByRecursion (IsLaneChange old new) out → AllByRecursion IsRight (map left_of out)
  all_to [] all = tt
  all_to (c ∷ out) all = ((all.0.kind, all.0.differs, all.0.leaves), all_to out all.1)

  all_from : (out : List Change) → AllByRecursion IsRight (map left_of out) → AllByRecursion (IsLaneChange old new) out
  all_from [] all = tt
  all_from (c ∷ out) all = (record { kind = all.0.0; differs = all.0.1; leaves = all.0.2 }, all_from out all.1)

  module _ (out : List Change) (lead : LeadWithin is_lane_kind (row_at old) (row_at new) out) (once : AreOnce out) (differ : AllDiffer (row_at old) (row_at new) out) where
    one_right : (c : Left) → left_in (map left_of out) c.0 ≡ Some c.1 → IsRight c
    one_right c is =
        let left : left_by out c.0 ≡ Some c.1 = left_by_in out c.0 ∙ is in
        let named : IsNamed out c.0 = λ none. (let e : None ≡ Some c.1 = sym none ∙ left in cc) in
        let own : is_lane_kind c.0.0 ≡ true = elim (cases_Bool (is_lane_kind c.0.0)) [ inl t ↦ t | inr f ↦ absurd (named (lead.others c.0 f)) ] in
        (own, (λ same. differ c.0 named (sym same)), sym (lead.own c.0 own ∙ ap (λ l. left_or l (row_at old c.0)) left))

    named_or_same : (key : Key) (left : Option (Option (List ℕ))) → left_by out key ≡ left → (row_at old key ≡ row_at new key) ⊎ IsNamed out key
    named_or_same key (Some l) is = inr (λ none. (let e : None ≡ Some l = sym none ∙ is in cc))
    named_or_same key None is = inl (elim (cases_Bool (is_lane_kind key.0)) [
      | inl own ↦ sym (lead.own key own ∙ ap (λ l. left_or l (row_at old key)) is)
      | inr other ↦ no_row old key other ∙ sym (no_row new key other)
    ])

    pub so_changes : AreLaneChanges old new out
    so_changes =
        let cs = map left_of out in
        record {
          each = all_from out (all_turned (λ c. left_in cs c.0 ≡ Some c.1) IsRight cs one_right (each_left cs (sorted_rises cs once)));
          complete = λ key. named_or_same key (left_by out key) refl;
          once = once;
        }

  module _ (out : List Change) (are : AreLaneChanges old new out) where
    pub right_at : (q : Key) (l : Option (List ℕ)) → left_by out q ≡ Some l → IsRight (q, l)
    right_at q l is = of_left IsRight q l (map left_of out) (all_to out are.each) (sym (left_by_in out q) ∙ is)

    leads : (key : Key) (left : Option (Option (List ℕ))) → left_by out key ≡ left → row_at new key ≡ left_or left (row_at old key)
    leads key (Some l) is = sym (right_at key l is).2
    leads key None is = elim (are.complete key) [ inl same ↦ sym same | inr named ↦ absurd (named is) ]

    none_of_others : (key : Key) → is_lane_kind key.0 ≡ false → (left : Option (Option (List ℕ))) → left_by out key ≡ left → left_by out key ≡ None
    none_of_others key other None is = is
    none_of_others key other (Some l) is = absurd (true≢false (sym (right_at key l is).0 ∙ other))

    so_differs : (key : Key) (left : Option (Option (List ℕ))) → left_by out key ≡ left → IsNamed out key → row_at new key ≢ row_at old key
    so_differs key None is named same = named is
    so_differs key (Some l) is named same = (right_at key l is).1 (sym same)

    pub so_lead : LeadWithin is_lane_kind (row_at old) (row_at new) out
    so_lead = record {
      own = λ key own. leads key (left_by out key) refl;
      others = λ key other. none_of_others key other (left_by out key) refl;
    }

    pub so_differ : AllDiffer (row_at old) (row_at new) out
    so_differ key named = so_differs key (left_by out key) refl named

-- ---- what is made by counts
pub changes_made : (ks : List KeptLane) (out : List Change) → length ks ≤ 2 ^ 16 → AllByRecursion IsSoundLane ks → map left_of out ≡ changes_of ks → AreLaneChanges (told_of ks) (now_of ks) out
changes_made ks out few all made =
    so_changes (told_of ks) (now_of ks) out (lanes_lead ks few all out made) (changes_once ks out few all made) (changes_differ ks out few all made)
